use Rattle.std.proofs.Common.{◌∙◌}
use Rattle.std.proofs.lemmas.Result.{IfOk-weaker, on_ok_weaker}
use Rattle.sd_recovered.proofs.Firsts.{first_misfit}
use Rattle.sd_recovered.proofs.OpenStacks.{losers-length}
use Rattle.sd_recovered.proofs.TakenBack.{sound-takes, stacks-fit, values-undone}
use Rattle.sd_recovered.proofs.undo_pass.undone.Goals as goal

pub undo-requires-clause-losers : goal.undo-requires-clause-losers
undo-requires-clause-losers c = losers-length 1 c.args.logs.now c.args.losers.now c.requires.losers

pub returns-clause-misfit : goal.returns-clause-misfit
returns-clause-misfit c = λ inst place is img read sound.
    c.undo.ensures.misfit inst place is
    (sound-takes img c.args.pages.items c.args.logs.now c.args.losers.now read c.requires.losers c.requires.spelled
    c.recovery.ensures.found sound)

pub returns-clause-first : goal.returns-clause-first
returns-clause-first c = λ inst place is img read.
    first_misfit img c.args.pages.items c.args.logs.now c.args.losers.now inst place read c.requires.losers c.requires.spelled
    (c.undo.ensures.first inst place is)

pub returns-clause-stacks : goal.returns-clause-stacks
returns-clause-stacks c =
    on_ok_weaker c.undo.result
    (λ may img read. stacks-fit img c.args.pages.items c.args.logs.now c.args.losers.now read c.requires.losers c.requires.spelled may)
    c.undo.ensures.fits

pub returns-clause-values : goal.returns-clause-values
returns-clause-values c =
    IfOk-weaker c.undo.result _ _
    (λ table h img read p s lt. h (record { page = p; slot = s })
    ∙ values-undone img c.args.pages.items c.args.logs.now c.args.losers.now read c.requires.losers p s lt)
    c.undo.ensures.values
