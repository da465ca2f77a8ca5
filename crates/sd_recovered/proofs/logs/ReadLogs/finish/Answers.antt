use Rattle.std.proofs.Common.{List, length, sym, ap, ◌∙◌, subst}
use Rattle.std.specs.Prelude.{All}
use Rattle.std.proofs.lemmas.Result.{err_from_is_err_and}
use Rattle.sd_log.specs.Logs.{AreSpelled, LogState, scanned}
use Rattle.sd_recovered.specs.declared.losers.Loser.{Loser}
use Rattle.sd_recovered.specs.UndoPass.{AreLosersOf}
use Rattle.sd_recovered.specs.Reading.{AreRead}
use Rattle.sd_recovered.proofs.Covers.{all_spelled}
use Rattle.sd_recovered.proofs.Growing.{count-read}
use Rattle.sd_recovered.proofs.Own.{losers_read}
use Rattle.sd_recovered.proofs.Refusals.{came}
use Rattle.sd_recovered.proofs.logs.ReadLogs.finish.Goals as goal

pub read_pages-requires-clause-eight : goal.read_pages-requires-clause-eight
read_pages-requires-clause-eight c =
    let all = c.requires.all in
    ap (λ (logs : List LogState). length logs) c.deref.ensures.value ∙ count-read all.0 c.args.self all.2 ∙ all.1

pub read_pages-requires-clause-spelled : goal.read_pages-requires-clause-spelled
read_pages-requires-clause-spelled c =
    let all = c.requires.all in
    subst (All (λ log. AreSpelled (scanned log))) (sym c.deref.ensures.value)
    (all_spelled 1 all.0 c.args.self.logs.items c.args.self.losers.items all.2.read)

pub read_pages-requires-clause-losers : goal.read_pages-requires-clause-losers
read_pages-requires-clause-losers c =
    let all = c.requires.all in
    subst (λ (ls : List LogState). AreLosersOf ls c.deref-2.result.now) (sym c.deref.ensures.value)
    (subst (λ (ls : List (List Loser)). AreLosersOf c.args.self.logs.items ls) (sym c.deref-2.ensures.value)
    (losers_read 1 all.0 c.args.self.logs.items c.args.self.losers.items all.2.read))

pub returns-in_err-told-clause-place : goal.returns-in_err-told-clause-place
returns-in_err-told-clause-place c = λ dev at is devices has.
    let are : AreRead 1 devices c.deref.result.now c.deref-2.result.now =
    subst (λ (ls : List LogState). AreRead 1 devices ls c.deref-2.result.now) (sym c.deref.ensures.value)
    (subst (λ (ls : List (List Loser)). AreRead 1 devices c.args.self.logs.items ls) (sym c.deref-2.ensures.value) has.read) in
    let p = err_from_is_err_and c.from_residual.result c.from_residual.ensures.1 in
    c.in_err-told.ensures.place dev at (came c.from_residual.result p.0 c.in_err-told.field-0.0 dev at p.1 p.2 is) devices are
