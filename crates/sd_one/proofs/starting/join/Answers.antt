use Rattle.std.proofs.Common.{◌≡◌, false, ap, ◌∙◌}
use Rattle.sd_model.specs.State.{fresh}
use Rattle.sd_state.specs.Complexes.{parts}
use Rattle.sd_state.specs.Parts.{Parts, is_loose}
use Rattle.sd_state.specs.Values.{Pending}
use Rattle.sd_one.proofs.Ready.{fresh-settled, ready}
use Rattle.sd_one.proofs.starting.join.Goals as goal

pub force_log-requires-clause-good : goal.force_log-requires-clause-good
force_log-requires-clause-good g c =
    (Pending.Starts c.first-i.result, fresh, c.in_ok-seal_start.ensures.good fresh c.requires.good)

pub joined-requires-clause-good : goal.joined-requires-clause-good
joined-requires-clause-good g c =
    (fresh, c.force_log.ensures.good (Pending.Starts c.first-i.result) fresh (c.in_ok-seal_start.ensures.good fresh c.requires.good))

pub returns : goal.returns
returns g c =
    let settled : is_loose (parts c.seal_start.new.c) c.first-i.result ≡ false =
    ap (λ (p : Parts). is_loose p c.first-i.result) c.in_ok-seal_start.ensures.parts
    ∙ fresh-settled c.requires.fresh.0 c.first-i.result (parts c.args.c.now) c.requires.fresh.1 c.first-i.ensures in
    ready (ap (λ (p : Parts). p.due) c.joined.ensures.parts ∙ ap (λ (p : Parts). p.due) (c.in_ok-force_log.ensures.forced settled)
    ∙ ap (λ (p : Parts). p.due) c.in_ok-seal_start.ensures.parts ∙ c.requires.fresh.1.due)
    (c.joined.ensures.good fresh
    (c.force_log.ensures.good (Pending.Starts c.first-i.result) fresh (c.in_ok-seal_start.ensures.good fresh c.requires.good)))
