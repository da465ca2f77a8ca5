use Rattle.std.proofs.Common.{ℕ, sym, subst}
use Rattle.std.specs.Prelude.{Option}
use Rattle.sd_model.specs.State.{turned}
use Rattle.sd_model.specs.declared.act.Life.{Life}
use Rattle.sd_state.specs.Complexes.{parts}
use Rattle.sd_state.specs.Good.{Good}
use Rattle.sd_state.specs.Values.{Pending}
use Rattle.sd_ops.proofs.turning.turn.Goals as goal

pub returns-in-None-clause-good : goal.returns-in-None-clause-good
returns-in-None-clause-good g c m good =
    let new = c.roll_back.new.self in
    subst (λ (to : Option ℕ). Good (g.G.Rig.seen new.rig) (g.G.Rig.leaves new.rig) Pending.Idle (parts new) (turned c.args.t.now (Life.Rolling to) m))
    (sym c.in-None.is) (c.roll_back.ensures.good m good)

pub returns-in-Some-clause-good : goal.returns-in-Some-clause-good
returns-in-Some-clause-good g c m good =
    let new = c.roll_back_to.new.self in
    subst (λ (to : Option ℕ). Good (g.G.Rig.seen new.rig) (g.G.Rig.leaves new.rig) Pending.Idle (parts new) (turned c.args.t.now (Life.Rolling to) m))
    (sym c.in-Some.is) (c.roll_back_to.ensures.good m good)
