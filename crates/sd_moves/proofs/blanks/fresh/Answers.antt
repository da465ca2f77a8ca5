use Rattle.std.proofs.Common.{subst, sym}
use Rattle.sd_model.specs.State.{fresh}
use Rattle.sd_state.specs.Complexes.{parts}
use Rattle.sd_state.specs.Fresh.{IsFresh}
use Rattle.sd_state.specs.Values.{Pending}
use Rattle.sd_state.specs.Good.{Good}
use Rattle.sd_moves.proofs.Beginning.{fresh-good}
use Rattle.sd_moves.proofs.blanks.fresh.Goals as goal

pub returns-in-Ok-clause-good : goal.returns-in-Ok-clause-good
returns-in-Ok-clause-good g c =
    let made : IsFresh c.args.shape.frames (parts c.over.result) = subst (IsFresh c.args.shape.frames) (sym c.over.ensures.parts) c.in-Ok.ensures in
    subst (λ r. Good (g.G.Rig.seen r) (g.G.Rig.leaves r) Pending.Idle (parts c.over.result) fresh) (sym c.over.ensures.rig)
    (fresh-good (g.G.Rig.seen c.args.rig) (g.G.Rig.leaves c.args.rig) c.args.shape.frames (parts c.over.result) c.requires.blank made)
