use Rattle.std.proofs.Common.{sym, subst}
use Rattle.sd_model.specs.State.{gone, put_part}
use Rattle.sd_state.specs.Complexes.{parts}
use Rattle.sd_state.specs.Good.{Good}
use Rattle.sd_state.specs.Parts.{Parts}
use Rattle.sd_state.specs.Values.{Pending}
use Rattle.sd_state.proofs.EndingLeaves.{rolled-good}
use Rattle.sd_state.proofs.complex.Complex.rolled_back.Goals as goal

pub returns-clause-good : goal.returns-clause-good
returns-clause-good g c m good =
    let old : Parts = parts c.args.self.now in
    let new : Parts = parts c.leave.new.self in
    let seen = g.G.Rig.seen c.args.self.now.rig in
    let leaves = g.G.Rig.leaves c.args.self.now.rig in
    subst (λ rig. Good (g.G.Rig.seen rig) (g.G.Rig.leaves rig) Pending.Idle new (put_part c.args.t.now gone m)) (sym c.leave.ensures.rig)
    (subst (λ (p : Parts). Good seen leaves Pending.Idle p (put_part c.args.t.now gone m)) (sym c.leave.ensures.parts)
    (rolled-good c.args.t.now new.locks seen leaves old m good c.leave.ensures.left c.requires.idle c.requires.up c.requires.rolls c.requires.bare c.requires.ended))
