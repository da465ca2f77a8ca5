use Rattle.std.proofs.Common.{◌≡◌, ℕ, ◌-◌, ◌≤◌, ap, sym, subst, arith, slice_set}
use Rattle.sd_base.specs.declared.place.Status.TheVariants as S
use Rattle.sd_model.specs.State.{joined}
use Rattle.sd_state.specs.Complexes.{parts}
use Rattle.sd_state.specs.Good.{Good}
use Rattle.sd_state.specs.Parts.{Parts, epoch_at}
use Rattle.sd_state.specs.Values.{Pending}
use Rattle.sd_state.proofs.Joins.{joined-good, may-join}
use Rattle.sd_state.proofs.complex.Complex.joined.Goals as goal

pub returns-clause-good : goal.returns-clause-good
returns-clause-good g c m good =
    let p : Parts = parts c.args.self.now in
    let i : ℕ = c.args.i in
    let seen = g.G.Rig.seen c.args.self.now.rig in
    let leaves = g.G.Rig.leaves c.args.self.now.rig in
    let low : 1 ≤ i = omega (arith, c.get.ensures.value, c.get.ensures.low) in
    let high : i ≤ 8 = omega (arith, c.get.ensures.value, c.get.ensures.high) in
    let place : c.get.result - 1 ≡ i - 1 = ap (λ n. n - 1) c.get.ensures.value in
    subst (λ (n : ℕ). Good seen leaves Pending.Idle (record p { statuses = slice_set p.statuses n S.Up }) (joined i (epoch_at p i) m))
    (sym place)
    (joined-good i seen leaves p m low high good c.requires.settled c.requires.forced)

pub returns-clause-may : goal.returns-clause-may
returns-clause-may g c m good =
    let p : Parts = parts c.args.self.now in
    let i : ℕ = c.args.i in
    let seen = g.G.Rig.seen c.args.self.now.rig in
    let leaves = g.G.Rig.leaves c.args.self.now.rig in
    let low : 1 ≤ i = omega (arith, c.get.ensures.value, c.get.ensures.low) in
    let high : i ≤ 8 = omega (arith, c.get.ensures.value, c.get.ensures.high) in
    may-join i seen leaves p m low high good c.requires.settled c.requires.forced
