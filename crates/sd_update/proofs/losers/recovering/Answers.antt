use Rattle.std.proofs.Common.{◌≡◌, ℕ, ◌-◌, ◌≤◌, true, ap, sym, subst, arith, slice_set}
use Rattle.sd_base.specs.declared.place.Status.TheVariants as S
use Rattle.sd_state.specs.Complexes.{parts}
use Rattle.sd_state.specs.Good.{Good}
use Rattle.sd_state.specs.Parts.{Parts}
use Rattle.sd_state.specs.Recovering.{recovers}
use Rattle.sd_state.specs.Values.{Pending}
use Rattle.sd_state.proofs.Recovers.{may-recover, recovering-good}
use Rattle.sd_update.proofs.losers.recovering.Goals as goal

pub returns-clause-good : goal.returns-clause-good
returns-clause-good g c m good =
    let p : Parts = parts c.args.c.now in
    let i : ℕ = c.args.i in
    let by : ℕ = c.args.by in
    let seen = g.G.Rig.seen c.args.c.now.rig in
    let leaves = g.G.Rig.leaves c.args.c.now.rig in
    let low : 1 ≤ i = omega (arith, c.get.ensures.value, c.get.ensures.low) in
    let high : i ≤ 8 = omega (arith, c.get.ensures.value, c.get.ensures.high) in
    let place : c.get-2.result - 1 ≡ i - 1 = ap (λ n. n - 1) c.get-2.ensures.value in
    subst (λ (n : ℕ). Good seen leaves Pending.Idle
    (record p { statuses = slice_set p.statuses n (S.Recovering by); loose = slice_set (slice_set p.loose 0 true) c.get.result true }) (recovers i by m)) (sym place)
    (subst (λ (n : ℕ). Good seen leaves Pending.Idle
    (record p { statuses = slice_set p.statuses (i - 1) (S.Recovering by); loose = slice_set (slice_set p.loose 0 true) n true }) (recovers i by m)) (sym c.get.ensures.value)
    (recovering-good i by seen leaves p m low high good c.requires.idle c.requires.down (may-recover seen leaves p m i by good c.requires.recoverer)))
