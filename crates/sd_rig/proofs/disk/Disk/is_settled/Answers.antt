use Rattle.std.proofs.Common.{◌≡◌, ◌+◌, ◌≤◌, ℕ, Bool, List, false, get_or, length, subst, sym, arith}
use Rattle.sd_rig.specs.Disk.{IsSettled}
use Rattle.sd_rig.proofs.Parts.{settled-unmarked, unmarked-settled}
use Rattle.sd_rig.proofs.disk.Disk.is_settled.Goals as goal

pub returns : goal.returns
returns c =
    let v = c.self.inside in
    let within : v.base + length v.pending.items ≤ length v.seen = omega (arith, c.self.invariant.within, c.self.invariant.even) in
    let marks = c.deref.ensures.value in (
      λ yes. subst IsSettled c.self.view_is (settled-unmarked v.base v.seen v.synced.items v.pending.items within (subst (λ (m : List Bool). (i : ℕ) → get_or m i false ≡ false) marks (c.is_unmarked.ensures.0 yes))),
      λ none. c.is_unmarked.ensures.1 (subst (λ (m : List Bool). (i : ℕ) → get_or m i false ≡ false) (sym marks) (unmarked-settled v.base v.seen v.synced.items v.pending.items within (subst IsSettled (sym c.self.view_is) none))),
    )
