use Rattle.std.proofs.Common.{◌≤◌, ℕ, sym, subst}
use Rattle.sd_base.specs.declared.place.Place as coded
use Rattle.sd_pagelock.specs.Places.{seen, InRange}
use Rattle.sd_pagelock.proofs.Alone.{member_range, moving_range}
use Rattle.sd_pagelock.proofs.laws.users_are_instances.Goals as goal

pub returns-in-Shared : goal.returns-in-Shared
returns-in-Shared c = subst (λ (x : coded.Place). InRange (seen x)) (sym c.in-Shared.is) (λ k used. member_range c.in-Shared.set.bits k used)

pub returns-in-Moving : goal.returns-in-Moving
returns-in-Moving c = let n = c.get-number-in-Moving.ensures in subst (λ (x : coded.Place). InRange (seen x)) (sym c.in-Moving.is)
    (λ k used. moving_range c.in-Moving.to c.in-Moving.rest.bits k (subst (λ (z : ℕ). 1 ≤ z) n.value n.low) (subst (λ (z : ℕ). z ≤ 8) n.value n.high) used)
