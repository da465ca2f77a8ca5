use Rattle.std.proofs.Common.{◌≡◌, ◌<◌, ◌≤◌, ℕ, true}
use Rattle.sd_base.specs.Sets.{has, members}
use Rattle.sd_pagelock.specs.Noted.{is_noted}
use Rattle.sd_pagelock.proofs.noted.users_of.Given as goal

abbrev pub invariant-loop-at : goal.invariant-loop-at
invariant-loop-at l = (q k : ℕ) → l.first ≤ q → q < l.at → is_noted l.pages.items q k ≡ true → has k (members l.all.bits) ≡ true
