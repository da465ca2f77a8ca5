use Rattle.std.proofs.Common.{◌<◌, ◌≤◌, ℕ}
use Rattle.sd_pagelock.specs.Places.{seen}
use Rattle.sd_pagelock.specs.Moves.{Loses}
use Rattle.sd_pagelock.proofs.lawful.goes.Given as goal

abbrev pub invariant-loop-n : goal.invariant-loop-n
invariant-loop-n l = (k : ℕ) → 1 ≤ k → k < l.n → Loses k (seen l.from) (seen l.to) → ⊥
