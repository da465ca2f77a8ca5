-- The low of a begun checkpoint isn't above its begin: for those who put a record behind it.
use Rattle.std.proofs.Common.{ℕ, ◌≤◌, List, [], ◌∷◌, ◌++◌, map, min, arith}
use Rattle.sd_state.specs.Parts.{Begun, least_of, low_of}

least-first : (n : ℕ) (xs : List ℕ) → least_of n xs ≤ n
least-first n [] = omega arith
least-first n (x ∷ xs) = let rest = least-first n xs in omega (arith, rest)

pub low-begin : (k : Begun) → low_of k ≤ k.begin
unfolding low_of
low-begin k = least-first k.begin (map (λ s. s.1) k.spans ++ map (λ r. r.1) k.recs)
