-- Sums over the eight logs, of which one changes or none: for what all logs owe.
use Rattle.std.proofs.Common.{◌≡◌, ◌≢◌, ⊎_elim, ℕ, zero, suc, ◌+◌, ◌<◌, ◌≤◌, List, [], ◌∷◌, sum_by, refl, ap, arith}
use Rattle.std.proofs.lemmas.Bool.{cases_eq}
use Rattle.std.proofs.lemmas.List.Sums.{sum_by-cons}

abbrev up : ℕ → ℕ → List ℕ
up zero k = []
up (suc n) k = k ∷ up n (suc k)

module _ (f g : ℕ → ℕ) (i : ℕ) (same : (j : ℕ) → j ≢ i → f j ≡ g j) where
  above : (n k : ℕ) → i < k → sum_by f (up n k) ≡ sum_by g (up n k)
  above zero k lt = refl
  above (suc n) k lt =
      let ih = above n (suc k) (omega (arith, lt)) in
      let h = same k (λ e. omega (arith, e, lt)) in
      omega (arith, ih, h, sum_by-cons f k (up n (suc k)), sum_by-cons g k (up n (suc k)))

  one : (n k : ℕ) → k ≤ i → i < k + n → sum_by f (up n k) + g i ≡ sum_by g (up n k) + f i
  one zero k le lt = absurd (omega (arith, le, lt))
  one (suc n) k le lt = ⊎_elim
      (λ e.
      let rest = above n (suc k) (omega (arith, e)) in
      let a = ap f e in let b = ap g e in
      omega (arith, rest, a, b, sum_by-cons f k (up n (suc k)), sum_by-cons g k (up n (suc k))))
      (λ ne.
      let ih = one n (suc k) (omega (arith, le, ne)) (omega (arith, lt)) in
      let h = same k ne in
      omega (arith, ih, h, sum_by-cons f k (up n (suc k)), sum_by-cons g k (up n (suc k))))
      (cases_eq k i)

  -- a sum changes by what its one changed part does
  pub sum-one : 1 ≤ i → i ≤ 8
      → sum_by f (1 ∷ 2 ∷ 3 ∷ 4 ∷ 5 ∷ 6 ∷ 7 ∷ 8 ∷ []) + g i ≡ sum_by g (1 ∷ 2 ∷ 3 ∷ 4 ∷ 5 ∷ 6 ∷ 7 ∷ 8 ∷ []) + f i
  sum-one lo hi = one 8 1 lo (omega (arith, hi))

-- and of which none does
pub sum-eight : (f g : ℕ → ℕ) → ((j : ℕ) → 1 ≤ j → j ≤ 8 → f j ≡ g j)
    → sum_by f (1 ∷ 2 ∷ 3 ∷ 4 ∷ 5 ∷ 6 ∷ 7 ∷ 8 ∷ []) ≡ sum_by g (1 ∷ 2 ∷ 3 ∷ 4 ∷ 5 ∷ 6 ∷ 7 ∷ 8 ∷ [])
sum-eight f g e = from 8 1 (omega arith) (omega arith)
  where
    from : (n k : ℕ) → 1 ≤ k → k + n ≤ 9 → sum_by f (up n k) ≡ sum_by g (up n k)
    from zero k lo hi = refl
    from (suc n) k lo hi =
        let here = e k lo (omega (arith, hi)) in
        let rest = from n (suc k) (omega arith) (omega (arith, hi)) in
        omega (arith, here, rest, sum_by-cons f k (up n (suc k)), sum_by-cons g k (up n (suc k)))
