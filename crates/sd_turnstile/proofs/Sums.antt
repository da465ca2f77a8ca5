-- Sums over lists that change at one place.
use Rattle.std.proofs.Common.{◌≡◌, ℕ, zero, suc, ◌+◌, ◌≤◌, ◌≢◌, ◌⊎◌, List, [], ◌∷◌, ◌++◌, set, sym, refl, ap, ⊎_elim, arith, subst}
use mathlib.Core.Option.{some, some-injective, some-ne-none}
use lib.ListN.{get_elem?}
use Rattle.atomic_table.proofs.Lists.{at_set, at_snoc}
use Rattle.sd_turnstile.specs.Rule.{total}

module _ {A : Type 0} where
  pub all-set : (F : A → Type 0) (l : List A) (i : ℕ) (w : A) → F w → ((j : ℕ) (u : A) → j ≢ i → get_elem? l j ≡ some u → F u)
      → (j : ℕ) (u : A) → get_elem? (set l i w) j ≡ some u → F u
  all-set F l i w mine others j u e = ⊎_elim (λ (x : (j ≡ i) × (w ≡ u)). subst F x.1 mine)
      (λ (x : (j ≢ i) × (get_elem? l j ≡ some u)). others j u x.0 x.1) (at_set l i j w u e)

  pub all-snoc : (F : A → Type 0) (l : List A) (w : A) → F w → ((j : ℕ) (u : A) → get_elem? l j ≡ some u → F u)
      → (j : ℕ) (u : A) → get_elem? (l ++ w ∷ []) j ≡ some u → F u
  all-snoc F l w mine others j u e = ⊎_elim (λ x. others j u x) (λ (is : w ≡ u). subst F is mine) (at_snoc l w u j e)

  module _ (g : A → ℕ) where
    pub total-append : (l m : List A) → total g (l ++ m) ≡ total g l + total g m
    total-append [] m = omega arith
    total-append (x ∷ xs) m = omega (arith, total-append xs m)

    pub total-set : (l : List A) (j : ℕ) (v w : A) → get_elem? l j ≡ some v → total g (set l j w) + g v ≡ total g l + g w
    total-set [] j v w e = absurd (some-ne-none v (sym e))
    total-set (x ∷ xs) zero v w e = omega (arith, ap g (some-injective x v e))
    total-set (x ∷ xs) (suc j) v w e = omega (arith, total-set xs j v w e)

    pub total-split : (l : List A) (j : ℕ) (v a b : A) → get_elem? l j ≡ some v
        → total g (set l j a ++ b ∷ []) + g v ≡ total g l + g a + g b
    total-split l j v a b e = omega (arith, total-append (set l j a) (b ∷ []), total-set l j v a e)

    pub total-join : (l : List A) (i j : ℕ) (v w a b : A) → get_elem? l i ≡ some v → get_elem? (set l i a) j ≡ some w
        → total g (set (set l i a) j b) + g v + g w ≡ total g l + g a + g b
    total-join l i j v w a b e d = omega (arith, total-set l i v a e, total-set (set l i a) j w b d)

    pub total-zero : (l : List A) → ((j : ℕ) (u : A) → get_elem? l j ≡ some u → g u ≡ 0) → total g l ≡ 0
    total-zero [] h = refl
    total-zero (x ∷ xs) h = omega (arith, h 0 x refl, total-zero xs (λ j u e. h (suc j) u e))

    pub term-le : (l : List A) (j : ℕ) (v : A) → get_elem? l j ≡ some v → g v ≤ total g l
    term-le [] j v e = absurd (some-ne-none v (sym e))
    term-le (x ∷ xs) zero v e = omega (arith, ap g (some-injective x v e))
    term-le (x ∷ xs) (suc j) v e = omega (arith, term-le xs j v e)

    pub terms-le : (l : List A) (j k : ℕ) (v u : A) → k ≢ j → get_elem? l j ≡ some v → get_elem? l k ≡ some u
        → g v + g u ≤ total g l
    terms-le [] j k v u n e d = absurd (some-ne-none v (sym e))
    terms-le (x ∷ xs) zero zero v u n e d = absurd (n refl)
    terms-le (x ∷ xs) zero (suc k) v u n e d = omega (arith, ap g (some-injective x v e), term-le xs k u d)
    terms-le (x ∷ xs) (suc j) zero v u n e d = omega (arith, ap g (some-injective x u d), term-le xs j v e)
    terms-le (x ∷ xs) (suc j) (suc k) v u n e d = omega (arith, terms-le xs j k v u (λ h. n (ap suc h)) e d)

  module _ (f g : A → ℕ) where
    pub total-le : (l : List A) → ((j : ℕ) (u : A) → get_elem? l j ≡ some u → f u ≤ g u) → total f l ≤ total g l
    total-le [] h = omega arith
    total-le (x ∷ xs) h = omega (arith, h 0 x refl, total-le xs (λ j u e. h (suc j) u e))

    -- one place makes the difference
    pub total-le-but : (l : List A) (i : ℕ) (v : A) → get_elem? l i ≡ some v
        → ((j : ℕ) (u : A) → get_elem? l j ≡ some u → f u ≤ g u) → total f l + g v ≤ total g l + f v
    total-le-but [] i v e h = absurd (some-ne-none v (sym e))
    total-le-but (x ∷ xs) zero v e h = omega (
      arith,
      ap f (some-injective x v e),
      ap g (some-injective x v e),
      total-le xs (λ j u d. h (suc j) u d),
    )
    total-le-but (x ∷ xs) (suc i) v e h = omega (arith, h 0 x refl, total-le-but xs i v e (λ j u d. h (suc j) u d))

  module _ (f g : A → ℕ) where
    -- where one place has all of g, and f is nothing where g is, it has all of f
    pub total-only : (l : List A) (i : ℕ) (v : A) → get_elem? l i ≡ some v → total g l ≡ g v
        → ((u : A) (j : ℕ) → get_elem? l j ≡ some u → g u ≡ 0 → f u ≡ 0) → total f l ≡ f v
    total-only [] i v e all h = absurd (some-ne-none v (sym e))
    total-only (x ∷ xs) zero v e all h =
        let none : total f xs ≡ 0 = total-zero f xs (λ j u d. h u (suc j) d
        (omega (arith, all, ap g (some-injective x v e), term-le g xs j u d))) in
        omega (arith, none, ap f (some-injective x v e))
    total-only (x ∷ xs) (suc i) v e all h =
        let first : g x ≡ 0 = omega (arith, all, term-le g xs i v e) in
        omega (arith, h x 0 refl first, total-only xs i v e (omega (arith, all, first)) (λ u j d. h u (suc j) d))
