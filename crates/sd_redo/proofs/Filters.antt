-- What a filter keeps of a list in another order. It serves the goals of change.rt.
use Rattle.std.proofs.Common.{◌≡◌, ℕ, zero, suc, ◌<◌, ◌≤◌, Bool, true, false, cond, eqb, List, [], ◌∷◌, length, map, get_or, set, refl, sym, ap, ◌∙◌, subst, arith}
use Rattle.std.specs.Prelude.{All, filter, not, ◌&&◌, IsPermutation}
use Rattle.std.specs.Ordering.{is_lt, nat_cmp}
use Rattle.std.specs.List.{swap}
use Rattle.std.specs.List.Sorted.{IsNonDecreasingBy}
use Rattle.std.proofs.lemmas.List.{get_or-map, length-map}
use Rattle.std.proofs.lemmas.List.Elements.{All-head, All-tail, filter_agree}
use Rattle.std.proofs.lemmas.List.Sorted.{IsPermutation-refl, IsPermutation-cons, IsPermutation-keeps, IsPermutation-trans, IsPermutation-swap}

module _ {X : Type 0} (p : X → Bool) where
  same_head : (b : Bool) (x : X) (xs ys : List X) → IsPermutation xs ys → IsPermutation (cond b (x ∷ xs) xs) (cond b (x ∷ ys) ys)
  same_head true x xs ys h = IsPermutation-cons x xs ys h
  same_head false x xs ys h = h

  two_heads : (b c : Bool) (x y : X) (zs : List X)
      → IsPermutation (cond b (x ∷ cond c (y ∷ zs) zs) (cond c (y ∷ zs) zs)) (cond c (y ∷ cond b (x ∷ zs) zs) (cond b (x ∷ zs) zs))
  two_heads true true x y zs = IsPermutation-swap (x ∷ y ∷ zs) (y ∷ x ∷ zs) 0 1 (omega arith) (omega arith) refl
  two_heads true false x y zs = IsPermutation-refl (x ∷ zs)
  two_heads false true x y zs = IsPermutation-refl (y ∷ zs)
  two_heads false false x y zs = IsPermutation-refl zs

  -- the first element changes places with another
  first_exchanged : (d z : X) (zs : List X) (k : ℕ) → k < length zs
      → IsPermutation (filter p (z ∷ zs)) (filter p (get_or zs k d ∷ set zs k z))
  first_exchanged d z [] k lt = absurd (omega arith)
  first_exchanged d z (w ∷ ws) zero lt = two_heads (p z) (p w) z w (filter p ws)
  first_exchanged d z (w ∷ ws) (suc k) lt =
      let y : X = get_or ws k d in
      IsPermutation-trans (filter p (z ∷ w ∷ ws)) (filter p (w ∷ z ∷ ws)) (filter p (y ∷ w ∷ set ws k z))
      (two_heads (p z) (p w) z w (filter p ws))
      (IsPermutation-trans (filter p (w ∷ z ∷ ws)) (filter p (w ∷ y ∷ set ws k z)) (filter p (y ∷ w ∷ set ws k z))
      (same_head (p w) w (filter p (z ∷ ws)) (filter p (y ∷ set ws k z)) (first_exchanged d z ws k (omega arith)))
      (two_heads (p w) (p y) w y (filter p (set ws k z))))

  exchanged : (d : X) (xs : List X) (i j : ℕ) → i < length xs → j < length xs
      → IsPermutation (filter p xs) (filter p (set (set xs i (get_or xs j d)) j (get_or xs i d)))
  exchanged d [] i j a b = absurd (omega arith)
  exchanged d (z ∷ zs) zero zero a b = IsPermutation-refl (filter p (z ∷ zs))
  exchanged d (z ∷ zs) zero (suc j) a b = first_exchanged d z zs j (omega arith)
  exchanged d (z ∷ zs) (suc i) zero a b = first_exchanged d z zs i (omega arith)
  exchanged d (z ∷ zs) (suc i) (suc j) a b = same_head (p z) z (filter p zs)
      (filter p (set (set zs i (get_or zs j d)) j (get_or zs i d))) (exchanged d zs i j (omega arith) (omega arith))

  swapped : (xs : List X) (i j : ℕ) → i < length xs → j < length xs → IsPermutation (filter p xs) (filter p (swap xs i j))
  swapped [] i j a b = IsPermutation-refl []
  swapped (z ∷ zs) i j a b = exchanged z (z ∷ zs) i j a b

  pub IsPermutation-filter : (xs ys : List X) → IsPermutation xs ys → IsPermutation (filter p xs) (filter p ys)
  IsPermutation-filter xs ys = IsPermutation-keeps xs (λ l. IsPermutation (filter p xs) (filter p l)) (IsPermutation-refl (filter p xs))
      (λ l i j a b h. IsPermutation-trans (filter p xs) (filter p l) (filter p (swap l i j)) h (swapped l i j a b)) ys

-- the values of a list that rises by them rise
pub IsNonDecreasingBy-map : {X Y : Type 0} (f : X → Y) (n : Y → ℕ) (xs : List X) → IsNonDecreasingBy (λ x. n (f x)) xs
    → IsNonDecreasingBy n (map f xs)
IsNonDecreasingBy-map f n [] rises i j d le lt = absurd (omega arith)
IsNonDecreasingBy-map f n (x ∷ xs) rises i j d le lt =
    let len : length (map f (x ∷ xs)) ≡ length (x ∷ xs) = length-map (x ∷ xs) f in
    let first : get_or (map f (x ∷ xs)) i d ≡ f (get_or (x ∷ xs) i x) = get_or-map f (x ∷ xs) i x d (omega arith) in
    let second : get_or (map f (x ∷ xs)) j d ≡ f (get_or (x ∷ xs) j x) = get_or-map f (x ∷ xs) j x d (omega arith) in
    subst (λ (y : _). n y ≤ n (get_or (map f (x ∷ xs)) j d)) (sym first)
    (subst (λ (y : _). n (f (get_or (x ∷ xs) i x)) ≤ n y) (sym second) (rises i j x le (omega arith)))

-- what passes one test among what passes a weaker one
pub filter_within : {X : Type 0} (p q : X → Bool) → ((x : X) → p x ≡ true → q x ≡ true) → (xs : List X)
    → filter p (filter q xs) ≡ filter p xs
filter_within p q weaker [] = refl
filter_within p q weaker (x ∷ xs) = go (p x) (q x) refl refl (filter_within p q weaker xs)
  where
    go : (a b : Bool) → p x ≡ a → q x ≡ b → filter p (filter q xs) ≡ filter p xs
        → filter p (cond b (x ∷ filter q xs) (filter q xs)) ≡ cond a (x ∷ filter p xs) (filter p xs)
    go a true e f ih = ap (λ t. cond t (x ∷ filter p (filter q xs)) (filter p (filter q xs))) e ∙ ap (λ l. cond a (x ∷ l) l) ih
    go true false e f ih = let clash = sym f ∙ weaker x e in absurd (cc)
    go false false e f ih = ih

-- a filter of what a map gives
pub filter-map : {X Y : Type 0} (t : Y → Bool) (f : X → Y) (xs : List X) → filter t (map f xs) ≡ map f (filter (λ x. t (f x)) xs)
filter-map {X} t f [] = refl
filter-map {X} t f (x ∷ xs) = ap (λ l. cond (t (f x)) (f x ∷ l) l) (filter-map t f xs) ∙ go (t (f x)) (filter (λ z. t (f z)) xs)
  where
    go : (b : Bool) (l : List X) → cond b (f x ∷ map f l) (map f l) ≡ map f (cond b (x ∷ l) l)
    go true l = refl
    go false l = refl

-- two tests, one after the other
pub filter_both : {X : Type 0} (p q : X → Bool) (xs : List X) → filter (λ x. p x && q x) xs ≡ filter q (filter p xs)
filter_both {X} p q [] = refl
filter_both {X} p q (x ∷ xs) = ap (λ l. cond (p x && q x) (x ∷ l) l) (filter_both p q xs) ∙ go (p x) (filter p xs)
  where
    go : (a : Bool) (l : List X) → cond (a && q x) (x ∷ filter q l) (filter q l) ≡ filter q (cond a (x ∷ l) l)
    go true l = refl
    go false l = refl

-- two filters, in either order
pub filters_swap : {X : Type 0} (p q : X → Bool) (xs : List X) → filter p (filter q xs) ≡ filter q (filter p xs)
filters_swap p q xs =
    sym (filter_both q p xs)
    ∙ filter_agree (λ x. q x && p x) (λ x. p x && q x) (λ x. and_comm (q x) (p x)) xs
    ∙ filter_both p q xs
  where
    and_comm : (a b : Bool) → (a && b) ≡ (b && a)
    and_comm true true = refl
    and_comm true false = refl
    and_comm false true = refl
    and_comm false false = refl

-- two tests that agree on each element of a list
pub filter_alike : {X : Type 0} (p q : X → Bool) (xs : List X) → All (λ x. p x ≡ q x) xs → filter p xs ≡ filter q xs
filter_alike p q [] all = refl
filter_alike p q (x ∷ xs) all =
    ap (λ b. cond b (x ∷ filter p xs) (filter p xs)) (All-head (λ y. p y ≡ q y) x xs all)
    ∙ ap (λ l. cond (q x) (x ∷ l) l) (filter_alike p q xs (All-tail (λ y. p y ≡ q y) x xs all))

-- a list all of which passes
pub filter_all : {X : Type 0} (p : X → Bool) (xs : List X) → All (λ x. p x ≡ true) xs → filter p xs ≡ xs
filter_all p [] all = refl
filter_all p (x ∷ xs) all =
    ap (λ b. cond b (x ∷ filter p xs) (filter p xs)) (All-head (λ y. p y ≡ true) x xs all)
    ∙ ap (λ l. x ∷ l) (filter_all p xs (All-tail (λ y. p y ≡ true) x xs all))

-- numbers that neither is less than the other are equal
pub ties_nat : (m n : ℕ) → (not (is_lt (nat_cmp m n)) && not (is_lt (nat_cmp n m))) ≡ eqb n m
ties_nat m n = grind arith
