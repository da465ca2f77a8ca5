-- The least LSN of a checkpoint's tables, as it is found row by row. For the goals of `low_of` and what that calls.
use Rattle.std.proofs.Common.{◌≡◌, ℕ, zero, suc, ◌+◌, ◌<◌, List, [], ◌∷◌, ◌++◌, drop, get_or, length, map, min, refl, ap, ◌∙◌, sym, subst, arith}
use Rattle.sd_logrec.specs.Spelling.{Changed, Span}
use Rattle.sd_state.specs.Parts.{Begun, least_of, low_of}

-- a number may come first or last
least-moved : (n a : ℕ) (ys : List ℕ) → least_of (min n a) ys ≡ min a (least_of n ys)
least-moved n a [] = omega arith
least-moved n a (y ∷ ys) = let ih = least-moved n a ys in omega (arith, ih)

-- one row more
least-next : {A : Type 0} (f : A → ℕ) (n new : ℕ) (xs : List A) (k : ℕ) (x : A) → k < length xs → get_or xs k x ≡ x
    → new ≡ min n (f x) → least_of new (map f (drop (suc k) xs)) ≡ least_of n (map f (drop k xs))
least-next f n new [] k x lt at is = absurd (omega (arith, lt))
least-next f n new (z ∷ zs) zero x lt at is =
    ap (λ (a : ℕ). least_of a (map f zs)) (is ∙ ap (min n) (sym (ap f at))) ∙ least-moved n (f z) (map f zs)
least-next f n new (z ∷ zs) (suc k) x lt at is = least-next f n new zs k x (omega (arith, lt)) at is

pub least-step : {A : Type 0} (f : A → ℕ) (n new : ℕ) (xs : List A) (k : ℕ) (x : A) → k < length xs → get_or xs k x ≡ x
    → new ≡ min n (f x) → least_of new (map f (drop (k + 1) xs)) ≡ least_of n (map f (drop k xs))
least-step f n new xs k x lt at is = let next : suc k ≡ k + 1 = omega arith in
    subst (λ (m : ℕ). least_of new (map f (drop m xs)) ≡ least_of n (map f (drop k xs))) next (least-next f n new xs k x lt at is)

-- both tables, one behind the other
least-both : (n : ℕ) (xs ys : List ℕ) → least_of (least_of n ys) xs ≡ least_of n (xs ++ ys)
least-both n [] ys = refl
least-both n (x ∷ xs) ys = ap (min x) (least-both n xs ys)

pub low-is : (k : Begun) → least_of (least_of k.begin (map (λ (r : Changed). r.1) k.recs)) (map (λ (s : Span). s.1) k.spans) ≡ low_of k
unfolding low_of
low-is k = least-both k.begin (map (λ (s : Span). s.1) k.spans) (map (λ (r : Changed). r.1) k.recs)
