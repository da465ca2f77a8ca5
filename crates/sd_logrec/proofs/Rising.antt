-- A list rises where each item is before the next. It serves the goals of take.rt.
use Rattle.std.proofs.Common.{◌≡◌, ℕ, zero, suc, ◌+◌, ◌-◌, ◌<◌, ◌≤◌, Bool, true, false, ◌&&◌, List, [], ◌∷◌, length, get_or, refl, ap, subst, ◌∙◌, arith}
use Rattle.std.specs.List.{AllAdjacentBelow}
use Rattle.sd_logrec.specs.Spelling.{is_rising}

next : (k : ℕ) → suc k + 1 ≡ suc (k + 1)
next k = omega arith

rises : {A : Type 0} (before : A → A → Bool) (xs : List A) → AllAdjacentBelow (λ x y. true ≡ before x y) xs (length xs) → true ≡ is_rising before xs
rises {A} before [] h = refl
rises {A} before (x ∷ []) h = refl
rises {A} before (x ∷ (y ∷ ys)) h =
    let first : true ≡ before x y = h 0 x (omega arith) in
    let others : true ≡ is_rising before (y ∷ ys) = rises before (y ∷ ys) (λ k d lt. subst (λ (i : ℕ). true ≡ before (get_or (y ∷ ys) k d) (get_or (x ∷ (y ∷ ys)) i d)) (next k) (h (suc k) d (omega arith))) in
    rw (← first, ← others) refl

and_false : (a : Bool) → false ≡ (a && false)
and_false true = refl
and_false false = refl

falls : {A : Type 0} (before : A → A → Bool) (xs : List A) (k : ℕ) (x y : A) → k + 1 < length xs → x ≡ get_or xs k x → y ≡ get_or xs (suc k) y → false ≡ before x y → false ≡ is_rising before xs
falls {A} before [] k x y lt ex ey h = absurd (omega arith)
falls {A} before (a ∷ []) k x y lt ex ey h = absurd (omega arith)
falls {A} before (a ∷ (b ∷ ys)) zero x y lt ex ey h = let first : false ≡ before a b = h ∙ ap (λ (u : A). before u y) ex ∙ ap (before a) ey in rw (← first) refl
falls {A} before (a ∷ (b ∷ ys)) (suc k) x y lt ex ey h =
    let others : false ≡ is_rising before (b ∷ ys) = falls before (b ∷ ys) k x y (omega arith) ex ey h in
    rw (← others) (and_false (before a b))

-- an item that isn't before the next, as a loop finds it
pub falls_at : {A : Type 0} (before : A → A → Bool) (xs : List A) (i : ℕ) (x y : A) → 1 ≤ i → i < length xs → x ≡ get_or xs (i - 1) x → y ≡ get_or xs i y → false ≡ before x y → false ≡ is_rising before xs
falls_at {A} before xs zero x y low lt ex ey h = absurd (omega arith)
falls_at {A} before xs (suc k) x y low lt ex ey h =
    let e : suc k - 1 ≡ k = omega arith in
    falls before xs k x y (omega arith) (ex ∙ ap (λ (n : ℕ). get_or xs n x) e) ey h

-- each item up to the length is before the next, as a loop leaves it
pub rises_to : {A : Type 0} (before : A → A → Bool) (xs : List A) (i : ℕ) → length xs ≤ i → AllAdjacentBelow (λ x y. true ≡ before x y) xs i → true ≡ is_rising before xs
rises_to before xs i le h = rises before xs (λ k d lt. h k d (omega arith))
