-- A worker for each instance, and what each has done. Serves hand_out and take_turns.
use Rattle.std.proofs.Common.{◌≡◌, ℕ, zero, suc, ◌+◌, ◌-◌, ◌<◌, List, [], ◌∷◌, ◌++◌, length, ◌∙◌, subst, arith, slice_index_or}
use Rattle.sd_turnstile.specs.declared.rule.View.{View}
use Rattle.sd_turnstile.specs.declared.shift.Turn.{Turn}
use Rattle.sd_crew.specs.Worked.{HasWorked, AtEach, NumberedFrom, EachWorked}

pub numbered-on : {A : Type 0} (number : A → ℕ) (n : ℕ) (xs : List A) (x : A) → number x ≡ suc (n + length xs)
    → NumberedFrom number n xs
    → NumberedFrom number n (xs ++ x ∷ [])
numbered-on number n [] x is h = (is ∙ omega arith, tt)
numbered-on number n (y ∷ ys) x is h = (h.0, numbered-on number (suc n) ys x (is ∙ omega arith) h.1)

number-at : {A : Type 0} (number : A → ℕ) (n : ℕ) (xs : List A) (k : ℕ) (d : A) → k < length xs → NumberedFrom number n xs
    → number (slice_index_or xs k d) ≡ suc (n + k)
number-at number n [] k d lt h = absurd (omega (arith, lt))
number-at number n (x ∷ xs) zero d lt h = h.0 ∙ omega arith
number-at number n (x ∷ xs) (suc k) d lt h = number-at number (suc n) xs k d (omega (arith, lt)) h.1 ∙ omega arith

module _ {V E : Type 0} (history : V → List E) (stands : V → Type 0) (turns : V → ℕ → Turn → V → Type 0) where
  pub each-worked : {A : Type 0} (xs ys : List A) (n : ℕ) (inst : A → ℕ) (pass : A → View V E) → length xs ≡ n
      → NumberedFrom inst 0 xs
      → AtEach (λ old new. (inst new ≡ inst old) × HasWorked history stands turns (pass old) (inst old) (pass new)) xs ys
      → EachWorked history stands turns n
  each-worked [] ys n inst pass len numbered worked i low high = absurd (omega (arith, len, low, high))
  each-worked (x ∷ xs) ys n inst pass len numbered worked i low high =
      let near : i - 1 < length (x ∷ xs) = omega (arith, len, low, high) in
      let is : inst (slice_index_or (x ∷ xs) (i - 1) x) ≡ i = number-at inst 0 (x ∷ xs) (i - 1) x near numbered
      ∙ omega (arith, low) in (
        pass (slice_index_or (x ∷ xs) (i - 1) x),
        pass (slice_index_or ys (i - 1) x),
        subst (λ j. HasWorked history stands turns (pass (slice_index_or (x ∷ xs) (i - 1) x)) j
            (pass (slice_index_or ys (i - 1) x))) is (worked (i - 1) x near).1,
      )
