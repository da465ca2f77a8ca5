-- The turns of a worker so far, with one more, and with the last. Serves work_alone.
use Rattle.std.proofs.Common.{◌≡◌, ℕ, ◌+◌, ◌<◌, ◌≤◌, List, [], ◌∷◌, refl, subst, arith}
use Rattle.sd_turnstile.specs.declared.rule.View.{View}
use Rattle.sd_turnstile.specs.declared.shift.Turn.{Turn}
use Rattle.sd_turnstile.specs.declared.shift.Turn.TheVariants as T
use Rattle.sd_turnstile.specs.declared.shift.Why.{Why}
use Rattle.sd_turnstile.specs.Rule.{Makes}
use Rattle.sd_crew.specs.Worked.{waited, GoOn, IsDone, Took, HasWorked}

done-of : (answers : List Turn) → 4096 < waited answers → GoOn answers → IsDone answers
done-of [] h on = (h, on)
done-of (T.Did ∷ answers) h on = (h, on)
done-of (T.NotReady why ∷ answers) h on = (h, on)
done-of (T.Ended ∷ answers) h on = absurd on
done-of (T.Short ∷ answers) h on = absurd on

module _ {V E : Type 0} (history : V → List E) (stands : V → Type 0) (turns : V → ℕ → Turn → V → Type 0) where
  -- turns led from the one view to the other, of which the last ones weren't ready, so many of them at least
  pub record Waits (old : View V E) (inst still : ℕ) (new : View V E) : Type 0 where
    pub answers : List Turn
    pub waits : still ≤ waited answers
    pub goes : GoOn answers
    pub took : Took history stands turns old inst answers new

  makes-of : (v w : View V E) (i j : ℕ) (r s : Turn) → j ≡ i → r ≡ s → Makes history stands turns v j r w
      → Makes history stands turns v i s w
  makes-of v w i j r s same is made =
      subst (λ k. Makes history stands turns v k s w) same (subst (λ t. Makes history stands turns v j t w) is made)

  pub nothing-yet : (v : View V E) (i : ℕ) → Waits v i 0 v
  nothing-yet v i = record { answers = []; waits = omega arith; goes = tt; took = refl }

  pub one-more : (a v w : View V E) (i j n : ℕ) (r : Turn) → j ≡ i → r ≡ T.Did → Waits a i n v
      → Makes history stands turns v j r w
      → Waits a i 0 w
  one-more a v w i j n r same is h made = record {
    answers = T.Did ∷ h.answers;
    waits = omega arith;
    goes = h.goes;
    took = (v, h.took, makes-of v w i j r T.Did same is made);
  }

  pub one-waits : (a v w : View V E) (i j n k : ℕ) (r : Turn) (why : Why) → j ≡ i → r ≡ T.NotReady why → k ≤ n + 1 → Waits a i n v
      → Makes history stands turns v j r w → Waits a i k w
  one-waits a v w i j n k r why same is le h made = record {
    answers = T.NotReady why ∷ h.answers;
    waits = omega (arith, h.waits, le);
    goes = h.goes;
    took = (v, h.took, makes-of v w i j r (T.NotReady why) same is made);
  }

  pub gives-up : (a w : View V E) (i k : ℕ) → 4096 < k → Waits a i k w → HasWorked history stands turns a i w
  gives-up a w i k long h = (h.answers, h.took, done-of h.answers (omega (arith, long, h.waits)) h.goes)

  pub ended : (a v w : View V E) (i j n : ℕ) (r : Turn) → j ≡ i → r ≡ T.Ended → Waits a i n v → Makes history stands turns v j r w
      → HasWorked history stands turns a i w
  ended a v w i j n r same is h made = (T.Ended ∷ h.answers, (v, h.took, makes-of v w i j r T.Ended same is made), h.goes)

  pub fell-short : (a v w : View V E) (i j n : ℕ) (r : Turn) → j ≡ i → r ≡ T.Short → Waits a i n v
      → Makes history stands turns v j r w
      → HasWorked history stands turns a i w
  fell-short a v w i j n r same is h made = (T.Short ∷ h.answers, (v, h.took, makes-of v w i j r T.Short same is made), h.goes)

-- a relation of what was, and of what was left, between the values that these are
pub related-by : {A : Type 0} (related : A → A → Type 0) (p q x y : A) → p ≡ x → q ≡ y → related p q → related x y
related-by related p q x y was left done = subst (related x) left (subst (λ a. related a q) was done)
