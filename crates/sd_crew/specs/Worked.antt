-- What a worker has done: turns of its instance, one after another, as the views of its pass tell.
use Rattle.std.specs.Prelude.{◌≡◌, ℕ, suc, ◌<◌, ◌≤◌, List, [], ◌∷◌, length, slice_index_or}
use Rattle.sd_turnstile.specs.declared.rule.View.{View}
use Rattle.sd_turnstile.specs.declared.shift.Turn.{Turn}
use Rattle.sd_turnstile.specs.declared.shift.Turn.TheVariants as T
use Rattle.sd_turnstile.specs.Rule.{Makes}

-- how many of the last turns, one behind another, weren't ready; the answers are told from the last one back
abbrev pub waited : List Turn → ℕ
waited [] = 0
waited (T.NotReady why ∷ answers) = suc (waited answers)
waited (answer ∷ answers) = 0

-- none of these is the last turn of its instance
abbrev pub GoOn : List Turn → Type 0
GoOn [] = Unit {0}
GoOn (T.Did ∷ answers) = GoOn answers
GoOn (T.NotReady why ∷ answers) = GoOn answers
GoOn (answer ∷ answers) = ⊥

-- a worker leaves at the first turn that says that no more are to come or that there was no memory, or behind thousands in a row
-- that weren't ready
abbrev pub IsDone : List Turn → Type 0
IsDone (T.Ended ∷ answers) = GoOn answers
IsDone (T.Short ∷ answers) = GoOn answers
IsDone answers = (4096 < waited answers) × GoOn answers

-- turns of the instance with these answers, the last one first, led from the one view of its pass to the other
abbrev pub Took : {V E : Type 0} → (V → List E) → (V → Type 0) → (V → ℕ → Turn → V → Type 0) → View V E → ℕ → List Turn
    → View V E → Type 0
Took history stands turns old inst [] new = new ≡ old
Took {V} {E} history stands turns old inst (answer ∷ answers) new =
    (mid : View V E) × Took history stands turns old inst answers mid × Makes history stands turns mid inst answer new

-- the turns of a worker, up to where it leaves
abbrev pub HasWorked : {V E : Type 0} → (V → List E) → (V → Type 0) → (V → ℕ → Turn → V → Type 0) → View V E → ℕ → View V E
    → Type 0
HasWorked history stands turns old inst new = (answers : List Turn) × Took history stands turns old inst answers new
    × IsDone answers

-- each of the one list is in this relation to that at its place in the other
abbrev pub AtEach : {A : Type 0} → (A → A → Type 0) → List A → List A → Type 0
AtEach {A} related xs ys = (k : ℕ) (d : A) → k < length xs → related (slice_index_or xs k d) (slice_index_or ys k d)

-- these have the numbers behind this one, one after another
abbrev pub NumberedFrom : {A : Type 0} → (A → ℕ) → ℕ → List A → Type 0
NumberedFrom number n [] = Unit {0}
NumberedFrom number n (x ∷ xs) = (number x ≡ suc n) × NumberedFrom number (suc n) xs

-- each instance from 1 to this one has worked
abbrev pub EachWorked : {V E : Type 0} → (V → List E) → (V → Type 0) → (V → ℕ → Turn → V → Type 0) → ℕ → Type 0
EachWorked {V} {E} history stands turns insts =
    (inst : ℕ) → 1 ≤ inst → inst ≤ insts → (old : View V E) × (new : View V E) × HasWorked history stands turns old inst new
