-- What holds of each element, told of one. It serves the goals of reading.rt.
use Rattle.std.proofs.Common.{◌≡◌, inl, inr, ℕ, zero, suc, ◌+◌, List, [], ◌∷◌, length, refl, sym, ap, ◌∙◌, subst, arith}
use Rattle.std.specs.Prelude.{All, Option, Some, slice_get, sum_by}
use Rattle.std.specs.Option.{option_map_or}
use Rattle.std.proofs.lemmas.Option.{slice_get_cases}
use Rattle.std.proofs.lemmas.List.Elements.{All-nil, All-cons, All-head, All-tail}
use Rattle.std.proofs.lemmas.List.Sums.{sum_by-cons}
use Rattle.sd_logrec.specs.View.{Rec, flat}
use Rattle.sd_log.specs.declared.placed.Placed.{Placed}
use Rattle.sd_log.specs.Logs.{LogState, flats, log_in, scanned}
use Rattle.sd_chain.specs.Records.{Each}

pub All-at : {A : Type 0} (P : A → Type 0) (xs : List A) (k : ℕ) (x : A) → All P xs → slice_get xs k ≡ Some x → P x
All-at P [] k x all at = absurd (cc)
All-at P (y ∷ ys) zero x all at = let same : y ≡ x = cc in subst P same (All-head P y ys all)
All-at P (y ∷ ys) (suc k) x all at = All-at P ys k x (All-tail P y ys all) at

pub All-from_each : {A : Type 0} (P : A → Type 0) (xs : List A) → ((k : ℕ) (x : A) → slice_get xs k ≡ Some x → P x) → All P xs
All-from_each P [] f = All-nil P
All-from_each P (x ∷ xs) f = All-cons P x xs (f 0 x refl) (All-from_each P xs (λ k y at. f (suc k) y at))

-- of placed records, and of them seen flat
pub Each-flats : (P : Rec → Type 0) (ps : List Placed) → All (λ p. P (flat p.rec)) ps → Each P (flats ps)
Each-flats P [] all = tt
Each-flats P (p ∷ ps) all =
    (All-head (λ (x : Placed). P (flat x.rec)) p ps all, Each-flats P ps (All-tail (λ (x : Placed). P (flat x.rec)) p ps all))

pub All-flats : (P : Rec → Type 0) (ps : List Placed) → Each P (flats ps) → All (λ p. P (flat p.rec)) ps
All-flats P [] each = All-nil (λ (x : Placed). P (flat x.rec))
All-flats P (p ∷ ps) each = All-cons (λ (x : Placed). P (flat x.rec)) p ps each.0 (All-flats P ps each.1)

-- of each log, or of no records
pub in_log : (Q : List Rec → Type 0) (logs : List LogState) → Q [] → ((k : ℕ) (log : LogState) → slice_get logs k ≡ Some log
    → Q (flats (scanned log))) → (j : ℕ) → Q (log_in logs j)
in_log Q logs none f zero = none
in_log Q logs none f (suc k) =
    elim (slice_get_cases logs k).1 [
      | inl found ↦
          subst Q (sym (ap (λ (o : Option LogState). option_map_or (λ log. flats (scanned log)) o []) found.2)) (f k found.0 found.2)
      | inr past ↦ subst Q (sym (ap (λ (o : Option LogState). option_map_or (λ log. flats (scanned log)) o []) past.1)) none
    ]

-- the numbers from j on
abbrev pub numbers : ℕ → ℕ → List ℕ
numbers j zero = []
numbers j (suc n) = j ∷ numbers (suc j) n

pub same_sums : {A : Type 0} (f : ℕ → ℕ) (g : A → ℕ) (j : ℕ) (xs : List A)
    → ((k : ℕ) (x : A) → slice_get xs k ≡ Some x → f (j + k) ≡ g x) → sum_by f (numbers j (length xs)) ≡ sum_by g xs
same_sums f g j [] same = refl
same_sums {A} f g j (x ∷ xs) same =
    let first : f j ≡ g x = (let e : j ≡ j + 0 = omega arith in ap f e) ∙ same 0 x refl in
    let others = same_sums f g (suc j) xs (λ k y at. (let e : suc j + k ≡ j + suc k = omega arith in ap f e) ∙ same (suc k) y at) in
    sum_by-cons f j (numbers (suc j) (length xs))
    ∙ ap (λ (n : ℕ). n + sum_by f (numbers (suc j) (length xs))) first
    ∙ ap (λ (n : ℕ). g x + n) others
    ∙ sym (sum_by-cons g x xs)
