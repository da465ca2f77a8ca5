-- The asks for one page: an ask that is queued, and asks that are taken off. It serves queue.rt.
use Rattle.std.proofs.Common.{◌≡◌, ◌≢◌, ⊎_elim, ℕ, zero, suc, ◌<◌, ◌≤◌, Bool, true, false, cond, eqb, List, [], ◌∷◌, ◌++◌, length, get_or, None, Some, refl, sym, ap, ◌∙◌, subst, arith, eq-eqb, ne_eqb}
use Rattle.std.specs.Prelude.{filter, position, slice_set}
use Rattle.std.specs.List.{position_or_len}
use Rattle.std.proofs.lemmas.Bool.{cases_eq}
use Rattle.std.proofs.lemmas.List.Quantifiers.{position-Some}
use Rattle.std.proofs.lemmas.List.Sums.{fails_before_first}
use Rattle.sd_base.specs.declared.place.Mode.{Mode}
use Rattle.sd_pagelock.specs.declared.queue.Ask.{Ask}
use Rattle.sd_pagelock.specs.Asks.{queued, stronger, asks_by, IsOneEach}
use Rattle.sd_pagelock.proofs.Firsts.{past_end}
use Rattle.sd_pagelock.proofs.Members.{not_both}

-- its instance's older ask becomes the stronger of both
at_place : (by : ℕ) (mode : Mode) (xs : List Ask) (i : ℕ) (d : Ask) → i < length xs → eqb (get_or xs i d).by by ≡ true → ((k : ℕ) → k < i → eqb (get_or xs k d).by by ≡ false) → slice_set xs i (record { by = (get_or xs i d).by; mode = stronger (get_or xs i d).mode mode }) ≡ queued by mode xs
at_place by mode [] i d lt is before = absurd (omega arith)
at_place by mode (x ∷ xs) zero d lt is before = sym (ap (λ (b : Bool). cond {A = List Ask} b ((record { by = x.by; mode = stronger x.mode mode }) ∷ xs) (x ∷ queued by mode xs)) is)
at_place by mode (x ∷ xs) (suc i) d lt is before = ap (λ (l : List Ask). x ∷ l) (at_place by mode xs i d (omega arith) is (λ k lt. before (suc k) (omega arith)))
    ∙ sym (ap (λ (b : Bool). cond {A = List Ask} b ((record { by = x.by; mode = stronger x.mode mode }) ∷ xs) (x ∷ queued by mode xs)) (before 0 (omega arith)))

-- read and written back, where ys is the queue as contracts see it
pub queued_at : (by : ℕ) (mode : Mode) (xs ys : List Ask) (i : ℕ) (ask : Ask) (m : Mode) → xs ≡ ys → Some i ≡ position (λ (ask : Ask). eqb ask.by by) ys → ask ≡ get_or xs i ask → m ≡ stronger ask.mode mode → slice_set xs i (record { by = ask.by; mode = m }) ≡ queued by mode ys
queued_at by mode xs ys i ask m view found is strong =
    let at = position-Some (λ (ask : Ask). eqb ask.by by) ys i ask (sym found) in
    ap (λ (m : Mode). slice_set xs i (record { by = ask.by; mode = m })) strong
    ∙ ap (λ (a : Ask). slice_set xs i (record { by = a.by; mode = stronger a.mode mode })) is
    ∙ ap (λ (l : List Ask). slice_set l i (record { by = (get_or l i ask).by; mode = stronger (get_or l i ask).mode mode })) view
    ∙ at_place by mode ys i ask at.0 at.1 at.2

-- the instance's only ask stands at the end
at_end : (by : ℕ) (mode : Mode) (xs : List Ask) (d : Ask) → ((k : ℕ) → k < length xs → eqb (get_or xs k d).by by ≡ false) → xs ++ (record { by = by; mode = mode }) ∷ [] ≡ queued by mode xs
at_end by mode [] d none = refl
at_end by mode (x ∷ xs) d none = ap (λ (l : List Ask). x ∷ l) (at_end by mode xs d (λ k lt. none (suc k) (omega arith)))
    ∙ sym (ap (λ (b : Bool). cond {A = List Ask} b ((record { by = x.by; mode = stronger x.mode mode }) ∷ xs) (x ∷ queued by mode xs)) (none 0 (omega arith)))

pub queued_end : (by : ℕ) (mode : Mode) (xs ys : List Ask) → xs ≡ ys → None ≡ position (λ (ask : Ask). eqb ask.by by) ys → xs ++ (record { by = by; mode = mode }) ∷ [] ≡ queued by mode ys
queued_end by mode xs ys view missing = ap (λ (l : List Ask). l ++ (record { by = by; mode = mode }) ∷ []) view ∙ at_end by mode ys (record { by = by; mode = mode }) (λ k lt. let e : length ys ≤ position_or_len (λ (ask : Ask). eqb ask.by by) ys = past_end (λ (ask : Ask). eqb ask.by by) ys (sym missing) in fails_before_first (λ (ask : Ask). eqb ask.by by) ys k (record { by = by; mode = mode }) (omega arith))

-- one more ask of an instance that asked, or of one that didn't
asks_by-queued : (k by : ℕ) (mode : Mode) (xs : List Ask) → k ≢ by → asks_by k (queued by mode xs) ≡ asks_by k xs
asks_by-queued k by mode [] ne = ap (λ (b : Bool). cond b true false) (ne_eqb by k (λ e. ne (sym e)))
asks_by-queued k by mode (x ∷ xs) ne = go (eqb x.by by) (asks_by-queued k by mode xs ne)
  where
    go : (b : Bool) → asks_by k (queued by mode xs) ≡ asks_by k xs → asks_by k (cond {A = List Ask} b ((record { by = x.by; mode = stronger x.mode mode }) ∷ xs) (x ∷ queued by mode xs)) ≡ asks_by k (x ∷ xs)
    go true ih = refl
    go false ih = ap (λ (b : Bool). cond (eqb x.by k) true b) ih

pub one_each-queued : (by : ℕ) (mode : Mode) (xs : List Ask) → IsOneEach xs → IsOneEach (queued by mode xs)
one_each-queued by mode [] each = (refl, tt)
one_each-queued by mode (x ∷ xs) each = ⊎_elim
    (λ e. subst (λ (b : Bool). IsOneEach (cond {A = List Ask} b ((record { by = x.by; mode = stronger x.mode mode }) ∷ xs) (x ∷ queued by mode xs))) (sym (eq-eqb x.by by e)) each)
    (λ ne. subst (λ (b : Bool). IsOneEach (cond {A = List Ask} b ((record { by = x.by; mode = stronger x.mode mode }) ∷ xs) (x ∷ queued by mode xs))) (sym (ne_eqb x.by by ne)) (asks_by-queued x.by by mode xs ne ∙ each.0, one_each-queued by mode xs each.1))
    (cases_eq x.by by)

-- one who doesn't ask is none of those that are kept
asks_by-filter : (k : ℕ) (test : Ask → Bool) (xs : List Ask) → asks_by k xs ≡ false → asks_by k (filter test xs) ≡ false
asks_by-filter k test [] none = refl
asks_by-filter k test (x ∷ xs) none = go (test x) (eqb x.by k) refl none (asks_by-filter k test xs)
  where
    go : (b is : Bool) → eqb x.by k ≡ is → cond is true (asks_by k xs) ≡ false → (asks_by k xs ≡ false → asks_by k (filter test xs) ≡ false) → asks_by k (cond b (x ∷ filter test xs) (filter test xs)) ≡ false
    go b true e none ih = not_both refl none
    go true false e none ih = ap (λ (c : Bool). cond c true (asks_by k (filter test xs))) e ∙ ih none
    go false false e none ih = ih none

pub one_each-filter : (test : Ask → Bool) (xs : List Ask) → IsOneEach xs → IsOneEach (filter test xs)
one_each-filter test [] each = tt
one_each-filter test (x ∷ xs) each = go (test x) (asks_by-filter x.by test xs each.0) (one_each-filter test xs each.1)
  where
    go : (b : Bool) → asks_by x.by (filter test xs) ≡ false → IsOneEach (filter test xs) → IsOneEach (cond b (x ∷ filter test xs) (filter test xs))
    go true none ih = (none, ih)
    go false none ih = ih
