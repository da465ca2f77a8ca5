-- Rows, one a record: the place of a record, a row that is written or taken out, and rows in front of others. It serves few.rt and
-- locks.rt.
use Rattle.std.proofs.Common.{◌≡◌, ℕ, zero, suc, ◌<◌, Bool, true, false, cond, [], ◌∷◌, ◌++◌, length, get_or, set, Option, Some, None, refl, sym, ap, subst, ◌∙◌, ⊎_elim, arith}
use Rattle.std.specs.List.{remove}
use Rattle.std.specs.Map.{lookup}
use Rattle.std.proofs.lemmas.Bool.{cond-true, cond-false, cases_Bool}
use Rattle.sd_base.specs.declared.ids.Rid.{Rid}
use Rattle.sd_base.specs.Ids.{same_rid}
use Rattle.sd_reclock.specs.Locks.{Held, Modes}
use Rattle.sd_reclock.specs.Placing.{IsOneEach}
use Rattle.sd_reclock.proofs.Writes.{PutsRid}
use Rattle.sd_base.proofs.Orders.{same_rid-sym, same-rid, same-rid-is}

abbrev pub Entry : Type 0
Entry = Rid × Modes

-- the first row whose key passes
found_at : (test : Rid → Bool) (rows : Held) (i : ℕ) (d : Entry) → i < length rows → test (get_or rows i d).0 ≡ true → ((k : ℕ) → k < i → test (get_or rows k d).0 ≡ false)
    → lookup test rows ≡ Some (get_or rows i d).1
found_at test [] i d lt is before = absurd (omega arith)
found_at test (x ∷ xs) zero d lt is before = cond-true (test x.0) (Some x.1) (lookup test xs) is
found_at test (x ∷ xs) (suc i) d lt is before = cond-false (test x.0) (Some x.1) (lookup test xs) (before 0 (omega arith))
    ∙ found_at test xs i d (omega arith) is (λ k h. before (suc k) (omega arith))

pub missing_at : (test : Rid → Bool) (rows : Held) (d : Entry) → ((k : ℕ) → k < length rows → test (get_or rows k d).0 ≡ false) → lookup test rows ≡ None
missing_at test [] d none = refl
missing_at test (x ∷ xs) d none = cond-false (test x.0) (Some x.1) (lookup test xs) (none 0 (omega arith))
    ∙ missing_at test xs d (λ k h. none (suc k) (omega arith))

-- a key that no row has
absent_head : (test : Rid → Bool) (x : Entry) (xs : Held) → lookup test (x ∷ xs) ≡ None → test x.0 ≡ false
absent_head test x xs none = ⊎_elim
    (λ h. let is : lookup test (x ∷ xs) ≡ Some x.1 = cond-true (test x.0) (Some x.1) (lookup test xs) h in absurd (cc (is, none)))
    (λ h. h)
    (cases_Bool (test x.0))

absent_tail : (test : Rid → Bool) (x : Entry) (xs : Held) → lookup test (x ∷ xs) ≡ None → lookup test xs ≡ None
absent_tail test x xs none = sym (cond-false (test x.0) (Some x.1) (lookup test xs) (absent_head test x xs none)) ∙ none

absent_more : (test : Rid → Bool) (x : Entry) (xs : Held) → test x.0 ≡ false → lookup test xs ≡ None → lookup test (x ∷ xs) ≡ None
absent_more test x xs fails none = cond-false (test x.0) (Some x.1) (lookup test xs) fails ∙ none

absent_at : (test : Rid → Bool) (xs : Held) (i : ℕ) (d : Entry) → lookup test xs ≡ None → i < length xs → test (get_or xs i d).0 ≡ false
absent_at test [] i d none lt = absurd (omega arith)
absent_at test (x ∷ xs) zero d none lt = absent_head test x xs none
absent_at test (x ∷ xs) (suc i) d none lt = absent_at test xs i d (absent_tail test x xs none) (omega arith)

-- of rows that are one each, none in front has a row's key
pub one_before : (xs : Held) (i k : ℕ) (d : Entry) → IsOneEach xs → i < length xs → k < i → same_rid (get_or xs i d).0 (get_or xs k d).0 ≡ false
one_before [] i k d one lt h = absurd (omega arith)
one_before (x ∷ xs) zero k d one lt h = absurd (omega arith)
one_before (x ∷ xs) (suc i) zero d one lt h = same_rid-sym (get_or xs i d).0 x.0 ∙ absent_at (same_rid x.0) xs i d one.0 (omega arith)
one_before (x ∷ xs) (suc i) (suc k) d one lt h = one_before xs i k d one.1 (omega arith) (omega arith)

pub found_row_at : (xs : Held) (i : ℕ) (d : Entry) → IsOneEach xs → i < length xs → lookup (same_rid (get_or xs i d).0) xs ≡ Some (get_or xs i d).1
found_row_at xs i d one lt = found_at (same_rid (get_or xs i d).0) xs i d lt (same-rid (get_or xs i d).0) (λ k h. one_before xs i k d one lt h)

-- a change behind a row of another key
passed : (key : Rid) (w : Option Modes) (x : Entry) (old new : Held) → same_rid key x.0 ≡ false → PutsRid old new key w → PutsRid (x ∷ old) (x ∷ new) key w
passed key w x old new apart puts q = ⊎_elim
    (λ h. let fails : same_rid q x.0 ≡ false = subst (λ (z : Rid). same_rid z x.0 ≡ false) (same-rid-is key q h) apart in
    cond-false (same_rid q x.0) (Some x.1) (lookup (same_rid q) new) fails ∙ puts q ∙ cond-true (same_rid key q) w (lookup (same_rid q) old) h
    ∙ sym (cond-true (same_rid key q) w (lookup (same_rid q) (x ∷ old)) h))
    (λ h. ap (λ (o : Option Modes). cond (same_rid q x.0) (Some x.1) o) (puts q ∙ cond-false (same_rid key q) w (lookup (same_rid q) old) h)
    ∙ sym (cond-false (same_rid key q) w (lookup (same_rid q) (x ∷ old)) h))
    (cases_Bool (same_rid key q))

-- a row that is written
pub puts_row : (xs : Held) (i : ℕ) (d : Entry) (w : Modes) → i < length xs → ((k : ℕ) → k < i → same_rid (get_or xs i d).0 (get_or xs k d).0 ≡ false)
    → PutsRid xs (set xs i ((get_or xs i d).0, w)) (get_or xs i d).0 (Some w)
puts_row [] i d w lt before q = absurd (omega arith)
puts_row (x ∷ xs) zero d w lt before q = ⊎_elim
    (λ h. cond-true (same_rid q x.0) (Some w) (lookup (same_rid q) xs) h ∙ sym (cond-true (same_rid x.0 q) (Some w) (lookup (same_rid q) (x ∷ xs)) (same_rid-sym x.0 q ∙ h)))
    (λ h. cond-false (same_rid q x.0) (Some w) (lookup (same_rid q) xs) h ∙ sym (cond-false (same_rid q x.0) (Some x.1) (lookup (same_rid q) xs) h)
    ∙ sym (cond-false (same_rid x.0 q) (Some w) (lookup (same_rid q) (x ∷ xs)) (same_rid-sym x.0 q ∙ h)))
    (cases_Bool (same_rid q x.0))
puts_row (x ∷ xs) (suc i) d w lt before q = passed (get_or xs i d).0 (Some w) x xs (set xs i ((get_or xs i d).0, w)) (before 0 (omega arith))
    (puts_row xs i d w (omega arith) (λ k h. before (suc k) (omega arith))) q

-- a row that is taken out
pub takes_row : (xs : Held) (i : ℕ) (d : Entry) → IsOneEach xs → i < length xs → PutsRid xs (remove xs i) (get_or xs i d).0 None
takes_row [] i d one lt q = absurd (omega arith)
takes_row (x ∷ xs) zero d one lt q = ⊎_elim
    (λ h. subst (λ (z : Rid). lookup (same_rid z) xs ≡ None) (same-rid-is x.0 q h) one.0 ∙ sym (cond-true (same_rid x.0 q) None (lookup (same_rid q) (x ∷ xs)) h))
    (λ h. sym (cond-false (same_rid q x.0) (Some x.1) (lookup (same_rid q) xs) (same_rid-sym q x.0 ∙ h)) ∙ sym (cond-false (same_rid x.0 q) None (lookup (same_rid q) (x ∷ xs)) h))
    (cases_Bool (same_rid x.0 q))
takes_row (x ∷ xs) (suc i) d one lt q = passed (get_or xs i d).0 None x xs (remove xs i) (one_before (x ∷ xs) (suc i) 0 d one lt (omega arith))
    (takes_row xs i d one.1 (omega arith)) q

-- what has no row gets none by these
pub absent_set : (test : Rid → Bool) (xs : Held) (i : ℕ) (d : Entry) (w : Modes) → i < length xs → lookup test xs ≡ None → lookup test (set xs i ((get_or xs i d).0, w)) ≡ None
absent_set test [] i d w lt none = absurd (omega arith)
absent_set test (x ∷ xs) zero d w lt none = absent_more test (x.0, w) xs (absent_head test x xs none) (absent_tail test x xs none)
absent_set test (x ∷ xs) (suc i) d w lt none = absent_more test x (set xs i ((get_or xs i d).0, w)) (absent_head test x xs none)
    (absent_set test xs i d w (omega arith) (absent_tail test x xs none))

pub absent_remove : (test : Rid → Bool) (xs : Held) (i : ℕ) → lookup test xs ≡ None → lookup test (remove xs i) ≡ None
absent_remove test [] zero none = none
absent_remove test [] (suc i) none = none
absent_remove test (x ∷ xs) zero none = absent_tail test x xs none
absent_remove test (x ∷ xs) (suc i) none = absent_more test x (remove xs i) (absent_head test x xs none) (absent_remove test xs i (absent_tail test x xs none))

pub one_set : (xs : Held) (i : ℕ) (d : Entry) (w : Modes) → i < length xs → IsOneEach xs → IsOneEach (set xs i ((get_or xs i d).0, w))
one_set [] i d w lt one = absurd (omega arith)
one_set (x ∷ xs) zero d w lt one = one
one_set (x ∷ xs) (suc i) d w lt one = (absent_set (same_rid x.0) xs i d w (omega arith) one.0, one_set xs i d w (omega arith) one.1)

pub one_remove : (xs : Held) (i : ℕ) → IsOneEach xs → IsOneEach (remove xs i)
one_remove [] zero one = one
one_remove [] (suc i) one = one
one_remove (x ∷ xs) zero one = one.1
one_remove (x ∷ xs) (suc i) one = (absent_remove (same_rid x.0) xs i one.0, one_remove xs i one.1)

-- rows in front of others
pub look_left : (test : Rid → Bool) (xs ys : Held) (w : Modes) → lookup test xs ≡ Some w → lookup test (xs ++ ys) ≡ Some w
look_left test [] ys w is = absurd (cc is)
look_left test (x ∷ xs) ys w is = ⊎_elim
    (λ h. cond-true (test x.0) (Some x.1) (lookup test (xs ++ ys)) h ∙ sym (cond-true (test x.0) (Some x.1) (lookup test xs) h) ∙ is)
    (λ h. cond-false (test x.0) (Some x.1) (lookup test (xs ++ ys)) h ∙ look_left test xs ys w (sym (cond-false (test x.0) (Some x.1) (lookup test xs) h) ∙ is))
    (cases_Bool (test x.0))

pub look_right : (test : Rid → Bool) (xs ys : Held) → lookup test xs ≡ None → lookup test (xs ++ ys) ≡ lookup test ys
look_right test [] ys none = refl
look_right test (x ∷ xs) ys none = cond-false (test x.0) (Some x.1) (lookup test (xs ++ ys)) (absent_head test x xs none) ∙ look_right test xs ys (absent_tail test x xs none)

-- a row of a new record at the end
pub one_push : (xs : Held) (r : Rid) (w : Modes) → lookup (same_rid r) xs ≡ None → IsOneEach xs → IsOneEach (xs ++ (r, w) ∷ [])
one_push [] r w none one = (refl, tt)
one_push (x ∷ xs) r w none one = (
  look_right (same_rid x.0) xs ((r, w) ∷ []) one.0 ∙ cond-false (same_rid x.0 r) (Some w) None (same_rid-sym x.0 r ∙ absent_head (same_rid r) x xs none),
  one_push xs r w (absent_tail (same_rid r) x xs none) one.1,
)

pub push_puts : (xs : Held) (r : Rid) (w : Modes) → lookup (same_rid r) xs ≡ None → PutsRid xs (xs ++ (r, w) ∷ []) r (Some w)
push_puts xs r w none q = at (lookup (same_rid q) xs) refl
  where
    apart : (h : Modes) → lookup (same_rid q) xs ≡ Some h → same_rid r q ≡ false
    apart h e = ⊎_elim
        (λ is. let has : lookup (same_rid q) xs ≡ None = subst (λ (z : Rid). lookup (same_rid z) xs ≡ None) (same-rid-is r q is) none in absurd (cc (e, has)))
        (λ ne. ne)
        (cases_Bool (same_rid r q))

    at : (o : Option Modes) → lookup (same_rid q) xs ≡ o → lookup (same_rid q) (xs ++ (r, w) ∷ []) ≡ cond (same_rid r q) (Some w) (lookup (same_rid q) xs)
    at None e = look_right (same_rid q) xs ((r, w) ∷ []) e ∙ ap (λ (o : Option Modes). cond (same_rid q r) (Some w) o) (sym e) ∙ ap (λ (b : Bool). cond b (Some w) (lookup (same_rid q) xs)) (same_rid-sym q r)
    at (Some h) e = look_left (same_rid q) xs ((r, w) ∷ []) h e ∙ sym e ∙ sym (cond-false (same_rid r q) (Some w) (lookup (same_rid q) xs) (apart h e))
