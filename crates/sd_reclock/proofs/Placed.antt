-- Locks that change in a row: what it says of all rows. It serves few.rt.
use Rattle.std.proofs.Common.{◌≡◌, ℕ, suc, ◌+◌, ◌-◌, ◌<◌, ◌≤◌, ◌≢◌, Bool, true, false, ◌&&◌, cond, [], ◌∷◌, ◌++◌, length, get_or, set, Option, Some, None, refl, sym, ap, subst, ◌∙◌, ⊎_elim, arith}
use Rattle.std.specs.Prelude.{if◌then◌else◌}
use Rattle.std.specs.List.{remove}
use Rattle.std.specs.Map.{lookup}
use Rattle.std.proofs.lemmas.Bool.{cond-true, cond-false, cases_Bool, cases_eq, cases_lt}
use Rattle.std.proofs.lemmas.List.{length-set, get_or_default, get_or-set_same, get_or-set_other, set-get_or}
use Rattle.std.proofs.lemmas.List.Edits.{get_or-remove_above, length-remove}
use Rattle.sd_base.specs.declared.ids.TxnId.{TxnId}
use Rattle.sd_base.specs.declared.ids.Rid.{Rid}
use Rattle.sd_base.specs.declared.place.Mode.{Mode}
use Rattle.sd_base.specs.Ids.{same_rid, same_txn}
use Rattle.sd_reclock.specs.Locks.{Held, Modes, held_in, mode_of, mode_among, raised, IsNoStronger}
use Rattle.sd_reclock.specs.Placing.{AddsNone, HasNone, IsOneEach, IsPlace}
use Rattle.sd_reclock.proofs.Writes.{Changes, PutsRid, changes, changes_lacking, put_then_remove}
use Rattle.sd_reclock.proofs.Agreeing.{Frees}
use Rattle.sd_reclock.proofs.Placing.{Entry, found_row_at, missing_at, one_push, one_before, one_set, one_remove, puts_row, takes_row, absent_set, absent_remove}
use Rattle.sd_base.proofs.Orders.{same-txn-is, same-rid-is, same_rid-sym}

pub found_in : (xs rows : Held) (r : Rid) (at : ℕ) (e : Entry) → xs ≡ rows → IsOneEach xs → (at < length rows) × ((d : Entry) → (get_or rows at d).0 ≡ r) → e ≡ get_or xs at e
    → Some e.1 ≡ lookup (same_rid r) rows
found_in xs rows r at e view one here is = ap (λ (x : Entry). Some x.1) (is ∙ ap (λ (l : Held). get_or l at e) view)
    ∙ sym (subst (λ (z : Rid). lookup (same_rid z) rows ≡ Some (get_or rows at e).1) (here.1 e) (found_row_at rows at e (subst (λ (l : Held). IsOneEach l) view one) here.0))

-- the row at a place has w now
module _ (xs : Held) (at : ℕ) (e : Entry) (w : Modes) (lt : at < length xs) (here : e ≡ get_or xs at e) where
  pub one_written : IsOneEach xs → IsOneEach (set xs at (e.0, w))
  one_written one = subst (λ (z : Entry). IsOneEach (set xs at (z.0, w))) (sym here) (one_set xs at e w lt one)

  pub adds_written : AddsNone xs (set xs at (e.0, w))
  adds_written q none = subst (λ (z : Entry). lookup (same_rid q) (set xs at (z.0, w)) ≡ None) (sym here) (absent_set (same_rid q) xs at e w lt none)

  pub puts_written : IsOneEach xs → PutsRid xs (set xs at (e.0, w)) e.0 (Some w)
  puts_written one = subst (λ (z : Entry). PutsRid xs (set xs at (z.0, w)) z.0 (Some w)) (sym here)
      (puts_row xs at e w lt (λ k h. one_before xs at k e one lt h))

  pub held_at : IsOneEach xs → (u : TxnId) → held_in xs u e.0 ≡ mode_of e.1 u
  held_at one u = ap (λ (o : Option Modes). mode_among o u) (subst (λ (z : Entry). lookup (same_rid z.0) xs ≡ Some z.1) (sym here) (found_row_at xs at e one lt))

  pub changes_written : (t : TxnId) (x : Option Mode) → IsOneEach xs → ((u : TxnId) → mode_of w u ≡ cond {A = Option Mode} (same_txn t u) x (mode_of e.1 u))
      → Changes xs (set xs at (e.0, w)) t e.0 x
  changes_written t x one modes = changes xs (set xs at (e.0, w)) t e.0 (Some w) x (puts_written one)
      (λ u. modes u ∙ ap (λ (m : Option Mode). cond {A = Option Mode} (same_txn t u) x m) (sym (held_at one u)))

  pub same_key : (d : Entry) → e.0 ≡ (get_or xs at d).0
  same_key d = ap (λ (z : Entry). z.0) (here ∙ get_or_default xs at e d lt)

  pub same_row : (d : Entry) → e ≡ get_or xs at d
  same_row d = here ∙ get_or_default xs at e d lt

  -- and is taken out, where w has no lock
  mid_key : (get_or (set xs at (e.0, w)) at e).0 ≡ e.0
  mid_key = ap (λ (z : Entry). z.0) (get_or-set_same xs at (e.0, w) e lt)

  pub puts_taken : IsOneEach xs → PutsRid xs (remove (set xs at (e.0, w)) at) e.0 None
  puts_taken one = put_then_remove xs (set xs at (e.0, w)) (remove (set xs at (e.0, w)) at) e.0 (Some w) (puts_written one)
      (subst (λ (z : Rid). PutsRid (set xs at (e.0, w)) (remove (set xs at (e.0, w)) at) z None) mid_key
      (takes_row (set xs at (e.0, w)) at e (one_written one) (subst (λ (n : ℕ). at < n) (sym (length-set xs at (e.0, w))) lt)))

  pub changes_taken : (t : TxnId) (x : Option Mode) → IsOneEach xs → ((u : TxnId) → mode_of w u ≡ cond {A = Option Mode} (same_txn t u) x (mode_of e.1 u)) → w ≡ []
      → Changes xs (remove (set xs at (e.0, w)) at) t e.0 x
  changes_taken t x one modes gone = changes xs (remove (set xs at (e.0, w)) at) t e.0 None x (puts_taken one)
      (λ u. sym (ap (λ (h : Modes). mode_of h u) gone) ∙ modes u ∙ ap (λ (m : Option Mode). cond {A = Option Mode} (same_txn t u) x m) (sym (held_at one u)))

  pub adds_taken : AddsNone xs (remove (set xs at (e.0, w)) at)
  adds_taken q none = absent_remove (same_rid q) (set xs at (e.0, w)) at (adds_written q none)

  pub one_taken : IsOneEach xs → IsOneEach (remove (set xs at (e.0, w)) at)
  one_taken one = one_remove (set xs at (e.0, w)) at (one_written one)

  pub behind_written : (t : TxnId) → mode_of w t ≡ None → HasNone t (at + 1) xs → HasNone t at (set xs at (e.0, w))
  behind_written t gone none k d le inside = ⊎_elim
      (λ h. ap (λ (z : Entry). mode_of z.1 t) (ap (λ (n : ℕ). get_or (set xs at (e.0, w)) n d) h ∙ get_or-set_same xs at (e.0, w) d lt) ∙ gone)
      (λ ne. ap (λ (z : Entry). mode_of z.1 t) (get_or-set_other xs at k (e.0, w) d ne) ∙ none k d (after k le ne) (within k inside))
      (cases_eq k at)
    where
      after : (k : ℕ) → at ≤ k → k ≢ at → at + 1 ≤ k
      after k le ne = ⊎_elim (λ h. omega (arith, h)) (λ h. absurd (ne (omega (arith, le, h)))) (cases_lt at k)

      within : (k : ℕ) → k < length (set xs at (e.0, w)) → k < length xs
      within k inside = subst (λ (n : ℕ). k < n) (length-set xs at (e.0, w)) inside

  pub behind_taken : (t : TxnId) → HasNone t (at + 1) xs → HasNone t at (remove (set xs at (e.0, w)) at)
  behind_taken t none k d le inside =
      let same = length-set xs at (e.0, w) in
      let lies : at < length (set xs at (e.0, w)) = omega (arith, same, lt) in
      let less = length-remove (set xs at (e.0, w)) at lies in
      ap (λ (z : Entry). mode_of z.1 t) (get_or-remove_above (set xs at (e.0, w)) at d k le lies ∙ get_or-set_other xs at (k + 1) (e.0, w) d (λ h. past le h))
      ∙ none (k + 1) d (omega (arith, le)) (omega (arith, same, less, inside))
    where
      past : {k : ℕ} → at ≤ k → k + 1 ≡ at → ⊥
      past le h = absurd (omega (arith, le, h))

  pub inside_written : at ≤ length (set xs at (e.0, w))
  inside_written = let same = length-set xs at (e.0, w) in omega (arith, same, lt)

  pub inside_taken : at ≤ length (remove (set xs at (e.0, w)) at)
  inside_taken =
      let same = length-set xs at (e.0, w) in
      let lies : at < length (set xs at (e.0, w)) = omega (arith, same, lt) in
      let less = length-remove (set xs at (e.0, w)) at lies in
      omega (arith, same, less, lt)

-- a row that is written back
pub back : (xs : Held) (at : ℕ) (e : Entry) (w : Modes) → e ≡ get_or xs at e → w ≡ e.1 → set xs at (e.0, w) ≡ xs
back xs at e w here same = ap (λ (m : Modes). set xs at (e.0, m)) same ∙ ap (λ (z : Entry). set xs at (z.0, z.1)) here ∙ set-get_or xs at e

-- a row in which t has no lock
pub lacks_row : (xs : Held) (at : ℕ) (e : Entry) (t : TxnId) → IsOneEach xs → at < length xs → e ≡ get_or xs at e → mode_of e.1 t ≡ None → (d : Entry)
    → Changes xs xs t (get_or xs at d).0 None
lacks_row xs at e t one lt here none d = subst (λ (z : Rid). Changes xs xs t z None) (same_key xs at e [] lt here d)
    (changes_lacking xs t e.0 (held_at xs at e [] lt here one t ∙ none))

pub lacks_behind : (xs : Held) (at : ℕ) (e : Entry) (t : TxnId) → at < length xs → e ≡ get_or xs at e → mode_of e.1 t ≡ None → HasNone t (at + 1) xs → HasNone t at xs
lacks_behind xs at e t lt here none behind k d le inside = ⊎_elim
    (λ h. ap (λ (n : ℕ). mode_of (get_or xs n d).1 t) h ∙ ap (λ (z : Entry). mode_of z.1 t) (sym (same_row xs at e [] lt here d)) ∙ none)
    (λ ne. behind k d (after ne) inside)
    (cases_eq k at)
  where
    after : k ≢ at → at + 1 ≤ k
    after ne = ⊎_elim (λ h. omega (arith, h)) (λ h. absurd (ne (omega (arith, le, h)))) (cases_lt at k)

-- From a place on t has no lock; the others have what they had.
pub record IsFreedFrom (t : TxnId) (at : ℕ) (old new : Held) : Type 0 where
  pub one : IsOneEach new
  pub inside : at ≤ length new
  pub behind : HasNone t at new
  pub adds : AddsNone old new
  pub others : (u : TxnId) (q : Rid) → same_txn t u ≡ false → held_in new u q ≡ held_in old u q

pub freed_start : (t : TxnId) (n : ℕ) (old : Held) → n ≡ length old → IsOneEach old → IsFreedFrom t n old old
freed_start t n old is one = record {
  one = one;
  inside = omega (arith, is);
  behind = λ k d le lt. absurd (omega (arith, is, le, lt));
  adds = λ q none. none;
  others = λ u q apart. refl;
}

pub freed_more : (t : TxnId) (n : ℕ) (key : Rid) (old mid new : Held) → 0 < n → IsFreedFrom t n old mid → Changes mid new t key None → AddsNone mid new → IsOneEach new
    → n - 1 ≤ length new → (HasNone t (n - 1 + 1) mid → HasNone t (n - 1) new) → IsFreedFrom t (n - 1) old new
freed_more t n key old mid new some freed changed adds one inside behind = record {
  one = one;
  inside = inside;
  behind = behind (λ k d le lt. freed.behind k d (omega (arith, some, le)) lt);
  adds = λ q none. adds q (freed.adds q none);
  others = λ u q apart. changed u q ∙ ap (λ (b : Bool). cond {A = Option Mode} (b && same_rid key q) None (held_in mid u q)) apart ∙ freed.others u q apart;
}

none_held : (t : TxnId) (test : Rid → Bool) (rows : Held) → HasNone t 0 rows → mode_among (lookup test rows) t ≡ None
none_held t test [] none = refl
none_held t test (x ∷ xs) none = ⊎_elim
    (λ h. ap (λ (o : Option Modes). mode_among o t) (cond-true (test x.0) (Some x.1) (lookup test xs) h) ∙ none 0 x (omega arith) (omega arith))
    (λ h. ap (λ (o : Option Modes). mode_among o t) (cond-false (test x.0) (Some x.1) (lookup test xs) h)
    ∙ none_held t test xs (λ k d le lt. none (suc k) d (omega arith) (omega (arith, lt))))
    (cases_Bool (test x.0))

pub freed_all : (t : TxnId) (n : ℕ) (old new : Held) → n ≡ 0 → IsFreedFrom t n old new → Frees old new t
freed_all t n old new end freed u q = ⊎_elim
    (λ h. subst (λ (z : TxnId). held_in new z q ≡ None) (same-txn-is t u h) (none_held t (same_rid q) new (subst (λ (k : ℕ). HasNone t k new) end freed.behind))
    ∙ sym (cond-true (same_txn t u) None (held_in old u q) h))
    (λ h. freed.others u q h ∙ sym (cond-false (same_txn t u) None (held_in old u q) h))
    (cases_Bool (same_txn t u))

-- a lock that is given or raised in a row
pub raised_row : (xs old : Held) (at : ℕ) (e : Entry) (w : Modes) → at < length xs → e ≡ get_or xs at e → (t : TxnId) (mode : Mode) → xs ≡ old → IsOneEach xs
    → ((u : TxnId) → mode_of w u ≡ cond {A = Option Mode} (same_txn t u) (Some (raised (mode_of e.1 t) mode)) (mode_of e.1 u)) → (d : Entry)
    → Changes old (set xs at (e.0, w)) t (get_or old at d).0 (Some (raised (held_in old t (get_or old at d).0) mode))
raised_row xs old at e w lt here t mode view one modes d = subst (λ (o : Held). Changes o (set xs at (e.0, w)) t (get_or o at d).0 (Some (raised (held_in o t (get_or o at d).0) mode))) view
    (subst (λ (z : Rid). Changes xs (set xs at (e.0, w)) t z (Some (raised (held_in xs t z) mode))) (same_key xs at e w lt here d)
    (subst (λ (m : Option Mode). Changes xs (set xs at (e.0, w)) t e.0 (Some (raised m mode))) (sym (held_at xs at e w lt here one t))
    (changes_written xs at e w lt here t (Some (raised (mode_of e.1 t) mode)) one modes)))

pub one_pushed : (b : Bool) (xs old new : Held) (r : Rid) (w : Modes) → new ≡ (if b then xs ++ (r, w) ∷ [] else xs) → xs ≡ old → lookup (same_rid r) old ≡ None → IsOneEach xs → IsOneEach new
one_pushed true xs old new r w is view none one = subst (λ (l : Held). IsOneEach l) (sym is) (one_push xs r w (ap (λ (l : Held). lookup (same_rid r) l) view ∙ none) one)
one_pushed false xs old new r w is view none one = subst (λ (l : Held). IsOneEach l) (sym is) one

-- the rows in front of a place are of other records
abbrev pub NotIn : Rid → ℕ → Held → Type 0
NotIn r n rows = (k : ℕ) (d : Entry) → k < n → k < length rows → same_rid r (get_or rows k d).0 ≡ false

pub not_in_next : (rows : Held) (r : Rid) (at : ℕ) (e : Entry) → at < length rows → same_rid (get_or rows at e).0 r ≡ false → NotIn r at rows → NotIn r (at + 1) rows
not_in_next rows r at e lt other before k d less inside = ⊎_elim
    (λ h. before k d h inside)
    (λ h. let same : k ≡ at = omega (arith, h, less) in
    ap (λ (n : ℕ). same_rid r (get_or rows n d).0) same
    ∙ ap (λ (z : Entry). same_rid r z.0) (get_or_default rows at d e lt) ∙ same_rid-sym r (get_or rows at e).0 ∙ other)
    (cases_lt k at)

pub is_place : (rows : Held) (r : Rid) (at : ℕ) (e : Entry) → at < length rows → same_rid (get_or rows at e).0 r ≡ true → IsPlace rows r (Some at)
is_place rows r at e lt same = (lt, λ d. ap (λ (z : Entry). z.0) (get_or_default rows at d e lt) ∙ same-rid-is (get_or rows at e).0 r same)

pub no_place : (rows : Held) (r : Rid) (at : ℕ) → length rows ≤ at → NotIn r at rows → IsPlace rows r None
no_place rows r at past before = missing_at (same_rid r) rows (r, []) (λ k lt. before k (r, []) (omega (arith, past, lt)) lt)

-- what the locks say of a row's
pub weaker_row : (xs old : Held) (at : ℕ) (t : TxnId) (to : Option Mode) → xs ≡ old → IsOneEach xs → at < length old → ((d : Entry) → IsNoStronger to (held_in old t (get_or old at d).0))
    → (d : Entry) → IsNoStronger to (mode_of (get_or xs at d).1 t)
weaker_row xs old at t to view one lt weaker d = subst (λ (l : Held). IsNoStronger to (mode_of (get_or l at d).1 t)) (sym view)
    (subst (λ (m : Option Mode). IsNoStronger to m) (ap (λ (o : Option Modes). mode_among o t) (found_row_at old at d (subst (λ (l : Held). IsOneEach l) view one) lt)) (weaker d))
