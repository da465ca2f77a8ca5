-- The rows of a checkpoint's tables. For `spans_by_txn`, `in_order` and `recs_of`.
use Rattle.std.proofs.Common.{◌≡◌, ◌⊎◌, ⊎_elim, ℕ, zero, suc, ◌+◌, ◌^◌, ◌<◌, ◌≤◌, Bool, true, false, cond, ◌&&◌, List, [], ◌∷◌, ◌++◌, get_or, length, take, map, refl, sym, ap, ◌∙◌, subst, arith}
use Rattle.std.specs.Prelude.{Contains, Option, None, Some, ◌↔◌, ◌||◌, IsSome, nat_lt, slice_get}
use Rattle.std.specs.List.{AllByRecursion, IsDistinct, list_any}
use Rattle.std.specs.List.Sorted.{IsStrictlySortedBy}
use Rattle.std.specs.Map.{keys_of, lookup}
use Rattle.std.specs.Ordering.{eq_by_cmp}
use Rattle.std.specs.declared.cmp.Ordering.TheVariants.{Less}
use Rattle.std.proofs.Math.Seq.{take-length}
use Rattle.std.proofs.lemmas.Bool.{cases_Bool, cases_eq}
use Rattle.std.proofs.lemmas.Bool.Decides.{leb_tells, nat_tests}
use Rattle.std.proofs.lemmas.List.{length-map}
use Rattle.std.proofs.lemmas.List.Elements.{Contains-append_left, Contains-push, Contains-push_cases}
use Rattle.std.proofs.lemmas.List.Folds.{list_any-append}
use Rattle.std.proofs.lemmas.Map.Keys.{IsDistinct-from_sorted, sorted_head, sorted_tail}
use Rattle.std.proofs.lemmas.Map.Views.{Contains-from_lookup, lookup-from_Contains}
use Rattle.sd_base.specs.declared.ids.TxnId.{TxnId}
use Rattle.sd_base.specs.Ids.{same_txn, IsBelow}
use Rattle.sd_base.proofs.Lists.{take_next}
use Rattle.sd_base.proofs.Orders.{below_from_cmp, same-txn-is, txn_cmp, txn_is_eq}
use Rattle.sd_base.proofs.SameIds.{cases_txn, eq-same, ne-same}
use Rattle.sd_logrec.specs.Spelling.{AreRecs, AreSpans, Changed, IsTxn, Span, is_before, is_rising}
use Rattle.sd_moves.proofs.SettledStanding.{same-equiv}
use Rattle.sd_state.specs.Good.{HasNumber}
use Rattle.sd_txn.specs.Transactions.{Transaction, Transactions, ids, span_at}
use Rattle.sd_ckpt.specs.Rows.{IsInRange, flat_row}

abbrev pub Entry : Type 0
Entry = TxnId × (ℕ × ℕ)

-- ---- the map of a table's spans

-- once so many of its transactions are seen
abbrev pub HasSpans : Transactions → ℕ → List Entry → Type 0
HasSpans table n rows = (t : TxnId)
    → lookup (same_txn t) rows ≡ cond {A = Option (ℕ × ℕ)} (list_any (same_txn t) (take n (ids table))) (span_at table t) None

module _ (table : Transactions) (n : ℕ) (old : List Entry) (k : TxnId) (was : HasSpans table n old)
    (there : slice_get (ids table) n ≡ Some k) where
  grown : (t : TxnId) → list_any (same_txn t) (take (n + 1) (ids table))
      ≡ (list_any (same_txn t) (take n (ids table)) || (same_txn t k || false))
  grown t = ap (λ (j : ℕ). list_any (same_txn t) (take j (ids table))) (more n)
      ∙ ap (list_any (same_txn t)) (take_next (ids table) n k there) ∙ list_any-append (same_txn t) (take n (ids table)) (k ∷ [])
    where
      more : (n : ℕ) → n + 1 ≡ suc n
      more n = omega arith

  or-true : (a : Bool) → (a || (true || false)) ≡ true
  or-true true = refl
  or-true false = refl

  or-false : (a : Bool) → (a || (false || false)) ≡ a
  or-false true = refl
  or-false false = refl

  here : (t : TxnId) → t ≡ k → list_any (same_txn t) (take (n + 1) (ids table)) ≡ true
  here t e = grown t ∙ ap (λ (b : Bool). list_any (same_txn t) (take n (ids table)) || (b || false)) (eq-same t k e)
      ∙ or-true (list_any (same_txn t) (take n (ids table)))

  elsewhere : (t : TxnId) → (t ≡ k → ⊥) → list_any (same_txn t) (take (n + 1) (ids table))
      ≡ list_any (same_txn t) (take n (ids table))
  elsewhere t ne = grown t ∙ ap (λ (b : Bool). list_any (same_txn t) (take n (ids table)) || (b || false)) (ne-same t k ne)
      ∙ or-false (list_any (same_txn t) (take n (ids table)))

  -- one more that has a record
  pub more-spans : (new : List Entry) (s : ℕ × ℕ) → span_at table k ≡ Some s
      → ((t : TxnId) → lookup (same_txn t) new ≡ cond (same_txn k t) (Some s) (lookup (same_txn t) old)) → HasSpans table (n + 1) new
  more-spans new s is put t = put t ∙ ⊎_elim
      (λ e. ap (λ (b : Bool). cond {A = Option (ℕ × ℕ)} b (Some s) (lookup (same_txn t) old)) (eq-same k t (sym e))
      ∙ sym is ∙ ap (span_at table) (sym e)
      ∙ sym (ap (λ (b : Bool). cond {A = Option (ℕ × ℕ)} b (span_at table t) None) (here t e)))
      (λ ne. ap (λ (b : Bool). cond {A = Option (ℕ × ℕ)} b (Some s) (lookup (same_txn t) old)) (ne-same k t (λ e. ne (sym e)))
      ∙ was t ∙ sym (ap (λ (b : Bool). cond {A = Option (ℕ × ℕ)} b (span_at table t) None) (elsewhere t ne)))
      (cases_txn t k)

  -- and one that has none
  pub same-spans : span_at table k ≡ None → HasSpans table (n + 1) old
  same-spans none t = was t ∙ ⊎_elim
      (λ e. let off : span_at table t ≡ None = ap (span_at table) e ∙ none in
      ap (λ (o : Option (ℕ × ℕ)). cond {A = Option (ℕ × ℕ)} (list_any (same_txn t) (take n (ids table))) o None) off
      ∙ both (list_any (same_txn t) (take n (ids table))) (list_any (same_txn t) (take (n + 1) (ids table)))
      ∙ sym (ap (λ (o : Option (ℕ × ℕ)). cond {A = Option (ℕ × ℕ)} (list_any (same_txn t) (take (n + 1) (ids table))) o None) off))
      (λ ne. sym (ap (λ (b : Bool). cond {A = Option (ℕ × ℕ)} b (span_at table t) None) (elsewhere t ne)))
      (cases_txn t k)
    where
      none-either : (a : Bool) → cond {A = Option (ℕ × ℕ)} a None None ≡ None
      none-either true = refl
      none-either false = refl

      both : (a b : Bool) → cond {A = Option (ℕ × ℕ)} a None None ≡ cond {A = Option (ℕ × ℕ)} b None None
      both a b = none-either a ∙ sym (none-either b)

-- all of them
pub all-spans : (table : Transactions) (n : ℕ) (rows : List Entry) → HasSpans table n rows → n ≡ length (ids table) → (t : TxnId)
    → lookup (same_txn t) rows ≡ span_at table t
all-spans table n rows all whole t = all t
    ∙ ap (λ (ts : List TxnId). cond {A = Option (ℕ × ℕ)} (list_any (same_txn t) ts) (span_at table t) None)
    (ap (λ (j : ℕ). take j (ids table)) whole ∙ take-length (ids table))
    ∙ by table.unresolved
  where
    by : (xs : List (TxnId × Transaction)) → cond {A = Option (ℕ × ℕ)} (list_any (same_txn t) (keys_of xs))
        (span_at (record table { unresolved = xs }) t) None ≡ span_at (record table { unresolved = xs }) t
    by [] = refl
    by (x ∷ xs) = ⊎_elim
        (λ is. rw is refl)
        (λ off. rw off (by xs))
        (cases_Bool (same_txn t x.0))

-- ---- the rows of the map

before-is : (t u : TxnId) → IsBelow t u → is_before t u ≡ true
before-is t u below = grind (arith, nat_tests)

-- keys in order rise
rows-rise : (es : List Entry) → IsStrictlySortedBy txn_cmp (keys_of es)
    → is_rising (λ (s t : Span). is_before s.0 t.0) (map flat_row es) ≡ true
rows-rise [] sorted = refl
rows-rise (e ∷ []) sorted = refl
rows-rise (e ∷ (d ∷ es)) sorted =
    let first : txn_cmp e.0 d.0 ≡ Less = (sorted_head txn_cmp e.0 (keys_of (d ∷ es)) sorted).0 in
    let rest = rows-rise (d ∷ es) (sorted_tail txn_cmp e.0 (keys_of (d ∷ es)) sorted) in
    ap (λ (b : Bool). b && is_rising (λ (s t : Span). is_before s.0 t.0) (map flat_row (d ∷ es)))
    (before-is e.0 d.0 (below_from_cmp e.0 d.0 first)) ∙ rest

-- a look-up finds exactly what is there
entry-there : (es : List Entry) → IsStrictlySortedBy txn_cmp (keys_of es) → (t : TxnId) (s : ℕ × ℕ)
    → Contains es (t, s) ↔ (lookup (same_txn t) es ≡ Some s)
entry-there es sorted t s = (lookup-from_Contains same-equiv t s es distinct, Contains-from_lookup same-txn-is t s es)
  where
    tests : eq_by_cmp txn_cmp ≡ same_txn
    tests = λ i a b. txn_is_eq a b i

    distinct : IsDistinct same_txn (keys_of es)
    distinct = subst (λ (e : TxnId → TxnId → Bool). IsDistinct e (keys_of es)) tests (IsDistinct-from_sorted txn_cmp (keys_of es) sorted)

row-has : (es : List Entry) (k : ℕ) (e : Entry) → k < length es → get_or es k e ≡ e
    → (k < length (map flat_row es)) × (get_or (map flat_row es) k (flat_row e) ≡ flat_row e)
row-has [] k e lt is = absurd (omega (arith, lt))
row-has (x ∷ es) zero e lt is = (omega arith, ap flat_row is)
row-has (x ∷ es) (suc k) e lt is = let ih = row-has es k e (omega (arith, lt)) is in let far = ih.0 in (omega (arith, far), ih.1)

abbrev unflat : Span → Entry
unflat s = (s.0, (s.1, s.2))

has-row : (es : List Entry) (k : ℕ) (t : TxnId) (s : ℕ × ℕ) → k < length (map flat_row es)
    → get_or (map flat_row es) k (flat_row (t, s)) ≡ flat_row (t, s) → (k < length es) × (get_or es k (t, s) ≡ (t, s))
has-row [] k t s lt is = absurd (omega (arith, lt))
has-row (x ∷ es) zero t s lt is = (omega arith, ap unflat is)
has-row (x ∷ es) (suc k) t s lt is = let ih = has-row es k t s (omega (arith, lt)) is in let far = ih.0 in (omega (arith, far), ih.1)

pub rows-are : (es : List Entry) → IsStrictlySortedBy txn_cmp (keys_of es) → (t : TxnId) (s : ℕ × ℕ)
    → Contains (map flat_row es) (t, s.0, s.1) ↔ (lookup (same_txn t) es ≡ Some s)
rows-are es sorted t s = (
  (λ has. let at = has-row es has.0 t s has.1 has.2 in (entry-there es sorted t s).0 (has.0, at.0, at.1)),
  (λ is. let at = (entry-there es sorted t s).1 is in let row = row-has es at.0 (t, s) at.1 at.2 in (at.0, row.0, row.1)),
)

-- what holds of each that is found holds of all
numbered-all : (es : List Entry) (P : TxnId → Type 0) → ((k : ℕ) (e : Entry) → k < length es → get_or es k e ≡ e → P e.0)
    → AllByRecursion (λ (s : Span). P s.0) (map flat_row es)
numbered-all [] P each = tt
numbered-all (x ∷ es) P each = (
  each zero x (omega arith) refl,
  numbered-all es P (λ k e lt is. each (suc k) e (omega (arith, lt)) is),
)

ranges : (rows : List Span) → AllByRecursion IsInRange rows → AllByRecursion (λ (s : Span). HasNumber s.0) rows
    → AllByRecursion (λ s. IsTxn s.0 × (s.1 < 2 ^ 64) × (s.2 < 2 ^ 64)) rows
ranges [] within numbered = tt
ranges (s ∷ rows) within numbered = let r = within.0 in let n = numbered.0 in (
  (record { low = r.low; high = r.high; epoch = (n.0, r.epoch); seq = (n.1, r.seq) }, r.first, r.last),
  ranges rows within.1 numbered.1,
)

-- each entry is a row
pub rows-count : (es : List Entry) → length (map flat_row es) ≡ length es
rows-count es = length-map es flat_row

pub rows-spelled : (es : List Entry) → IsStrictlySortedBy txn_cmp (keys_of es) → length es ≤ 64
    → ((t : TxnId) → IsSome (lookup (same_txn t) es) → HasNumber t) → AllByRecursion IsInRange (map flat_row es)
    → AreSpans (map flat_row es)
rows-spelled es sorted few numbered within = record {
  count = let same = rows-count es in omega (arith, same, few);
  each = ranges (map flat_row es) within (numbered-all es HasNumber (λ k e lt is. numbered e.0
      (some (lookup (same_txn e.0) es) e.1 ((entry-there es sorted e.0 e.1).0 (k, lt, is)))));
  rising = rows-rise es sorted;
}
  where
    some : (o : Option (ℕ × ℕ)) (s : ℕ × ℕ) → o ≡ Some s → IsSome o
    some o s e = subst (λ (x : Option (ℕ × ℕ)). IsSome x) (sym e) refl

-- one more row
pub moved-row : (rows : List Span) (x : Span) (ys : List Span) → (rows ++ x ∷ []) ++ ys ≡ rows ++ x ∷ ys
moved-row [] x ys = refl
moved-row (r ∷ rows) x ys = ap (λ (l : List Span). r ∷ l) (moved-row rows x ys)

pub in-range-more : (rows : List Span) (x : Span) → AllByRecursion IsInRange rows → IsInRange x
    → AllByRecursion IsInRange (rows ++ x ∷ [])
in-range-more [] x all is = (is, tt)
in-range-more (r ∷ rows) x all is = (all.0, in-range-more rows x all.1 is)

-- ---- the changed pages

-- of the pages below n
pub record HasRecs (rec_lsn : ℕ → Option ℕ) (n : ℕ) (rows : List Changed) : Type 0 where
  pub rows_are : (p l : ℕ) → Contains rows (p, l) ↔ ((p < n) × (rec_lsn p ≡ Some l))
  pub count : length rows ≤ n
  pub each : AllByRecursion (λ (c : Changed). (c.0 < n) × (c.1 < 2 ^ 64)) rows
  pub rising : is_rising (λ (c d : Changed). nat_lt c.0 d.0) rows ≡ true

pub none-yet : (rec_lsn : ℕ → Option ℕ) → HasRecs rec_lsn 0 []
none-yet rec_lsn = record {
  rows_are = λ p l. ((λ has. absurd (let far = has.1 in omega (arith, far))), (λ h. absurd (let far = h.0 in omega (arith, far))));
  count = omega arith;
  each = tt;
  rising = refl;
}

each-further : (n : ℕ) (rows : List Changed) → AllByRecursion (λ (c : Changed). (c.0 < n) × (c.1 < 2 ^ 64)) rows
    → AllByRecursion (λ (c : Changed). (c.0 < n + 1) × (c.1 < 2 ^ 64)) rows
each-further n [] all = tt
each-further n (c ∷ rows) all = let low = all.0.0 in ((omega (arith, low), all.0.1), each-further n rows all.1)

each-more : (n l : ℕ) (rows : List Changed) → l < 2 ^ 64 → AllByRecursion (λ (c : Changed). (c.0 < n) × (c.1 < 2 ^ 64)) rows
    → AllByRecursion (λ (c : Changed). (c.0 < n + 1) × (c.1 < 2 ^ 64)) (rows ++ (n, l) ∷ [])
each-more n l [] small all = ((omega arith, small), tt)
each-more n l (c ∷ rows) small all = let low = all.0.0 in ((omega (arith, low), all.0.1), each-more n l rows small all.1)

rises-more : (n l : ℕ) (rows : List Changed) → AllByRecursion (λ (c : Changed). (c.0 < n) × (c.1 < 2 ^ 64)) rows
    → is_rising (λ (c d : Changed). nat_lt c.0 d.0) rows ≡ true
    → is_rising (λ (c d : Changed). nat_lt c.0 d.0) (rows ++ (n, l) ∷ []) ≡ true
rises-more n l [] all rises = refl
rises-more n l (c ∷ []) all rises = let low = all.0.0 in lower c.0 n low
  where
    lower : (a b : ℕ) → a < b → (nat_lt a b && true) ≡ true
    lower a b lt = grind (arith, nat_tests)
rises-more n l (c ∷ (d ∷ rows)) all rises =
    let parts = split (nat_lt c.0 d.0) (is_rising (λ (x z : Changed). nat_lt x.0 z.0) (d ∷ rows)) rises in
    ap (λ (b : Bool). b && is_rising (λ (x z : Changed). nat_lt x.0 z.0) ((d ∷ rows) ++ (n, l) ∷ [])) parts.0
    ∙ rises-more n l (d ∷ rows) all.1 parts.1
  where
    split : (a b : Bool) → (a && b) ≡ true → (a ≡ true) × (b ≡ true)
    split true b e = (refl, e)
    split false b e = absurd (cc)

-- page n is changed, or it isn't
pub more-recs : (rec_lsn : ℕ → Option ℕ) (n l : ℕ) (rows : List Changed) → HasRecs rec_lsn n rows → rec_lsn n ≡ Some l → l < 2 ^ 64
    → HasRecs rec_lsn (n + 1) (rows ++ (n, l) ∷ [])
more-recs rec_lsn n l rows h is small = record {
  rows_are = λ p k. (
    (λ has. ⊎_elim
        (λ old. let at = (h.rows_are p k).0 old in let low = at.0 in (omega (arith, low), at.1))
        (λ new. let page : n ≡ p = ap (λ (c : Changed). c.0) new in let lsn : l ≡ k = ap (λ (c : Changed). c.1) new in
        (omega (arith, page), ap rec_lsn (sym page) ∙ is ∙ ap (λ (x : ℕ). Some x) lsn))
        (Contains-push_cases rows (n, l) (p, k) has)),
    (λ at. ⊎_elim
        (λ e. let same : Some l ≡ Some k = sym is ∙ ap rec_lsn (sym e) ∙ at.1 in let lsn : l ≡ k = cc in
        subst (λ (c : Changed). Contains (rows ++ (n, l) ∷ []) c) (pair n l p k (sym e) lsn) (Contains-push rows (n, l)))
        (λ ne. let low = at.0 in Contains-append_left rows ((n, l) ∷ []) (p, k)
        ((h.rows_are p k).1 (omega (arith, low, ne), at.1)))
        (cases p n)),
  );
  count = let was = h.count in let len = longer rows in omega (arith, was, len);
  each = each-more n l rows small h.each;
  rising = rises-more n l rows h.each h.rising;
}
  where
    longer : (xs : List Changed) → length (xs ++ (n, l) ∷ []) ≡ length xs + 1
    longer [] = refl
    longer (x ∷ xs) = let ih = longer xs in omega (arith, ih)

    pair : (a b c d : ℕ) → a ≡ c → b ≡ d → ◌≡◌ {A = Changed} (a, b) (c, d)
    pair a b c d e f = cc

    cases : (a b : ℕ) → (a ≡ b) ⊎ (a ≡ b → ⊥)
    cases a b = cases_eq a b

pub same-recs : (rec_lsn : ℕ → Option ℕ) (n : ℕ) (rows : List Changed) → HasRecs rec_lsn n rows → rec_lsn n ≡ None
    → HasRecs rec_lsn (n + 1) rows
same-recs rec_lsn n rows h none = record {
  rows_are = λ p k. (
    (λ has. let at = (h.rows_are p k).0 has in let low = at.0 in (omega (arith, low), at.1)),
    (λ at. (h.rows_are p k).1 (
      ⊎_elim
          (λ e. let clash = sym none ∙ ap rec_lsn (sym e) ∙ at.1 in absurd (cc))
          (λ ne. let low = at.0 in omega (arith, low, ne))
          (cases_eq p n),
      at.1,
    )),
  );
  count = let was = h.count in omega (arith, was);
  each = each-further n rows h.each;
  rising = h.rising;
}

-- all pages are seen
pub all-recs : (rec_lsn : ℕ → Option ℕ) (rows : List Changed) → HasRecs rec_lsn 1024 rows
    → ((p : ℕ) → 1024 ≤ p → rec_lsn p ≡ None)
    → ((p l : ℕ) → Contains rows (p, l) ↔ (rec_lsn p ≡ Some l)) × AreRecs rows
all-recs rec_lsn rows h past = (
  (λ p l. (
    (λ has. ((h.rows_are p l).0 has).1),
    (λ is. (h.rows_are p l).1 (
      ⊎_elim
          (λ far. let clash = sym (past p far.1) ∙ is in absurd (cc))
          (λ low. let lt = low.1 in omega (arith, lt))
          (leb_tells 1024 p),
      is,
    )),
  )),
  record { count = let few = h.count in omega (arith, few); each = h.each; rising = h.rising },
)
