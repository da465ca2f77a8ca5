-- Rows in the rising order of their transactions. It serves the goals of closed.rt.
use Rattle.std.proofs.Common.{◌≡◌, ℕ, zero, ◌+◌, ◌-◌, ◌<◌, Bool, true, false, cond, List, [], ◌∷◌, ◌++◌, length, Option, None, Some, slice_get, refl, sym, ap, subst, ◌∙◌, ⊎_elim, arith, suc, get_or}
use Rattle.std.specs.Cmp.{IsTotalOrder}
use Rattle.std.specs.List.{AllByRecursion}
use Rattle.std.specs.List.Sorted.{IsNonDecreasingBy, IsPartitionPoint, IsStrictlySortedBy}
use Rattle.std.specs.Map.{keys_of, lookup}
use Rattle.std.specs.Ordering.{is_eq, is_lt, ordering_index, ordering_reverse}
use Rattle.std.specs.declared.cmp.Ordering.{Ordering}
use Rattle.std.specs.declared.cmp.Ordering.TheVariants.{Less, Equal, Greater}
use Rattle.std.proofs.lemmas.Cmp.{eq_by_cmp_equiv, nat_cmp_total, on_total, then_total}
use Rattle.std.proofs.lemmas.Bool.{cases_Bool}
use Rattle.std.proofs.lemmas.List.{map-append}
use Rattle.std.proofs.lemmas.List.Sorted.{searchable_from_sorted}
use Rattle.std.proofs.lemmas.Map.Entries.{lookup_at_gap, lookup_from_place}
use Rattle.std.proofs.lemmas.Map.Keys.{IsDistinct-from_sorted, sorted_head, sorted_tail}
use Rattle.std.proofs.lemmas.Option.{get_or_from_slice_get, slice_get_within}
use Rattle.sd_base.specs.declared.ids.TxnId.{TxnId}
use Rattle.sd_base.specs.Ids.{same_txn}
use Rattle.sd_base.proofs.Orders.{look-txn, same-txn-is, txn_cmp, txn_is_eq}
use Rattle.sd_base.proofs.SameIds.{cases_txn, eq-same, ne-same}

abbrev pub Row : Type 0
Row = TxnId × ℕ

abbrev pub AreRising : List Row → Type 0
AreRising rows = IsStrictlySortedBy txn_cmp (keys_of rows)

abbrev pub AreBelow : TxnId → List TxnId → Type 0
AreBelow t ts = AllByRecursion (λ u. txn_cmp u t ≡ Less) ts

pub txn_total : IsTotalOrder txn_cmp
txn_total = then_total (on_total (λ (t : TxnId). t.inst) nat_cmp_total)
    (then_total (on_total (λ (t : TxnId). t.epoch) nat_cmp_total) (on_total (λ (t : TxnId). t.seq) nat_cmp_total))

above_is : (t u : TxnId) → txn_cmp u t ≡ Less → txn_cmp t u ≡ Greater
above_is t u e = txn_total.antisymm t u ∙ ap ordering_reverse e

below_is : (t u : TxnId) → txn_cmp u t ≡ Greater → txn_cmp t u ≡ Less
below_is t u e = txn_total.antisymm t u ∙ ap ordering_reverse e

pub less_is : (o : Ordering) → is_lt o ≡ true → o ≡ Less
less_is Less e = refl
less_is Equal e = absurd (cc)
less_is Greater e = absurd (cc)

-- ---- what a search finds

next_above : (rows : List Row) (k : ℕ) (d : Row) → AreRising rows → suc k < length rows → txn_cmp (get_or rows k d).0 (get_or rows (suc k) d).0 ≡ Less
next_above [] k d rising lt = absurd (omega arith)
next_above (r ∷ []) k d rising lt = absurd (omega arith)
next_above (r ∷ s ∷ rows) zero d rising lt = (sorted_head txn_cmp r.0 (keys_of (s ∷ rows)) rising).0
next_above (r ∷ s ∷ rows) (suc k) d rising lt = next_above (s ∷ rows) k d (sorted_tail txn_cmp r.0 (keys_of (s ∷ rows)) rising) (omega (arith, lt))

-- the rows may be searched for a transaction
pub searchable : (rows : List Row) (t : TxnId) → AreRising rows → IsNonDecreasingBy (λ (y : Row). ordering_index (txn_cmp y.0 t)) rows
searchable rows t rising = searchable_from_sorted txn_total (λ (y : Row). y.0) rows t (λ k d le lt.
    let e : k + 1 ≡ suc k = omega arith in
    subst (λ n. is_lt (txn_cmp (get_or rows n d).0 (get_or rows k d).0) ≡ false) (sym e)
    (ap is_lt (above_is (get_or rows (suc k) d).0 (get_or rows k d).0 (next_above rows k d rising (omega (arith, lt))))))

pub at_gap : (rows : List Row) (t : TxnId) (i : ℕ) → AreRising rows
    → IsPartitionPoint (λ (y : Row). txn_cmp y.0 t ≡ Less) (λ (y : Row). txn_cmp y.0 t ≡ Greater) rows i
    → lookup (same_txn t) rows ≡ None
at_gap rows t i rising point = sym (look-txn t rows) ∙ lookup_at_gap txn_total t rows i rising
    (λ j e lt there. above_is t e.0 (subst (λ (y : Row). txn_cmp y.0 t ≡ Less) (get_or_from_slice_get rows j e e there) (point.0 j e (omega arith) lt)))
    (λ e there. below_is t e.0 (subst (λ (y : Row). txn_cmp y.0 t ≡ Greater) (get_or_from_slice_get rows i e e there)
    (point.1 i e (omega arith) (slice_get_within rows i e there))))

pub at_place : (rows : List Row) (t : TxnId) (i : ℕ) (row : Row) → AreRising rows → slice_get rows i ≡ Some row
    → txn_cmp row.0 t ≡ Equal → lookup (same_txn t) rows ≡ Some row.1
at_place rows t i row rising there same =
    let is : row.0 ≡ t = same-txn-is row.0 t (sym (txn_is_eq row.0 t) ∙ ap is_eq same) in
    subst (λ (u : TxnId). lookup (same_txn u) rows ≡ Some row.1) is
    (sym (look-txn row.0 rows) ∙ lookup_from_place (eq_by_cmp_equiv txn_total) rows i row.0 row.1
    (IsDistinct-from_sorted txn_cmp (keys_of rows) rising) there)

-- ---- all below

pub none_below : (t : TxnId) (rows : List Row) → AreBelow t (keys_of rows) → lookup (same_txn t) rows ≡ None
none_below t [] a = refl
none_below t (row ∷ rows) a =
    let apart : same_txn t row.0 ≡ false = sym (txn_is_eq t row.0) ∙ ap is_eq (above_is t row.0 a.0) in
    rw apart (none_below t rows a.1)

pub last_below : (t : TxnId) (rows : List Row) (row : Row) → AreRising rows → slice_get rows (length rows - 1) ≡ Some row
    → txn_cmp row.0 t ≡ Less → AreBelow t (keys_of rows)
last_below t [] row rising there lt = absurd (cc)
last_below t (r ∷ []) row rising there lt = let same : r ≡ row = cc in (subst (λ (y : Row). txn_cmp y.0 t ≡ Less) (sym same) lt, tt)
last_below t (r ∷ s ∷ rows) row rising there lt =
    let less : length (r ∷ s ∷ rows) - 1 ≡ suc (length (s ∷ rows) - 1) = omega arith in
    let rest = last_below t (s ∷ rows) row (sorted_tail txn_cmp r.0 (keys_of (s ∷ rows)) rising) (sym (ap (slice_get (r ∷ s ∷ rows)) less) ∙ there) lt in
    let head = sorted_head txn_cmp r.0 (keys_of (s ∷ rows)) rising in
    (txn_total.trans r.0 s.0 t head.0 rest.0, rest)

-- ---- one more behind them

below_more : (t u : TxnId) (ts : List TxnId) → AllByRecursion (λ y. txn_cmp u y ≡ Less) ts → txn_cmp u t ≡ Less
    → AllByRecursion (λ y. txn_cmp u y ≡ Less) (ts ++ t ∷ [])
below_more t u [] a lt = (lt, tt)
below_more t u (y ∷ ts) a lt = (a.0, below_more t u ts a.1 lt)

sorted_more : (t : TxnId) (ts : List TxnId) → IsStrictlySortedBy txn_cmp ts → AreBelow t ts → IsStrictlySortedBy txn_cmp (ts ++ t ∷ [])
unfolding IsStrictlySortedBy
sorted_more t [] rising below = (tt, tt)
sorted_more t (u ∷ ts) rising below = (below_more t u ts rising.0 below.0, sorted_more t ts rising.1 below.1)

pub none_rise : AreRising []
unfolding IsStrictlySortedBy
none_rise = tt

pub rising_more : (t : TxnId) (at : ℕ) (rows : List Row) → AreRising rows → AreBelow t (keys_of rows) → AreRising (rows ++ (t, at) ∷ [])
rising_more t at rows rising below =
    subst (IsStrictlySortedBy txn_cmp) (sym (map-append (λ (e : Row). e.0) rows ((t, at) ∷ [])))
    (sorted_more t (keys_of rows) rising below)

look_behind : (q : TxnId) (rows more : List Row) → lookup (same_txn q) rows ≡ None → lookup (same_txn q) (rows ++ more) ≡ lookup (same_txn q) more
look_behind q [] more none = refl
look_behind q (r ∷ rows) more none = ⊎_elim
    (λ is. let c : Some r.1 ≡ None = (let f = rw is at none in f) in absurd (cc))
    (λ off. rw off (look_behind q rows more (rw off at none))) (cases_Bool (same_txn q r.0))

look_front : (q : TxnId) (rows : List Row) (r : Row) → same_txn q r.0 ≡ false → lookup (same_txn q) (rows ++ r ∷ []) ≡ lookup (same_txn q) rows
look_front q [] r off = rw off refl
look_front q (s ∷ rows) r off = ap (λ (o : Option ℕ). cond (same_txn q s.0) (Some s.1) o) (look_front q rows r off)

pub look_more : (q t : TxnId) (at : ℕ) (rows : List Row) → AreBelow t (keys_of rows)
    → lookup (same_txn q) (rows ++ (t, at) ∷ []) ≡ cond (same_txn t q) (Some at) (lookup (same_txn q) rows)
look_more q t at rows below = ⊎_elim
    (λ e. subst (λ (u : TxnId). lookup (same_txn u) (rows ++ (t, at) ∷ []) ≡ cond (same_txn t u) (Some at) (lookup (same_txn u) rows)) e
    (look_behind t rows ((t, at) ∷ []) (none_below t rows below)
    ∙ ap (λ (b : Bool). cond b (Some at) None) (eq-same t t refl)
    ∙ ap (λ (b : Bool). cond b (Some at) (lookup (same_txn t) rows)) (sym (eq-same t t refl))))
    (λ ne. look_front q rows (t, at) (ne-same q t (λ f. ne (sym f)))
    ∙ ap (λ (b : Bool). cond b (Some at) (lookup (same_txn q) rows)) (sym (ne-same t q ne)))
    (cases_txn t q)
