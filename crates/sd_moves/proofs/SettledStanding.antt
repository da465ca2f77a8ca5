-- Whom a table has, in rising order, and how each stands; and the table made anew of them. For `standing` and `table_by`.
use Rattle.std.proofs.Common.{◌≡◌, inl, inr, ⊎_elim, ℕ, zero, suc, ◌+◌, ◌<◌, Bool, true, false, cond, List, [], ◌∷◌, get_or, length, take, map, refl, sym, ap, ◌∙◌, subst, arith}
use Rattle.std.specs.Prelude.{Contains, Option, None, Some, Result, Ok, Err, ◌↔◌, ◌||◌, IfOk, IsSome, option_map, slice_get}
use Rattle.std.specs.Cmp.{IsEquivalence}
use Rattle.std.specs.List.{AllByRecursion, IsDistinct, list_any}
use Rattle.std.specs.List.Sorted.{IsStrictlySortedBy}
use Rattle.std.specs.Map.{keys_of, lookup}
use Rattle.std.specs.Ordering.{eq_by_cmp}
use Rattle.std.specs.declared.cmp.Ordering.TheVariants.{Less}
use Rattle.std.proofs.Math.Seq.{take-length}
use Rattle.std.proofs.lemmas.Bool.{cases_Bool, true≢false}
use Rattle.std.proofs.lemmas.List.Folds.{list_any-append}
use Rattle.std.proofs.lemmas.Map.Keys.{IsDistinct-from_sorted, sorted_head, sorted_tail}
use Rattle.std.proofs.lemmas.Map.Views.{Contains-from_lookup, Contains-keys_from_lookup, IsSome-lookup_from_Contains, lookup-from_Contains}
use Rattle.sd_base.specs.declared.ids.TxnId.{TxnId}
use Rattle.sd_base.specs.Ids.{same_txn, IsBelow}
use Rattle.sd_base.proofs.Lists.{take_next}
use Rattle.sd_base.proofs.Orders.{below_from_cmp, same-txn-is, txn_cmp, txn_is_eq}
use Rattle.sd_base.proofs.SameIds.{cases_txn, eq-same, ne-same}
use Rattle.sd_logrec.specs.View.{Rec}
use Rattle.sd_chain.specs.Checks.{owed, reserve}
use Rattle.sd_chain.specs.Records.{Each}
use Rattle.sd_chain.specs.Undoing.{Member}
use Rattle.sd_txn.specs.Owing.{owed_of, reserve_of}
use Rattle.sd_txn.specs.declared.state.TxnState.{TxnState}
use Rattle.sd_txn.specs.Transactions.{Transaction, Transactions, ids, state_at, txn_at}
use Rattle.sd_recovered.specs.Kept.{AreAmong, as_transaction}
use Rattle.sd_recovered.specs.Walks.{AreRising}
use Rattle.sd_moves.specs.Settling.{HasOpen, IsRelisted, row_again}

abbrev pub Who : Type 0
Who = TxnId × TxnState

-- transactions are the same or not
pub same-equiv : IsEquivalence same_txn
same-equiv = record {
  refl = λ t. eq-same t t refl;
  symm = λ t u. ⊎_elim
      (λ e. eq-same t u e ∙ sym (eq-same u t (sym e)))
      (λ ne. ne-same t u ne ∙ sym (ne-same u t (λ e. ne (sym e))))
      (cases_txn t u);
  congr = λ t u v e. ap (λ (x : TxnId). same_txn x v) (same-txn-is t u e);
}

-- ---- the rows of a map

-- keys in order rise
pub rising-sorted : (ts : List TxnId) → IsStrictlySortedBy txn_cmp ts → AreRising ts
rising-sorted [] s = tt
rising-sorted (t ∷ ts) s = (each-below ts (sorted_head txn_cmp t ts s), rising-sorted ts (sorted_tail txn_cmp t ts s))
  where
    each-below : (us : List TxnId) → AllByRecursion (λ u. txn_cmp t u ≡ Less) us → Each (IsBelow t) us
    each-below [] a = tt
    each-below (u ∷ us) a = (below_from_cmp t u a.0, each-below us a.1)

-- a look-up finds exactly what is there
pub found-there : (rows : List Who) → IsStrictlySortedBy txn_cmp (keys_of rows) → (t : TxnId) (state : TxnState)
    → Contains rows (t, state) ↔ (lookup (same_txn t) rows ≡ Some state)
found-there rows sorted t state = (
  lookup-from_Contains same-equiv t state rows distinct,
  Contains-from_lookup same-txn-is t state rows,
)
  where
    tests : eq_by_cmp txn_cmp ≡ same_txn
    tests = λ i a b. txn_is_eq a b i

    distinct : IsDistinct same_txn (keys_of rows)
    distinct = subst (λ (e : TxnId → TxnId → Bool). IsDistinct e (keys_of rows)) tests (IsDistinct-from_sorted txn_cmp (keys_of rows) sorted)

-- ---- the map of a table's transactions

-- once so many of them are in it
abbrev pub HasFirst : Transactions → ℕ → List Who → Type 0
HasFirst table n rows = (t : TxnId)
    → lookup (same_txn t) rows ≡ cond {A = Option TxnState} (list_any (same_txn t) (take n (ids table))) (state_at table t) None

-- one more
pub has-more : (table : Transactions) (n : ℕ) (old new : List Who) (k : TxnId) (state : TxnState) → HasFirst table n old
    → slice_get (ids table) n ≡ Some k → state_at table k ≡ Some state
    → ((t : TxnId) → lookup (same_txn t) new ≡ cond (same_txn k t) (Some state) (lookup (same_txn t) old))
    → HasFirst table (n + 1) new
has-more table n old new k state was there stands put t = put t ∙ ⊎_elim
    (λ e. ap (λ (b : Bool). cond {A = Option TxnState} b (Some state) (lookup (same_txn t) old)) (eq-same k t (sym e))
    ∙ sym stands ∙ ap (state_at table) (sym e)
    ∙ sym (ap (λ (b : Bool). cond {A = Option TxnState} b (state_at table t) None)
    (grown ∙ ap (λ (b : Bool). list_any (same_txn t) (take n (ids table)) || (b || false)) (eq-same t k e)
    ∙ or-true (list_any (same_txn t) (take n (ids table))))))
    (λ ne. ap (λ (b : Bool). cond {A = Option TxnState} b (Some state) (lookup (same_txn t) old)) (ne-same k t (λ e. ne (sym e)))
    ∙ was t ∙ sym (ap (λ (b : Bool). cond {A = Option TxnState} b (state_at table t) None)
    (grown ∙ ap (λ (b : Bool). list_any (same_txn t) (take n (ids table)) || (b || false)) (ne-same t k ne)
    ∙ or-false (list_any (same_txn t) (take n (ids table))))))
    (cases_txn t k)
  where
    or-true : (a : Bool) → (a || true) ≡ true
    or-true true = refl
    or-true false = refl

    or-false : (a : Bool) → (a || false) ≡ a
    or-false true = refl
    or-false false = refl

    more : n + 1 ≡ suc n
    more = omega arith

    grown : list_any (same_txn t) (take (n + 1) (ids table)) ≡ (list_any (same_txn t) (take n (ids table)) || (same_txn t k || false))
    grown = ap (λ (j : ℕ). list_any (same_txn t) (take j (ids table))) more
        ∙ ap (list_any (same_txn t)) (take_next (ids table) n k there) ∙ list_any-append (same_txn t) (take n (ids table)) (k ∷ [])

-- each of them is there
pub stands-there : (table : Transactions) (n : ℕ) (k : TxnId) → slice_get (ids table) n ≡ Some k → state_at table k ≡ None → ⊥
stands-there table n k there none = by table.unresolved n there none
  where
    by : (rows : List (TxnId × Transaction)) (n : ℕ) → slice_get (keys_of rows) n ≡ Some k
        → state_at (record table { unresolved = rows }) k ≡ None → ⊥
    by [] n there none = absurd (cc)
    by (row ∷ rows) zero there none =
        let same : row.0 ≡ k = cc in
        let is : same_txn k row.0 ≡ true = eq-same k row.0 (sym same) in
        let e = rw is at none in absurd (cc)
    by (row ∷ rows) (suc n) there none = ⊎_elim
        (λ is. let e = rw is at none in absurd (cc))
        (λ off. by rows n there (rw off at none))
        (cases_Bool (same_txn k row.0))

-- all of them
pub has-all : (table : Transactions) (n : ℕ) (rows : List Who) → HasFirst table n rows → n ≡ length (ids table) → (t : TxnId)
    → lookup (same_txn t) rows ≡ state_at table t
has-all table n rows all whole t = all t
    ∙ ap (λ (ts : List TxnId). cond {A = Option TxnState} (list_any (same_txn t) ts) (state_at table t) None)
    (ap (λ (j : ℕ). take j (ids table)) whole ∙ take-length (ids table))
    ∙ by table.unresolved
  where
    by : (xs : List (TxnId × Transaction)) → cond {A = Option TxnState} (list_any (same_txn t) (keys_of xs))
        (state_at (record table { unresolved = xs }) t) None ≡ state_at (record table { unresolved = xs }) t
    by [] = refl
    by (x ∷ xs) = ⊎_elim
        (λ is. rw is refl)
        (λ off. rw off (by xs))
        (cases_Bool (same_txn t x.0))

-- ---- the table that is made of them

-- whom the old one doesn't have the new one doesn't
pub none-more : (who : List Who) (old new : Transactions) (t : TxnId) → ids new ≡ map (λ w. w.0) who
    → ((state : TxnState) → Contains who (t, state) ↔ (state_at old t ≡ Some state)) → txn_at old t ≡ None → txn_at new t ≡ None
none-more who old new t order each none = by (txn_at new t) refl
  where
    found : (o : Option TxnState) → lookup (same_txn t) who ≡ o → IsSome o → ⊥
    found None e is = absurd (true≢false (sym is))
    found (Some state) e is =
        let was = (each state).0 (Contains-from_lookup same-txn-is t state who e) in
        let gone : state_at old t ≡ None = ap (option_map (λ (x : Transaction). x.state)) none in
        absurd (cc)

    by : (o : Option Transaction) → txn_at new t ≡ o → txn_at new t ≡ None
    by None e = e
    by (Some x) e = absurd (found (lookup (same_txn t) who) refl
        (IsSome-lookup_from_Contains same-equiv t who
        (subst (λ (ts : List TxnId). Contains ts t) order
        (Contains-keys_from_lookup same-txn-is t new.unresolved (subst (λ (o : Option Transaction). IsSome o) (sym e) refl)))))

-- who stands there is listed
at-member : (who : List Who) (k : ℕ) (w : Who) → k < length who → get_or who k w ≡ w → Member w.0 (map (λ v. v.0) who)
at-member [] k w lt e = absurd (omega (arith, lt))
at-member (v ∷ vs) zero w lt e = inl (ap (λ (x : Who). x.0) (sym e))
at-member (v ∷ vs) (suc k) w lt e = inr (at-member vs k w (omega (arith, lt)) e)

module _ (i : ℕ) (log : List Rec) (who : List Who) (old new : Transactions) (order : ids new ≡ map (λ w. w.0) who)
    (each : (t : TxnId) (state : TxnState) → Contains who (t, state) ↔ (state_at old t ≡ Some state))
    (rows : (t : TxnId) (state : TxnState) → Contains who (t, state) → txn_at new t ≡ Some (as_transaction log t state)) where
  again : (t : TxnId) (o : Option Transaction) → txn_at old t ≡ o → txn_at new t ≡ row_again log t o
  again t None e = none-more who old new t order (each t) e
  again t (Some x) e = rows t x.state ((each t x.state).1 (ap (option_map (λ (y : Transaction). y.state)) e))

  among : HasOpen log old → AreAmong log (map (λ w. w.0) who)
  among has t member = by (txn_at old t) refl (has t member)
    where
      by : (o : Option Transaction) → txn_at old t ≡ o → IsSome o → Member t (map (λ w. w.0) who)
      by None e is = absurd (true≢false (sym is))
      by (Some x) e is = let there = (each t x.state).1 (ap (option_map (λ (y : Transaction). y.state)) e) in
          at-member who there.0 (t, x.state) there.1 there.2

  -- So the new table is the old one by the log.
  pub relisted-again : (new.inst ≡ i) × (new.epoch ≡ 0) × (new.begins ≡ 0)
      → (AreAmong log (map (λ w. w.0) who) → owed_of new ≡ owed log) → (AreAmong log (map (λ w. w.0) who) → reserve_of new ≡ reserve log)
      → IsRelisted i log old new
  relisted-again fresh owes reserves = record {
    rows = λ t. again t (txn_at old t) refl;
    inst = fresh.0;
    epoch = fresh.1;
    begins = fresh.2;
    owes = λ has. owes (among has);
    reserves = λ has. reserves (among has);
  }

-- what relisting answers: the old table by the log, if it answers one
pub relisted-if : {E : Type 0} (i : ℕ) (log : List Rec) (who : List Who) (old : Transactions) (result : Result Transactions E)
    → ((t : TxnId) (state : TxnState) → Contains who (t, state) ↔ (state_at old t ≡ Some state))
    → IfOk result (λ new. ids new ≡ map (λ w. w.0) who)
    → IfOk result (λ new. (t : TxnId) (state : TxnState) → Contains who (t, state) → txn_at new t ≡ Some (as_transaction log t state))
    → IfOk result (λ new. (new.inst ≡ i) × (new.epoch ≡ 0) × (new.begins ≡ 0))
    → IfOk result (λ new. AreAmong log (map (λ w. w.0) who) → owed_of new ≡ owed log)
    → IfOk result (λ new. AreAmong log (map (λ w. w.0) who) → reserve_of new ≡ reserve log)
    → IfOk result (IsRelisted i log old)
relisted-if i log who old (Ok new) each order rows fresh owes reserves =
    relisted-again i log who old new order each rows fresh owes reserves
relisted-if i log who old (Err e) each order rows fresh owes reserves = tt
