-- A table of those whom a log leaves open: for the goals of table_of.
use Rattle.std.proofs.Common.{◌≡◌, ⊎_elim, ℕ, suc, ◌≤◌, Bool, true, false, ◌||◌, List, [], ◌∷◌, length, map, reverse, take, None, Some, refl, sym, ap, ◌∙◌, subst, arith}
use Rattle.std.specs.Prelude.{Contains, Err, IfOk, Ok, Result, slice_get}
use Rattle.std.specs.Option.{option_map}
use Rattle.std.proofs.Math.Seq.{take-length}
use Rattle.std.proofs.lemmas.Bool.{cases_Bool}
use Rattle.std.proofs.lemmas.List.{reverse-reverse}
use Rattle.std.proofs.lemmas.Option.{get_or_from_slice_get, slice_get-map, slice_get_within}
use Rattle.sd_base.specs.declared.ids.TxnId.{TxnId}
use Rattle.sd_base.specs.Ids.{same_txn}
use Rattle.sd_base.proofs.SameIds.{cases_txn, eq-same, ne-same}
use Rattle.sd_log.specs.declared.placed.Placed.{Placed}
use Rattle.sd_log.specs.Logs.{LogState, flats, scanned}
use Rattle.sd_chain.specs.Records.{Each, stack}
use Rattle.sd_chain.proofs.Fates.{open-fate}
use Rattle.sd_recovered.specs.declared.losers.Loser.{Loser}
use Rattle.sd_recovered.specs.Losers.{AreLosers, IsLoser}
use Rattle.sd_recovered.specs.Kept.{as_transaction, left_open, open_rec}
use Rattle.sd_recovered.specs.Walks.{AreRising}
use Rattle.sd_recovered.proofs.Relisted.{Who, unknown}
use Rattle.sd_recovered.proofs.Stacked.{map-reverse}
use Rattle.sd_recovered.proofs.Walking.{each_at, left-by, rise-rising}
use Rattle.sd_txn.specs.Transactions.{Transaction, Transactions, ids, txn_at}
use Rattle.sd_txn.specs.declared.state.TxnState.{TxnState}
use Rattle.sd_moves.specs.Opening.{IsLeftIn, IsLeftRow, is_left}
use Rattle.sd_restart.specs.Claims.{is_listed}
use Rattle.sd_restart.specs.Reading.{IsTableOf}
use Rattle.sd_restart.proofs.Claiming.{listed-left}

-- the losers, each to be undone
abbrev pub retained : List Loser → List Who
retained losers = map (λ l. (l.txn, TxnState.Retained)) losers

names : (losers : List Loser) → map (λ (w : Who). w.0) (retained losers) ≡ map (λ l. l.txn) losers
names [] = refl
names (l ∷ ls) = ap (λ (ts : List TxnId). l.txn ∷ ts) (names ls)

pub retained-rise : (log : List Placed) (losers : List Loser) (who : List Who) → AreLosers log losers → who ≡ retained losers
    → AreRising (map (λ (w : Who). w.0) who)
retained-rise log losers who are is =
    subst AreRising (sym (ap (map (λ (w : Who). w.0)) is ∙ names losers)) (rise-rising losers are.rise)

-- a transaction among the losers
record Named (losers : List Loser) (t : TxnId) : Type 0 where
  pub index : ℕ
  pub loser : Loser
  pub there : slice_get losers index ≡ Some loser
  pub same : loser.txn ≡ t

named : (losers : List Loser) (t : TxnId) → is_listed losers t ≡ true → Named losers t
named [] t is = absurd (cc)
named (l ∷ ls) t is = ⊎_elim
    (λ e. record { index = 0; loser = l; there = refl; same = e })
    (λ ne. let n = named ls t (other (same_txn l.txn t) (is_listed ls t) (ne-same l.txn t ne) is) in
    record { index = suc n.index; loser = n.loser; there = n.there; same = n.same })
    (cases_txn l.txn t)
  where
    other : (a b : Bool) → a ≡ false → (a || b) ≡ true → b ≡ true
    other true b off e = absurd (cc)
    other false b off e = e

-- the row of one of them
row-left : (log : List Placed) (l : Loser) → IsLoser log l → IsLeftRow (left_open (flats log) l.txn TxnState.Retained) l.txn (flats log)
row-left log l is = record {
  state = refl;
  left = open-fate l.txn (flats log) is.runs is.there;
  logged = record {
    alive = is.runs;
    open_ones = sym (map-reverse open_rec (reverse (stack l.txn (flats log)))) ∙ ap (map open_rec) (reverse-reverse (stack l.txn (flats log)));
    span = refl;
  };
}

unlisted : (losers : List Loser) (t : TxnId) → is_listed losers t ≡ false → Each (λ u. (u ≡ t) → ⊥) (map (λ l. l.txn) losers)
unlisted [] t off = tt
unlisted (l ∷ ls) t off =
    let o = neither (same_txn l.txn t) (is_listed ls t) off in
    ((λ e. let is = eq-same l.txn t e in let c = sym is ∙ o.0 in absurd (cc)), unlisted ls t o.1)
  where
    neither : (a b : Bool) → (a || b) ≡ false → (a ≡ false) × (b ≡ false)
    neither true b e = absurd (cc)
    neither false b e = (refl, e)

module _ (log : List Placed) (losers : List Loser) (who : List Who) (table : Transactions) (are : AreLosers log losers)
    (is : who ≡ retained losers) (order : ids table ≡ map (λ (w : Who). w.0) who)
    (rows : (t : TxnId) (state : TxnState) → Contains who (t, state) → txn_at table t ≡ Some (as_transaction (flats log) t state)) where
  row-there : (t : TxnId) → Named losers t → IsLeftIn (txn_at table t) t (flats log)
  row-there t n =
      let l = n.loser in
      let at : slice_get who n.index ≡ Some (l.txn, TxnState.Retained) =
      ap (λ (w : List Who). slice_get w n.index) is ∙ slice_get-map (λ (x : Loser). (x.txn, TxnState.Retained)) losers n.index
      ∙ ap (option_map (λ (x : Loser). (x.txn, TxnState.Retained))) n.there in
      let row : txn_at table l.txn ≡ Some (as_transaction (flats log) l.txn TxnState.Retained) =
      rows l.txn TxnState.Retained (
        n.index,
        slice_get_within who n.index (l.txn, TxnState.Retained) at,
        get_or_from_slice_get who n.index (l.txn, TxnState.Retained) (l.txn, TxnState.Retained) at,
      ) in
      let kept : as_transaction (flats log) l.txn TxnState.Retained ≡ left_open (flats log) l.txn TxnState.Retained =
      rw (left-by log losers n.index l.txn l are n.there refl) refl in
      subst (λ (u : TxnId). IsLeftIn (txn_at table u) u (flats log)) n.same
      (subst (λ o. IsLeftIn o l.txn (flats log)) (sym (row ∙ ap (λ (x : Transaction). Some x) kept))
      (row-left log l (each_at (IsLoser log) losers n.index l are.each n.there)))

  row-none : (t : TxnId) → is_listed losers t ≡ false → IsLeftIn (txn_at table t) t (flats log)
  row-none t off =
      let none : txn_at table t ≡ None = unknown t table.unresolved
      (subst (Each (λ u. (u ≡ t) → ⊥)) (sym (order ∙ ap (map (λ (w : Who). w.0)) is ∙ names losers)) (unlisted losers t off)) in
      subst (λ o. IsLeftIn o t (flats log)) (sym none)
      (λ alive. let e = sym (ap is_left alive) ∙ sym (listed-left log losers t are) ∙ off in absurd (cc))

  pub rows-left : (t : TxnId) → IsLeftIn (txn_at table t) t (flats log)
  rows-left t = ⊎_elim (λ yes. row-there t (named losers t yes)) (λ no. row-none t no) (cases_Bool (is_listed losers t))

-- what `relist` answers
pub table-is : {E : Type 0} (answer : Result Transactions E) (inst : ℕ) (log : LogState) (placed : List Placed) (losers : List Loser) (who : List Who)
    → AreLosers (scanned log) losers → placed ≡ scanned log → who ≡ retained losers
    → IfOk answer (λ table. ids table ≡ map (λ (w : Who). w.0) who)
    → IfOk answer (λ table. (t : TxnId) (state : TxnState) → Contains who (t, state) → txn_at table t ≡ Some (as_transaction (flats placed) t state))
    → IfOk answer (λ table. (table.inst ≡ inst) × (table.epoch ≡ 0) × (table.begins ≡ 0)) → IfOk answer (IsTableOf inst log)
table-is (Ok table) inst log placed losers who are same is order rows fresh = record {
  inst = fresh.0;
  epoch = fresh.1;
  rows = rows-left (scanned log) losers who table are is order
      (λ t state c. rows t state c ∙ ap (λ (ps : List Placed). Some (as_transaction (flats ps) t state)) same);
}
table-is (Err e) inst log placed losers who are same is order rows fresh = tt

pub retained_all : (items losers : List Loser) (who : List Who) (k : ℕ) → items ≡ losers → who ≡ retained (take k items) → k ≤ length items
    → length items ≤ k → who ≡ retained losers
retained_all items losers who k same is low high =
    let whole : k ≡ length items = omega (arith, low, high) in
    is ∙ ap retained (ap (λ n. take n items) whole ∙ take-length items ∙ same)
