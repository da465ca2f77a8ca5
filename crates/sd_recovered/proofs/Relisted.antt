-- The table once so many of the transactions are in it: for the goals of `relist`.
use Rattle.std.proofs.Common.{◌≡◌, ◌≢◌, ⊎_elim, ℕ, zero, suc, ◌+◌, ◌<◌, ◌≤◌, List, [], ◌∷◌, ◌++◌, length, take, map, None, Some, slice_get, refl, sym, ap, subst, ◌∙◌, arith}
use Rattle.std.specs.Prelude.{Contains}
use Rattle.std.specs.Map.{keys_of, lookup}
use Rattle.std.proofs.Math.Seq.{take-length}
use Rattle.std.proofs.lemmas.List.{map-append}
use Rattle.std.proofs.lemmas.Option.{slice_get-get_or}
use Rattle.sd_base.specs.declared.ids.TxnId.{TxnId}
use Rattle.sd_base.specs.Ids.{same_txn, IsBelow}
use Rattle.sd_base.proofs.Lists.{take_next}
use Rattle.sd_base.proofs.Orders.{below_trans, not_below_itself}
use Rattle.sd_base.proofs.SameIds.{ne-same}
use Rattle.sd_logrec.specs.View.{Rec}
use Rattle.sd_chain.specs.Records.{Each}
use Rattle.sd_recovered.specs.declared.losers.Loser.{Loser}
use Rattle.sd_txn.specs.declared.state.TxnState.{TxnState}
use Rattle.sd_txn.specs.Transactions.{ids, started, txn_at, OthersStay, SameOrder, Transaction, Transactions}
use Rattle.sd_recovered.specs.Kept.{as_transaction}
use Rattle.sd_recovered.specs.Walks.{AreBelow, AreRising, IsNext}
use Rattle.sd_recovered.proofs.Walking.{at_end, rises_at}

-- a transaction and how it stands
abbrev pub Who : Type 0
Who = TxnId × TxnState

abbrev pub txns : List Who → List TxnId
txns who = map (λ w. w.0) who

pub record Relisted (inst : ℕ) (who : List Who) (log : List Rec) (losers : List Loser) (table : Transactions) (next i : ℕ) : Type 0 where
  pub order : ids table ≡ txns (take i who)
  pub rows : (k : ℕ) (w : Who) → k < i → slice_get who k ≡ Some w → txn_at table w.0 ≡ Some (as_transaction log w.0 w.1)
  pub counts : (table.inst ≡ inst) × (table.epoch ≡ 0) × (table.begins ≡ 0)
  pub below : (k : ℕ) (w : Who) → i ≤ k → slice_get who k ≡ Some w → AreBelow losers next w.0

-- ---- rising transactions

earlier : (who : List Who) (j k : ℕ) (a b : Who) → AreRising (txns who) → j < k → slice_get who j ≡ Some a → slice_get who k ≡ Some b
    → IsBelow a.0 b.0
earlier who j k a b rising lt at_j at_k = rises_at (λ (w : Who). w.0) who j k a b rising lt at_j at_k

pub apart : (t u : TxnId) → IsBelow t u → t ≢ u
apart t u below e = not_below_itself u (subst (λ (x : TxnId). IsBelow x u) e below)

-- ---- the next one isn't in the table yet

each_before : (P : TxnId → Type 0) (who : List Who) (i : ℕ) → ((k : ℕ) (w : Who) → k < i → slice_get who k ≡ Some w → P w.0)
    → Each P (txns (take i who))
each_before P who zero f = tt
each_before P [] (suc i) f = tt
each_before P (x ∷ xs) (suc i) f = (f 0 x (omega arith) refl, each_before P xs i (λ k w lt there. f (suc k) w (omega arith) there))

pub unknown : (t : TxnId) (rows : List (TxnId × Transaction)) → Each (λ u. u ≢ t) (keys_of rows) → lookup (same_txn t) rows ≡ None
unknown t [] a = refl
unknown t (row ∷ rows) a = let off = ne-same t row.0 (λ e. a.0 (sym e)) in rw off (unknown t rows a.1)

pub absent : (inst : ℕ) (who : List Who) (log : List Rec) (losers : List Loser) (table : Transactions) (next i : ℕ) (w : Who)
    → AreRising (txns who) → Relisted inst who log losers table next i → slice_get who i ≡ Some w → txn_at table w.0 ≡ None
absent inst who log losers table next i w rising was there =
    unknown w.0 table.unresolved (subst (Each (λ u. u ≢ w.0)) (sym was.order)
    (each_before (λ u. u ≢ w.0) who i (λ k v lt at_k. apart v.0 w.0 (earlier who k i v w rising lt at_k there))))

-- ---- one after another

pub relisted_start : (inst : ℕ) (who : List Who) (log : List Rec) (losers : List Loser) (table : Transactions)
    → table ≡ record { inst = inst; epoch = 0; begins = 0; unresolved = [] } → Relisted inst who log losers table 0 0
relisted_start inst who log losers table is = record {
  order = ap ids is;
  rows = λ k w lt there. absurd (omega arith);
  counts = (ap (λ (t : Transactions). t.inst) is, ap (λ (t : Transactions). t.epoch) is, ap (λ (t : Transactions). t.begins) is);
  below = λ k w low there j loser lt at_j. absurd (omega arith);
}

pub relisted_more : (inst : ℕ) (who : List Who) (log : List Rec) (losers : List Loser) (old added new : Transactions)
    (next later i : ℕ) (w : Who)
    → AreRising (txns who) → Relisted inst who log losers old next i → slice_get who i ≡ Some w
    → txn_at added w.0 ≡ Some (started w.1) → ids added ≡ ids old ++ w.0 ∷ [] → OthersStay old added w.0
    → added ≡ record old { unresolved = added.unresolved } → IsNext losers later w.0
    → ((state : TxnState) → txn_at added w.0 ≡ Some (started state) → txn_at new w.0 ≡ Some (as_transaction log w.0 state))
    → OthersStay added new w.0 → SameOrder added new → Relisted inst who log losers new later (i + 1)
relisted_more inst who log losers old added new next later i w rising was there row last others counts is_next kept others' same = record {
  order = same.same_ids ∙ last ∙ ap (λ (l : List TxnId). l ++ w.0 ∷ []) was.order ∙ sym (map-append (λ (w : Who). w.0) (take i who) (w ∷ []))
      ∙ ap txns (sym (take_next who i w there)) ∙ ap (λ (n : ℕ). txns (take n who)) more;
  rows = λ k v lt at_k. ⊎_elim
      (λ low.
      let ne = apart v.0 w.0 (earlier who k i v w rising low at_k there) in
      others' v.0 ne ∙ others v.0 ne ∙ was.rows k v low at_k)
      (λ e.
      let is : w ≡ v = (let f = sym there ∙ ap (slice_get who) (sym e) ∙ at_k in cc) in
      subst (λ (x : Who). txn_at new x.0 ≡ Some (as_transaction log x.0 x.1)) is (kept w.1 row))
      (at_end k i lt);
  counts = (
    same.same_inst ∙ ap (λ (t : Transactions). t.inst) counts ∙ was.counts.0,
    same.same_epoch ∙ ap (λ (t : Transactions). t.epoch) counts ∙ was.counts.1,
    same.same_begins ∙ ap (λ (t : Transactions). t.begins) counts ∙ was.counts.2,
  );
  below = λ k v low at_k j loser lt at_j.
      below_trans loser.txn w.0 v.0 (is_next.front j loser lt at_j) (earlier who i k w v rising (omega arith) there at_k);
}
  where
    more : suc i ≡ i + 1
    more = omega arith

-- ---- all

pub relisted_order : (inst : ℕ) (who : List Who) (log : List Rec) (losers : List Loser) (table : Transactions) (next i : ℕ)
    → Relisted inst who log losers table next i → i ≤ length who → length who ≤ i → ids table ≡ txns who
relisted_order inst who log losers table next i all low high =
    all.order ∙ ap (λ (n : ℕ). txns (take n who)) whole ∙ ap txns (take-length who)
  where
    whole : i ≡ length who
    whole = omega arith

pub relisted_rows : (inst : ℕ) (who : List Who) (log : List Rec) (losers : List Loser) (table : Transactions) (next i : ℕ)
    → Relisted inst who log losers table next i → length who ≤ i → (t : TxnId) (state : TxnState) → Contains who (t, state)
    → txn_at table t ≡ Some (as_transaction log t state)
relisted_rows inst who log losers table next i all high t state stands =
    all.rows stands.0 (t, state) (omega (arith, stands.1))
    (slice_get-get_or who stands.0 (t, state) stands.1 ∙ ap (λ (w : Who). Some w) stands.2)
