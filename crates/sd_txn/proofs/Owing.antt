-- How what is owed moves: for the laws.
use Rattle.std.proofs.Common.{◌≡◌, ℕ, ◌+◌, [], ◌∷◌, ◌++◌, None, Some, ap, ◌∙◌, arith}
use Rattle.std.specs.List.{IsDistinct}
use Rattle.sd_base.specs.Ids.{same_txn}
use Rattle.sd_base.specs.declared.ids.TxnId.{TxnId}
use Rattle.sd_txn.specs.declared.state.OpenRec.{OpenRec}
use Rattle.sd_txn.specs.Kept.{total}
use Rattle.sd_txn.specs.Owing.{bytes_owed, records_owed, undo_len}
use Rattle.sd_txn.specs.Transactions.{Transaction, Transactions, ids, popped, pushed, top, txn_at, OthersStay, Replaces}
use Rattle.sd_txn.proofs.Alike.{Replaces-set_value, begun-push}
use Rattle.sd_txn.proofs.Stacks.{depth-popped, depth-pushed, undo_of-popped, undo_of-pushed}
use Rattle.sd_txn.proofs.Sums.{total-push, total-set_value}

module _ (f : Transaction → ℕ) where
  pub total-replaced : (old new : Transactions) (t : TxnId) (x y : Transaction) → IsDistinct same_txn (ids old) → Replaces old new t x y
      → total f new.unresolved + f x ≡ total f old.unresolved + f y
  total-replaced old new t x y once r = ap (λ txns. total f txns + f x) (Replaces-set_value old new t x y once r) ∙ total-set_value f (same_txn t) x y old.unresolved r.was

  pub total-emptied : (old new : Transactions) (t : TxnId) (x y : Transaction) → f y ≡ 0 → IsDistinct same_txn (ids old) → Replaces old new t x y
      → total f new.unresolved + f x ≡ total f old.unresolved
  total-emptied old new t x y nothing once r = let moves = total-replaced old new t x y once r in omega (arith, moves, nothing)

  pub total-begun : (old new : Transactions) (t : TxnId) (x : Transaction) → f x ≡ 0 → IsDistinct same_txn (ids new) → txn_at old t ≡ None → txn_at new t ≡ Some x → OthersStay old new t
      → ids new ≡ ids old ++ t ∷ [] → total f new.unresolved ≡ total f old.unresolved
  total-begun old new t x nothing once none now others order =
      let sum = ap (total f) (begun-push old new t x once none now others order) ∙ total-push f old.unresolved t x in omega (arith, sum, nothing)

module _ (x : Transaction) (rec : OpenRec) where
  pub bytes_owed-pushed : bytes_owed (pushed rec x) ≡ bytes_owed x + undo_len rec
  bytes_owed-pushed = omega (arith, undo_of-pushed x rec)

  pub records_owed-pushed : records_owed (pushed rec x) ≡ records_owed x + 1
  records_owed-pushed = omega (arith, depth-pushed x rec)

  module _ (at : top x ≡ Some rec) where
    pub bytes_owed-popped : bytes_owed (popped x) + undo_len rec ≡ bytes_owed x
    bytes_owed-popped = omega (arith, undo_of-popped x rec at)

    pub records_owed-popped : records_owed (popped x) + 1 ≡ records_owed x
    records_owed-popped = omega (arith, depth-popped x rec at)
