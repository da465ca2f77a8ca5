-- Tables of transactions that tell the same.
use Rattle.std.proofs.Common.{◌≡◌, ⊎_elim, sym, subst}
use Rattle.std.specs.List.{IsDistinct}
use Rattle.sd_base.specs.Ids.{same_txn}
use Rattle.sd_base.specs.declared.ids.TxnId.{TxnId}
use Rattle.sd_base.proofs.SameIds.{cases_txn}
use Rattle.sd_txn.specs.Transactions.{OthersStay, SameOrder, Transactions, ids, txn_at}
use Rattle.sd_txn.proofs.Alike.{alike}

-- a table that tells the same of each transaction is the same
pub table-same : (old new : Transactions) (t : TxnId) → IsDistinct same_txn (ids old) → txn_at new t ≡ txn_at old t
    → OthersStay old new t → SameOrder old new → new ≡ old
table-same old new t once own others order =
    let rows : new.unresolved ≡ old.unresolved =
    alike new.unresolved old.unresolved order.same_ids (subst (IsDistinct same_txn) (sym order.same_ids) once)
    (λ u. ⊎_elim (λ e. subst (λ (v : TxnId). txn_at new v ≡ txn_at old v) (sym e) own) (λ ne. others u ne) (cases_txn u t)) in
    λ n. record { inst = order.same_inst n; epoch = order.same_epoch n; begins = order.same_begins n; unresolved = rows n }
