-- The last of a list, and what a list is once a loan of one transaction's part has ended.
use Rattle.std.specs.Prelude.{◌≡◌, ◌-◌, List, Option, Some, length, slice_get}
use Rattle.std.specs.Borrow.{Fml, MutBor, LendsSo}
use Rattle.std.specs.Map.{set_value}
use Rattle.sd_base.specs.Ids.{same_txn}
use Rattle.sd_base.specs.declared.ids.TxnId.{TxnId}
use Rattle.sd_txn.specs.contracts.list.TxnList.{the_row}
use Rattle.sd_txn.specs.contracts.txn.Txn.{the_row as txn_row}
use Rattle.sd_txn.specs.Transactions.{Transaction}

-- t is the last one
abbrev pub IsLast : List (TxnId × Transaction) → TxnId → Type 0
IsLast list t = (x : Transaction) × (slice_get list (length list - 1) ≡ Some (t, x))

-- the transaction's part is the last one written through r; where none was lent, the list stays
abbrev pub LendsTxn : MutBor (List (TxnId × Transaction)) → TxnId → Option (MutBor Transaction) → Fml
LendsTxn list t r = LendsSo the_row txn_row list r (λ after x. after ≡ set_value (same_txn t) list.now x) (λ after. after ≡ list.now)
