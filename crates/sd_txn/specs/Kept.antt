-- What every transaction and every table keeps: the marks are in order, and the sums are those of what is open.
use Rattle.std.specs.Prelude.{◌≡◌, ℕ, ◌+◌, ◌≤◌, if◌then◌else◌, List, length, sum_by, is_some}
use Rattle.std.specs.List.{AllByRecursion}
use Rattle.sd_base.specs.declared.ids.TxnId.{TxnId}
use Rattle.sd_txn.specs.declared.owed.Owed.{Owed}
use Rattle.sd_txn.specs.declared.state.OpenRec.{OpenRec}
use Rattle.sd_txn.specs.Marked.{AreMarks}
use Rattle.sd_txn.specs.Owing.{undo_len}
use Rattle.sd_txn.specs.Transactions.{Transaction, depth}

-- the bytes of the undo of a transaction's open records
abbrev pub undo_of : Transaction → ℕ
undo_of x = sum_by undo_len x.stack

-- whether it has a record in the log, as a number
abbrev pub spans_of : Transaction → ℕ
spans_of x = if is_some x.span then 1 else 0

-- a sum over transactions
abbrev pub total : (Transaction → ℕ) → List (TxnId × Transaction) → ℕ
total f txns = sum_by (λ e. f e.1) txns

-- a transaction with these marks and open records
pub record IsTxn (marks : List (List ℕ × ℕ)) (stack : List OpenRec) (undo : ℕ) : Type 0 where
  pub marked : AreMarks marks (length stack)
  pub summed : undo ≡ sum_by undo_len stack

-- a table of these transactions
pub record IsTable (owed : Owed) (txns : List (TxnId × Transaction)) : Type 0 where
  pub marked : AllByRecursion (λ e. AreMarks e.1.marks (depth e.1)) txns
  pub undo : owed.undo ≡ total undo_of txns
  pub records : owed.records ≡ total depth txns
  pub spans : owed.spans ≡ total spans_of txns

-- the part of a transaction is in the sums
pub record IsWithin (x : Transaction) (owed : Owed) : Type 0 where
  pub undo : undo_of x ≤ owed.undo
  pub records : depth x ≤ owed.records
  pub spans : spans_of x ≤ owed.spans

-- the sums with the part of a transaction more
pub record IsWith (x : Transaction) (less more : Owed) : Type 0 where
  pub undo : more.undo ≡ less.undo + undo_of x
  pub records : more.records ≡ less.records + depth x
  pub spans : more.spans ≡ less.spans + spans_of x
