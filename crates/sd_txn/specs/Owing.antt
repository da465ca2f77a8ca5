-- What the ends of transactions take of a log: for each open record its undo, and for one with a record its End.
use Rattle.std.specs.Prelude.{ℕ, ◌+◌, if◌then◌else◌, length, sum_by, is_some}
use Rattle.sd_base.specs.Values.{size}
use Rattle.sd_txn.specs.declared.state.OpenRec.{OpenRec}
use Rattle.sd_txn.specs.Transactions.{Transaction, Transactions}

-- the bytes of the undo of an open record: a group's head, a compensation record, and the value before
abbrev pub undo_len : OpenRec → ℕ
undo_len rec = 47 + size rec.before

-- what the end of a transaction takes: of one with a record its End, and the undo of each open record
abbrev pub bytes_owed : Transaction → ℕ
bytes_owed x = (if is_some x.span then 31 else 0) + sum_by undo_len x.stack

abbrev pub records_owed : Transaction → ℕ
records_owed x = (if is_some x.span then 1 else 0) + length x.stack

-- and of all that are unresolved
abbrev pub reserve_of : Transactions → ℕ
reserve_of table = sum_by (λ e. bytes_owed e.1) table.unresolved

abbrev pub owed_of : Transactions → ℕ
owed_of table = sum_by (λ e. records_owed e.1) table.unresolved
