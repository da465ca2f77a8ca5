-- What a transaction table keeps of the transactions of a log.
use Rattle.std.specs.Prelude.{Bool, if◌then◌else◌, List, [], map, reverse}
use Rattle.std.specs.List.{list_any}
use Rattle.sd_base.specs.declared.ids.TxnId.{TxnId}
use Rattle.sd_base.specs.Ids.{same_txn}
use Rattle.sd_logrec.specs.View.{Rec}
use Rattle.sd_txn.specs.declared.state.OpenRec.{OpenRec}
use Rattle.sd_txn.specs.declared.state.TxnState.{TxnState}
use Rattle.sd_txn.specs.Transactions.{Transaction, started}
use Rattle.sd_chain.specs.Records.{stack}
use Rattle.sd_chain.specs.Order.{span_of}
use Rattle.sd_chain.specs.Checks.{open_in}
use Rattle.sd_chain.specs.Undoing.{Member}

-- what a rollback knows of a record
abbrev pub open_rec : Rec → OpenRec
open_rec x = record { lsn = x.lsn; prev = x.prev; rid = record { page = x.page; slot = x.slot }; before = x.before }

-- the log has records of the transaction, and no Commit or End
abbrev pub is_left_open : List Rec → TxnId → Bool
is_left_open log t = list_any (same_txn t) (open_in log)

-- a transaction with its open records in the log, the oldest first, and the LSNs of its first and last record there
abbrev pub left_open : List Rec → TxnId → TxnState → Transaction
left_open log t state = record { state = state; marks = []; stack = map open_rec (reverse (stack t log)); span = span_of t log }

-- a transaction as a log has it: one that the log doesn't leave open has nothing open, and no record of it is known
abbrev pub as_transaction : List Rec → TxnId → TxnState → Transaction
as_transaction log t state = if is_left_open log t then left_open log t state else started state

-- whom the log leaves open is among these
abbrev pub AreAmong : List Rec → List TxnId → Type 0
AreAmong log ts = (t : TxnId) → Member t (open_in log) → Member t ts
