-- A recovery begins, decides the transaction in doubt, and ends.
use Rattle.std.specs.Prelude.{◌≡◌, ◌⊎◌, ℕ, ◌-◌, Bool, true, false, List, [], Option, None, Some, cond, filter, slice_set}
use Rattle.sd_base.specs.declared.ids.TxnId.{TxnId}
use Rattle.sd_base.specs.declared.ids.Rid.{Rid}
use Rattle.sd_base.specs.declared.place.Status.TheVariants as S
use Rattle.sd_model.specs.Changes.{after_recovery, commit_all, swept}
use Rattle.sd_model.specs.State.{State, put_inst, with_status}
use Rattle.sd_reclock.specs.Locks.{LockTable, held}
use Rattle.sd_txn.specs.Transactions.{Transaction, Transactions, ids, state_at, txn_at}
use Rattle.sd_txn.specs.declared.state.TxnState.{TxnState}
use Rattle.sd_chain.specs.Records.{home}
use Rattle.sd_state.specs.Parts.{Parts, is_loose, log_at, status_at, txns_at}

-- i is being recovered by this instance; its log and device 0 are to be synced and read
abbrev pub with_recovering : ℕ → ℕ → Parts → Parts
with_recovering i by c =
    record c { statuses = slice_set c.statuses (i - 1) (S.Recovering by); loose = slice_set (slice_set c.loose 0 true) i true }

-- and in the serial table it is, too
abbrev pub recovers : ℕ → ℕ → State → State
recovers i by m = put_inst i (with_status (S.Recovering by) (m.inst i)) m

-- the table of instance i is this one
abbrev pub with_table : ℕ → Transactions → Parts → Parts
with_table i table c = record c { txns = slice_set c.txns (i - 1) table }

-- how a transaction that was in doubt stands once it is known whether its Commit is kept
abbrev pub decided_as : Bool → TxnState
decided_as committed = cond committed TxnState.Committed TxnState.Retained

-- ---- the end of a recovery

-- it was found committed
abbrev pub is_found : Option TxnState → Bool
is_found None = false
is_found (Some TxnState.Running) = false
is_found (Some (TxnState.Rolling to)) = false
is_found (Some TxnState.Retained) = false
is_found (Some TxnState.Doubt) = false
is_found (Some TxnState.Committed) = true

-- the transactions of a table that were found committed, in order of begin
abbrev pub found_in : Transactions → List TxnId
found_in table = filter (λ t. is_found (state_at table t)) (ids table)

-- A row of instance i of which nothing is left to do: its transaction was found committed or is a loser, and has neither an open
-- record nor a record that owes an end.
pub record IsDone (i : ℕ) (t : TxnId) (x : Transaction) : Type 0 where
  pub own : home t ≡ i
  pub state : (x.state ≡ TxnState.Committed) ⊎ (x.state ≡ TxnState.Retained)
  pub emptied : x.stack ≡ []
  pub span : x.span ≡ None

-- The recovery of i may end: its log is settled and has no tail, nothing is left to do of its rows, and no other transaction of i
-- has a lock.
pub record MayEnd (i : ℕ) (c : Parts) : Type 0 where
  pub by : ℕ
  pub recovering : status_at c i ≡ S.Recovering by
  pub settled : is_loose c i ≡ false
  pub no_tail : (log_at c i).tail ≡ []
  pub rows : (t : TxnId) (x : Transaction) → txn_at (txns_at c i) t ≡ Some x → IsDone i t x
  pub unheld : (t : TxnId) → home t ≡ i → txn_at (txns_at c i) t ≡ None → (r : Rid) → held c.locks t r ≡ None

-- a table without its rows
abbrev pub without_rows : Transactions → Transactions
without_rows table = record { inst = table.inst; epoch = table.epoch; begins = table.begins; unresolved = [] }

-- i is recovered, no row of its table is left, and locks are these
abbrev pub with_recovered : ℕ → LockTable → Parts → Parts
with_recovered i locks c = record c {
  txns = slice_set c.txns (i - 1) (without_rows (txns_at c i));
  statuses = slice_set c.statuses (i - 1) (after_recovery i (status_at c i));
  locks = locks;
}

-- in the serial table those that were found are committed, and the losers are gone
abbrev pub recovered_from : ℕ → Transactions → State → State
recovered_from i table m = swept i (commit_all (found_in table) m)
