-- What calls of transactions make of a complex: its tables and its record locks.
use Rattle.std.specs.Prelude.{◌≡◌, ℕ, ◌+◌, ◌-◌, cond, [], ◌∷◌, None, Some, slice_set}
use Rattle.sd_reclock.specs.Answers.{IsFree}
use Rattle.sd_base.specs.Ids.{same_txn}
use Rattle.sd_base.specs.declared.ids.TxnId.{TxnId}
use Rattle.sd_base.specs.declared.ids.Rid.{Rid}
use Rattle.sd_base.specs.declared.place.Mode.{Mode}
use Rattle.sd_base.specs.declared.place.Status.TheVariants as S
use Rattle.sd_chain.specs.Records.{home}
use Rattle.sd_model.specs.State.{State, took, view}
use Rattle.sd_model.specs.Tables.{Content}
use Rattle.sd_model.specs.Waits.{claim_of}
use Rattle.sd_model.specs.declared.act.Act.{Act}
use Rattle.sd_model.specs.declared.act.Life.{Life}
use Rattle.sd_reclock.specs.Locks.{LockTable, held, raised, stands, wait_for}
use Rattle.sd_rig.specs.Devices as rig
use Rattle.sd_chain.specs.Logs.{Outcomes}
use Rattle.sd_state.specs.Good.{Good}
use Rattle.sd_txn.specs.Owing.{bytes_owed, owed_of, records_owed, reserve_of}
use Rattle.sd_txn.specs.Transactions.{OthersStay, Transaction, Transactions, txn_at, without}
use Rattle.sd_state.specs.Parts.{Parts, status_at, txns_at}
use Rattle.sd_state.specs.Values.{Pending}

-- the table of instance i is this one
abbrev pub with_txns : ℕ → Transactions → Parts → Parts
with_txns i table c = record c { txns = slice_set c.txns (i - 1) table }

-- the record locks are these
abbrev pub with_locks : LockTable → Parts → Parts
with_locks locks c = record c { locks = locks }

-- both
abbrev pub with_working : ℕ → Transactions → LockTable → Parts → Parts
with_working i table locks c = record c { txns = slice_set c.txns (i - 1) table; locks = locks }

-- The table of t's instance is without t, whose row owed its part; and t has no lock.
pub record IsLeft (t : TxnId) (locks : LockTable) (c : Parts) : Type 0 where
  pub others : OthersStay (txns_at c (home t)) (without (txns_at c (home t)) t) t
  pub none : txn_at (without (txns_at c (home t)) t) t ≡ None
  pub owes : (x : Transaction) → txn_at (txns_at c (home t)) t ≡ Some x
      → owed_of (without (txns_at c (home t)) t) + records_owed x ≡ owed_of (txns_at c (home t))
  pub reserves : (x : Transaction) → txn_at (txns_at c (home t)) t ≡ Some x
      → reserve_of (without (txns_at c (home t)) t) + bytes_owed x ≡ reserve_of (txns_at c (home t))
  pub released : (u : TxnId) (r : Rid) → held locks u r ≡ cond (same_txn t u) None (held c.locks u r)

-- A transaction that runs finds what it sees at a record, of which it has a lock in this mode or a stronger one, where nobody
-- stands in its way: nothing of the complex changes, and the serial table notes the read.
abbrev pub ReadIsGood : Outcomes → Type 0
ReadIsGood leaves = (seen : rig.DeviceImages) (c : Parts) (m : State) (t : TxnId) (r : Rid) (mode : Mode) (v : Content)
    → Good seen leaves Pending.Idle c m → c.due ≡ None → status_at c (home t) ≡ S.Up → (m.part t).life ≡ Life.Running
    → IsFree (stands c.locks) t (wait_for r mode) → held c.locks t r ≡ Some (raised (held c.locks t r) mode) → v ≡ view m t r
    → Good seen leaves Pending.Idle c (took t r (claim_of mode) (Act.Read r v ∷ []) m)
