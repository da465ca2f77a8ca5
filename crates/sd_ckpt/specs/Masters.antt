-- The master of a log whose instance ends its checkpoint: when it may be put, and what is left of a complex and its device then.
use Rattle.std.specs.Prelude.{◌≡◌, ◌⊎◌, ℕ, ◌+◌, ◌-◌, ◌^◌, ◌<◌, true, false, List, [], Option, None, Some, is_some, slice_set}
use Rattle.std.specs.List.{list_any}
use Rattle.sd_base.specs.Twin.{chosen_body}
use Rattle.sd_base.specs.declared.ids.TxnId.{TxnId}
use Rattle.sd_log.specs.Logs.{IsStartFor, begun_at, last_lsn, scanned}
use Rattle.sd_logrec.specs.Kept.{Master, master}
use Rattle.sd_rig.specs.Devices.{LeavesOnly}
use Rattle.sd_txn.specs.Transactions.{Transaction, txn_at}
use Rattle.sd_chain.specs.Checks.{is_end_check}
use Rattle.sd_chain.specs.Logs.{all_at, records_at}
use Rattle.sd_chain.specs.Records.{IsOpen}
use Rattle.sd_state.specs.Good.{TakesCheck}
use Rattle.sd_state.specs.Parts.{Begun, Parts, check_at, count_at, is_loose, log_at, low_of, status_at, txns_at}
use Rattle.sd_ckpt.specs.Laws.{with_begun}

-- The master of i may be put that names this place: i ends its checkpoint, whose EndCheck is forced and has the log's last LSN;
-- the place is the greatest that the checkpoint's low allows; there is a further count; and whoever is in the table of i is open
-- in its log.
pub record MayPutMaster (i lsn start : ℕ) (c : Parts) : Type 0 where
  pub takes : TakesCheck (status_at c i)
  pub settled : is_loose c i ≡ false
  pub bare : (log_at c i).tail ≡ []
  pub begun : (k : Begun) × (check_at c i ≡ Some k) × IsStartFor (low_of k) (log_at c i).groups (log_at c i).gate start
  pub check : lsn ≡ last_lsn (scanned (log_at c i))
  pub ended : list_any (is_end_check lsn) (records_at (log_at c i)) ≡ true
  pub count : count_at c i + 1 < 2 ^ 64
  pub alive : (t : TxnId) (x : Transaction) → txn_at (txns_at c i) t ≡ Some x → IsOpen t (all_at (log_at c i))

-- the master that is put over this one
abbrev pub next_master : ℕ → ℕ → ℕ → Master → Master
next_master epoch check start was = record { count = was.count + 1; log_area = 0; epoch = epoch; check = check; start = start }

-- That master counts on the device, whatever a crash leaves.
pub record IsMasterPut (m : Master) (bytes : List ℕ) (left : List ℕ → Type 0) : Type 0 where
  pub chosen : is_some (chosen_body 0 64 bytes) ≡ true
  pub says : master bytes ≡ m
  pub only : LeavesOnly bytes left

-- It is the one that was there, or that one.
abbrev pub IsMasterOr : Master → List ℕ → List ℕ → Type 0
IsMasterOr m was bytes = (master bytes ≡ master was) ⊎ (master bytes ≡ m)

-- the log of i begins at this place, its master has this count, and i has begun no checkpoint
abbrev pub with_master : ℕ → ℕ → ℕ → Parts → Parts
with_master i start count c = with_begun i (begun_at start (log_at c i)) count
    (slice_set {A = Option Begun} c.checks (i - 1) None) c
