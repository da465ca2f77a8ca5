-- A log that is to begin at another place, which its master names once that is put: laws on each end of the put, and on each
-- image meanwhile.
use Rattle.std.specs.Prelude.{◌≡◌, ◌≢◌, ◌⊎◌, ℕ, ◌-◌, ◌<◌, ◌≤◌, true, false, List, [], ◌++◌, Option, None, Some, IfSome, length, map, slice_set}
use Rattle.std.specs.List.{list_any}
use Rattle.sd_base.specs.Twin.{chosen_body, number_of}
use Rattle.sd_base.specs.declared.ids.TxnId.{TxnId}
use Rattle.sd_logrec.specs.Kept.{master}
use Rattle.sd_logrec.specs.View.{flat}
use Rattle.sd_logrec.specs.declared.record.Record.{Record}
use Rattle.sd_log.specs.Logs.{LogState, begun_at, last_lsn, scanned}
use Rattle.sd_model.specs.Lives.{IsFallen}
use Rattle.sd_model.specs.State.{State}
use Rattle.sd_rig.specs.Devices as rig
use Rattle.sd_rig.specs.Devices.{LeavesOnly, LeavesSame}
use Rattle.sd_rig.specs.Puts.{Puts}
use Rattle.sd_txn.specs.Transactions.{Transaction, txn_at}
use Rattle.sd_chain.specs.Images.{Keeps}
use Rattle.sd_chain.specs.Logs.{Outcomes, all_at, base_at, records_at}
use Rattle.sd_chain.specs.Records.{Each, IsOpen}
use Rattle.sd_chain.specs.Soundly.{IsReady}
use Rattle.sd_chain.specs.Starts.{IsLater, NamesLater}
use Rattle.sd_state.specs.Forcing.{with_failed}
use Rattle.sd_state.specs.Good.{Good, reaches}
use Rattle.sd_state.specs.Images.{Stands}
use Rattle.sd_state.specs.Parts.{Begun, Parts, actor, among, check_at, is_loose, log_at, low_of, status_at, txns_at}
use Rattle.sd_state.specs.Values.{Pending}
use Rattle.sd_ckpt.specs.Readings.{ReadsAlike, storage_by}

-- The log of i, which is settled and has no tail, may begin at this place: it is l' then, with the records behind these, of which
-- one has the last LSN. None is gone, or those below the low of a checkpoint that i has begun.
pub record MayBegin (i place : ℕ) (gone : List Record) (l' : LogState) (c : Parts) : Type 0 where
  pub low : 1 ≤ i
  pub high : i ≤ 8
  pub stands : IsFallen (status_at c i) → ⊥
  pub settled : is_loose c i ≡ false
  pub bare : (log_at c i).tail ≡ []
  pub forgets : (gone ≡ []) ⊎ ((k : Begun) × (check_at c i ≡ Some k) × Each (λ x. x.lsn < low_of k) (map flat gone))
  pub records : records_at (log_at c i) ≡ gone ++ records_at l'
  pub gate : l'.gate ≤ (log_at c i).gate
  pub tail : l'.tail ≡ []
  pub last_kept : list_any (reaches (last_lsn (scanned (log_at c i)))) (base_at l') ≡ true
  pub begins : begun_at place (log_at c i) ≡ l'
  pub start : l'.start ≡ place
  -- it begins where it did only as it was
  pub same : place ≡ (log_at c i).start → l' ≡ log_at c i

-- Of the checkpoints that are begun these are left: that of i only where no record is gone.
pub record KeepsChecks (i : ℕ) (gone : List Record) (checks : List (Option Begun)) (c : Parts) : Type 0 where
  pub long : length checks ≡ 8
  pub less : (j : ℕ) (k : Begun) → among {A = Option Begun} None checks j ≡ Some k
      → ((j ≢ i) ⊎ (gone ≡ [])) × (check_at c j ≡ Some k)

-- All but device i is as it was.
pub record ElsewhereSame (i : ℕ) (seen seen' : rig.DeviceImages) (leaves leaves' : Outcomes) : Type 0 where
  pub reads : (d : ℕ) → d ≢ i → seen' d ≡ seen d
  pub left : (d : ℕ) → d ≢ i → LeavesSame (leaves d) (leaves' d)

-- Device i is left with the former master, behind which the log is ready where it began, or with one that names the other place.
abbrev pub HasEither : ℕ → List ℕ → LogState → LogState → List ℕ → Type 0
HasEither i was l l' bytes = ((master bytes ≡ master was) × IsReady i bytes l) ⊎ IsLater was l l' bytes

-- the log of i begins at the other place, its master has this count, and these checkpoints are begun
abbrev pub with_begun : ℕ → LogState → ℕ → List (Option Begun) → Parts → Parts
with_begun i l' count checks c = record c {
  logs = slice_set c.logs (i - 1) l';
  masters = slice_set c.masters (i - 1) count;
  checks = checks;
}

-- the log of i begins at the one place or the other, and isn't settled; i is to fall
abbrev pub with_either : ℕ → ℕ → Parts → Parts
with_either i place c = record (with_failed (actor c i) i c) {
  others = slice_set {A = Option ℕ} c.others (i - 1) (Some place);
  checks = slice_set {A = Option Begun} c.checks (i - 1) None;
}

-- ---- laws

-- The put is Ok, and the records in front are forgotten. Whoever is in the table of i is open in its log.
abbrev pub MasterIsGood : Outcomes → Outcomes → Type 0
MasterIsGood leaves leaves' = (i place count : ℕ) (gone : List Record) (l' : LogState) (checks : List (Option Begun))
    (seen seen' : rig.DeviceImages) (c : Parts) (m : State) → Good seen leaves Pending.Idle c m
    → ((d : ℕ) → d ≤ 8 → leaves d (seen d)) → MayBegin i place gone l' c → KeepsChecks i gone checks c
    → ((t : TxnId) (x : Transaction) → txn_at (txns_at c i) t ≡ Some x → IsOpen t (all_at (log_at c i)))
    → ElsewhereSame i seen seen' leaves leaves' → LeavesOnly (seen' i) (leaves' i) → IsLater (seen i) (log_at c i) l' (seen' i)
    → IfSome (chosen_body 0 64 (seen' i)) (λ body. number_of body ≡ count)
    → Good seen' leaves' Pending.Idle (with_begun i l' count checks c) m

-- And what is read from the later place is what was read from the former one.
abbrev pub MasterReadsAlike : Outcomes → Outcomes → Type 0
MasterReadsAlike leaves leaves' = (i place count : ℕ) (gone : List Record) (l' : LogState) (checks : List (Option Begun))
    (seen seen' : rig.DeviceImages) (c : Parts) (m : State) → Good seen leaves Pending.Idle c m
    → ((d : ℕ) → d ≤ 8 → leaves d (seen d)) → MayBegin i place gone l' c → KeepsChecks i gone checks c
    → ((t : TxnId) (x : Transaction) → txn_at (txns_at c i) t ≡ Some x → IsOpen t (all_at (log_at c i)))
    → ElsewhereSame i seen seen' leaves leaves' → LeavesOnly (seen' i) (leaves' i) → IsLater (seen i) (log_at c i) l' (seen' i)
    → IfSome (chosen_body 0 64 (seen' i)) (λ body. number_of body ≡ count)
    → (moved keeps : Keeps) → ReadsAlike (storage_by seen c moved keeps) (storage_by seen' (with_begun i l' count checks c) moved keeps)

-- The put may have failed: the log begins at the one place or the other, and is as it was in memory.
abbrev pub EitherIsGood : Outcomes → Outcomes → Type 0
EitherIsGood leaves leaves' = (i place : ℕ) (gone : List Record) (l' : LogState) (seen seen' : rig.DeviceImages)
    (c : Parts) (m : State) → Good seen leaves Pending.Idle c m → ((d : ℕ) → d ≤ 8 → leaves d (seen d)) → c.due ≡ None
    → MayBegin i place gone l' c → ElsewhereSame i seen seen' leaves leaves'
    → ((bytes : List ℕ) → leaves' i bytes → HasEither i (seen i) (log_at c i) l' bytes)
    → Good seen' leaves' Pending.Idle (with_either i place c) m

-- And what is read from either is what was read.
abbrev pub EitherReadsAlike : Outcomes → Outcomes → Type 0
EitherReadsAlike leaves leaves' = (i place : ℕ) (gone : List Record) (l' : LogState) (seen seen' : rig.DeviceImages)
    (c : Parts) (m : State) → Good seen leaves Pending.Idle c m → ((d : ℕ) → d ≤ 8 → leaves d (seen d)) → c.due ≡ None
    → MayBegin i place gone l' c → ElsewhereSame i seen seen' leaves leaves'
    → ((bytes : List ℕ) → leaves' i bytes → HasEither i (seen i) (log_at c i) l' bytes)
    → (moved keeps : Keeps) → ReadsAlike (storage_by seen c moved keeps) (storage_by seen' (with_either i place c) moved keeps)

-- Each image that the put may leave stands for the same state.
abbrev pub MasterPutStands : Outcomes → Type 0
MasterPutStands leaves = (i place : ℕ) (gone : List Record) (l' : LogState) (body : List ℕ) (seen img : rig.DeviceImages)
    (c : Parts) (m : State) → Good seen leaves Pending.Idle c m → ((d : ℕ) → d ≤ 8 → leaves d (seen d)) → c.due ≡ None
    → MayBegin i place gone l' c → NamesLater (seen i) (log_at c i) l' body → Puts i 0 64 body seen leaves img
    → Stands m Pending.Idle img
