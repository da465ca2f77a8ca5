-- A record without a page that comes to a log: the start of an epoch, one of a checkpoint, or the end of a transaction.
use Rattle.std.specs.Prelude.{◌≡◌, ◌⊎◌, ℕ, ◌+◌, ◌-◌, ◌^◌, ◌<◌, ◌≤◌, max, true, false, [], None, Some, IsSome, length, slice_set}
use Rattle.std.specs.Option.{option_map_or}
use Rattle.std.specs.List.{IsDistinct}
use Rattle.sd_base.specs.declared.ids.TxnId.{TxnId}
use Rattle.sd_base.specs.Ids.{same_txn}
use Rattle.sd_base.specs.declared.place.Status.TheVariants as S
use Rattle.sd_logrec.specs.declared.record.Record.{Record}
use Rattle.sd_logrec.specs.declared.record.Record.TheVariants as records
use Rattle.sd_logrec.specs.Spelling.{spelling}
use Rattle.sd_logrec.specs.View.{flat}
use Rattle.sd_logrec.specs.View.Kind.{Commit, End, Plain}
use Rattle.sd_log.specs.Logs.{LogState, needed, with_record}
use Rattle.sd_model.specs.State.{State}
use Rattle.sd_rig.specs.Devices as rig
use Rattle.sd_txn.specs.Marked.{AreMarks}
use Rattle.sd_txn.specs.Owing.{owed_of, reserve_of}
use Rattle.sd_txn.specs.Transactions.{Replaces, Transaction, Transactions, depth, ids, shut, txn_at}
use Rattle.sd_txn.specs.declared.state.TxnState.{TxnState}
use Rattle.sd_chain.specs.Checks.{lsn_of, reserve}
use Rattle.sd_chain.specs.Images.{Keeps}
use Rattle.sd_chain.specs.Order.{MayFollow, speaks}
use Rattle.sd_chain.specs.Records.{home}
use Rattle.sd_chain.specs.Logs.{Outcomes, all_at, is_start, next_lsn}
use Rattle.sd_chain.specs.Appends.{IsTested}
use Rattle.sd_state.specs.Good.{Good}
use Rattle.sd_state.specs.Images.{leaves_by, log_by}
use Rattle.sd_state.specs.Parts.{Parts, is_loose, log_at, owed_at, status_at, txns_at}
use Rattle.sd_state.specs.Sums.{great_of, owed_where}
use Rattle.sd_state.specs.Tables.{GoesOn, tells_log}
use Rattle.sd_state.specs.Values.{Pending}

-- log i is this one
abbrev pub with_sealed : ℕ → LogState → Parts → Parts
with_sealed i log c = record c { logs = slice_set c.logs (i - 1) log }

-- log i has one more record, and so many bytes of records find memory
abbrev pub with_more : ℕ → Record → ℕ → Parts → Parts
with_more i y spare c = with_sealed i (with_record y spare (log_at c i)) c

-- and the table of instance i is this one
abbrev pub with_ended : ℕ → LogState → Transactions → Parts → Parts
with_ended i log table c = record (with_sealed i log c) { txns = slice_set c.txns (i - 1) table }

-- both
abbrev pub with_last : ℕ → Record → ℕ → Transactions → Parts → Parts
with_last i y spare table c = with_ended i (with_record y spare (log_at c i)) table c

-- log i has the Start of this epoch, and is in it
abbrev pub with_start : ℕ → ℕ → ℕ → ℕ → Parts → Parts
with_start i lsn epoch spare c =
    record (with_more i (records.Start lsn epoch) spare c) { epochs = slice_set c.epochs (i - 1) epoch }

-- A record without a page may come to log i, which is settled, and of which a table tells.
pub record MaySeal (i : ℕ) (y : Record) (c : Parts) : Type 0 where
  pub low : 1 ≤ i
  pub high : i ≤ 8
  pub settled : is_loose c i ≡ false
  pub tells : tells_log (status_at c i) ≡ true
  pub own : speaks (flat y).kind ≡ true → home (flat y).txn ≡ i
  pub follows : speaks (flat y).kind ≡ true → MayFollow (all_at (log_at c i)) (flat y)
  pub lsn : lsn_of y ≡ next_lsn (log_at c i) 0

-- The row of the record's transaction, which was x, with a record, is shut; the record takes no more of what finds memory than its
-- bytes.
pub record IsShutBy (i : ℕ) (y : Record) (x : Transaction) (spare : ℕ) (table : Transactions) (c : Parts) : Type 0 where
  pub there : IsSome x.span
  pub row : Replaces (txns_at c i) table (flat y).txn x (shut x)
  pub spends : (log_at c i).spare ≤ spare + length (spelling y)
  -- what every table keeps
  pub once : IsDistinct same_txn (ids (txns_at c i))
  pub marks : AreMarks x.marks (depth x)

-- It was tested for, wherever logs begin.
abbrev pub IsTestedFor : ℕ → Record → ℕ → Outcomes → Parts → Type 0
IsTestedFor i y spare leaves c = (moved : Keeps)
    → IsTested i y 0 (leaves_by c moved leaves) (log_by c moved) (log_by (with_more i y spare c) moved)

-- ---- the end of a transaction

-- the LSN of the transaction's last record
abbrev pub prev_of : Transaction → ℕ
prev_of x = option_map_or (λ (span : ℕ × ℕ). span.1) x.span 0

-- the record that commits it, and the one that ends it without
abbrev pub commit_of : TxnId → Transaction → Parts → Record
commit_of t x c = records.Commit (next_lsn (log_at c (home t)) 0) t (prev_of x)

abbrev pub end_of : TxnId → Transaction → Parts → Record
end_of t x c = records.End (next_lsn (log_at c (home t)) 0) t (prev_of x)

-- This record is the last one of the log of t's instance, and t's row is shut; all else is as it was.
pub record HasEnd (t : TxnId) (y : Transaction → Record) (old new : Parts) : Type 0 where
  pub x : Transaction
  pub spare : ℕ
  pub table : Transactions
  pub ended : IsShutBy (home t) (y x) x spare table old
  pub is : new ≡ with_last (home t) (y x) spare table old

-- An End may come: nothing is open, and t rolls back wholly, while its instance is up; or it is a loser whose instance is being
-- recovered and has a settled log.
pub record MayPutEnd (t : TxnId) (c : Parts) : Type 0 where
  pub x : Transaction
  pub row : txn_at (txns_at c (home t)) t ≡ Some x
  pub there : IsSome x.span
  pub empty : x.stack ≡ []
  pub stands : ((status_at c (home t) ≡ S.Up) × (x.state ≡ TxnState.Rolling None))
      ⊎ ((by : ℕ) × (status_at c (home t) ≡ S.Recovering by) × (is_loose c (home t) ≡ false) × (x.state ≡ TxnState.Retained))

-- ---- a record of a checkpoint, or a Start

-- A checkpoint's record may come, of the log's next LSN: its instance is up or restarting.
pub record MayCheck (i : ℕ) (y : Record) (c : Parts) : Type 0 where
  pub stands : (status_at c i ≡ S.Up) ⊎ (status_at c i ≡ S.Restarting)
  pub kind : (flat y).kind ≡ Plain
  pub no_start : is_start y ≡ false
  pub lsn : lsn_of y ≡ next_lsn (log_at c i) 0

-- Log i has no room for a record of so many bytes behind all that is reserved.
abbrev pub NoRoomFor : ℕ → ℕ → Parts → Type 0
NoRoomFor i len c = 1048576 < needed (log_at c i) len (reserve_of (txns_at c i))

-- No LSN is left for a further record and for all that is owed, of which log i owes what its table tells.
abbrev pub NoLsnLeft : ℕ → Parts → Type 0
NoLsnLeft i c = 2 ^ 62 ≤ great_of c + 1 + owed_where i (max (owed_at c i) (owed_of (txns_at c i))) c

-- ---- laws: how the invariant stands once the record has come

-- The End of a transaction that has a record comes without a refusal, and its row, which was x, is shut. It isn't one that may have
-- further records.
abbrev pub EndSeals : Outcomes → Type 0
EndSeals leaves = (i spare : ℕ) (y : Record) (x : Transaction) (table : Transactions) (seen : rig.DeviceImages) (pend : Pending)
    (c : Parts) (m : State) → Good seen leaves pend c m → leaves 0 (seen 0) → MaySeal i y c → (flat y).kind ≡ End
    → IsShutBy i y x spare table c → (GoesOn pend (flat y).txn (m.part (flat y).txn) → ⊥)
    → Good seen leaves pend (with_last i y spare table c) m

-- So does the Commit of one that runs: from then on its commit is under way.
abbrev pub CommitSeals : Outcomes → Type 0
CommitSeals leaves = (i spare : ℕ) (y : Record) (x : Transaction) (table : Transactions) (seen : rig.DeviceImages) (c : Parts) (m : State)
    → Good seen leaves Pending.Idle c m → leaves 0 (seen 0) → MaySeal i y c → (flat y).kind ≡ Commit
    → IsShutBy i y x spare table c → x.state ≡ TxnState.Running
    → Good seen leaves (Pending.Commits (flat y).txn) (with_last i y spare table c) m

-- A record of a checkpoint comes where it was tested for, and finds memory for what is owed.
abbrev pub CheckSeals : Outcomes → Type 0
CheckSeals leaves = (i spare : ℕ) (y : Record) (seen : rig.DeviceImages) (pend : Pending) (c : Parts) (m : State)
    → Good seen leaves pend c m
    → leaves 0 (seen 0) → MaySeal i y c → (flat y).kind ≡ Plain → is_start y ≡ false → IsTestedFor i y spare leaves c
    → reserve (all_at (log_at c i)) ≤ spare → Good seen leaves pend (with_more i y spare c) m

-- So does the Start of the next epoch, of an instance that isn't up: from then on it is under way.
abbrev pub StartSeals : Outcomes → Type 0
StartSeals leaves = (i spare lsn epoch : ℕ) (seen : rig.DeviceImages) (c : Parts) (m : State) → Good seen leaves Pending.Idle c m
    → leaves 0 (seen 0) → MaySeal i (records.Start lsn epoch) c → (status_at c i ≡ S.Clean) ⊎ (status_at c i ≡ S.Restarting)
    → IsTestedFor i (records.Start lsn epoch) spare leaves c
    → reserve (all_at (log_at c i)) ≤ spare
    → Good seen leaves (Pending.Starts i) (with_start i lsn epoch spare c) m
