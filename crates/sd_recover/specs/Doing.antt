-- What a step of a recovery leaves that has done its task.
use Rattle.std.specs.Prelude.{◌≡◌, ℕ, ◌≤◌, ◌<◌, ◌||◌, false, None}
use Rattle.std.specs.List.{list_any}
use Rattle.sd_log.specs.Logs.{last_lsn, scanned}
use Rattle.sd_rig.specs.Devices.{DeviceImages}
use Rattle.sd_moves.specs.Places.{with_directory}
use Rattle.sd_moves.specs.Putting.{with_loose_disk}
use Rattle.sd_moves.specs.Settling.{IsReread, with_reread}
use Rattle.sd_pagelock.specs.Places.{PageEntry}
use Rattle.sd_txn.specs.Transactions.{Replaces, Transaction, noted, popped, shut, with_state}
use Rattle.sd_state.specs.Locking.{IsSet}
use Rattle.sd_chain.specs.Fates.{commits}
use Rattle.sd_chain.specs.Logs.{base_at}
use Rattle.sd_state.specs.Parts.{Parts, log_at, status_at, txns_at}
use Rattle.sd_state.specs.Recovering.{decided_as, with_table}
use Rattle.sd_fits.specs.Untouched.{FallTouches, HasChanged, IsUntouched, none_of, only}
use Rattle.sd_recover.specs.Recovering.{FreesOne, SettlesOne}
use Rattle.sd_recover.specs.Work.{steps_left}
use Rattle.sd_recover.specs.declared.tasks.Task.{Task}
use Rattle.sd_recover.specs.declared.tasks.Task.TheVariants as task

-- The task of the recovery of i is done: that device alone is settled anew; that page alone is freed; or of the table of i that row
-- alone is another: it isn't in doubt any more, but committed where the log of i has its Commit, and else a loser; its last open record
-- is undone, and it notes the LSN of the last record of the log of i, which is the undo's; or it has an End.
abbrev pub HasDone : ℕ → Task → Parts → Parts → Type 0
HasDone i (task.Settle dev) old new = SettlesOne dev old new
HasDone i (task.Rebuild p) old new = FreesOne p old new
HasDone i (task.Decide t) old new = (x : Transaction)
    × Replaces (txns_at old i) (txns_at new i) t x (with_state (decided_as (list_any (commits t) (base_at (log_at new i)))) x)
HasDone i (task.Undo t p) old new = (x : Transaction)
    × Replaces (txns_at old i) (txns_at new i) t x (noted (last_lsn (scanned (log_at new i))) (popped x))
HasDone i (task.End t) old new = (x : Transaction) × Replaces (txns_at old i) (txns_at new i) t x (shut x)
HasDone i task.Done old new = ⊥

-- What a task of the recovery of i by this instance leaves besides. A device that is settled: all but its mark and, of a log, what its
-- device reads. A page that is freed: all but its place. A row's task: what no world has, but that an undo changes its page in the pool
-- of the recoverer. The page has the LSN of the undo's record then, and so has its RecLSN where it had none; else it keeps that.
abbrev pub LeavesElse : ℕ → ℕ → DeviceImages → Task → Parts → Parts → Type 0
LeavesElse i by seen (task.Settle dev) old new = (dev ≡ 0 → new ≡ with_loose_disk false old)
    × (1 ≤ dev → (new ≡ with_reread dev new old) × IsReread dev (seen dev) old new)
LeavesElse i by seen (task.Rebuild p) old new = (new ≡ with_directory new.directory old)
    × IsSet p PageEntry.Free None old.directory new.directory
LeavesElse i by seen (task.Decide t) old new = IsUntouched none_of none_of old new
LeavesElse i by seen (task.Undo t p) old new =
    (h : HasChanged by p old new) × (h.image.lsn ≡ last_lsn (scanned (log_at new i)))
LeavesElse i by seen (task.End t) old new = IsUntouched none_of none_of old new
LeavesElse i by seen task.Done old new = ⊥

-- What such a task leaves where a device failed and the recoverer fell, by the devices of which a call may have failed: the one that is
-- settled, the data device where a page is put, the logs that are forced. Of an undo and an End the row may be another.
abbrev pub StepFell : ℕ → ℕ → Task → Parts → Parts → Type 0
StepFell i by (task.Settle dev) old new = FallTouches by (only dev) none_of old new
StepFell i by (task.Rebuild p) old new = FallTouches by (only 0) none_of old new
StepFell i by (task.Decide t) old new = FallTouches by (only i) none_of old new
StepFell i by (task.Undo t p) old new = FallTouches by (λ d. only by d || only i d) (only p) (with_table i (txns_at new i) old) new
StepFell i by (task.End t) old new = FallTouches by (only i) none_of (with_table i (txns_at new i) old) new
StepFell i by task.Done old new = FallTouches by (only i) none_of old new

-- A step of the recovery of i by this instance has done this task: each instance stands as before, and less is left to do.
pub record Does (i by : ℕ) (seen seen' : DeviceImages) (next : Task) (old new : Parts) : Type 0 where
  pub done : HasDone i next old new
  pub leaves : LeavesElse i by seen next old new
  pub stands : (j : ℕ) → status_at new j ≡ status_at old j
  pub falls : steps_left seen' new i < steps_left seen old i
