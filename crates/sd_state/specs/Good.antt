-- What holds of a complex between any two calls, with the state of the serial table: the invariant.
use Rattle.std.specs.Prelude.{◌≡◌, ◌≢◌, ◌⊎◌, ℕ, ◌<◌, ◌≤◌, Bool, true, false, List, [], None, Some, IfSome, leb, length}
use Rattle.std.specs.List.{list_any}
use Rattle.sd_base.specs.Twin.{chosen_body, number_of}
use Rattle.sd_base.specs.declared.ids.TxnId.{TxnId}
use Rattle.sd_base.specs.declared.ids.Rid.{Rid}
use Rattle.sd_base.specs.declared.place.Status.{Status}
use Rattle.sd_base.specs.declared.place.Status.TheVariants as S
use Rattle.sd_page.specs.Page.{Page}
use Rattle.sd_logrec.specs.Kept.{master}
use Rattle.sd_logrec.specs.View.{Rec}
use Rattle.sd_log.specs.Logs.{LogState, StandsOn, forced, last_lsn, scanned}
use Rattle.sd_model.specs.Kept.{Kept}
use Rattle.sd_model.specs.Listed.{Listed}
use Rattle.sd_model.specs.Marks.{Marked}
use Rattle.sd_model.specs.Lives.{LivesAreSound}
use Rattle.sd_model.specs.Recoverers.{Recoverers}
use Rattle.sd_model.specs.State.{State}
use Rattle.sd_model.specs.declared.act.Claim.{Claim}
use Rattle.sd_model.specs.declared.act.Inst.{Inst}
use Rattle.sd_model.specs.declared.act.Life.{Life}
use Rattle.sd_pagelock.specs.Asks.{is_open_ask}
use Rattle.sd_pagelock.specs.Directory as directory
use Rattle.sd_pagelock.specs.Directory.{asks_at, entry_at, rec_lsn_at}
use Rattle.sd_pool.specs.Buffers as buffers
use Rattle.sd_reclock.specs.Locks.{held}
use Rattle.sd_rig.specs.Devices as rig
use Rattle.sd_rig.specs.Devices.{LeavesOnly}
use Rattle.sd_txn.specs.Owing.{owed_of, reserve_of}
use Rattle.sd_txn.specs.Transactions.{begins_in, state_at, txn_at}
use Rattle.sd_txn.specs.declared.state.TxnState.{TxnState}
use Rattle.sd_chain.specs.Bytes.{disk_page}
use Rattle.sd_chain.specs.Checks.{owed, reserve}
use Rattle.sd_chain.specs.Fates.{fate}
use Rattle.sd_chain.specs.Images.{Gives, Keeps}
use Rattle.sd_chain.specs.Order.{speaks}
use Rattle.sd_chain.specs.Records.{Each, IsOpen, home, stack}
use Rattle.sd_chain.specs.Checkpoints.{Closed, Covered}
use Rattle.sd_chain.specs.Coherent.{Coherent}
use Rattle.sd_chain.specs.Named.{version_of}
use Rattle.sd_chain.specs.World.{Base, Dir}
use Rattle.sd_chain.specs.Logs.{Logs, Outcomes, all_at, base_at, kept_logs, may_of, past_at, tails_of}
use Rattle.sd_chain.specs.Soundly.{IsSoundly}
use Rattle.sd_state.specs.Images.{IsClaimed, IsEpochOf, IsOpenIn, leaves_by, log_by}
use Rattle.sd_state.specs.Parts.{Begun, IsShape, Parts, check_at, count_at, epoch_at, is_active, is_loose, is_up, log_at, other_at, owed_at, pool_at, status_at, txns_at, low_of}
use Rattle.sd_state.specs.Tables.{GoesOn, NamedOnce, NamesLife, RowIsLive, RowIsLogged, lock_of, tells_log}
use Rattle.sd_state.specs.Values.{Pending, is_committed, rid_of, values}
use Rattle.sd_logrec.specs.Spelling.{AreRecs, AreSpans}

-- ---- the complex as coherence sees it

abbrev pub base_of : rig.DeviceImages → (leaves : Outcomes) → Logs → Parts → Base (may_of leaves)
base_of seen leaves logs c = record {
  tails = tails_of logs;
  version = version_of (tails_of logs) (disk_page (seen 0));
  disk = disk_page (seen 0);
  rec_lsn = rec_lsn_at c.directory;
  loose = is_loose c;
  loose_disk = is_loose c 0;
  active = is_active c;
  up = is_up c;
  due = c.due;
}

abbrev pub dir_of : Parts → Dir
dir_of c = record {
  entry = entry_at c.directory;
  pool = λ i p. buffers.image_at (pool_at c i) p;
  moving = directory.moving_image_at c.directory;
}

-- ---- what a crash may leave

-- What may be left, with the logs beginning so: it is coherent and sound, recovery gives the table, what it leaves open is
-- claimed, each log is in an epoch of its instance, and begun checkpoints have what they need.
pub record Half (seen : rig.DeviceImages) (leaves : Outcomes) (logs : Logs) (pend : Pending) (c : Parts) (m : State) : Type 0 where
  pub coherent : Coherent (base_of seen leaves logs c) (dir_of c)
  pub soundly : IsSoundly leaves logs
  pub gives : Gives (tails_of logs) (may_of leaves) (λ keeps. values m pend (kept_logs (tails_of logs) keeps))
  pub claimed : (keeps : Keeps) (t : TxnId) → IsOpenIn t (kept_logs (tails_of logs) keeps (home t))
      → IsClaimed m t (kept_logs (tails_of logs) keeps (home t))
  -- so is what those have open with the tail whose forced records have no end of them
  pub held : (t : TxnId) → IsOpen t (base_at (logs (home t)))
      → Each (λ x. (m.part t).claims (rid_of x) ≡ Claim.Excl) (stack t (all_at (logs (home t))))
  pub epochs : (j : ℕ) → 1 ≤ j → j ≤ 8 → (bytes : List ℕ) → leaves j bytes
      → IsEpochOf m pend j (past_at (master bytes) (logs j)).epoch × IsEpochOf m pend j (past_at (master bytes) (forced (logs j))).epoch
  pub checks : (i : ℕ) (k : Begun) → check_at c i ≡ Some k
      → Covered (low_of k) i (base_of seen leaves logs c) × Closed (low_of k) i (tails_of logs)

-- ---- devices in memory

-- A settled device: a crash leaves what it reads, and on it stands its log without the tail, which begins at one place; the
-- master's count is known, and the epoch that the log is in with its tail.
pub record IsSettledAt (seen : rig.DeviceImages) (leaves : Outcomes) (c : Parts) (j : ℕ) : Type 0 where
  pub only : LeavesOnly (seen j) (leaves j)
  pub stands : StandsOn (log_at c j) (seen j)
  pub one_place : other_at c j ≡ None
  pub counted : IfSome (chosen_body 0 64 (seen j)) (λ body. number_of body ≡ count_at c j)
  pub epoch : (past_at (master (seen j)) (forced (log_at c j))).epoch ≡ epoch_at c j

-- the record has this LSN or a greater one
abbrev pub reaches : ℕ → Rec → Bool
reaches lsn x = leb lsn x.lsn

-- No page had a greater LSN when the complex was opened, or a forced record of these logs has this one or a greater.
abbrev pub IsKnownLsn : Parts → Logs → ℕ → Type 0
IsKnownLsn c logs lsn = (lsn ≤ c.disk_lsn) ⊎ ((j : ℕ) × (1 ≤ j) × (j ≤ 8) × (list_any (reaches lsn) (base_at (logs j)) ≡ true))

-- ---- instances

-- An instance's status is that of the serial table, and while it is up, so are its epoch and the number of its begins. Its table
-- names whom the serial table has, nobody of another instance, and is of no later epoch.
pub record IsInstance (c : Parts) (m : State) (i : ℕ) : Type 0 where
  pub status : status_at c i ≡ (m.inst i).status
  pub epoch : status_at c i ≡ S.Up → epoch_at c i ≡ (m.inst i).epoch
  pub first : status_at c i ≡ S.Up → 1 ≤ (m.inst i).epoch
  pub table : (txns_at c i).epoch ≤ (m.inst i).epoch
  pub begins : status_at c i ≡ S.Up → begins_in (txns_at c i) (m.inst i).epoch ≡ (m.inst i).begins
  pub own : (t : TxnId) → home t ≢ i → txn_at (txns_at c i) t ≡ None
  pub names : (t : TxnId) → home t ≡ i
      → NamesLife (txn_at (txns_at c i) t) (m.part t).life (fate t (base_at (log_at c i))) (fate t (all_at (log_at c i)))

-- What the table of an instance with a settled log tells of the log: what each transaction has open, and what is owed. While the
-- instance is up there is memory for what is owed.
pub record IsTold (c : Parts) (m : State) (i : ℕ) : Type 0 where
  pub rows : (t : TxnId) → home t ≡ i → RowIsLogged (txn_at (txns_at c i) t) t (all_at (log_at c i))
  pub owes : owed_of (txns_at c i) ≡ owed (all_at (log_at c i))
  pub reserves : reserve_of (txns_at c i) ≡ reserve (all_at (log_at c i))
  pub spare : status_at c i ≡ S.Up → reserve (all_at (log_at c i)) ≤ (log_at c i).spare

-- The record is of no transaction, or of one that has begun in this epoch, or of another epoch.
abbrev pub IsOfBegun : Inst → Rec → Type 0
IsOfBegun inst x = speaks x.kind ≡ true → x.txn.epoch ≡ inst.epoch → x.txn.seq ≤ inst.begins

-- Whom an instance that is up has at work, but for the one whose Commit is under way.
abbrev pub RowsAreLive : Pending → Parts → State → ℕ → Type 0
RowsAreLive pend c m i = (t : TxnId) → home t ≡ i → (pend ≡ Pending.Commits t → ⊥)
    → RowIsLive (txn_at (txns_at c i) t) t (m.part t) (all_at (log_at c i))

-- A transaction whose commit is under way: it runs, and its log has its Commit.
pub record IsPending (c : Parts) (m : State) (t : TxnId) : Type 0 where
  pub runs : (m.part t).life ≡ Life.Running
  pub up : status_at c (home t) ≡ S.Up
  pub committed : is_committed (λ j. all_at (log_at c j)) t ≡ true

-- the record is of no transaction, or of one of an earlier epoch
abbrev pub IsOlder : ℕ → Rec → Type 0
IsOlder epoch x = speaks x.kind ≡ true → x.txn.epoch < epoch

-- An instance whose Start is under way: it isn't up yet, and nothing has begun in the epoch of that Start.
pub record IsStarting (c : Parts) (m : State) (i : ℕ) : Type 0 where
  pub waits : (status_at c i ≡ S.Clean) ⊎ (status_at c i ≡ S.Restarting)
  pub above : (m.inst i).epoch < epoch_at c i
  pub older : Each (IsOlder (epoch_at c i)) (all_at (log_at c i))

-- what is under way has come so far
abbrev pub IsUnderWay : Parts → State → Pending → Type 0
IsUnderWay c m Pending.Idle = Unit {0}
IsUnderWay c m (Pending.Commits t) = IsPending c m t
IsUnderWay c m (Pending.Starts i) = IsStarting c m i

-- The instance may begin a checkpoint, and end it: it is up, or restarting.
abbrev pub TakesCheck : Status → Type 0
TakesCheck s = (s ≡ S.Up) ⊎ (s ≡ S.Restarting)

-- A checkpoint that is begun: its instance takes it, its tables have a spelling, of at most 64 transactions, and its begin was put
-- into the log.
pub record IsChecking (c : Parts) (i : ℕ) (k : Begun) : Type 0 where
  pub takes : TakesCheck (status_at c i)
  pub spelled : AreSpans k.spans × AreRecs k.recs × (length k.spans ≤ 64)
  pub begun : k.begin ≤ last_lsn (scanned (log_at c i))

-- The log owes so many records at most, with its tail and without.
abbrev pub OwesAtMost : ℕ → LogState → Type 0
OwesAtMost n log = (owed (base_at log) ≤ n) × (owed (all_at log) ≤ n)

-- a transaction's number, and that of its epoch, begin at 1
abbrev pub HasNumber : TxnId → Type 0
HasNumber t = (1 ≤ t.epoch) × (1 ≤ t.seq)

-- Whoever was found committed is so in a log that begins at one place.
abbrev pub NoneIsFound : Parts → ℕ → Type 0
NoneIsFound c i = (t : TxnId) → home t ≡ i → state_at (txns_at c i) t ≢ Some TxnState.Committed

-- ---- the whole

-- The complex is as m says, with what is under way, and each image that a crash may leave stands for that.
pub record Good (seen : rig.DeviceImages) (leaves : Outcomes) (pend : Pending) (c : Parts) (m : State) : Type 0 where
  -- memory
  pub shape : IsShape c
  -- devices
  pub half : (moved : Keeps) → Half seen (leaves_by c moved leaves) (log_by c moved) pend c m
  pub places : (j place : ℕ) → other_at c j ≡ Some place → (bytes : List ℕ) → leaves j bytes
      → ((master bytes).start ≡ place) ⊎ ((master bytes).start ≡ (log_at c j).start)
  pub others : (i place : ℕ) → 1 ≤ i → i ≤ 8 → other_at c i ≡ Some place → NoneIsFound c i
  pub settled : (j : ℕ) → 1 ≤ j → j ≤ 8 → is_loose c j ≡ false → IsSettledAt seen leaves c j
  pub disk_settled : is_loose c 0 ≡ false → LeavesOnly (seen 0) (leaves 0)
  pub disk_lsns : (moved : Keeps) (p : ℕ) (x : Page) → may_of leaves p x → IsKnownLsn c (log_by c moved) x.lsn
  pub last : (j : ℕ) → 1 ≤ j → j ≤ 8 → Each (λ x. x.lsn ≤ last_lsn (scanned (log_at c j))) (all_at (log_at c j))
  pub owed : (j : ℕ) → 1 ≤ j → j ≤ 8 → is_loose c j ≡ false → owed_at c j ≡ owed (base_at (log_at c j))
  pub owed_loose : (moved : Keeps) (j : ℕ) → 1 ≤ j → j ≤ 8 → is_loose c j ≡ true → OwesAtMost (owed_at c j) (log_by c moved j)
  -- instances and transactions
  pub kept : Kept m
  pub placed : LivesAreSound m
  pub listed : Listed m
  pub marked : Marked m
  pub named : (t : TxnId) → NamedOnce (m.part t).marks
  pub numbered : (t : TxnId) → (m.part t).life ≢ Life.Gone → HasNumber t
  pub recoverers : Recoverers m
  pub not_closed : (m.inst 1).status ≢ S.Closed
  pub instances : (i : ℕ) → 1 ≤ i → i ≤ 8 → IsInstance c m i
  pub told : (i : ℕ) → 1 ≤ i → i ≤ 8 → tells_log (status_at c i) ≡ true → is_loose c i ≡ false → IsTold c m i
  pub at_rest : (i : ℕ) → 1 ≤ i → i ≤ 8 → tells_log (status_at c i) ≡ false → is_loose c i ≡ false → (log_at c i).tail ≡ []
  pub begun : (i : ℕ) → 1 ≤ i → i ≤ 8 → status_at c i ≡ S.Up → Each (IsOfBegun (m.inst i)) (all_at (log_at c i))
  pub at_work : (i : ℕ) → 1 ≤ i → i ≤ 8 → status_at c i ≡ S.Up → RowsAreLive pend c m i
  pub going : (t : TxnId) → 1 ≤ home t → home t ≤ 8 → GoesOn pend t (m.part t) → IsOpen t (all_at (log_at c (home t)))
  pub pending : IsUnderWay c m pend
  -- locks and asks
  pub gone : (t : TxnId) → (m.part t).life ≡ Life.Gone → (r : Rid) → (m.part t).claims r ≡ Claim.Free
  pub locks : (t : TxnId) (r : Rid) → held c.locks t r ≡ lock_of ((m.part t).claims r)
  pub asks : (p : ℕ) → Each (λ ask. (is_active c ask.by ≡ true) × (is_open_ask (entry_at c.directory p) ask ≡ true)) (asks_at c.directory p)
  -- checkpoints
  pub checking : (i : ℕ) (k : Begun) → check_at c i ≡ Some k → IsChecking c i k
