-- An instance falls: what is left of a complex then.
use Rattle.std.specs.Prelude.{◌≡◌, ◌≢◌, ℕ, ◌-◌, Bool, true, false, List, [], Option, None, Some, cond, eqb, is_none, leb, not, ◌&&◌, ◌||◌, length, option_map, slice_set}
use Rattle.sd_base.specs.declared.ids.TxnId.{TxnId}
use Rattle.sd_base.specs.declared.ids.Rid.{Rid}
use Rattle.sd_base.specs.Standing.{is_up}
use Rattle.sd_base.specs.declared.place.Status.{Status}
use Rattle.sd_base.specs.declared.place.Status.TheVariants as S
use Rattle.sd_log.specs.Logs.{LogState, has_tail, without_tail}
use Rattle.sd_page.specs.Page.{Page}
use Rattle.sd_pagelock.specs.Asks.{asks_without, open_asks}
use Rattle.sd_pagelock.specs.Directory as directory
use Rattle.sd_pagelock.specs.Directory.{asks_at, entry_at, rec_lsn_at}
use Rattle.sd_pagelock.specs.Places.{receives}
use Rattle.sd_pagelock.specs.Rows.{fallen}
use Rattle.sd_pool.specs.Buffers.{Buffers}
use Rattle.sd_reclock.specs.Locks.{held, waits}
use Rattle.sd_txn.specs.Transactions.{SameOrder, Transaction, Transactions, txn_at, with_state}
use Rattle.sd_txn.specs.declared.state.TxnState.{TxnState}
use Rattle.sd_state.specs.Forcing.{owed_either}
use Rattle.sd_state.specs.Parts.{Begun, Parts, is_loose, log_at, owed_at, pool_at, status_at, txns_at}

-- ---- instances

-- in this status an instance is recovered by i
abbrev pub is_recovered_by : ℕ → Status → Bool
is_recovered_by i S.Up = false
is_recovered_by i S.Down = false
is_recovered_by i (S.Recovering by) = eqb i by
is_recovered_by i S.Clean = false
is_recovered_by i S.Restarting = false
is_recovered_by i S.Closed = false

-- instance j, in this status, goes down when i falls: it is i, or i was recovering it
abbrev pub falls_with : ℕ → ℕ → Status → Bool
falls_with i j s = cond (eqb i j) true (is_recovered_by i s)

abbrev pub falls_at : ℕ → Parts → ℕ → Bool
falls_at i c j = falls_with i j (status_at c j)

-- what a log owes that counts as unsettled from here on: where it was settled, with its tail or without it, whichever is more
abbrev pub owed_unsettled : Parts → ℕ → ℕ
owed_unsettled c j = cond (is_loose c j) (owed_at c j) (owed_either c j)

-- the log of instance j, where that falls with i, counts as unsettled: it is i's own, or it has a tail
abbrev pub unsettles : ℕ → Parts → ℕ → Bool
unsettles i c j = eqb i j || has_tail (log_at c j)

-- Instance j, where it falls with i, is down, and its log isn't settled where it is i's own or has a tail; otherwise it is as it was.
pub record GoesDown (falls : Bool) (i j : ℕ) (c new : Parts) : Type 0 where
  pub status : status_at new j ≡ cond falls S.Down (status_at c j)
  pub loose : is_loose new j ≡ cond (falls && unsettles i c j) true (is_loose c j)
  pub owed : owed_at new j ≡ cond (falls && unsettles i c j) (owed_unsettled c j) (owed_at c j)

-- log j isn't settled from here on
abbrev pub marked : ℕ → Parts → Parts
marked j c = record c { owed = slice_set c.owed (j - 1) (owed_unsettled c j); loose = slice_set c.loose j true }

-- instance j is down; its log isn't settled where that is so
abbrev pub downed : Bool → ℕ → Parts → Parts
downed loose j c = record (cond {A = Parts} loose (marked j c) c) { statuses = slice_set c.statuses (j - 1) S.Down }

-- where it falls with i
abbrev pub fell_at : ℕ → ℕ → Parts → Parts
fell_at i j c = cond {A = Parts} (falls_at i c j) (downed (unsettles i c j) j c) c

-- Of the first n instances those are down that fall with i; all else is as it was.
pub record HaveFallen (i n : ℕ) (c new : Parts) : Type 0 where
  pub same : new ≡ record c { statuses = new.statuses; owed = new.owed; loose = new.loose }
  pub each : (j : ℕ) → GoesDown (leb j n && falls_at i c j) i j c new
  pub statuses : length new.statuses ≡ 8
  pub owed : length new.owed ≡ 8
  pub loose : length new.loose ≡ 9

-- ---- transactions

-- one that runs or rolls back is a loser
abbrev pub lost_state : TxnState → TxnState
lost_state TxnState.Running = TxnState.Retained
lost_state (TxnState.Rolling to) = TxnState.Retained
lost_state TxnState.Retained = TxnState.Retained
lost_state TxnState.Doubt = TxnState.Doubt
lost_state TxnState.Committed = TxnState.Committed

abbrev pub lost_row : Transaction → Transaction
lost_row x = with_state (lost_state x.state) x

-- Each row of the table is lost so.
pub record AreLost (old new : Transactions) : Type 0 where
  pub rows : (t : TxnId) → txn_at new t ≡ option_map lost_row (txn_at old t)
  pub order : SameOrder old new

-- The row of t is in doubt, and the others are lost.
pub record AreCut (t : TxnId) (old new : Transactions) : Type 0 where
  pub row : txn_at new t ≡ option_map (with_state TxnState.Doubt) (txn_at old t)
  pub rows : (u : TxnId) → u ≢ t → txn_at new u ≡ option_map lost_row (txn_at old u)
  pub order : SameOrder old new

-- ---- the whole

-- a pool without pages
abbrev pub emptied_pool : Buffers → Buffers
emptied_pool pool = record { held = []; frames = pool.frames }

-- The pool of i is empty, it has begun no checkpoint, and no fall is due; of statuses, of what isn't settled and what logs owe
-- then, of the directory and of locks there is what `new` has.
abbrev pub with_left : ℕ → Parts → Parts → Parts
with_left i new c = record c {
  pools = slice_set c.pools (i - 1) (emptied_pool (pool_at c i));
  statuses = new.statuses;
  checks = slice_set {A = Option Begun} c.checks (i - 1) None;
  owed = new.owed;
  loose = new.loose;
  directory = new.directory;
  locks = new.locks;
  due = None;
}

-- And its table is this one.
abbrev pub with_lost : ℕ → Transactions → Parts → Parts → Parts
with_lost i table new c = record (with_left i new c) { txns = slice_set c.txns (i - 1) table }

-- the tail of log i is dropped, and the log, which owes so many records then, is settled
abbrev pub with_dropped : ℕ → ℕ → Parts → Parts
with_dropped i owes c = record c {
  logs = slice_set c.logs (i - 1) (without_tail (log_at c i));
  owed = slice_set c.owed (i - 1) owes;
  loose = slice_set c.loose i false;
}

-- Of these `new` has what the fall of i leaves, while logs have their tails.
pub record IsLeft (i : ℕ) (c new : Parts) : Type 0 where
  pub each : (j : ℕ) → GoesDown (falls_at i c j) i j c new
  pub statuses : length new.statuses ≡ 8
  pub owed : length new.owed ≡ 8
  pub loose : length new.loose ≡ 9
  -- pages
  pub entries : (p : ℕ) → entry_at new.directory p ≡ fallen i (entry_at c.directory p)
  pub rec_lsns : (p : ℕ) → rec_lsn_at new.directory p ≡ rec_lsn_at c.directory p
  pub asks : (p : ℕ) → asks_at new.directory p
      ≡ open_asks (fallen i (entry_at c.directory p)) (asks_without i (asks_at c.directory p))
  pub moving : (p : ℕ) → directory.moving_image_at new.directory p
      ≡ cond {A = Option Page} (receives (entry_at c.directory p) i) None (directory.moving_image_at c.directory p)
  -- records
  pub locks : (t : TxnId) (r : Rid) → held new.locks t r ≡ held c.locks t r
  pub waits : (t : TxnId) → waits new.locks t ≡ cond (eqb t.inst i) None (waits c.locks t)

-- ---- with the tail of a log that is settled

-- what the log of i owes without its tail, where that is dropped as i falls: the log is settled, and i was up, or there is no tail
abbrev pub owed_dropped : ℕ → Parts → Option ℕ
owed_dropped i c = cond {A = Option ℕ} (is_loose c i) None
    (cond {A = Option ℕ} (is_up (status_at c i) || not (has_tail (log_at c i))) (Some (owed_at c i)) None)

abbrev pub dropped_by : ℕ → Option ℕ → Parts → Parts
dropped_by i None c = c
dropped_by i (Some owes) c = with_dropped i owes c

-- the logs, that of i without its tail where that is dropped
abbrev pub logs_by : ℕ → Option ℕ → Parts → List LogState
logs_by i None c = c.logs
logs_by i (Some owes) c = slice_set c.logs (i - 1) (without_tail (log_at c i))

-- The log of instance j counts as unsettled from here on, if it was settled: that of i where its tail isn't dropped, and that of
-- another which falls with i where it has a tail.
abbrev pub unsettles_at : ℕ → Parts → ℕ → Bool
unsettles_at i c j = cond (eqb i j) (is_none (owed_dropped i c)) (falls_at i c j && has_tail (log_at c j))

-- The parts of a complex behind the fall of i: the pool of i is empty, it has begun no checkpoint, no fall is due, and the tail
-- of its log is dropped where the log is settled and i was up or there is none. Of its table, of statuses, of what isn't settled and what logs owe
-- then, of the directory and of locks there is what `new` has.
abbrev pub with_fallen : ℕ → Parts → Parts → Parts
with_fallen i new c = record c {
  logs = logs_by i (owed_dropped i c) c;
  pools = slice_set c.pools (i - 1) (emptied_pool (pool_at c i));
  txns = slice_set c.txns (i - 1) (txns_at new i);
  statuses = new.statuses;
  checks = slice_set {A = Option Begun} c.checks (i - 1) None;
  owed = new.owed;
  loose = new.loose;
  directory = new.directory;
  locks = new.locks;
  due = None;
}

-- Of these `new` has what the fall of i leaves: i is down, and so is each instance that it was recovering; a log that isn't
-- settled any more owes what it owes with its tail or without it. No log without a tail counts as unsettled that didn't before.
pub record IsFallen (i : ℕ) (c new : Parts) : Type 0 where
  pub status : (j : ℕ) → status_at new j ≡ cond (falls_at i c j) S.Down (status_at c j)
  pub loose : (j : ℕ) → is_loose new j ≡ cond (unsettles_at i c j) true (is_loose c j)
  pub owed : (j : ℕ) → owed_at new j ≡ cond (unsettles_at i c j) (owed_unsettled c j) (owed_at c j)
  -- pages
  pub entries : (p : ℕ) → entry_at new.directory p ≡ fallen i (entry_at c.directory p)
  pub rec_lsns : (p : ℕ) → rec_lsn_at new.directory p ≡ rec_lsn_at c.directory p
  pub asks : (p : ℕ) → asks_at new.directory p
      ≡ open_asks (fallen i (entry_at c.directory p)) (asks_without i (asks_at c.directory p))
  pub moving : (p : ℕ) → directory.moving_image_at new.directory p
      ≡ cond {A = Option Page} (receives (entry_at c.directory p) i) None (directory.moving_image_at c.directory p)
  -- records
  pub locks : (t : TxnId) (r : Rid) → held new.locks t r ≡ held c.locks t r
  pub waits : (t : TxnId) → waits new.locks t ≡ cond (eqb t.inst i) None (waits c.locks t)

-- All that the fall of i leaves of parts is there, but for the rows of its transactions.
pub record FallLeaves (i : ℕ) (c new : Parts) : Type 0 where
  pub mid : Parts
  pub left : IsLeft i c mid
  pub parts : mid ≡ with_left i mid c
  pub dropped : new ≡ dropped_by i (owed_dropped i c) mid
