-- A record that is appended to a log: what its call tests of it, and what it may count on.
use Rattle.std.specs.Prelude.{◌≡◌, ℕ, ◌+◌, ◌^◌, ◌<◌, ◌≤◌, true, List, [], ◌∷◌, ◌++◌, length}
use Rattle.sd_logrec.specs.declared.record.Record.{Record}
use Rattle.sd_logrec.specs.declared.record.Record.TheVariants as records
use Rattle.sd_logrec.specs.Kept.{master}
use Rattle.sd_logrec.specs.Spelling.{spelling}
use Rattle.sd_logrec.specs.View.{Rec, flat}
use Rattle.sd_logrec.specs.View.Kind.{Clr}
use Rattle.sd_page.specs.Page.{Page}
use Rattle.sd_log.specs.Logs.{LogState, forced, needed, with_record}
use Rattle.sd_chain.specs.Checks.{MayCome, Past, lsn_of, reserve}
use Rattle.sd_chain.specs.Images.{Keeps}
use Rattle.sd_chain.specs.Order.{MayFollow}
use Rattle.sd_chain.specs.Records.{Each, IsOpen, ends, stack}
use Rattle.sd_chain.specs.Logs.{HasRecord, IsSettled, Logs, ReplacesLog, all_at, may_of, most_owed, next_lsn, past_at, tails_of, Outcomes}

-- A Start has the next epoch.
abbrev pub IsNextEpoch : Past → Record → Type 0
IsNextEpoch past (records.Start l epoch) = epoch ≡ past.epoch + 1
IsNextEpoch past (records.Update l txn prev page slot capacity before after) = Unit {0}
IsNextEpoch past (records.Clr l txn prev undo_next page slot after) = Unit {0}
IsNextEpoch past (records.Commit l txn prev) = Unit {0}
IsNextEpoch past (records.End l txn prev) = Unit {0}
IsNextEpoch past (records.BeginCheck l) = Unit {0}
IsNextEpoch past (records.EndCheck l begin spans recs) = Unit {0}

-- A record may come behind these: of what its LSN and its transaction are, and where it is a Start, its epoch.
pub record MayBeNext (j : ℕ) (past : Past) (y : Record) : Type 0 where
  pub rises : past.lsn < lsn_of y
  pub own : MayCome j past y
  pub epoch : IsNextEpoch past y

-- Log i, which is settled, has this record at its end now. Its device may be left somehow.
pub record Appends (i : ℕ) (y : Record) (leaves : Outcomes) (old new : Logs) : Type 0 where
  pub spare : ℕ
  pub log : ReplacesLog i (with_record y spare (old i)) old new
  pub settled : IsSettled i leaves old
  pub could : (bytes : List ℕ) × leaves i bytes

-- The record undoes the top of its transaction's stack.
pub record IsUndo (y : Record) (log : LogState) : Type 0 where
  pub kind : (flat y).kind ≡ Clr
  pub follows : MayFollow (all_at log) (flat y)
  pub top : Rec
  pub below : List Rec
  pub stack : stack (flat y).txn (all_at log) ≡ top ∷ below

-- The record, a Commit or an End, ends a transaction that has a record and isn't ended.
pub record IsEnd (y : Record) (log : LogState) : Type 0 where
  pub ends : ends (flat y).kind ≡ true
  pub alive : IsOpen (flat y).txn (all_at log)
  pub there : HasRecord (flat y).txn (all_at log)

-- The page image has the newest version of this page in each cut that has the tail of log i.
abbrev pub IsNewestAt : ℕ → (Keeps → ℕ → Page) → ℕ → Page → Type 0
IsNewestAt i version p image = (keeps : Keeps) → keeps i ≡ true → version keeps p ≡ image

-- The record is refused neither as LogFull, with these bytes reserved behind it, nor as LsnEnd: `great` is at or above each
-- LSN, and leaves LSNs for this record and for all that are owed then, with whatever tails.
pub record IsTested (i : ℕ) (y : Record) (page_lsn : ℕ) (leaves : Outcomes) (old new : Logs) : Type 0 where
  pub lsn : lsn_of y ≡ next_lsn (old i) page_lsn
  pub own : (bytes : List ℕ) → leaves i bytes → MayCome i (past_at (master bytes) (forced (old i))) y
  pub epoch : (bytes : List ℕ) → leaves i bytes → IsNextEpoch (past_at (master bytes) (forced (old i))) y
  pub reserved : ℕ
  pub within : reserve (all_at (old i) ++ flat y ∷ []) ≤ reserved
  pub room : needed (old i) (length (spelling y)) reserved ≤ 1048576
  pub great : ℕ
  pub logs : (j : ℕ) → 1 ≤ j → j ≤ 8 → Each (λ x. x.lsn ≤ great) (all_at (old j))
  pub pages : (p : ℕ) (x : Page) → may_of leaves p x → x.lsn ≤ great
  pub page : page_lsn ≤ great
  pub fits : great + 1 + most_owed (tails_of new) < 2 ^ 62
