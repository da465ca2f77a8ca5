-- When a complex fits a world: the serial table with its waits, the pages, and the sums.
use Rattle.sd_chain.specs.Records.{Each, IsOpen, home}
use Rattle.sd_model.specs.declared.act.Life.{Life}
use Rattle.std.specs.Prelude.{◌≡◌, ℕ, ◌+◌, ◌<◌, ◌≤◌, true, false, List, [], ◌∷◌, None, IsSome, is_some, length, map}
use Rattle.sd_base.specs.declared.ids.Rid.{Rid}
use Rattle.sd_base.specs.declared.ids.TxnId.{TxnId}
use Rattle.sd_log.specs.Logs.{LogState, forced}
use Rattle.sd_logrec.specs.Kept.{master}
use Rattle.sd_model.specs.Acts.{Puts, live}
use Rattle.sd_model.specs.Applies.{HasPut}
use Rattle.sd_model.specs.Listed.{IsAtWork}
use Rattle.sd_model.specs.Scenes.{is_running}
use Rattle.sd_model.specs.State.{State, fresh}
use Rattle.sd_model.specs.Tables.{Content}
use Rattle.sd_txn.specs.Transactions.{span_at}
use Rattle.sd_page.specs.Page.{Page}
use Rattle.sd_pagelock.specs.Directory.{asks_at, entry_at}
use Rattle.sd_pagelock.specs.Places.{PageEntry, is_lost}
use Rattle.sd_reclock.specs.Locks.{waits}
use Rattle.sd_rig.specs.Devices as rig
use Rattle.sd_chain.specs.Bytes.{disk_page}
use Rattle.sd_chain.specs.Checks.{reserve}
use Rattle.sd_chain.specs.Images.{Keeps}
use Rattle.sd_chain.specs.Named.{version_of}
use Rattle.sd_chain.specs.Logs.{Outcomes, all_at, base_at, kept_logs, tails_of}
use Rattle.sd_world.specs.Bounds.{Bounds}
use Rattle.sd_world.specs.Pages.{Pages}
use Rattle.sd_world.specs.Serving.{Core}
use Rattle.sd_state.specs.Fresh.{AreBlank, IsFresh}
use Rattle.sd_state.specs.Good.{Good}
use Rattle.sd_state.specs.Images.{Stands, log_by}
use Rattle.sd_state.specs.Laws.{newest_of}
use Rattle.sd_state.specs.Parts.{Parts, check_at, count_at, pool_at, log_at, txns_at}
use Rattle.sd_state.specs.Sums.{great_of, owed_in_all}
use Rattle.sd_state.specs.Values.{Pending, is_committed, is_doubt}

-- Each page is where the world says, with the same asks; the newest version of one that isn't lost has the world's number; and
-- the same instances have begun checkpoints.
pub record FitsPages (seen : rig.DeviceImages) (leaves : Outcomes) (c : Parts) (w : Pages) : Type 0 where
  pub frames : (i : ℕ) → 1 ≤ i → i ≤ 8 → (pool_at c i).frames ≡ w.frames
  pub entry : (p : ℕ) → w.entry p ≡ entry_at c.directory p
  pub asks : (p : ℕ) → w.asks p ≡ asks_at c.directory p
  pub number : (p : ℕ) → is_lost (w.entry p) ≡ false → w.number p ≡ (newest_of seen leaves c p).lsn
  pub begun : (i : ℕ) → w.begun i ≡ is_some (check_at c i)

-- the first list is a front of the second, each number at most that of its place there
abbrev pub AreWithin : List ℕ → List ℕ → Type 0
AreWithin [] ys = Unit {0}
AreWithin (x ∷ xs) [] = ⊥
AreWithin (x ∷ xs) (y ∷ ys) = (x ≤ y) × AreWithin xs ys

-- the first list is no longer than the second, each number at least that of its place there
abbrev pub AreAtLeast : List ℕ → List ℕ → Type 0
AreAtLeast [] ys = Unit {0}
AreAtLeast (x ∷ xs) [] = ⊥
AreAtLeast (x ∷ xs) (y ∷ ys) = (y ≤ x) × AreAtLeast xs ys

-- the capacities of a page's slots
abbrev pub capacities : Page → List ℕ
capacities x = map (λ slot. slot.0) x.slots

-- The log, with what it reserves, goes no further, with its tail and without it.
abbrev pub ReachesAtMost : ℕ → LogState → Type 0
ReachesAtMost n log = (log.gate + reserve (base_at log) ≤ n) × ((forced log).gate + reserve (all_at log) ≤ n)

-- No real number is above the world's sums, and no slot below what it has at least, whatever a crash leaves.
pub record FitsBounds (seen : rig.DeviceImages) (leaves : Outcomes) (c : Parts) (b : Bounds) : Type 0 where
  pub slots : (moved keeps : Keeps) (p : ℕ)
      → AreWithin (capacities (version_of (tails_of (log_by c moved)) (disk_page (seen 0)) keeps p)) (b.slots p)
  pub least : (moved keeps : Keeps) (p : ℕ)
      → AreAtLeast (capacities (version_of (tails_of (log_by c moved)) (disk_page (seen 0)) keeps p)) (b.least p)
  pub reach : (moved : Keeps) (i : ℕ) → 1 ≤ i → i ≤ 8 → ReachesAtMost (b.reach i) (log_by c moved i)
  pub lsns : great_of c + owed_in_all c ≤ b.lsns
  pub masters : (i : ℕ) → 1 ≤ i → i ≤ 8 → count_at c i ≤ b.masters i
  pub left_masters : (i : ℕ) → 1 ≤ i → i ≤ 8 → (bytes : List ℕ) → leaves i bytes → (master bytes).count ≤ b.masters i

-- each put is to a slot that its page has
abbrev pub HaveSlots : (ℕ → Page) → Puts → Type 0
HaveSlots version puts = Each (λ (put : Rid × Content). put.0.slot < length (version put.0.page).slots) puts

-- Whatever a crash leaves with the Commit of a transaction in doubt has the slots to which that put something.
abbrev pub FitsDoubts : rig.DeviceImages → Parts → State → Type 0
FitsDoubts seen c m = (moved keeps : Keeps) (t : TxnId) → is_doubt (m.part t).life ≡ true
    → is_committed (kept_logs (tails_of (log_by c moved)) keeps) t ≡ true
    → HaveSlots (version_of (tails_of (log_by c moved)) (disk_page (seen 0)) keeps) (live (m.part t).acts)

-- The complex is as the world says: between any two events nothing is under way, no fall is due, and no End waits for its force.
pub record Fits (seen : rig.DeviceImages) (leaves : Outcomes) (c : Parts) (w : Core) : Type 0 where
  pub good : Good seen leaves Pending.Idle c w.scene.state
  pub idle : c.due ≡ None
  pub rolling : (t : TxnId) → (w.scene.state.part t).life ≡ Life.Rolling None → IsOpen t (all_at (log_at c (home t)))
  -- only those that run wait, and whoever is at work and has a record has put something
  pub waits : (t : TxnId) → waits c.locks t ≡ w.scene.waits t
  pub waiting : (t : TxnId) → is_running (w.scene.state.part t).life ≡ false → w.scene.waits t ≡ None
  pub put : (t : TxnId) → IsAtWork (w.scene.state.part t).life → IsSome (span_at (txns_at c (home t)) t) → HasPut (w.scene.state.part t).acts
  pub pages : FitsPages seen leaves c w.pages
  pub bounds : FitsBounds seen leaves c w.bounds
  pub doubts : FitsDoubts seen c w.scene.state

-- Whatever a crash leaves of a complex that fits stands for the world's state.
abbrev pub FitsStands : Outcomes → Type 0
FitsStands leaves = (seen img : rig.DeviceImages) (c : Parts) (w : Core) → Fits seen leaves c w → rig.Leaves leaves img
    → Stands w.scene.state Pending.Idle img

-- the world in which nothing has happened
abbrev pub fresh_core : ℕ → Core
fresh_core frames = record {
  scene = record { state = fresh; waits = λ t. None };
  pages = record { frames = frames; entry = λ p. PageEntry.Free; asks = λ p. []; number = λ p. 0; begun = λ i. false };
  bounds = record { slots = λ p. []; least = λ p. []; reach = λ i. 0; lsns = 0; masters = λ i. 0 };
}

-- A fresh complex fits it.
abbrev pub FreshFits : Outcomes → Type 0
FreshFits leaves = (seen : rig.DeviceImages) (frames : ℕ) (c : Parts) → AreBlank seen leaves → IsFresh frames c
    → Fits seen leaves c (fresh_core frames)
