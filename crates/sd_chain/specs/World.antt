-- A complex as coherence sees it: eight logs with what isn't forced of them, device 0, and who has which page.
use Rattle.std.specs.Prelude.{◌≡◌, ℕ, ◌≤◌, Bool, Option, eqb, cond}
use Rattle.sd_page.specs.Page.{Page}
use Rattle.sd_chain.specs.Images.{Tails, Keeps, all_kept}
use Rattle.sd_chain.specs.Laws.{May}
use Rattle.sd_pagelock.specs.Places.{PageEntry}

-- Logs, device 0 and the instances, where a crash may leave each page of device 0 so.
pub record Base (may : May) : Type 0 where
  -- the forced records of logs 1 to 8, and their tails; log 0 is empty
  pub tails : Tails
  -- the newest version of each page, by the tails that are kept
  pub version : Keeps → ℕ → Page
  -- what device 0 reads
  pub disk : ℕ → Page
  -- where a page is changed, the LSN of the first change that the disk doesn't have
  pub rec_lsn : ℕ → Option ℕ
  -- a log that isn't settled: its tail may be on its device or not
  pub loose : ℕ → Bool
  -- device 0 isn't settled
  pub loose_disk : Bool
  -- an instance that may have pages
  pub active : ℕ → Bool
  -- an instance that is Up, Restarting or Clean
  pub up : ℕ → Bool
  -- the instance that acts, and the log that it forces, or failed to force: then the instance is to fall
  pub due : Option (ℕ × ℕ)

-- The directory's entries, the copies in each instance's pool, and the copies on their way.
pub record Dir : Type 0 where
  pub entry : ℕ → PageEntry
  pub pool : ℕ → ℕ → Option Page
  pub moving : ℕ → Option Page

-- the newest version of a page: with the records of all tails
abbrev pub newest_version : {may : May} → Base may → ℕ → Page
newest_version b p = b.version all_kept p

-- with this value at i
abbrev pub put_at : {A : Type 0} → ℕ → A → (ℕ → A) → ℕ → A
put_at i v f j = cond (eqb j i) v (f j)

-- What stays of devices and instances while records come to a log: at most as much may be left of device 0.
pub record Stays {may may' : May} (old : Base may) (new : Base may') : Type 0 where
  pub less : (p : ℕ) (x : Page) → may' p x → may p x
  pub disk : (p : ℕ) → new.disk p ≡ old.disk p
  pub loose : (j : ℕ) → 1 ≤ j → new.loose j ≡ old.loose j
  pub loose_disk : new.loose_disk ≡ old.loose_disk
  pub active : (j : ℕ) → new.active j ≡ old.active j
  pub up : (j : ℕ) → new.up j ≡ old.up j
  pub due : new.due ≡ old.due
