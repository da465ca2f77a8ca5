-- Device 0: a page is put, or a put fails, or the device is synced.
use Rattle.std.specs.Prelude.{◌≡◌, ◌≢◌, ℕ, ◌≤◌, Bool, true, false, Option, None, ◌||◌}
use Rattle.sd_page.specs.Page.{Page}
use Rattle.sd_chain.specs.Images.{Allowed, IsSafe, or_written}
use Rattle.sd_chain.specs.Laws.{May, Narrows}
use Rattle.sd_pagelock.specs.Places.{PageEntry, changed, is_lost}
use Rattle.sd_pagelock.specs.Rows.{may_write, written}
use Rattle.sd_chain.specs.World.{Base, Dir, newest_version}
use Rattle.sd_chain.specs.Coherent.{Coherent, Quiet}
use Rattle.sd_chain.specs.Moves.{ForcedFor}

-- Device 0 and the RecLSNs are otherwise, and it may be left so.
abbrev pub with_device : {may : May} (may' : May) → Base may → (ℕ → Page) → Bool → (ℕ → Option ℕ) → Base may'
with_device may' b disk loose_disk rec_lsn = record {
  tails = b.tails;
  version = b.version;
  disk = disk;
  rec_lsn = rec_lsn;
  loose = b.loose;
  loose_disk = loose_disk;
  active = b.active;
  up = b.up;
  due = b.due;
}

-- No tail has a record of the page.
abbrev pub NoneUnforced : {may : May} → Base may → ℕ → Type 0
NoneUnforced b p = (j : ℕ) → Quiet p (b.tails.tail j)

-- Device 0 is settled with what it reads, or not.
pub record IsLeft (may : May) (disk : ℕ → Page) (loose : Bool) : Type 0 where
  pub reads : Allowed may disk
  pub still : loose ≡ false → (q : ℕ) (x : Page) → may q x → x ≡ disk q

-- What a put of page p's newest version leaves of device 0, whatever it answers.
pub record Puts {may : May} (p : ℕ) (b : Base may) (may' : May) (disk : ℕ → Page) (loose : Bool) : Type 0 where
  pub leaves : (q : ℕ) (x : Page) → may' q x → or_written may p (newest_version b p) q x
  pub left : IsLeft may' disk loose

-- Page p, changed and at rest or lost, is called clean: so says its entry, and it has no RecLSN.
pub record Cleaned {may : May} (p : ℕ) (b : Base may) (rec_lsn : ℕ → Option ℕ) (old new : Dir) : Type 0 where
  pub there : (may_write (old.entry p) || is_lost (old.entry p)) ≡ true
  pub here : new.entry p ≡ written (old.entry p)
  pub others : (q : ℕ) → q ≢ p → new.entry q ≡ old.entry q
  pub no_rec : rec_lsn p ≡ None
  pub other_rec : (q : ℕ) → q ≢ p → rec_lsn q ≡ b.rec_lsn q
  pub pool : (k q : ℕ) → new.pool k q ≡ old.pool k q
  pub moving : (q : ℕ) → new.moving q ≡ old.moving q

-- ---- laws

-- A page that isn't lost, and whose holder's tail is forced, has no record in a tail.
abbrev pub ForcedHasNone : May → Type 0
ForcedHasNone may = (b : Base may) (d : Dir) (p : ℕ) → Coherent b d → b.due ≡ None → d.entry p ≢ PageEntry.Lost → ForcedFor b d p
    → NoneUnforced b p

-- Nor has a lost page, once all logs are settled: its newest version is built of forced records.
abbrev pub LostHasNone : May → Type 0
LostHasNone may = (b : Base may) (d : Dir) (p : ℕ) → Coherent b d → b.due ≡ None
    → ((j : ℕ) → 1 ≤ j → j ≤ 8 → b.loose j ≡ false)
    → d.entry p ≡ PageEntry.Lost → NoneUnforced b p

-- Then each image is sound while the page is put, and after.
abbrev pub PutIsSafe : May → May → Type 0
PutIsSafe may may' = (p : ℕ) (b : Base may) (d : Dir) (disk : ℕ → Page) (loose : Bool) → Coherent b d → NoneUnforced b p
    → Puts p b may' disk loose → IsSafe b.tails may' b.version

-- A put of a changed page that fails keeps coherence.
abbrev pub TryKeeps : May → May → Type 0
TryKeeps may may' = (p : ℕ) (b : Base may) (d : Dir) (disk : ℕ → Page) (loose : Bool) → Coherent b d → NoneUnforced b p
    → Puts p b may' disk loose → changed (d.entry p) ≡ true → Coherent (with_device may' b disk loose b.rec_lsn) d

-- A put that arrives keeps coherence: the page is on disk, whatever a crash leaves.
abbrev pub WriteKeeps : May → May → Type 0
WriteKeeps may may' = (p : ℕ) (b : Base may) (old new : Dir) (disk : ℕ → Page) (loose : Bool) (rec_lsn : ℕ → Option ℕ)
    → Coherent b old → NoneUnforced b p → Puts p b may' disk loose → ((x : Page) → may' p x → x ≡ newest_version b p)
    → Cleaned p b rec_lsn old new
    → Coherent (with_device may' b disk loose rec_lsn) new

-- A sync of device 0, whatever it answers, keeps coherence: at most as much may be left.
abbrev pub SyncKeeps : May → May → Type 0
SyncKeeps may may' = (b : Base may) (d : Dir) (disk : ℕ → Page) (loose : Bool) → Coherent b d → Narrows may may'
    → IsLeft may' disk loose → Coherent (with_device may' b disk loose b.rec_lsn) d

-- A page that device 0 reads with the LSN of its newest version is that version: nothing is to be put.
abbrev pub SameLsnIsSame : May → Type 0
SameLsnIsSame may = (b : Base may) (d : Dir) (p : ℕ) → Coherent b d → (newest_version b p).lsn ≡ (b.disk p).lsn → newest_version b p ≡ b.disk p

-- So the page may be called clean without a put, where device 0 is settled.
abbrev pub UnputKeeps : May → Type 0
UnputKeeps may = (p : ℕ) (b : Base may) (old new : Dir) (rec_lsn : ℕ → Option ℕ) → Coherent b old → NoneUnforced b p
    → b.loose_disk ≡ false → (newest_version b p).lsn ≡ (b.disk p).lsn → Cleaned p b rec_lsn old new
    → Coherent (with_device may b b.disk b.loose_disk rec_lsn) new
