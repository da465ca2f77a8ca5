-- What logs, disk, pools and directory have to do with each other between any two steps of a complex.
use Rattle.std.specs.Prelude.{◌≡◌, ◌≢◌, ◌⊎◌, ℕ, ◌<◌, ◌≤◌, true, false, List, [], None, Some, cond, is_some}
use Rattle.sd_logrec.specs.View.{Rec}
use Rattle.sd_page.specs.Page.{Page}
use Rattle.sd_chain.specs.Records.{Each, of_page}
use Rattle.sd_chain.specs.Images.{Allowed, IsSafe, log}
use Rattle.sd_chain.specs.Laws.{May}
use Rattle.sd_pagelock.specs.Places.{PageEntry, changed, holds, passes, uses}
use Rattle.sd_chain.specs.World.{Base, Dir, newest_version}

-- no record of the page
abbrev pub Quiet : ℕ → List Rec → Type 0
Quiet p xs = Each (λ x. of_page p x ≡ false) xs

-- Where a page is of which the tail of log j has a record. The log is settled, and its instance has the page alone, changed;
-- or it isn't, and the page is lost; or an instance that has the page alone, changed, forces the log, or is to fall by it.
abbrev pub Sits : {may : May} → Base may → PageEntry → ℕ → Type 0
Sits b e j =
    ((b.loose j ≡ false) × (e ≡ PageEntry.Excl j true))
    ⊎ (((b.loose j ≡ true) × (e ≡ PageEntry.Lost))
    ⊎ ((a : ℕ) × (b.due ≡ Some (a, j)) × (e ≡ PageEntry.Excl a true)))

-- no record of the page that this disk image lacks is below l
abbrev pub NoneBefore : ℕ → ℕ → Page → List Rec → Type 0
NoneBefore p l x xs = Each (λ r. of_page p r ≡ true → x.lsn < r.lsn → l ≤ r.lsn) xs

-- What holds between any two steps.
pub record Coherent {may : May} (b : Base may) (d : Dir) : Type 0 where
  -- whatever a crash leaves is sound, and has these newest versions
  pub safe : IsSafe b.tails may b.version
  -- the logs are 1 to 8: there is no log 0, and none above 8
  pub eight : (b.tails.base 0 ≡ []) × (b.tails.tail 0 ≡ [])
  -- what device 0 reads a crash may leave
  pub reads : Allowed may b.disk
  -- and nothing else, where the device is settled
  pub still : b.loose_disk ≡ false → (p : ℕ) (x : Page) → may p x → x ≡ b.disk p
  -- exactly the holders' pools have a copy, and each copy is the newest version
  pub copies : (i p : ℕ) → d.pool i p ≡ cond (holds (d.entry p) i) (Some (newest_version b p)) None
  -- and so is what moves
  pub moving : (p : ℕ) → d.moving p ≡ cond (passes (d.entry p)) (Some (newest_version b p)) None
  -- holders and receivers are active
  pub live : (i p : ℕ) → uses (d.entry p) i ≡ true → b.active i ≡ true
  -- a record that isn't forced is of a page that sits so
  pub unforced : (j p : ℕ) → Quiet p (b.tails.tail j) ⊎ Sits b (d.entry p) j
  -- the log of an instance that is up is settled, but where the instance is to fall by it
  pub ready : (i : ℕ) → 1 ≤ i → b.up i ≡ true → (b.loose i ≡ false) ⊎ (b.due ≡ Some (i, i))
  -- a page has a RecLSN exactly where it is changed
  pub marks : (p : ℕ) → is_some (b.rec_lsn p) ≡ changed (d.entry p)
  -- a page that isn't changed is on disk, whatever a crash leaves
  pub clean : (p : ℕ) → changed (d.entry p) ≡ false → (x : Page) → may p x → x ≡ newest_version b p
  -- each record that the disk lacks has its page's RecLSN or a greater LSN
  pub first : (p l : ℕ) → b.rec_lsn p ≡ Some l → (x : Page) → may p x → (j : ℕ) → NoneBefore p l x (log b.tails j)
  -- and so has the newest version of a page that isn't lost
  pub below : (p l : ℕ) → b.rec_lsn p ≡ Some l → d.entry p ≢ PageEntry.Lost → l ≤ (newest_version b p).lsn
