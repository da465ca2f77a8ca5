-- A page comes into a pool, or changes its place in the directory.
use Rattle.std.specs.Prelude.{◌≡◌, ◌≢◌, ℕ, ◌-◌, Option, slice_set}
use Rattle.sd_page.specs.Page.{Page}
use Rattle.sd_pagelock.specs.Asks.{open_asks}
use Rattle.sd_pagelock.specs.Directory.{DirectoryState, asks_at, entry_at, kept_rec, rec_lsn_at}
use Rattle.sd_pagelock.specs.Places.{PageEntry, changed}
use Rattle.sd_pool.specs.Buffers.{Buffers}
use Rattle.sd_state.specs.Parts.{Parts}

-- the pool of instance i is this one, and the directory is this one
abbrev pub with_place : ℕ → Buffers → DirectoryState Page → Parts → Parts
with_place i pool places c = record c { pools = slice_set c.pools (i - 1) pool; directory = places }

-- Page p has this place now, with this RecLSN where it is its first change, and the asks that the place leaves open; the places,
-- RecLSNs and asks of the others stay.
pub record IsSet (p : ℕ) (to : PageEntry) (rec : Option ℕ) (old new : DirectoryState Page) : Type 0 where
  pub entry : entry_at new p ≡ to
  pub rec_lsn : rec_lsn_at new p ≡ kept_rec (changed (entry_at old p)) (changed to) (rec_lsn_at old p) rec
  pub asks : asks_at new p ≡ open_asks to (asks_at old p)
  pub others : (q : ℕ) → q ≢ p → entry_at new q ≡ entry_at old q
  pub other_rec_lsns : (q : ℕ) → q ≢ p → rec_lsn_at new q ≡ rec_lsn_at old q
  pub other_asks : (q : ℕ) → q ≢ p → asks_at new q ≡ asks_at old q
