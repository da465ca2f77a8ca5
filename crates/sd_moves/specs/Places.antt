-- What a move of a page leaves of the directory and of the complex.
use Rattle.std.specs.Prelude.{◌≡◌, ◌≢◌, ℕ, List}
use Rattle.sd_page.specs.Page.{Page}
use Rattle.sd_pagelock.specs.declared.queue.Ask.{Ask}
use Rattle.sd_pagelock.specs.Directory.{DirectoryState, asks_at, entry_at, moving_image_at, rec_lsn_at}
use Rattle.sd_state.specs.Parts.{Parts}

-- the directory is this one
abbrev pub with_directory : DirectoryState Page → Parts → Parts
with_directory places c = record c { directory = places }

-- Each page is where it was, with its RecLSN and what of it is on its way.
pub record IsInPlace (old new : DirectoryState Page) : Type 0 where
  pub entries : (q : ℕ) → entry_at new q ≡ entry_at old q
  pub rec_lsns : (q : ℕ) → rec_lsn_at new q ≡ rec_lsn_at old q
  pub moving : (q : ℕ) → moving_image_at new q ≡ moving_image_at old q

-- Page p has these asks, and each other those that it had; nothing else of the directory changes.
pub record IsAsked (p : ℕ) (asks : List Ask) (old new : DirectoryState Page) : Type 0 where
  pub in_place : IsInPlace old new
  pub here : asks_at new p ≡ asks
  pub others : (q : ℕ) → q ≢ p → asks_at new q ≡ asks_at old q
