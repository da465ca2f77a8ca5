-- What the directory says of each page.
use Rattle.std.specs.Prelude.{◌≡◌, ℕ, ◌<◌, Bool, List, [], Option, None, is_some, get_or, length, cond}
use Rattle.sd_base.specs.declared.place.Place as coded
use Rattle.sd_pagelock.specs.Places.{PageEntry, place_at, changed}
use Rattle.sd_pagelock.specs.declared.queue.Ask.{Ask}
use Rattle.sd_pagelock.specs.Asks.{Queues, asks_for, can_give}

-- by page: where it is, its RecLSN, and what of it is on its way; and the asks by page
pub record DirectoryState (I : Type 0) : Type 0 where
  pub places : List coded.Place
  pub rec_lsns : List (Option ℕ)
  pub images : List (Option I)
  pub queues : Queues

-- where the page is
abbrev pub entry_at : {I : Type 0} → DirectoryState I → ℕ → PageEntry
entry_at state p = place_at state.places p

-- the LSN of the first change that the disk doesn't have
abbrev pub rec_lsn_at : {I : Type 0} → DirectoryState I → ℕ → Option ℕ
rec_lsn_at state p = get_or state.rec_lsns p None

-- what of the page is on its way
abbrev pub moving_image_at : {I : Type 0} → DirectoryState I → ℕ → Option I
moving_image_at state p = get_or state.images p None

-- the asks for the page, the oldest first
abbrev pub asks_at : {I : Type 0} → DirectoryState I → ℕ → List Ask
asks_at state p = asks_for state.queues p

-- i has a copy of the page to give, and another asks for it
abbrev pub is_wanted : {I : Type 0} → DirectoryState I → ℕ → ℕ → Bool
is_wanted state i p = can_give (entry_at state p) i (asks_at state p)

-- The RecLSN after a move of the page: that of its first change, as long as it stays changed. `was` and `is` say whether
-- it is changed before and after.
abbrev pub kept_rec : Bool → Bool → Option ℕ → Option ℕ → Option ℕ
kept_rec was is old rec = cond {A = Option ℕ} is (cond {A = Option ℕ} was old rec) None

-- What every directory keeps beside its places: of 1,024 pages a RecLSN exactly where the page is changed, and what is on its way.
pub record IsKept (places : List coded.Place) (rec_lsns : List (Option ℕ)) (images : ℕ) : Type 0 where
  pub marks : length rec_lsns ≡ 1024
  pub frames : images ≡ 1024
  pub marked : (p : ℕ) → is_some (get_or rec_lsns p None) ≡ changed (place_at places p)

-- For each page that is asked for there is what its image can set out in: its room, or what is on its way already.
pub record HaveRoom {I : Type 0} (queues : Queues) (images rooms : List (Option I)) : Type 0 where
  pub count : length rooms ≡ 1024
  pub unasked : (p : ℕ) → p < 1024 → get_or rooms p None ≡ None → get_or images p None ≡ None → asks_for queues p ≡ []
