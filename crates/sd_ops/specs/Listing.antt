-- The list of a page: its rows, and when there is none.
use Rattle.std.specs.Prelude.{◌≡◌, ℕ, zero, suc, true, List, [], ◌∷◌, ◌++◌, length, Option, None, Some}
use Rattle.sd_base.specs.declared.ids.Rid.{Rid}
use Rattle.sd_base.specs.declared.place.Mode.TheVariants as modes
use Rattle.sd_base.specs.declared.refusal.Refusal.{Refusal}
use Rattle.sd_base.specs.declared.refusal.Refusal.TheVariants as R
use Rattle.sd_page.specs.Page.{Page, Slot, value_at}
use Rattle.sd_pagelock.specs.Directory.{entry_at}
use Rattle.sd_pagelock.specs.Places.{holds}
use Rattle.sd_pool.specs.Buffers.{image_at}
use Rattle.sd_reclock.specs.Locks.{IsLowestOwner}
use Rattle.sd_state.specs.Parts.{Parts, pool_at}
use Rattle.sd_ops.specs.Copies.{LacksPage}

-- the row of a slot, where it has a value
abbrev pub row_at : ℕ → ℕ → Option (List ℕ) → List (Rid × List ℕ)
row_at p slot None = []
row_at p slot (Some v) = (record { page = p; slot = slot }, v) ∷ []

-- the rows of the slots below n, rising
abbrev pub rows_below : ℕ → List Slot → ℕ → List (Rid × List ℕ)
rows_below p slots zero = []
rows_below p slots (suc n) = rows_below p slots n ++ row_at p n (value_at slots n)

-- The instance holds the page, of which nobody has a record's exclusive lock, and the rows are those of its copy.
pub record IsListed (i p : ℕ) (c : Parts) (rows : List (Rid × List ℕ)) : Type 0 where
  pub held : holds (entry_at c.directory p) i ≡ true
  pub free : IsLowestOwner c.locks.locks p None
  pub image : Page
  pub copy : image_at (pool_at c i) p ≡ Some image
  pub rows_are : rows ≡ rows_below p image.slots (length image.slots)

-- the page is lost, the instance hasn't it, or this is the lowest one with a record's exclusive lock there; memory has no cause
abbrev pub IsUnlisted : ℕ → ℕ → Parts → Refusal → Type 0
IsUnlisted i p c (R.Busy by) = (holds (entry_at c.directory p) i ≡ true) × IsLowestOwner c.locks.locks p (Some by)
IsUnlisted i p c n = LacksPage modes.Shared i p c n
