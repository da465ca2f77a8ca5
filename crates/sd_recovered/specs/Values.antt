-- Pages as a table of values.
use Rattle.std.specs.Prelude.{◌≡◌, ℕ, List, [], length, slice_get}
use Rattle.std.specs.Option.{option_map_or}
use Rattle.sd_page.specs.Page.{Page, Slot}
use Rattle.sd_chain.specs.Records.{Val}
use Rattle.sd_chain.specs.Pages.{value, capacity}

-- the slots of a page, none past the last one
abbrev pub slots_in : List Page → ℕ → List Slot
slots_in pages p = option_map_or (λ page. page.slots) (slice_get pages p) []

-- the value of a record, none past the last page or slot
abbrev pub values_in : List Page → ℕ → ℕ → Val
values_in pages p s = value (slots_in pages p) s

-- these slots have the counts and capacities of those
pub record SameSlots (old new : List Slot) : Type 0 where
  pub count : length new ≡ length old
  pub capacities : (s : ℕ) → capacity new s ≡ capacity old s

-- and so has each page
abbrev pub SameShape : List Page → List Page → Type 0
SameShape old new = (p : ℕ) → SameSlots (slots_in old p) (slots_in new p)
