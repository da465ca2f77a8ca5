-- Slots for new records.
use Rattle.std.specs.Prelude.{◌≡◌, ◌≢◌, ◌⊎◌, ◌<◌, ◌≤◌, ℕ, List, length, None, true}
use Rattle.sd_base.specs.Values.{size}
use Rattle.sd_base.specs.declared.ids.Rid.{Rid}
use Rattle.sd_base.specs.declared.ids.TxnId.{TxnId}
use Rattle.sd_base.specs.declared.place.Mode.TheVariants.{Excl}
use Rattle.sd_base.specs.declared.refusal.Refusal.{Refusal}
use Rattle.sd_base.specs.declared.refusal.Refusal.TheVariants as R
use Rattle.sd_chain.specs.Pages.{FitsUpdate, capacity, value}
use Rattle.sd_model.specs.Tables.{Content}
use Rattle.sd_page.specs.Page.{HasRoom, Page}
use Rattle.sd_pagelock.specs.Directory.{entry_at}
use Rattle.sd_pagelock.specs.Places.{holds_as}
use Rattle.sd_reclock.specs.Locks.{held}
use Rattle.sd_update.specs.Changing.{image_for}
use Rattle.sd_state.specs.Parts.{Parts}
use Rattle.sd_ops.specs.Copies.{LacksPage}

-- the value or the capacity is over 256 bytes, or the value is longer than the capacity
abbrev pub IsLongFor : List ℕ → ℕ → Type 0
IsLongFor v asked = (256 < length v) ⊎ ((256 < asked) ⊎ (asked < length v))

-- nobody but t has a lock on the record
abbrev pub IsUnheld : TxnId → Rid → Parts → Type 0
IsUnheld t r c = (u : TxnId) → t ≢ u → held c.locks u r ≡ None

-- A dead slot that t may have: it is without a value and big enough, and nobody else has a lock on its record.
pub record IsUsable (page : Page) (t : TxnId) (p asked : ℕ) (c : Parts) (slot : ℕ) : Type 0 where
  pub place : slot < length page.slots
  pub none : value page.slots slot ≡ None
  pub enough : asked ≤ capacity page.slots slot
  pub unheld : IsUnheld t (record { page = p; slot = slot }) c

-- no slot below n is one
abbrev pub NoneUsable : Page → TxnId → ℕ → ℕ → Parts → ℕ → Type 0
NoneUsable page t p asked c n = (slot : ℕ) → slot < n → IsUsable page t p asked c slot → ⊥

-- the slot for a new record: the lowest such dead slot, else the next one
abbrev pub IsChosen : Page → TxnId → ℕ → ℕ → Parts → ℕ → Type 0
IsChosen page t p asked c slot =
    (IsUsable page t p asked c slot ⊎ (slot ≡ length page.slots)) × NoneUsable page t p asked c slot

-- there is no such dead slot, and no room for a next one
abbrev pub IsFullFor : Page → TxnId → ℕ → ℕ → Parts → Type 0
IsFullFor page t p asked c = (HasRoom page.slots asked → ⊥) × NoneUsable page t p asked c (length page.slots)

-- A dead slot that is found, with its own capacity.
pub record IsDead (page : Page) (t : TxnId) (p asked : ℕ) (c : Parts) (slot own : ℕ) : Type 0 where
  pub usable : IsUsable page t p asked c slot
  pub has : own ≡ capacity page.slots slot
  pub lowest : NoneUsable page t p asked c slot

-- A slot takes a new record: it is chosen, and the record's capacity is its own, or for the next one the asked one.
pub record IsVacant (page : Page) (t : TxnId) (p asked : ℕ) (c : Parts) (slot own : ℕ) : Type 0 where
  pub chosen : IsChosen page t p asked c slot
  pub place : slot ≤ length page.slots
  pub none : value page.slots slot ≡ None
  pub takes : (v : Content) → size v ≤ asked → FitsUpdate page.slots slot own (value page.slots slot) v
  pub small : own ≤ 256
  pub asks : slot ≡ length page.slots → own ≡ asked

-- the page isn't there so, or is full for a record of this capacity
abbrev pub LacksPlace : TxnId → ℕ → ℕ → Parts → Refusal → Type 0
LacksPlace t p asked c R.PageFull = (holds_as Excl (entry_at c.directory p) t.inst ≡ true)
    × IsFullFor (image_for t p c) t p asked c
LacksPlace t p asked c n = LacksPage Excl t.inst p c n
