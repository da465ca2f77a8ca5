-- A slotted page as a value: its slots in order, which of them have a value, and what an operation makes of it.
use Rattle.std.specs.Prelude.{◌≡◌, ◌⊎◌, unwrap_or, ◌<◌, ◌≤◌, ℕ, zero, suc, ◌+◌, ◌*◌, ◌^◌, List, [], ◌∷◌, length, All, Option, IfSome, option_and_then, option_copied, option_map, slice_get, sum_by}
use Rattle.std.specs.List.{AllByRecursion}
use Rattle.sd_base.specs.Values.{size}
use Rattle.sd_page.specs.declared.op.Op.{Op}

-- a slot: the capacity it was made with, and its value; a dead slot has none
abbrev pub Slot : Type 0
Slot = ℕ × Option (List ℕ)

-- a page: the LSN of its last change, its number, its slots in order
pub record Page : Type 0 where
  pub lsn : ℕ
  pub number : ℕ
  pub slots : List Slot

-- a page without slots, before its first change
abbrev pub empty_page : ℕ → Page
empty_page number = record { lsn = 0; number = number; slots = [] }

-- where the capacity of the last slot ends; the header takes 16 bytes
abbrev pub heap_end : List Slot → ℕ
heap_end slots = 16 + sum_by (λ slot. slot.0) slots

-- the value of a slot; a dead slot has none, nor has a slot that the page doesn't have
abbrev pub value_at : List Slot → ℕ → Option (List ℕ)
value_at slots s = option_and_then (λ slot. slot.1) (slice_get slots s)

-- the capacity of a slot that the page has
abbrev pub capacity_at : List Slot → ℕ → Option ℕ
capacity_at slots s = option_map (λ slot. slot.0) (slice_get slots s)

-- a new slot of this capacity fits, with its entry of 6 bytes
abbrev pub HasRoom : List Slot → ℕ → Type 0
HasRoom slots capacity = heap_end slots + capacity + 6 * (length slots + 1) ≤ 1024

-- the slots with this value in slot s, whose capacity stays; where s is their count, with a new slot at their end
abbrev pub written : List Slot → ℕ → ℕ → Option (List ℕ) → List Slot
written [] zero capacity value = (capacity, value) ∷ []
written [] (suc s) capacity value = []
written (slot ∷ slots) zero capacity value = (slot.0, value) ∷ slots
written (slot ∷ slots) (suc s) capacity value = slot ∷ written slots s capacity value

-- the value that an operation leaves in its slot
abbrev pub after_of : Op → Option (List ℕ)
after_of op = option_copied op.after

-- the page after an operation of this LSN
abbrev pub applied : Op → ℕ → Page → Page
applied op lsn page = record { lsn = lsn; number = page.number; slots = written page.slots op.slot op.capacity (after_of op) }

-- a new slot is asked for, and the page has no room for it
abbrev pub LacksRoom : List Slot → ℕ → ℕ → Type 0
LacksRoom slots s capacity = (s ≡ length slots) × (1024 < heap_end slots + capacity + 6 * (length slots + 1))

-- slot s is neither one of the page's nor the next one
abbrev pub LacksSlot : List Slot → ℕ → Type 0
LacksSlot slots s = length slots < s

-- the capacity that a value of slot s finds: the slot's own, or that of the slot that is to be made
abbrev pub capacity_for : List Slot → ℕ → ℕ → ℕ
capacity_for slots s capacity = unwrap_or (capacity_at slots s) capacity

-- the page can take a value of n bytes at slot s, where a new slot has this capacity
pub record CanTake (slots : List Slot) (s capacity n : ℕ) : Type 0 where
  pub place : s ≤ length slots
  pub room : s ≡ length slots → HasRoom slots capacity
  pub small : s ≡ length slots → capacity ≤ 256
  pub within : n ≤ capacity_for slots s capacity

-- there is a slot or room for it, and the value is longer than its capacity, or a new slot's capacity is over 256 bytes
pub record IsTooLong (slots : List Slot) (s capacity n : ℕ) : Type 0 where
  pub place : s ≤ length slots
  pub room : s ≡ length slots → HasRoom slots capacity
  pub long : (capacity_for slots s capacity < n) ⊎ ((s ≡ length slots) × (256 < capacity))

-- a slot that has a place in an image
pub record SlotFits (slot : Slot) : Type 0 where
  pub capacity : slot.0 ≤ 256
  pub value : size slot.1 ≤ slot.0
  pub bytes : IfSome slot.1 (All (λ b. b < 256))

-- a page that has an image
pub record PageFits (page : Page) : Type 0 where
  pub lsn : page.lsn < 2 ^ 64
  pub number : page.number < 1024
  pub slots : AllByRecursion SlotFits page.slots
  pub room : heap_end page.slots + 6 * length page.slots ≤ 1024
