-- The image of a page, 1,024 bytes. Numbers are unsigned, the highest byte first.
--
--   place            size      field
--   0                8         LSN
--   8                4         page number
--   12               2         count of slots
--   14               2         heap end
--   16               capacity  the value of slot 0 and zeros behind it; then slot 1, and so on to the heap end
--   heap end         the rest  zeros
--   1024 - 6 (k + 1) 6         entry of slot k: its offset, its capacity, the length of its value or 65,535 for none
use Rattle.std.specs.Prelude.{◌≡◌, ℕ, ◌+◌, ◌-◌, ◌*◌, List, [], ◌∷◌, ◌++◌, length, replicate, Option, None, Some}
use Rattle.std.specs.List.{flat_map}
use Rattle.std.specs.Int.{w16, w32, w64, to_be_bytes}
use Rattle.sd_page.specs.Page.{Slot, Page, heap_end, PageFits}

-- a number in two bytes
unfoldable pub two : ℕ → List ℕ
two n = to_be_bytes w16 n

-- a number in four bytes
unfoldable pub four : ℕ → List ℕ
four n = to_be_bytes w32 n

-- a number in eight bytes
unfoldable pub eight : ℕ → List ℕ
eight n = to_be_bytes w64 n

-- so many bytes of zero
abbrev pub zeros : ℕ → List ℕ
zeros n = replicate n 0

-- the bytes of a value, none of a dead slot
abbrev pub value_bytes : Option (List ℕ) → List ℕ
value_bytes None = []
value_bytes (Some bytes) = bytes

-- what an entry says of a value
abbrev pub length_word : Option (List ℕ) → ℕ
length_word None = 65535
length_word (Some bytes) = length bytes

-- the capacity of a slot: its value, and zeros
abbrev pub cell : Slot → List ℕ
cell slot = value_bytes slot.1 ++ zeros (slot.0 - length (value_bytes slot.1))

-- the entry of a slot at this offset
abbrev pub entry : ℕ → Slot → List ℕ
entry offset slot = two offset ++ (two slot.0 ++ two (length_word slot.1))

-- the entries of slots, the first of which lies at this offset; they stand backwards
abbrev pub entries : ℕ → List Slot → List ℕ
entries offset [] = []
entries offset (slot ∷ slots) = entries (offset + slot.0) slots ++ entry offset slot

-- the first 16 bytes
abbrev pub header : Page → List ℕ
header page = eight page.lsn ++ (four page.number ++ (two (length page.slots) ++ two (heap_end page.slots)))

-- the image of a page
unfoldable pub page_spelling : Page → List ℕ
page_spelling page = header page ++ (flat_map cell page.slots ++ (zeros (1024 - heap_end page.slots - 6 * length page.slots) ++ entries 16 page.slots))

-- the bytes are the image of a page of this number
pub record WellFormed (bytes : List ℕ) (number : ℕ) : Type 0 where
  pub page : Page
  pub fits : PageFits page
  pub is_number : page.number ≡ number
  pub spelled : page_spelling page ≡ bytes
