-- What the bytes of an image say, field by field.
use Rattle.std.specs.Prelude.{◌≡◌, ◌⊎◌, ◌≤◌, ℕ, ◌==◌, if◌then◌else◌, ◌+◌, ◌-◌, ◌*◌, List, map, take, drop, None, Some}
use Rattle.std.specs.List.{range_with_len}
use Rattle.std.specs.Int.{w16, w32, w64, from_be_bytes}
use Rattle.sd_page.specs.Page.{Slot, Page, PageFits}
use Rattle.sd_page.specs.Spelling.{page_spelling}

-- so many bytes from a place on
abbrev pub field : List ℕ → ℕ → ℕ → List ℕ
field bytes at size = take size (drop at bytes)

-- the number in two bytes at a place
unfoldable pub two_at : List ℕ → ℕ → ℕ
two_at bytes at = from_be_bytes w16 (field bytes at 2)

-- the number in four bytes
unfoldable pub four_at : List ℕ → ℕ → ℕ
four_at bytes at = from_be_bytes w32 (field bytes at 4)

-- the number in eight bytes
unfoldable pub eight_at : List ℕ → ℕ → ℕ
eight_at bytes at = from_be_bytes w64 (field bytes at 8)

-- where the entry of a slot lies
abbrev pub entry_place : ℕ → ℕ
entry_place s = 1024 - 6 * (s + 1)

-- the slot that an entry tells of
abbrev pub slot_in : List ℕ → ℕ → Slot
slot_in bytes s = let len = two_at bytes (entry_place s + 4) in
    (two_at bytes (entry_place s + 2), if len == 65535 then None else Some (field bytes (two_at bytes (entry_place s)) len))

-- its value lies inside the image, or it has none
abbrev pub LiesInside : List ℕ → ℕ → Type 0
LiesInside bytes s = (two_at bytes (entry_place s + 4) ≡ 65535) ⊎ (two_at bytes (entry_place s) + two_at bytes (entry_place s + 4) ≤ 1024)

-- the page that bytes tell of, whether or not they are its image
unfoldable pub page_of : List ℕ → Page
page_of bytes = record { lsn = eight_at bytes 0; number = four_at bytes 8; slots = map (slot_in bytes) (range_with_len 0 (two_at bytes 12)) }

-- the bytes are the image of the page that they tell of
pub record IsImage (bytes : List ℕ) : Type 0 where
  pub fits : PageFits (page_of bytes)
  pub spelled : page_spelling (page_of bytes) ≡ bytes
