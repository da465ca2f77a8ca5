-- Twin slots: two slots of a gate byte and a body each, of which an open one counts. A put closes, fills and opens the other.
use Rattle.std.specs.Prelude.{ℕ, ◌+◌, ◌==◌, nat_lt, Bool, true, false, List, Option, None, Some, take, drop, get_or, if◌then◌else◌}
use Rattle.std.specs.Int.{from_be_bytes, w64}

-- Which slot counts, and whether the other one is open too. Same: both are open, with equal numbers.
pub data Slot : Type 0 where
  Neither : Slot
  First : (other : Bool) → Slot
  Second : (other : Bool) → Slot
  Same : Slot

-- whether the gate at this place is open
abbrev pub is_open : ℕ → List ℕ → Bool
is_open gate bytes = get_or bytes gate 0 == 165

-- the body of n bytes behind the gate at this place
abbrev pub body_at : ℕ → ℕ → List ℕ → List ℕ
body_at n gate bytes = take n (drop (gate + 1) bytes)

-- the number that a body begins with: a page's LSN, a master's count
abbrev pub number_of : List ℕ → ℕ
number_of body = from_be_bytes w64 body

-- of two open slots the one with the greater number
abbrev pub newer : ℕ → ℕ → Slot
newer first second = if nat_lt first second then Second true else if nat_lt second first then First true else Same

-- by their gates and numbers
abbrev pub slot_of : Bool → Bool → ℕ → ℕ → Slot
slot_of true true first second = newer first second
slot_of true false first second = First false
slot_of false true first second = Second false
slot_of false false first second = Neither

-- the body that counts
abbrev pub body_of : Slot → List ℕ → List ℕ → Option (List ℕ)
body_of Neither first second = None
body_of (First other) first second = Some first
body_of (Second other) first second = Some second
body_of Same first second = None

-- the slot that counts of the twin at this place with bodies of n bytes; its second gate is n + 1 bytes behind the first
abbrev pub chosen_slot : ℕ → ℕ → List ℕ → Slot
chosen_slot at n bytes =
    slot_of (is_open at bytes) (is_open (at + n + 1) bytes) (number_of (body_at n at bytes)) (number_of (body_at n (at + n + 1) bytes))

-- and its body
abbrev pub chosen_body : ℕ → ℕ → List ℕ → Option (List ℕ)
chosen_body at n bytes = body_of (chosen_slot at n bytes) (body_at n at bytes) (body_at n (at + n + 1) bytes)
