-- What a log device stands for: the groups of its area from the master's start place on, while gates are open.
--
--   group   an open gate (1 byte), the body's length (4), and the body, which is whole records; behind it stands the next gate
--   length  at least 9, and so that the group and the next gate lie in the area
--   master  a twin at 0 with bodies of 64 bytes: count (8), area (1), epoch (4), LSN of a checkpoint's end (8), start place (4)
--
-- Places count from the area's start.
use Rattle.std.specs.Prelude.{◌≡◌, ℕ, zero, suc, ◌+◌, nat_le, Bool, true, false, ◌&&◌, if◌then◌else◌, List, [], ◌∷◌, ◌++◌, length, take, drop, Option, None, Some, Result, Ok, Err}
use Rattle.std.specs.Int.{Width, w8, w32, w64, byte_len, from_be_bytes}
use Rattle.std.specs.List.{AllByRecursion, flat_map}
use Rattle.sd_base.specs.Twin.{chosen_body, is_open}
use Rattle.sd_logrec.specs.declared.record.Record.{Record}
use Rattle.sd_logrec.specs.Reading.{record_at}
use Rattle.sd_logrec.specs.Spelling.{HasSpelling, four, spelling}

-- a log's area, of the bytes of its device
unfoldable pub area : List ℕ → List ℕ
area device = take 1048576 (drop 130 device)

-- records, each with its place
abbrev pub Records : Type 0
Records = List (ℕ × Record)

-- a group: the place of its gate, and its records
pub record Group : Type 0 where
  pub at : ℕ
  pub records : Records

-- Reading gives whole groups and the place of the closed gate behind them, the place of the group that breaks the
-- format, or the place where no record starts in a group.
pub data Reading : Type 0 where
  Whole : (groups : List Group) (gate : ℕ) → Reading
  BadGroup : (at : ℕ) → Reading
  NoRecord : (at : ℕ) → Reading

-- records that stand one behind the other from this place on
abbrev pub placed_from : ℕ → List Record → Records
placed_from at [] = []
placed_from at (r ∷ rs) = (at, r) ∷ placed_from (at + length (spelling r)) rs

-- the bytes of records, one behind the other
abbrev pub spelled : List Record → List ℕ
spelled rs = flat_map spelling rs

-- a record in front of those that are read behind it
abbrev pub record_before : ℕ → Record → Result Records ℕ → Result Records ℕ
record_before at r (Ok rs) = Ok ((at, r) ∷ rs)
record_before at r (Err place) = Err place

-- what stands at this place, and what is read behind it
abbrev pub record_then : ℕ → Option (Record × List ℕ) → (ℕ → List ℕ → Result Records ℕ) → Result Records ℕ
record_then at None behind = Err at
record_then at (Some (r, rest)) behind = record_before at r (behind (at + length (spelling r)) rest)

-- the records of a body at this place, or the place where none starts; no more of them than it has bytes
unfoldable pub records_within : ℕ → ℕ → List ℕ → Result Records ℕ
records_within n at [] = Ok []
records_within zero at (b ∷ body) = Err at
records_within (suc n) at (b ∷ body) = record_then at (record_at (b ∷ body)) (records_within n)

-- a body's records
abbrev pub records_at : ℕ → List ℕ → Result Records ℕ
records_at at body = records_within (length body) at body

-- the length of the group at the front
abbrev pub group_len : List ℕ → ℕ
group_len bytes = from_be_bytes w32 (take 4 (drop 1 bytes))

-- a group of this place and length lies in the area, with the next gate
abbrev pub fits_area : ℕ → ℕ → Bool
fits_area at n = nat_le 9 n && nat_le (at + 5 + n + 1) 1048576

-- a group in front of what is read behind it
abbrev pub group_before : Group → Reading → Reading
group_before g (Whole groups gate) = Whole (g ∷ groups) gate
group_before g (BadGroup at) = BadGroup at
group_before g (NoRecord at) = NoRecord at

-- by a group's records
abbrev pub group_then : ℕ → Result Records ℕ → Reading → Reading
group_then at (Ok records) behind = group_before (record { at = at; records = records }) behind
group_then at (Err place) behind = NoRecord place

-- the groups in these bytes at this place; no more of them than there are bytes
unfoldable pub groups_within : ℕ → ℕ → List ℕ → Reading
groups_within zero at bytes = Whole [] at
groups_within (suc n) at bytes =
    let len = group_len bytes in
    if is_open 0 bytes
    then (if fits_area at len then group_then at (records_at (at + 5) (take len (drop 5 bytes))) (groups_within n (at + 5 + len) (drop (5 + len) bytes)) else BadGroup at)
    else Whole [] at

-- the groups of an area from this place on
unfoldable pub reading : ℕ → List ℕ → Reading
reading start bytes = groups_within (length (drop start bytes)) start (drop start bytes)

-- A group of these records stands at this place, its gate open, with a closed gate behind it.
pub record StandsAt (at : ℕ) (rs : List Record) (bytes : List ℕ) : Type 0 where
  pub opened : is_open at bytes ≡ true
  pub text : take (4 + length (spelled rs)) (drop (at + 1) bytes) ≡ four (length (spelled rs)) ++ spelled rs
  pub closed : is_open (at + 5 + length (spelled rs)) bytes ≡ false
  pub fits : fits_area at (length (spelled rs)) ≡ true
  pub records : AllByRecursion HasSpelling rs

-- a log's master
pub record Master : Type 0 where
  pub count : ℕ
  pub log_area : ℕ
  pub epoch : ℕ
  pub check : ℕ
  pub start : ℕ

-- the number of this width at this place
abbrev pub number_in : Width → ℕ → List ℕ → ℕ
number_in w at body = from_be_bytes w (take (byte_len w) (drop at body))

-- by the body that counts; all 0 where none does
abbrev pub master_of : Option (List ℕ) → Master
master_of None = record { count = 0; log_area = 0; epoch = 0; check = 0; start = 0 }
master_of (Some body) = record {
  count = number_in w64 0 body;
  log_area = number_in w8 8 body;
  epoch = number_in w32 9 body;
  check = number_in w64 13 body;
  start = number_in w32 21 body;
}

unfoldable pub master : List ℕ → Master
master device = master_of (chosen_body 0 64 device)

-- what a log device keeps
abbrev pub kept : List ℕ → Reading
kept device = reading (master device).start (area device)
