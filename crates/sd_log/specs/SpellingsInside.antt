-- What is inside records that are kept as their bytes: a slot for each, and the bytes of all.
use Rattle.std.specs.Prelude.{◌≡◌, ℕ, ◌+◌, ◌-◌, List, [], ◌∷◌, length, map, Result, Ok, Err, vec_len, vec_capacity}
use Rattle.std.specs.List.{AllByRecursion}
use Rattle.sd_logrec.specs.declared.record.Record.{Record}
use Rattle.sd_logrec.specs.Kept.{Records, records_at, spelled}
use Rattle.sd_logrec.specs.Spelling.{HasSpelling, spelling}
use Rattle.sd_logrec.specs.View.{flat}
use Rattle.sd_log.specs.Spellings.{SpellingsState, record_in}
use Rattle.sd_log.specs.declared.spellings.Slot.{Slot}
use Rattle.sd_log.specs.declared.spellings.Spellings.TheInside.{Inside}

-- the records that are read of bytes, none where they are no records
abbrev pub read_of : Result Records ℕ → List Record
read_of (Ok es) = map record_in es
read_of (Err place) = []

abbrev pub records_of : List ℕ → List Record
records_of bytes = read_of (records_at 0 bytes)

-- a slot behind bytes of which so many in front are gone
abbrev pub lowered : ℕ → Slot → Slot
lowered gone s = record { lsn = s.lsn; place = s.place; at = s.at - gone }

-- each record with the place that its slot tells
abbrev pub at_slots : List Slot → List Record → Records
at_slots [] rs = []
at_slots (s ∷ ss) [] = []
at_slots (s ∷ ss) (r ∷ rs) = (s.place, r) ∷ at_slots ss rs

abbrev pub spellings_view : Inside → SpellingsState
spellings_view s = record {
  entries = at_slots s.slots.items (records_of s.bytes.items);
  text = vec_capacity s.bytes - vec_len s.bytes;
  room = vec_capacity s.slots - vec_len s.slots;
}

-- each slot tells where its record's bytes begin, the first at this byte, and its LSN
abbrev pub AreSlots : ℕ → List Slot → List Record → Type 0
AreSlots at [] [] = Unit {0}
AreSlots at [] (r ∷ rs) = ⊥
AreSlots at (s ∷ ss) [] = ⊥
AreSlots at (s ∷ ss) (r ∷ rs) = (s.at ≡ at) × (s.lsn ≡ (flat r).lsn) × AreSlots (at + length (spelling r)) ss rs

-- The bytes are those of records of the grammar, each with a slot.
pub record IsSpellings (s : Inside) : Type 0 where
  pub rs : List Record
  pub text_is : s.bytes.items ≡ spelled rs
  pub each : AllByRecursion HasSpelling rs
  pub slots_are : AreSlots 0 s.slots.items rs
