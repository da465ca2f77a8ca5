-- What reading a body adds to a journal.
use Rattle.std.specs.Prelude.{◌≡◌, ℕ, ◌+◌, List, [], ◌∷◌, ◌++◌, length, map, Result, Ok}
use Rattle.sd_logrec.specs.declared.record.Record.{Record}
use Rattle.sd_logrec.specs.Kept.{Records, placed_from, spelled}
use Rattle.sd_log.specs.JournalStates.{JournalState}
use Rattle.sd_log.specs.Logs.{placed_groups, placed_tail}
use Rattle.sd_log.specs.Marks.{entry}

-- The tail has the records that are read of this body, and their bytes are this body.
pub record AddsRecords (read : Result Records ℕ) (body : List ℕ) (old new : JournalState) : Type 0 where
  pub start : new.start ≡ old.start
  pub gate : new.gate ≡ old.gate
  pub groups : new.groups ≡ old.groups
  pub text_is : spelled new.tail ≡ body
  pub records : read ≡ Ok (placed_from (old.gate + 5) new.tail)

-- A group has them.
pub record AddsGroup (read : Result Records ℕ) (body : List ℕ) (old new : JournalState) : Type 0 where
  pub rs : List Record
  pub start : new.start ≡ old.start
  pub gate : new.gate ≡ old.gate + 5 + length body
  pub groups : new.groups ≡ old.groups ++ record { at = old.gate; records = placed_from (old.gate + 5) rs } ∷ []
  pub tail : new.tail ≡ []
  pub text_is : spelled rs ≡ body
  pub records : read ≡ Ok (placed_from (old.gate + 5) rs)

-- The tail has the records in front of what breaks a body.
pub record AddsFront (front : Records) (old new : JournalState) : Type 0 where
  pub gate : new.gate ≡ old.gate
  pub groups : new.groups ≡ old.groups
  pub records : placed_from (old.gate + 5) new.tail ≡ front

-- the records of a journal, each with its place
abbrev pub entries : JournalState → Records
entries j = map entry (placed_groups j.groups ++ placed_tail j.gate j.tail)
