-- The groups of a log and the records behind them, and how many records more find memory.
use Rattle.std.specs.Prelude.{ℕ, ◌+◌, ◌-◌, List, [], ◌∷◌, ◌++◌}
use Rattle.sd_logrec.specs.declared.record.Record.{Record}
use Rattle.sd_logrec.specs.Kept.{Group, placed_from}

pub record JournalState : Type 0 where
  pub start : ℕ
  pub gate : ℕ
  pub groups : List Group
  pub tail : List Record
  pub room : ℕ

-- with one more record in the tail
abbrev pub pushed : Record → JournalState → JournalState
pushed r j = record { start = j.start; gate = j.gate; groups = j.groups; tail = j.tail ++ r ∷ []; room = j.room - 1 }

-- with the tail as a group of this length
abbrev pub settled : ℕ → JournalState → JournalState
settled len j = record {
  start = j.start;
  gate = j.gate + 5 + len;
  groups = j.groups ++ record { at = j.gate; records = placed_from (j.gate + 5) j.tail } ∷ [];
  tail = [];
  room = j.room;
}
