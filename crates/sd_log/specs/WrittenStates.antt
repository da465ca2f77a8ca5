-- The groups of a log and the records behind them, as they are kept in memory.
use Rattle.std.specs.Prelude.{◌≡◌, ℕ, ◌+◌, ◌-◌, ◌≤◌, max, List, [], ◌∷◌, ◌++◌, length}
use Rattle.sd_logrec.specs.declared.record.Record.{Record}
use Rattle.sd_logrec.specs.Kept.{Group, Records, placed_from}
use Rattle.sd_logrec.specs.View.{flat}
use Rattle.sd_log.specs.declared.placed.Placed.{Placed}
use Rattle.sd_log.specs.Logs.{boundary, placed_groups, placed_tail}

-- The groups and the tail; how many bytes of records more find memory, and how many records.
pub record WrittenState : Type 0 where
  pub start : ℕ
  pub gate : ℕ
  pub groups : List Group
  pub tail : List Record
  pub text : ℕ
  pub room : ℕ

-- all records, of the groups and then of the tail
abbrev pub all_in : WrittenState → List Placed
all_in w = placed_groups w.groups ++ placed_tail w.gate w.tail

-- with one more record in the tail
abbrev pub put : Record → ℕ → WrittenState → WrittenState
put r text w = record { start = w.start; gate = w.gate; groups = w.groups; tail = w.tail ++ r ∷ []; text = text; room = w.room - 1 }

-- with the tail as a group of this length
abbrev pub closed : ℕ → WrittenState → WrittenState
closed len w = record {
  start = w.start;
  gate = w.gate + 5 + len;
  groups = w.groups ++ record { at = w.gate; records = placed_from (w.gate + 5) w.tail } ∷ [];
  tail = [];
  text = w.text;
  room = w.room;
}

-- without the tail
abbrev pub dropped : ℕ → ℕ → WrittenState → WrittenState
dropped text room w = record { start = w.start; gate = w.gate; groups = w.groups; tail = []; text = text; room = room }

-- The groups in front of this place are gone, which had so many records.
pub record Forgets (place count : ℕ) (old new : WrittenState) : Type 0 where
  pub before : List Group
  pub parts : old.groups ≡ before ++ new.groups
  pub place_is : place ≡ boundary new.groups old.gate
  pub count_is : count ≡ length (placed_groups before)
  pub start : new.start ≡ place
  pub gate : new.gate ≡ old.gate
  pub tail : new.tail ≡ []
  pub text : old.text ≤ new.text
  pub room : old.room ≤ new.room

-- the greatest LSN of records, or 0
abbrev pub greatest_in : Records → ℕ
greatest_in [] = 0
greatest_in (e ∷ es) = max (flat e.1).lsn (greatest_in es)
