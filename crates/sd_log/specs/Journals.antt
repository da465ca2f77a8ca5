-- What contracts see of the records that are read.
use Rattle.std.specs.Prelude.{◌+◌, ◌<◌, ◌≤◌, vec_len, vec_capacity}
use Rattle.sd_log.specs.declared.journal.Journal.TheInside.{Inside}
use Rattle.sd_log.specs.JournalStates.{JournalState}
use Rattle.sd_log.specs.Parts.{IsParted, groups_of, tail_of}

-- the groups, and the records behind them
abbrev pub journal_view : Inside → JournalState
journal_view j = record {
  start = j.marks.start;
  gate = j.marks.gate;
  groups = groups_of j.marks j.placed.items;
  tail = tail_of j.marks j.placed.items;
  room = j.room;
}

-- The marks part the records, and there is room.
pub record IsJournal (j : Inside) : Type 0 where
  pub parted : IsParted j.marks j.placed.items
  pub room_there : vec_len j.placed + j.room ≤ vec_capacity j.placed
  pub marks_room : j.room ≤ j.marks.room
  pub next_mark : j.marks.forced < vec_len j.placed → j.room + 1 ≤ j.marks.room
