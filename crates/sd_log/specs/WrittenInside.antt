-- What is inside the records of a log: marks, and the bytes of all records.
use Rattle.std.specs.Prelude.{◌+◌, ◌<◌, ◌^◌, ◌≤◌, take, length, map}
use Rattle.sd_logrec.specs.Kept.{spelled}
use Rattle.sd_log.specs.declared.written.Written.TheInside.{Inside}
use Rattle.sd_log.specs.Parts.{IsParted, groups_of, items_of, tail_of}
use Rattle.sd_log.specs.Spellings.{record_in}
use Rattle.sd_log.specs.WrittenStates.{WrittenState}

abbrev pub written_view : Inside → WrittenState
written_view w = record {
  start = w.marks.start;
  gate = w.marks.gate;
  groups = groups_of w.marks (items_of w.marks.forced w.records.entries);
  tail = tail_of w.marks (items_of w.marks.forced w.records.entries);
  text = w.records.text;
  room = w.room;
}

-- The marks part the records, of which the forced ones have no more bytes than lie before the gate, and there is room.
pub record IsWritten (w : Inside) : Type 0 where
  pub forced_there : w.marks.forced ≤ length w.records.entries
  pub parted : IsParted w.marks (items_of w.marks.forced w.records.entries)
  pub gate_small : w.marks.gate < 2 ^ 32
  pub forced_text : length (spelled (map record_in (take w.marks.forced w.records.entries))) ≤ w.marks.gate
  pub room_there : w.room ≤ w.records.room
  pub marks_room : w.room ≤ w.marks.room
  pub next_mark : w.marks.forced < length w.records.entries → w.room + 1 ≤ w.marks.room
