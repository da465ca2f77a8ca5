-- What is inside a log, and what it stands for.
use Rattle.std.specs.Prelude.{◌≡◌, ◌+◌, ◌*◌, ◌<◌, ◌≤◌, length}
use Rattle.std.specs.List.{AllByRecursion}
use Rattle.sd_logrec.specs.Kept.{spelled}
use Rattle.sd_logrec.specs.Spelling.{HasSpelling}
use Rattle.sd_log.specs.ByPage.{changed_pages}
use Rattle.sd_log.specs.declared.log.Log.TheInside.{Inside}
use Rattle.sd_log.specs.Logs.{AreForced, LogState, scanned}

abbrev pub log_view : Inside → LogState
log_view l = record { inst = l.inst; start = l.written.start; gate = l.written.gate; groups = l.written.groups; tail = l.written.tail; spare = l.spare }

-- The tail fits into the area, the pages are those of all records, and the tail and what is to spare find memory.
pub record IsLog (l : Inside) : Type 0 where
  pub spelled_ones : AllByRecursion HasSpelling l.written.tail
  pub forced_are : AreForced l.written.start l.written.gate l.written.groups
  pub gate_within : l.written.gate < 1048576
  pub fits : 0 < length (spelled l.written.tail) → l.written.gate + 5 + length (spelled l.written.tail) + 1 ≤ 1048576
  pub spare_small : l.spare ≤ 1048576
  pub spare_text : l.spare ≤ l.written.text
  pub spare_buffer : length (spelled l.written.tail) + l.spare ≤ l.buffer.room
  pub spare_records : l.spare < 26 * (l.written.room + 1)
  pub spare_pages : l.spare < 26 * (l.pages.room + 1)
  pub chains_are : l.pages.chains ≡ changed_pages (scanned (log_view l))
