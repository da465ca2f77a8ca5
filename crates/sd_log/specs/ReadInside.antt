-- What is inside a log that was read, and what it stands for.
use Rattle.std.specs.Prelude.{◌≡◌, ◌+◌, ◌<◌, ◌≤◌, [], length}
use Rattle.sd_log.specs.ByPage.{changed_pages}
use Rattle.sd_log.specs.Logs.{AreForced, LogState, scanned}
use Rattle.sd_log.specs.Parts.{text_of}
use Rattle.sd_log.specs.declared.read.ReadLog.TheInside.{Inside}

abbrev pub read_view : Inside → LogState
read_view l = record { inst = l.inst; start = l.journal.start; gate = l.journal.gate; groups = l.journal.groups; tail = l.journal.tail; spare = 0 }

-- There are groups alone, whose bytes lie in the area before the gate, and the pages are those of all records.
pub record IsReadLog (l : Inside) : Type 0 where
  pub none : l.journal.tail ≡ []
  pub forced_are : AreForced l.journal.start l.journal.gate l.journal.groups
  pub text_is : l.text.items ≡ text_of l.journal.groups
  pub within : l.journal.start + length (text_of l.journal.groups) ≤ l.journal.gate
  pub gate_within : l.journal.gate < 1048576
  pub chains_are : l.pages.chains ≡ changed_pages (scanned (read_view l))
