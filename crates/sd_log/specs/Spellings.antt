-- What contracts see of records that are kept as their bytes.
use Rattle.std.specs.Prelude.{ℕ}
use Rattle.sd_logrec.specs.declared.record.Record.{Record}
use Rattle.sd_logrec.specs.Kept.{Records}

-- The records, each with its place; how many bytes more find memory, and how many records.
pub record SpellingsState : Type 0 where
  pub entries : Records
  pub text : ℕ
  pub room : ℕ

abbrev pub record_in : ℕ × Record → Record
record_in e = e.1
