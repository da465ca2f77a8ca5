-- Records in memory that follow one another.
use Rattle.std.specs.Prelude.{◌≡◌, ◌⊎◌, ℕ, Bool, true, count_by, List, map}
use Rattle.std.specs.List.{list_any}
use Rattle.sd_logrec.specs.declared.record.Record.{Record}
use Rattle.sd_logrec.specs.Kept.{Master}
use Rattle.sd_log.specs.declared.placed.Placed.{Placed}
use Rattle.sd_base.specs.declared.refusal.Refusal.{Refusal}
use Rattle.sd_log.specs.Areas.{IsAt}
use Rattle.sd_log.specs.Marks.{entry}
use Rattle.sd_chain.specs.Checks.{Follow, Past, is_end_check, past_of, starts_by}
use Rattle.sd_chain.specs.Faults.{StraysAt}
use Rattle.sd_recovered.specs.declared.following.PastRecords as memory

-- what records say, in memory
abbrev pub as_past : memory.PastRecords → Past
as_past past = record { lsn = past.lsn; epoch = past.epoch; started = past.started }

-- records without their places
abbrev pub bare : List Placed → List Record
bare ps = map (λ p. p.rec) ps

-- how many Starts a checkpoint of this LSN knew
abbrev pub known : ℕ → List Record → ℕ
known lsn rs = count_by (starts_by lsn) rs

-- The checkpoint of a master that counts ended among these records.
abbrev pub IsChecked : Bool → Master → List Record → Type 0
IsChecked chosen m rs = chosen ≡ true → list_any (is_end_check m.check) rs ≡ true

-- The records of a log that breaks the format, and what breaks it, fail at this place: a record that may not stand there
-- comes before that.
abbrev pub BreaksFirst : ℕ → Bool → Master → List Placed → Refusal → ℕ → Type 0
BreaksFirst inst chosen m front fault place =
    StraysAt inst chosen m (past_of m) (map entry front) place ⊎ (Follow inst chosen m (past_of m) (bare front) × IsAt fault place)
