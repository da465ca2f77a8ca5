-- What a command asks for: where its text comes from, and what is told of the run.
use Rattle.std.specs.Prelude.{◌≡◌, ℕ, ◌-◌, ◌<◌, ◌≤◌, List, Option, None, Some, length, slice_get}
use Rattle.sd_base.specs.Streams.{Rises}
use Rattle.sd_model.specs.declared.event.Entry.{Entry}
use Rattle.sd_script.specs.declared.line.Line.{Line}
use Rattle.sd_report.specs.Report.{report}
use Rattle.sd_report.specs.Summary.{summary_text}
use Rattle.sd_gen.specs.Generated.{gen_text}
use Rattle.sd_top.specs.declared.words.Request.{Request}
use Rattle.sd_top.specs.declared.words.Request.TheVariants as want
use Rattle.sd_top.specs.Sides.{SourceSide}
use Rattle.sd_top.specs.Input.{Taken, IsAtEnd}

-- The source gave this text: all that it had, or 4,194,305 bytes, which is more than a script has.
pub record Gave (source source' : SourceSide) (text : List ℕ) : Type 0 where
  pub taken : Taken source.left text source'.left
  pub whole : length text < 4194305 → IsAtEnd source'.left
  pub most : length text ≤ 4194305

-- the text of the run: the source gave it, or the number did
abbrev pub GivesText : Request → SourceSide → SourceSide → List ℕ → Type 0
GivesText want.Replay source source' text = Gave source source' text
GivesText (want.Gen number count) source source' text = text ≡ gen_text number count

-- the text that a run will have: all that the source has, where it tells that, or the one that the number gives
abbrev pub IsDue : Request → Option (List ℕ) → List ℕ → Type 0
IsDue want.Replay left text = left ≡ Some text
IsDue (want.Gen number count) left text = text ≡ gen_text number count

-- the source failed; a number needs none
abbrev pub ReadFails : Request → ℕ → ℕ → Type 0
ReadFails want.Replay faults faults' = Rises faults faults'
ReadFails (want.Gen number count) faults faults' = ⊥

-- the source is as it was, unless it is to be read
abbrev pub IsUnread : Request → SourceSide → SourceSide → Type 0
IsUnread want.Replay source source' = Unit {0}
IsUnread (want.Gen number count) source source' = source' ≡ source

-- the number of the last line
abbrev pub number_of_last : Option Line → ℕ
number_of_last None = 0
number_of_last (Some line) = line.number

abbrev pub last_number : List Line → ℕ
last_number lines = number_of_last (slice_get lines (length lines - 1))

-- What is told of a run by its lines and the entries of its book: the report, or for a generated script the summary, whose table is the
-- last line.
abbrev pub told_by : Request → List Line → List Entry → List ℕ
told_by want.Replay lines entries = report lines entries
told_by (want.Gen number count) lines entries = summary_text number count (last_number lines) entries
