-- Which lines a text reads as, and at which line it is bad.
use Rattle.std.specs.Prelude.{◌≡◌, ℕ, ◌+◌, ◌<◌, ◌≤◌, ◌⊎◌, List, [], length, take, slice_get, Option, None, Some, Result, Err}
use Rattle.sd_base.specs.declared.refusal.Refusal.{Refusal}
use Rattle.sd_base.specs.declared.refusal.Refusal.TheVariants as refusal
use Rattle.sd_base.specs.declared.refusal.LineError.{LineError}
use Rattle.sd_base.specs.declared.refusal.LineError.TheVariants.{Order}
use Rattle.sd_script.specs.declared.line.Line.{Line}
use Rattle.sd_script.specs.Text.{Numbered, lines_of, told_lines}
use Rattle.sd_script.specs.Words.{plain, words_of}
use Rattle.sd_script.specs.Forms.{form_words, IsForm}
use Rattle.sd_script.specs.Order.{Follows}
use Rattle.sd_script.specs.Causes.{ArePrinted, IsCause}

-- The bytes of a line of this number, which ends at this byte of the text, read as this line behind those before.
pub record ReadsAs (before : List Line) (bytes : List ℕ) (number end : ℕ) (line : Line) : Type 0 where
  pub words : plain (words_of bytes) ≡ form_words line.form
  pub form : IsForm line.form
  pub follows : Follows before line.form
  pub number_is : line.number ≡ number
  pub session : line.session ≡ 0
  pub printed : ArePrinted bytes
  pub bytes_most : length bytes ≤ 1024
  pub lines_most : number ≤ 100000
  pub text_most : end ≤ 4194304

-- The line of the text that comes behind those before, and isn't passed over, reads as this line.
pub record Reads (text : List ℕ) (before : List Line) (line : Line) : Type 0 where
  pub at : Numbered
  pub stands : slice_get (told_lines text) (length before) ≡ Some at
  pub reads : ReadsAs before at.bytes at.number at.end line

-- Each of these lines reads so behind those before it.
abbrev pub IsRead : List ℕ → List Line → Type 0
IsRead text lines = (k : ℕ) (line : Line) → slice_get lines k ≡ Some line → Reads text (take k lines) line

-- The text is a script of these lines: they are all that it has but those that are passed over, and there is one.
pub record IsScript (text : List ℕ) (lines : List Line) : Type 0 where
  pub read : IsRead text lines
  pub whole : length lines ≡ length (told_lines text)
  pub some : 0 < length lines

-- the number and the first cause of the next line behind these; or the text ends before its first line, which is told as one
-- behind all lines that it has
abbrev pub IsBadNext : List ℕ → List Line → Option Numbered → ℕ → LineError → Type 0
IsBadNext text before None number cause = (before ≡ []) × (number ≡ length (lines_of text) + 1) × (cause ≡ Order)
IsBadNext text before (Some at) number cause = (number ≡ at.number) × IsCause before at.bytes at.number at.end cause

-- The lines before this number read or are passed over, and the line of this number is bad for this cause.
pub record IsBadAt (text : List ℕ) (number : ℕ) (cause : LineError) : Type 0 where
  pub before : List Line
  pub read : IsRead text before
  pub next : IsBadNext text before (slice_get (told_lines text) (length before)) number cause

-- With what a text may be refused: its bad line and the cause of that, or want of memory.
abbrev pub IsRefusedWith : List ℕ → Refusal → Type 0
IsRefusedWith text (refusal.BadLine line cause) = IsBadAt text line cause
IsRefusedWith text refusal.Memory = Unit {0}
IsRefusedWith text _ = ⊥

-- the answer is this, unless there was no memory
abbrev pub UnlessMemory : Result (List Line) Refusal → Result (List Line) Refusal → Type 0
UnlessMemory answer due = (answer ≡ due) ⊎ (answer ≡ Err refusal.Memory)
