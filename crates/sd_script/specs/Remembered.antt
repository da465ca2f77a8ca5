-- What the reader remembers of the lines so far, and what it answers at the next.
use Rattle.std.specs.Prelude.{◌≡◌, ◌≢◌, ◌⊎◌, ℕ, ◌+◌, ◌≤◌, ◌<◌, Bool, true, false, List, [], ◌∷◌, ◌++◌, length, Option, None, Some}
use Rattle.std.specs.Map.{update}
use Rattle.std.specs.Str.{bytes_eq}
use Rattle.sd_base.specs.declared.refusal.Refusal.{Refusal}
use Rattle.sd_base.specs.declared.refusal.Refusal.TheVariants as refusal
use Rattle.sd_script.specs.declared.line.Form.{Form}
use Rattle.sd_script.specs.declared.line.Form.TheVariants.{Complex, Begin, Read, Write, Add, Insert, Delete, Save, Back, Rollback, Commit, Ask, Give, Take, Evict, Flush, Force, CheckBegin, CheckEnd, Fail, Fuse, Fault, FailAll, Recover, Join, Reopen, RecoverAll, JoinAll, Where, Table}
use Rattle.sd_script.specs.declared.line.Line.{Line}
use Rattle.sd_script.specs.Forms.{IsForm, IsName, form_words}
use Rattle.sd_script.specs.Order.{begun, ordinal_of, IsBegun, insts_of, pages_of, table_count, Follows}
use Rattle.sd_script.specs.Causes.{IsCause}
use Rattle.sd_script.specs.Reading.{ReadsAs}
use Rattle.sd_script.specs.Text.{Numbered, is_passed_over}

-- the ordinals that are known behind a line of this form, where so many names were begun before it
abbrev pub known_after : (List ℕ → Option ℕ) → ℕ → Form → List ℕ → Option ℕ
known_after known begins (Begin inst name) = update bytes_eq known name (Some begins)
known_after known begins _ = known

-- how many names are begun behind it
abbrev pub begins_after : ℕ → Form → ℕ
begins_after before (Begin inst name) = before + 1
begins_after before _ = before

-- the instances, the pages and the number of tables behind it
abbrev pub insts_after : ℕ → Form → ℕ
insts_after before (Complex insts pages frames) = insts
insts_after before _ = before

abbrev pub pages_after : ℕ → Form → ℕ
pages_after before (Complex insts pages frames) = pages
pages_after before _ = before

abbrev pub tables_after : ℕ → Form → ℕ
tables_after before Table = before + 1
tables_after before _ = before

-- what is known is the ordinal of each name among those begun
abbrev pub AreOrdinals : List Line → (List ℕ → Option ℕ) → Type 0
AreOrdinals lines known = (name : List ℕ) → IsName name → known name ≡ ordinal_of (begun lines) name

-- these are the ordinals of the names begun, their number, the instances, the pages and the number of tables of the lines
pub record Remembers (lines : List Line) (known : List ℕ → Option ℕ) (begins insts pages tables : ℕ) : Type 0 where
  pub names : AreOrdinals lines known
  pub begins_are : begins ≡ length (begun lines)
  pub insts_are : insts ≡ insts_of lines
  pub pages_are : pages ≡ pages_of lines
  pub tables_are : tables ≡ table_count lines

-- the form begins no name again
abbrev pub IsFresh : List Line → Form → Type 0
IsFresh before (Begin inst name) = ¬ IsBegun name before
IsFresh before _ = Unit {0}

-- as IsFresh, by the ordinals that are known
abbrev pub IsUnknown : (List ℕ → Option ℕ) → Form → Type 0
IsUnknown known (Begin inst name) = known name ≡ None
IsUnknown known _ = Unit {0}

-- a line of this form may stand behind these lines, if it begins no name again and has its ordinal
abbrev pub FormFits : List Line → Form → Type 0
FormFits before (Complex insts pages frames) = before ≡ []
FormFits before (Begin inst name) = inst ≤ insts_of before
FormFits before (Read name ordinal rid) = rid.page < pages_of before
FormFits before (Write name ordinal rid value) = rid.page < pages_of before
FormFits before (Add name ordinal rid by) = rid.page < pages_of before
FormFits before (Insert name ordinal page value capacity) = page < pages_of before
FormFits before (Delete name ordinal rid) = rid.page < pages_of before
FormFits before (Save name ordinal mark) = Unit {0}
FormFits before (Back name ordinal mark) = Unit {0}
FormFits before (Rollback name ordinal) = Unit {0}
FormFits before (Commit name ordinal) = Unit {0}
FormFits before (Ask inst page mode) = (inst ≤ insts_of before) × (page < pages_of before)
FormFits before (Give inst page) = (inst ≤ insts_of before) × (page < pages_of before)
FormFits before (Take inst page) = (inst ≤ insts_of before) × (page < pages_of before)
FormFits before (Evict inst page) = (inst ≤ insts_of before) × (page < pages_of before)
FormFits before (Flush inst page) = (inst ≤ insts_of before) × (page < pages_of before)
FormFits before (Force inst) = inst ≤ insts_of before
FormFits before (CheckBegin inst) = inst ≤ insts_of before
FormFits before (CheckEnd inst) = inst ≤ insts_of before
FormFits before (Fail inst) = inst ≤ insts_of before
FormFits before (Fuse calls) = before ≢ []
FormFits before (Fault call) = before ≢ []
FormFits before (FailAll pick) = before ≢ []
FormFits before (Recover inst by most) = by ≤ insts_of before
FormFits before (Join inst) = inst ≤ insts_of before
FormFits before Reopen = before ≢ []
FormFits before RecoverAll = before ≢ []
FormFits before JoinAll = before ≢ []
FormFits before (Where page) = page < pages_of before
FormFits before Table = (before ≢ []) × (table_count before < 64)

-- the lines with this one, if it was taken; it wasn't, if it begins a name again
abbrev pub IsTakenIf : List Line → Line → List Line → Bool → Type 0
IsTakenIf before line after true = IsFresh before line.form × (after ≡ before ++ line ∷ [])
IsTakenIf before line after false = (¬ IsFresh before line.form) × (after ≡ before)

-- the lines with one of this number behind them that these words read as
pub record IsTakenBehind (before : List Line) (number : ℕ) (words : List (List ℕ)) (after : List Line) : Type 0 where
  pub line : Line
  pub is : after ≡ before ++ line ∷ []
  pub words_are : form_words line.form ≡ words
  pub form : IsForm line.form
  pub follows : Follows before line.form
  pub number_is : line.number ≡ number
  pub session : line.session ≡ 0

-- no line of these words may come next
abbrev pub NoneFollows : List Line → List (List ℕ) → Type 0
NoneFollows before words = (form : Form) → IsForm form → Follows before form → form_words form ≢ words

-- as IsTakenBehind, if a line of these words was taken; it wasn't, if none may come next
abbrev pub IsTakenOf : List Line → ℕ → List (List ℕ) → List Line → Bool → Type 0
IsTakenOf before number words after true = IsTakenBehind before number words after
IsTakenOf before number words after false = NoneFollows before words × (after ≡ before)

-- the lines with the one as which this line of a text reads
pub record GoesOnBy (before : List Line) (at : Numbered) (lines : List Line) : Type 0 where
  pub line : Line
  pub is : lines ≡ before ++ line ∷ []
  pub reads : ReadsAs before at.bytes at.number at.end line

-- the lines behind this line of a text: as before where it is passed over, else with one behind them
abbrev pub GoesOn : List Line → Numbered → List Line → Type 0
GoesOn before at lines =
    ((is_passed_over at ≡ true) × (lines ≡ before)) ⊎ ((is_passed_over at ≡ false) × GoesOnBy before at lines)

-- with what this line of a text is refused
abbrev pub IsLineRefusedWith : List Line → Numbered → Refusal → Type 0
IsLineRefusedWith before at (refusal.BadLine number cause) =
    (is_passed_over at ≡ false) × (number ≡ at.number) × IsCause before at.bytes at.number at.end cause
IsLineRefusedWith before at refusal.Memory = Unit {0}
IsLineRefusedWith before at _ = ⊥
