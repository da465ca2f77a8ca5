-- Which form may stand behind which lines.
use Rattle.std.specs.Prelude.{◌≡◌, ◌≢◌, ℕ, ◌<◌, ◌≤◌, Bool, true, false, IsTrue, List, [], ◌∷◌, position, count_by, Option, Some}
use Rattle.std.specs.List.{list_any, flat_map}
use Rattle.std.specs.Str.{bytes_eq}
use Rattle.sd_script.specs.declared.line.Form.{Form}
use Rattle.sd_script.specs.declared.line.Form.TheVariants.{Complex, Begin, Read, Write, Add, Insert, Delete, Save, Back, Rollback, Commit, Ask, Give, Take, Evict, Flush, Force, CheckBegin, CheckEnd, Fail, Fuse, Fault, FailAll, Recover, Join, Reopen, RecoverAll, JoinAll, Where, Table}
use Rattle.sd_script.specs.declared.line.Line.{Line}

-- the name that a form begins
abbrev pub begun_by : Form → List (List ℕ)
begun_by (Begin inst name) = name ∷ []
begun_by _ = []

-- the names of the begin lines
abbrev pub begun : List Line → List (List ℕ)
begun lines = flat_map (λ line. begun_by line.form) lines

-- the place of the name among these, counted from 0
abbrev pub ordinal_of : List (List ℕ) → List ℕ → Option ℕ
ordinal_of names name = position (bytes_eq name) names

-- whether the name is one of these
abbrev pub has_name : List (List ℕ) → List ℕ → Bool
has_name names name = list_any (bytes_eq name) names

-- the name was begun on one of these lines
abbrev pub IsBegun : List ℕ → List Line → Type 0
IsBegun name lines = IsTrue (has_name (begun lines) name)

-- the instances and the pages that a first line of this form gives
abbrev pub insts_in : Form → ℕ
insts_in (Complex insts pages frames) = insts
insts_in _ = 0

abbrev pub pages_in : Form → ℕ
pages_in (Complex insts pages frames) = pages
pages_in _ = 0

abbrev pub insts_of : List Line → ℕ
insts_of [] = 0
insts_of (line ∷ lines) = insts_in line.form

abbrev pub pages_of : List Line → ℕ
pages_of [] = 0
pages_of (line ∷ lines) = pages_in line.form

abbrev pub is_table : Form → Bool
is_table Table = true
is_table _ = false

-- how many lines are table lines
abbrev pub table_count : List Line → ℕ
table_count lines = count_by (λ line. is_table line.form) lines

-- the name was begun with this ordinal among the begin lines
abbrev pub IsOfBegun : List Line → List ℕ → ℕ → Type 0
IsOfBegun before name ordinal = ordinal_of (begun before) name ≡ Some ordinal

-- A line of this form may stand behind these lines. The first line alone is a complex line. An instance and a page
-- are of those that it gives, but for the instance that is recovered: that one may be any of the eight. A name is begun once, and used behind its begin line, which the line tells by its
-- ordinal among the begin lines. A line of the devices or of all instances isn't the first, nor is a table line, and 64 of
-- those are the most.
abbrev pub Follows : List Line → Form → Type 0
Follows before (Complex insts pages frames) = before ≡ []
Follows before (Begin inst name) = (inst ≤ insts_of before) × ¬ IsBegun name before
Follows before (Read name ordinal rid) = IsOfBegun before name ordinal × (rid.page < pages_of before)
Follows before (Write name ordinal rid value) = IsOfBegun before name ordinal × (rid.page < pages_of before)
Follows before (Add name ordinal rid by) = IsOfBegun before name ordinal × (rid.page < pages_of before)
Follows before (Insert name ordinal page value capacity) = IsOfBegun before name ordinal × (page < pages_of before)
Follows before (Delete name ordinal rid) = IsOfBegun before name ordinal × (rid.page < pages_of before)
Follows before (Save name ordinal mark) = IsOfBegun before name ordinal
Follows before (Back name ordinal mark) = IsOfBegun before name ordinal
Follows before (Rollback name ordinal) = IsOfBegun before name ordinal
Follows before (Commit name ordinal) = IsOfBegun before name ordinal
Follows before (Ask inst page mode) = (inst ≤ insts_of before) × (page < pages_of before)
Follows before (Give inst page) = (inst ≤ insts_of before) × (page < pages_of before)
Follows before (Take inst page) = (inst ≤ insts_of before) × (page < pages_of before)
Follows before (Evict inst page) = (inst ≤ insts_of before) × (page < pages_of before)
Follows before (Flush inst page) = (inst ≤ insts_of before) × (page < pages_of before)
Follows before (Force inst) = inst ≤ insts_of before
Follows before (CheckBegin inst) = inst ≤ insts_of before
Follows before (CheckEnd inst) = inst ≤ insts_of before
Follows before (Fail inst) = inst ≤ insts_of before
Follows before (Fuse calls) = before ≢ []
Follows before (Fault call) = before ≢ []
Follows before (FailAll pick) = before ≢ []
Follows before (Recover inst by most) = by ≤ insts_of before
Follows before (Join inst) = inst ≤ insts_of before
Follows before Reopen = before ≢ []
Follows before RecoverAll = before ≢ []
Follows before JoinAll = before ≢ []
Follows before (Where page) = page < pages_of before
Follows before Table = (before ≢ []) × (table_count before < 64)
