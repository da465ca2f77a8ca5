-- The forms of a line: the words of each, and what its parts may be.
use Rattle.std.specs.Prelude.{◌≡◌, ◌≢◌, ℕ, ℤ, ◌<◌, ◌≤◌, ◌^◌, ◌⊎◌, List, [], ◌∷◌, ◌++◌, length, codes, All, slice_index, Option, None, Some, IfSome, unsigned_abs}
use Rattle.std.specs.Fmt.{decimal, signed_decimal}
use Rattle.sd_base.specs.declared.ids.Rid.{Rid}
use Rattle.sd_base.specs.declared.place.Mode.{Mode}
use Rattle.sd_base.specs.declared.place.Mode.TheVariants.{Shared, Excl}
use Rattle.sd_base.specs.declared.trouble.Pick.{Pick}
use Rattle.sd_base.specs.declared.trouble.Pick.TheVariants.{Keep, Lose, Tear, Junk}
use Rattle.sd_script.specs.declared.line.Form.{Form}
use Rattle.sd_script.specs.declared.line.Form.TheVariants.{Complex, Begin, Read, Write, Add, Insert, Delete, Save, Back, Rollback, Commit, Ask, Give, Take, Evict, Flush, Force, CheckBegin, CheckEnd, Fail, Fuse, Fault, FailAll, Recover, Join, Reopen, RecoverAll, JoinAll, Where, Table}

-- the word of a record: its page, a dot, its slot
abbrev pub rid_word : Rid → List ℕ
rid_word rid = decimal rid.page ++ 46 ∷ decimal rid.slot

-- the word of a mode
abbrev pub mode_word : Mode → List ℕ
mode_word Shared = codes "s"
mode_word Excl = codes "x"

-- the word of what a crash makes of bytes that aren't stable
abbrev pub pick_word : Pick → List ℕ
pick_word Keep = codes "keep"
pick_word Lose = codes "lose"
pick_word Tear = codes "tear"
pick_word Junk = codes "junk"

-- the words of a number that may be left out
abbrev pub number_words : Option ℕ → List (List ℕ)
number_words None = []
number_words (Some number) = decimal number ∷ []

-- the words of a form
abbrev pub form_words : Form → List (List ℕ)
form_words (Complex insts pages frames) = codes "complex" ∷ decimal insts ∷ decimal pages ∷ decimal frames ∷ []
form_words (Begin inst name) = decimal inst ∷ codes "begin" ∷ name ∷ []
form_words (Read name ordinal rid) = codes "read" ∷ name ∷ rid_word rid ∷ []
form_words (Write name ordinal rid value) = codes "write" ∷ name ∷ rid_word rid ∷ value ∷ []
form_words (Add name ordinal rid by) = codes "add" ∷ name ∷ rid_word rid ∷ signed_decimal by ∷ []
form_words (Insert name ordinal page value capacity) = codes "insert" ∷ name ∷ decimal page ∷ value ∷ number_words capacity
form_words (Delete name ordinal rid) = codes "delete" ∷ name ∷ rid_word rid ∷ []
form_words (Save name ordinal mark) = codes "save" ∷ name ∷ mark ∷ []
form_words (Back name ordinal mark) = codes "back" ∷ name ∷ mark ∷ []
form_words (Rollback name ordinal) = codes "rollback" ∷ name ∷ []
form_words (Commit name ordinal) = codes "commit" ∷ name ∷ []
form_words (Ask inst page mode) = decimal inst ∷ codes "ask" ∷ decimal page ∷ mode_word mode ∷ []
form_words (Give inst page) = decimal inst ∷ codes "give" ∷ decimal page ∷ []
form_words (Take inst page) = decimal inst ∷ codes "take" ∷ decimal page ∷ []
form_words (Evict inst page) = decimal inst ∷ codes "evict" ∷ decimal page ∷ []
form_words (Flush inst page) = decimal inst ∷ codes "flush" ∷ decimal page ∷ []
form_words (Force inst) = decimal inst ∷ codes "force" ∷ []
form_words (CheckBegin inst) = decimal inst ∷ codes "check" ∷ codes "begin" ∷ []
form_words (CheckEnd inst) = decimal inst ∷ codes "check" ∷ codes "end" ∷ []
form_words (Fail inst) = codes "fail" ∷ decimal inst ∷ []
form_words (Fuse calls) = codes "fuse" ∷ decimal calls ∷ []
form_words (Fault call) = codes "fault" ∷ decimal call ∷ []
form_words (FailAll pick) = codes "fail" ∷ codes "all" ∷ pick_word pick ∷ []
form_words (Recover inst by most) = codes "recover" ∷ decimal inst ∷ codes "by" ∷ decimal by ∷ number_words most
form_words (Join inst) = codes "join" ∷ decimal inst ∷ []
form_words Reopen = codes "reopen" ∷ []
form_words RecoverAll = codes "recover" ∷ codes "all" ∷ []
form_words JoinAll = codes "join" ∷ codes "all" ∷ []
form_words (Where page) = codes "where" ∷ decimal page ∷ []
form_words Table = codes "table" ∷ []

-- a to z
abbrev pub IsLetter : ℕ → Type 0
IsLetter b = (97 ≤ b) × (b ≤ 122)

-- 0 to 9
abbrev pub IsDigit : ℕ → Type 0
IsDigit b = (48 ≤ b) × (b ≤ 57)

-- a name, of a transaction or of a mark: 1 to 16 letters and digits, the first a letter
pub record IsName (name : List ℕ) : Type 0 where
  pub length : length name ≤ 16
  pub first : IsLetter (slice_index name 0)
  pub each : All (λ b. IsLetter b ⊎ IsDigit b) name

-- as IsName, by facts of which each has one proof: no byte lies between a digit and a letter
abbrev pub IsNameText : List ℕ → Type 0
IsNameText name = (length name ≤ 16) × IsLetter (slice_index name 0) × All (λ b. (48 ≤ b) × (b ≤ 122) × (57 < b → 97 ≤ b)) name

-- a value: a byte or more, each of them printed and no space
pub record IsValue (value : List ℕ) : Type 0 where
  pub length : 0 < length value
  pub each : All (λ b. (33 ≤ b) × (b ≤ 126)) value

-- a number of pages or frames
abbrev pub IsCount : ℕ → Type 0
IsCount n = (1 ≤ n) × (n ≤ 1024)

-- an instance
abbrev pub IsInst : ℕ → Type 0
IsInst inst = (1 ≤ inst) × (inst ≤ 8)

-- a word that names no instance
abbrev pub IsNoInst : List ℕ → Type 0
IsNoInst word = (inst : ℕ) → IsInst inst → decimal inst ≢ word

-- a record: its page is one of 1,024, and its slot has at most 3 digits
abbrev pub IsRid : Rid → Type 0
IsRid rid = (rid.page < 1024) × (rid.slot < 1000)

-- a number of at most 10 digits, or its negative
abbrev pub IsAmount : ℤ → Type 0
IsAmount by = unsigned_abs by < 10 ^ 10

-- a capacity that has room for the value, if one is given
abbrev pub HasRoom : List ℕ → Option ℕ → Type 0
HasRoom value capacity = IfSome capacity (λ c. (length value ≤ c) × (c ≤ 65535))

-- a number of steps, which has at most 10 digits, if one is given
abbrev pub AreSteps : Option ℕ → Type 0
AreSteps most = IfSome most (λ k. (1 ≤ k) × (k < 10 ^ 10))

-- what the parts of a form may be, wherever its line stands
abbrev pub IsForm : Form → Type 0
IsForm (Complex insts pages frames) = IsInst insts × IsCount pages × IsCount frames
IsForm (Begin inst name) = IsInst inst × IsName name
IsForm (Read name ordinal rid) = IsName name × IsRid rid
IsForm (Write name ordinal rid value) = IsName name × IsRid rid × IsValue value
IsForm (Add name ordinal rid by) = IsName name × IsRid rid × IsAmount by
IsForm (Insert name ordinal page value capacity) = IsName name × (page < 1024) × IsValue value × HasRoom value capacity
IsForm (Delete name ordinal rid) = IsName name × IsRid rid
IsForm (Save name ordinal mark) = IsName name × IsName mark
IsForm (Back name ordinal mark) = IsName name × IsName mark
IsForm (Rollback name ordinal) = IsName name
IsForm (Commit name ordinal) = IsName name
IsForm (Ask inst page mode) = IsInst inst × (page < 1024)
IsForm (Give inst page) = IsInst inst × (page < 1024)
IsForm (Take inst page) = IsInst inst × (page < 1024)
IsForm (Evict inst page) = IsInst inst × (page < 1024)
IsForm (Flush inst page) = IsInst inst × (page < 1024)
IsForm (Force inst) = IsInst inst
IsForm (CheckBegin inst) = IsInst inst
IsForm (CheckEnd inst) = IsInst inst
IsForm (Fail inst) = IsInst inst
IsForm (Fuse calls) = calls ≤ 1000000
IsForm (Fault call) = (1 ≤ call) × (call ≤ 1000000)
IsForm (FailAll pick) = Unit {0}
IsForm (Recover inst by most) = IsInst inst × IsInst by × AreSteps most
IsForm (Join inst) = IsInst inst
IsForm Reopen = Unit {0}
IsForm RecoverAll = Unit {0}
IsForm JoinAll = Unit {0}
IsForm (Where page) = page < 1024
IsForm Table = Unit {0}

-- the ordinal of a form that has one is known under its name
abbrev pub IsKnownBy : (List ℕ → Option ℕ) → Form → Type 0
IsKnownBy known (Read name ordinal rid) = known name ≡ Some ordinal
IsKnownBy known (Write name ordinal rid value) = known name ≡ Some ordinal
IsKnownBy known (Add name ordinal rid by) = known name ≡ Some ordinal
IsKnownBy known (Insert name ordinal page value capacity) = known name ≡ Some ordinal
IsKnownBy known (Delete name ordinal rid) = known name ≡ Some ordinal
IsKnownBy known (Save name ordinal mark) = known name ≡ Some ordinal
IsKnownBy known (Back name ordinal mark) = known name ≡ Some ordinal
IsKnownBy known (Rollback name ordinal) = known name ≡ Some ordinal
IsKnownBy known (Commit name ordinal) = known name ≡ Some ordinal
IsKnownBy known _ = Unit {0}

-- the form that the words are, if there is one, by the ordinals that are known
abbrev pub IsFormOf : (List ℕ → Option ℕ) → List (List ℕ) → Option Form → Type 0
IsFormOf known words None = (form : Form) → IsForm form → IsKnownBy known form → form_words form ≢ words
IsFormOf known words (Some form) = IsForm form × IsKnownBy known form × (form_words form ≡ words)
