-- The causes for which a line is bad, and which of them is told: the first that holds.
use Rattle.std.specs.Prelude.{◌≡◌, ℕ, ℤ, ◌<◌, ◌≤◌, ◌^◌, List, [], ◌∷◌, length, codes, All}
use Rattle.std.specs.Fmt.{decimal, signed_decimal}
use Rattle.sd_base.specs.declared.ids.Rid.{Rid}
use Rattle.sd_base.specs.declared.place.Mode.{Mode}
use Rattle.sd_base.specs.declared.refusal.LineError.{LineError}
use Rattle.sd_base.specs.declared.refusal.LineError.TheVariants as cause
use Rattle.sd_base.specs.declared.trouble.Pick.{Pick}
use Rattle.sd_script.specs.declared.kinds.Part.{Part}
use Rattle.sd_script.specs.declared.kinds.Part.TheVariants as part
use Rattle.sd_script.specs.declared.kinds.LineKind.{LineKind}
use Rattle.sd_script.specs.declared.kinds.LineKind.TheVariants as kind
use Rattle.sd_script.specs.declared.line.Line.{Line}
use Rattle.sd_script.specs.Forms.{IsAmount, IsDigit, IsInst, IsName, IsRid, IsValue, mode_word, pick_word, rid_word}
use Rattle.sd_script.specs.Kinds.{parts_of, text_of}
use Rattle.sd_script.specs.Order.{IsBegun, IsOfBegun, insts_of, pages_of, table_count}
use Rattle.sd_script.specs.Words.{plain_number, words_of}

-- the word writes a number from the one to the other
abbrev pub IsNumberIn : ℕ → ℕ → List ℕ → Type 0
IsNumberIn low high word = (n : ℕ) × (low ≤ n) × (n ≤ high) × (decimal n ≡ word)

-- the word is that of a record, however high its page is
abbrev pub IsWideRecord : List ℕ → Type 0
IsWideRecord word = (r : Rid) × (r.page < 10 ^ 10) × (r.slot < 1000) × (rid_word r ≡ word)

-- of which kind a line is told by the words that are themselves, by digits alone in the place of its instance, and by a mode or a
-- pick; of the other words any will do
abbrev pub IsOfKind : Part → List ℕ → Type 0
IsOfKind (part.Fixed fixed) word = word ≡ text_of fixed
IsOfKind part.Lead word = All IsDigit word
IsOfKind part.Mode word = (mode : Mode) × (mode_word mode ≡ word)
IsOfKind part.Pick word = (pick : Pick) × (pick_word pick ≡ word)
IsOfKind part.Value word = IsValue word
IsOfKind _ word = Unit {0}

-- The word behind this one is a number of its form, in its range, where its part is a number. How high an instance or a page may
-- be isn't looked at here.
abbrev pub IsNumbered : Part → List ℕ → List ℕ → Type 0
IsNumbered part.Lead before word = IsNumberIn 1 9999999999 word
IsNumbered part.Inst before word = IsNumberIn 1 9999999999 word
IsNumbered part.Failed before word = IsNumberIn 1 9999999999 word
IsNumbered part.Insts before word = IsNumberIn 1 8 word
IsNumbered part.Count before word = IsNumberIn 1 1024 word
IsNumbered part.Page before word = IsNumberIn 0 9999999999 word
IsNumbered part.Record before word = IsWideRecord word
IsNumbered part.Amount before word = (z : ℤ) × IsAmount z × (signed_decimal z ≡ plain_number word)
IsNumbered part.Capacity before word = IsNumberIn (length before) 65535 word
IsNumbered part.Calls before word = IsNumberIn 0 1000000 word
IsNumbered part.Call before word = IsNumberIn 1 1000000 word
IsNumbered part.Steps before word = IsNumberIn 1 9999999999 word
IsNumbered _ before word = Unit {0}

-- a name or a mark is of its form
abbrev pub IsNamed : Part → List ℕ → Type 0
IsNamed part.Begins word = IsName word
IsNamed part.Begun word = IsName word
IsNamed part.Mark word = IsName word
IsNamed _ word = Unit {0}

-- an instance and a page are of those that there are
abbrev pub IsPlaced : List Line → Part → List ℕ → Type 0
IsPlaced lines part.Lead word = (i : ℕ) × IsInst i × (i ≤ insts_of lines) × (decimal i ≡ word)
IsPlaced lines part.Inst word = (i : ℕ) × IsInst i × (i ≤ insts_of lines) × (decimal i ≡ word)
IsPlaced lines part.Failed word = (i : ℕ) × IsInst i × (decimal i ≡ word)
IsPlaced lines part.Page word = (p : ℕ) × (p < 1024) × (p < pages_of lines) × (decimal p ≡ word)
IsPlaced lines part.Record word = (r : Rid) × IsRid r × (r.page < pages_of lines) × (rid_word r ≡ word)
IsPlaced lines _ word = Unit {0}

-- a name that begins wasn't begun
abbrev pub IsUnused : List Line → Part → List ℕ → Type 0
IsUnused lines part.Begins word = ¬ IsBegun word lines
IsUnused lines _ word = Unit {0}

-- a name that is used was begun
abbrev pub IsFound : List Line → Part → List ℕ → Type 0
IsFound lines part.Begun word = (o : ℕ) × IsOfBegun lines word o
IsFound lines _ word = Unit {0}

-- the word has neither this cause nor one of those before it
abbrev pub Suits : List Line → LineError → Part → List ℕ → List ℕ → Type 0
Suits lines cause.Word p before word = IsOfKind p word
Suits lines cause.Number p before word = IsOfKind p word × IsNumbered p before word
Suits lines cause.Name p before word = IsOfKind p word × IsNumbered p before word × IsNamed p word
Suits lines cause.Place p before word = IsOfKind p word × IsNumbered p before word × IsNamed p word × IsPlaced lines p word
Suits lines cause.Used p before word =
    IsOfKind p word × IsNumbered p before word × IsNamed p word × IsPlaced lines p word × IsUnused lines p word
Suits lines cause.Unknown p before word =
    IsOfKind p word × IsNumbered p before word × IsNamed p word × IsPlaced lines p word × IsUnused lines p word × IsFound lines p word
Suits lines _ p before word = Unit {0}

-- each word suits its part, and there are as many words as parts
abbrev pub Fit : List Line → LineError → List Part → List ℕ → List (List ℕ) → Type 0
Fit lines c [] before [] = Unit {0}
Fit lines c [] before (word ∷ words) = ⊥
Fit lines c (p ∷ parts) before [] = ⊥
Fit lines c (p ∷ parts) before (word ∷ words) = Suits lines c p before word × Fit lines c parts word words

-- as words of a line of this kind, these have neither this cause nor one of those before it
abbrev pub Passes : List Line → List (List ℕ) → LineError → LineKind → Type 0
Passes lines words c k = Fit lines c (parts_of k) [] words

-- a line of these words may not stand here: the first begins with the word of a complex line, and no other one is such a line
abbrev pub IsMisplaced : List Line → List (List ℕ) → Type 0
IsMisplaced [] words = (rest : List (List ℕ)) → words ≡ codes "complex" ∷ rest → ⊥
IsMisplaced (line ∷ lines) words = Passes (line ∷ lines) words cause.Word kind.Complex

-- the line is within the limits: its bytes, the lines, the bytes of the text up to its end, and the table lines
pub record IsAllowed (before : List Line) (bytes : List ℕ) (number end : ℕ) : Type 0 where
  pub bytes_most : length bytes ≤ 1024
  pub lines_most : number ≤ 100000
  pub text_most : end ≤ 4194304
  pub tables_most : Passes before (words_of bytes) cause.Word kind.Table → table_count before < 64

-- each byte is printed, or a space
abbrev pub ArePrinted : List ℕ → Type 0
ArePrinted bytes = All (λ b. (32 ≤ b) × (b ≤ 126)) bytes

-- the cause holds of a line of these bytes and this number, which ends at this byte of the text, behind these lines
abbrev pub Holds : List Line → List ℕ → ℕ → ℕ → LineError → Type 0
Holds before bytes number end cause.Size = ¬ IsAllowed before bytes number end
Holds before bytes number end cause.Byte = ¬ ArePrinted bytes
Holds before bytes number end cause.Order = IsMisplaced before (words_of bytes)
Holds before bytes number end c = (k : LineKind) → ¬ Passes before (words_of bytes) c k

-- the place of a cause in their order
abbrev pub rank : LineError → ℕ
rank cause.Size = 0
rank cause.Byte = 1
rank cause.Order = 2
rank cause.Word = 3
rank cause.Number = 4
rank cause.Name = 5
rank cause.Place = 6
rank cause.Used = 7
rank cause.Unknown = 8

-- the first cause that the words have: as a line of some kind they pass each before it from `word` on, and of none this one
pub record IsFirst (lines : List Line) (words : List (List ℕ)) (c : LineError) : Type 0 where
  pub late : 2 < rank c
  pub holds : (k : LineKind) → ¬ Passes lines words c k
  pub passed : (other : LineError) → 2 < rank other → rank other < rank c → (k : LineKind) × Passes lines words other k

-- the first cause that holds of the line
pub record IsCause (before : List Line) (bytes : List ℕ) (number end : ℕ) (c : LineError) : Type 0 where
  pub holds : Holds before bytes number end c
  pub first : (other : LineError) → rank other < rank c → ¬ Holds before bytes number end other
