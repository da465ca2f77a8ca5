-- Lines of which each is spelled as a form that may follow make a script. It serves the law on generated scripts.
use Rattle.std.proofs.Common.{◌≡◌, ◌==◌, ◌&&◌, ◌||◌, Bool, true, false, ℕ, zero, suc, ◌+◌, ◌*◌, ◌<◌, ◌≤◌, min, List, [], ◌∷◌, ◌++◌, length, get_or, Some, refl, sym, ap, ◌∙◌, subst, arith, append_assoc, length-append}
use Rattle.std.proofs.lemmas.Bool.{cond-true, ne_eqb}
use Rattle.std.proofs.lemmas.List.{append-nil}
use Rattle.std.proofs.lemmas.List.Elements.{All-append}
use Rattle.std.proofs.lemmas.List.Splits.{slice_split_at, slice_split_none}
use Rattle.std.specs.Prelude.{All, slice_get}
use Rattle.std.specs.List.{filter, join_with_byte, slice_split}
use Rattle.sd_report.specs.Words.{line_of}
use Rattle.sd_script.specs.declared.line.Form.{Form}
use Rattle.sd_script.specs.declared.line.Line.{Line}
use Rattle.sd_script.specs.Forms.{IsForm, IsValue, form_words}
use Rattle.sd_script.specs.Order.{Follows}
use Rattle.sd_script.specs.Reading.{IsRead, IsScript, Reads, ReadsAs}
use Rattle.sd_script.specs.Text.{Numbered, are_printed, is_comment, is_idle, is_passed_over, is_within, less_empty_last, line_at, lines_of, numbered, told_lines}
use Rattle.sd_script.specs.Words.{has_bytes, plain, words_of}
use Rattle.sd_script.proofs.Passing.{told, told_other}
use Rattle.sd_script.proofs.Readings.{IsRead-push}

-- ---- words parted by a space each

-- a word of 1 to 16 bytes, each of them printed and no space
abbrev pub IsWord : List ℕ → Type 0
IsWord word = IsValue word × (length word ≤ 16)

abbrev pub AreWords : List (List ℕ) → Type 0
AreWords [] = Unit {0}
AreWords (word ∷ words) = IsWord word × AreWords words

abbrev spelled : List (List ℕ) → List ℕ
spelled words = join_with_byte 32 words

no_space : (word : List ℕ) → IsValue word → All (λ b. (b == 32) ≡ false) word
no_space word is = λ k d lt. let byte = is.each k d lt in ne_eqb (get_or word k d) 32 (λ e. omega (arith, byte, e))

some_bytes : (word : List ℕ) → 0 < length word → has_bytes word ≡ true
some_bytes [] some = absurd (omega (arith, some))
some_bytes (b ∷ word) some = refl

kept : (word : List ℕ) (parts : List (List ℕ)) → IsValue word → filter has_bytes (word ∷ parts) ≡ word ∷ filter has_bytes parts
kept word parts is =
    cond-true (has_bytes word) (word ∷ filter has_bytes parts) (filter has_bytes parts) (some_bytes word is.length)

pub words_spelled : (words : List (List ℕ)) → 0 < length words → AreWords words → words_of (spelled words) ≡ words
words_spelled [] some are = absurd (omega (arith, some))
words_spelled (word ∷ []) some are =
    ap (λ (l : List (List ℕ)). filter has_bytes l) (slice_split_none (λ (b : ℕ). b == 32) word (no_space word are.0.0))
    ∙ kept word [] are.0.0
words_spelled (word ∷ next ∷ words) some are =
    ap (λ (l : List (List ℕ)). filter has_bytes l)
    (slice_split_at (λ (b : ℕ). b == 32) word 32 (spelled (next ∷ words)) (no_space word are.0.0) refl)
    ∙ kept word (slice_split (λ (b : ℕ). b == 32) (spelled (next ∷ words))) are.0.0
    ∙ ap (λ (l : List (List ℕ)). word ∷ l) (words_spelled (next ∷ words) (omega arith) are.1)

abbrev IsPrinted : ℕ → Type 0
IsPrinted b = (32 ≤ b) × (b ≤ 126)

printed_word : (word : List ℕ) → IsValue word → All IsPrinted word
printed_word word is = λ k d lt. let byte = is.each k d lt in (omega (arith, byte), omega (arith, byte))

space_before : (bytes : List ℕ) → All IsPrinted bytes → All IsPrinted (32 ∷ bytes)
space_before bytes are = All-append IsPrinted (32 ∷ []) bytes one are where
  one : All IsPrinted (32 ∷ [])
  one zero d lt = (omega arith, omega arith)
  one (suc k) d lt = absurd (omega (arith, lt))

pub printed_line : (words : List (List ℕ)) → AreWords words → All IsPrinted (spelled words)
printed_line [] are = λ k d lt. absurd (omega (arith, lt))
printed_line (word ∷ []) are = printed_word word are.0.0
printed_line (word ∷ next ∷ words) are =
    All-append IsPrinted word (32 ∷ spelled (next ∷ words)) (printed_word word are.0.0)
    (space_before (spelled (next ∷ words)) (printed_line (next ∷ words) are.1))

pub line_short : (words : List (List ℕ)) → AreWords words → length (spelled words) ≤ 17 * length words
line_short [] are = omega arith
line_short (word ∷ []) are = omega (arith, are.0.1)
line_short (word ∷ next ∷ words) are =
    omega (arith, are.0.1, length-append word (32 ∷ spelled (next ∷ words)), line_short (next ∷ words) are.1)

-- ---- the lines of a text

abbrev pub text_of : List Form → List ℕ
text_of [] = []
text_of (form ∷ forms) = line_of (form_words form) ++ text_of forms

pub text_append : (xs ys : List Form) → text_of (xs ++ ys) ≡ text_of xs ++ text_of ys
text_append [] ys = refl
text_append (x ∷ xs) ys =
    ap (λ (l : List ℕ). line_of (form_words x) ++ l) (text_append xs ys)
    ∙ sym (append_assoc (line_of (form_words x)) (text_of xs) (text_of ys))

abbrev lines_in : List Form → List (List ℕ)
lines_in [] = []
lines_in (form ∷ forms) = spelled (form_words form) ∷ lines_in forms

abbrev pub made : ℕ → Form → Line
made before form = record { number = before + 1; session = 0; form = form }

abbrev pub lines_from : ℕ → List Form → List Line
lines_from before [] = []
lines_from before (form ∷ forms) = made before form ∷ lines_from (before + 1) forms

-- a line that is spelled as this form, and may follow these lines
pub record MayCome (before : List Line) (form : Form) : Type 0 where
  pub words : AreWords (form_words form)
  pub some : 0 < length (form_words form)
  pub few : length (form_words form) ≤ 5
  pub first : is_comment (spelled (form_words form)) ≡ false
  pub stands : plain (form_words form) ≡ form_words form
  pub is : IsForm form
  pub follows : Follows before form

-- each of these forms may come behind these lines and the forms before it
abbrev pub MayAllCome : List Line → List Form → Type 0
MayAllCome before [] = Unit {0}
MayAllCome before (form ∷ forms) = MayCome before form × MayAllCome (before ++ made (length before) form ∷ []) forms

no_feed : (bytes : List ℕ) → All IsPrinted bytes → All (λ b. (b == 10) ≡ false) bytes
no_feed bytes are = λ k d lt. let byte = are k d lt in ne_eqb (get_or bytes k d) 10 (λ e. omega (arith, byte, e))

parts_are : (before : List Line) (forms : List Form) → MayAllCome before forms
    → slice_split (λ b. b == 10) (text_of forms) ≡ lines_in forms ++ [] ∷ []
parts_are before [] are = refl
parts_are before (form ∷ forms) are =
    let line : List ℕ = spelled (form_words form) in
    let printed : All IsPrinted line = printed_line (form_words form) are.0.words in
    ap (λ (l : List ℕ). slice_split (λ (b : ℕ). b == 10) l) (append_assoc line (10 ∷ []) (text_of forms))
    ∙ slice_split_at (λ (b : ℕ). b == 10) line 10 (text_of forms) (no_feed line printed) refl
    ∙ ap (λ (l : List (List ℕ)). line ∷ l) (parts_are (before ++ made (length before) form ∷ []) forms are.1)

less_empty : (lines : List (List ℕ)) → less_empty_last (lines ++ [] ∷ []) ≡ lines
less_empty [] = refl
less_empty (line ∷ []) = refl
less_empty (line ∷ next ∷ lines) = ap (λ (l : List (List ℕ)). line ∷ l) (less_empty (next ∷ lines))

lines_are : (before : List Line) (forms : List Form) → MayAllCome before forms → lines_of (text_of forms) ≡ lines_in forms
lines_are before forms are = ap less_empty_last (parts_are before forms are) ∙ less_empty (lines_in forms)

-- ---- none of them is passed over

busy : (n : ℕ) → 0 < n → (n == 0) ≡ false
busy n some = ne_eqb n 0 (λ e. omega (arith, some, e))

not_idle : (before : List Line) (form : Form) → MayCome before form → is_idle (spelled (form_words form)) ≡ false
not_idle before form may =
    let words = words_spelled (form_words form) may.some may.words in
    ap (λ (b : Bool). b || (length (words_of (spelled (form_words form))) == 0)) may.first
    ∙ ap (λ (l : List (List ℕ)). length l == 0) words
    ∙ busy (length (form_words form)) may.some

stays : (before : List Line) (form : Form) (number end : ℕ) → MayCome before form
    → is_passed_over (line_at (spelled (form_words form)) number end) ≡ false
stays before form number end may =
    let line : List ℕ = spelled (form_words form) in
    ap (λ (b : Bool). b && (are_printed line && is_within (line_at line number end))) (not_idle before form may)

all_told : (before : List Line) (forms : List Form) (whole count taken : ℕ) → MayAllCome before forms
    → told (numbered whole count taken (lines_in forms)) ≡ numbered whole count taken (lines_in forms)
all_told before [] whole count taken are = refl
all_told before (form ∷ forms) whole count taken are =
    let line : List ℕ = spelled (form_words form) in
    let end : ℕ = min whole (taken + (length line + 1)) in
    let rest : List Numbered = numbered whole (count + 1) (taken + (length line + 1)) (lines_in forms) in
    told_other (line_at line (count + 1) end) rest (stays before form (count + 1) end are.0)
    ∙ ap (λ (l : List Numbered). line_at line (count + 1) end ∷ l)
    (all_told (before ++ made (length before) form ∷ []) forms whole (count + 1) (taken + (length line + 1)) are.1)

-- ---- each of them reads

seam : {X : Type 0} (xs : List X) (y : X) (ys : List X) → slice_get (xs ++ y ∷ ys) (length xs) ≡ Some y
seam [] y ys = refl
seam (x ∷ xs) y ys = seam xs y ys

reads_as : (before : List Line) (form : Form) (end : ℕ) → MayCome before form → length before < 100000 → end ≤ 4194304
    → ReadsAs before (spelled (form_words form)) (length before + 1) end (made (length before) form)
reads_as before form end may few within = record {
  words = ap plain (words_spelled (form_words form) may.some may.words) ∙ may.stands;
  form = may.is;
  follows = may.follows;
  number_is = refl;
  session = refl;
  printed = printed_line (form_words form) may.words;
  bytes_most = omega (arith, line_short (form_words form) may.words, may.few);
  lines_most = omega (arith, few);
  text_most = within;
}

pub length_lines : (before : ℕ) (forms : List Form) → length (lines_from before forms) ≡ length forms
length_lines before [] = refl
length_lines before (form ∷ forms) = ap (λ (n : ℕ). suc n) (length_lines (before + 1) forms)

length_numbered : (whole count taken : ℕ) (forms : List Form)
    → length (numbered whole count taken (lines_in forms)) ≡ length forms
length_numbered whole count taken [] = refl
length_numbered whole count taken (form ∷ forms) =
    ap (λ (n : ℕ). suc n) (length_numbered whole (count + 1) (taken + (length (spelled (form_words form)) + 1)) forms)

module _ (text : List ℕ) (within : length text ≤ 4194304) where
  all_read : (before : List Line) (front : List Numbered) (taken : ℕ) (forms : List Form) → IsRead text before
      → MayAllCome before forms → length front ≡ length before
      → told_lines text ≡ front ++ numbered (length text) (length before) taken (lines_in forms)
      → length before + length forms ≤ 100000 → IsRead text (before ++ lines_from (length before) forms)
  all_read before front taken [] read are level is few = subst (IsRead text) (sym (append-nil before)) read
  all_read before front taken (form ∷ forms) read are level is few =
      let line : List ℕ = spelled (form_words form) in
      let next : ℕ = taken + (length line + 1) in
      let at : Numbered = line_at line (length before + 1) (min (length text) next) in
      let rest : List Numbered = numbered (length text) (length before + 1) next (lines_in forms) in
      let here : Line = made (length before) form in
      let stands : slice_get (told_lines text) (length before) ≡ Some at =
      ap (λ (l : List Numbered). slice_get l (length before)) is
      ∙ ap (λ (n : ℕ). slice_get (front ++ at ∷ rest) n) (sym level) ∙ seam front at rest in
      let one : Reads text before here = record {
        at = at;
        stands = stands;
        reads = reads_as before form (min (length text) next) are.0 (omega (arith, few)) (omega (arith, within));
      } in
      let longer : length (before ++ here ∷ []) ≡ length before + 1 = length-append before (here ∷ []) in
      let told_is : told_lines text
      ≡ (front ++ at ∷ []) ++ numbered (length text) (length (before ++ here ∷ [])) next (lines_in forms) =
      is ∙ sym (append_assoc front (at ∷ []) rest)
      ∙ ap (λ (n : ℕ). (front ++ at ∷ []) ++ numbered (length text) n next (lines_in forms)) (sym longer) in
      let all = all_read (before ++ here ∷ []) (front ++ at ∷ []) next forms (IsRead-push text before here read one) are.1
      (omega (arith, level, longer, length-append front (at ∷ []))) told_is (omega (arith, longer, few)) in
      subst (IsRead text)
      (ap (λ (n : ℕ). (before ++ here ∷ []) ++ lines_from n forms) longer
      ∙ append_assoc before (here ∷ []) (lines_from (length before + 1) forms))
      all

text_short : (before : List Line) (forms : List Form) → MayAllCome before forms → length (text_of forms) ≤ 86 * length forms
text_short before [] are = omega arith
text_short before (form ∷ forms) are =
    let line : List ℕ = spelled (form_words form) in
    omega (
      arith,
      line_short (form_words form) are.0.words,
      are.0.few,
      length-append line (10 ∷ []),
      length-append (line_of (form_words form)) (text_of forms),
      text_short (before ++ made (length before) form ∷ []) forms are.1,
    )

pub is_script : (forms : List Form) → MayAllCome [] forms → 0 < length forms → length forms ≤ 40000
    → IsScript (text_of forms) (lines_from 0 forms)
is_script forms are some few =
    let text : List ℕ = text_of forms in
    let told_is : told_lines text ≡ numbered (length text) 0 0 (lines_in forms) =
    ap (λ (l : List (List ℕ)). told (numbered (length text) 0 0 l)) (lines_are [] forms are)
    ∙ all_told [] forms (length text) 0 0 are in
    record {
      read = all_read text (omega (arith, text_short [] forms are, few)) [] [] 0 forms (λ k line e. absurd (cc)) are refl told_is
          (omega (arith, few));
      whole = length_lines 0 forms ∙ sym (ap length told_is ∙ length_numbered (length text) 0 0 forms);
      some = omega (arith, length_lines 0 forms, some);
    }
