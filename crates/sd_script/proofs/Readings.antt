-- A text is read in one way. It serves the laws on readings, and the reader's goals.
use Rattle.std.proofs.Common.{◌≡◌, ℕ, zero, suc, ◌<◌, ◌≤◌, ◌+◌, List, [], ◌∷◌, ◌++◌, length, take, Some, refl, sym, ap, ◌∙◌, subst, arith, ⊎_elim, length-append, length-take}
use Rattle.std.proofs.lemmas.Bool.{cases_lt}
use Rattle.std.proofs.lemmas.List.{take_all}
use Rattle.std.proofs.lemmas.Option.{slice_get_within}
use Rattle.std.specs.Prelude.{slice_get, Option, None}
use Rattle.sd_base.specs.declared.refusal.LineError.{LineError}
use Rattle.sd_script.specs.declared.line.Form.{Form}
use Rattle.sd_script.specs.declared.line.Form.TheVariants.{Read, Write, Add, Insert, Delete, Save, Back, Rollback, Commit}
use Rattle.sd_script.specs.declared.line.Line.{Line}
use Rattle.sd_script.specs.Forms.{IsKnownBy}
use Rattle.sd_script.specs.Order.{Follows, begun, ordinal_of}
use Rattle.sd_script.specs.Text.{Numbered, told_lines}
use Rattle.sd_script.specs.Reading.{ReadsAs, Reads, IsRead, IsScript, IsBadAt, IsBadNext}
use Rattle.sd_script.proofs.FirstCause.{no_cause, one_cause}
use Rattle.sd_script.proofs.OneForm.{one_form}
use Rattle.sd_base.proofs.Lists.{stands_at, slice_get-append_left, slice_get-push, take-push, take-append_left, take_next}

-- a form that may follow has the ordinal of its name
pub ordinal_known : (before : List Line) (form : Form) → Follows before form → IsKnownBy (ordinal_of (begun before)) form
ordinal_known before (Read name ordinal rid) follows = follows.0
ordinal_known before (Write name ordinal rid value) follows = follows.0
ordinal_known before (Add name ordinal rid by) follows = follows.0
ordinal_known before (Insert name ordinal page value capacity) follows = follows.0
ordinal_known before (Delete name ordinal rid) follows = follows.0
ordinal_known before (Save name ordinal mark) follows = follows
ordinal_known before (Back name ordinal mark) follows = follows
ordinal_known before (Rollback name ordinal) follows = follows
ordinal_known before (Commit name ordinal) follows = follows
ordinal_known before _ follows = tt

abbrev made : ℕ → ℕ → Form → Line
made number session form = record { number = number; session = session; form = form }

pub one_line_as : (before : List Line) (bytes : List ℕ) (number end : ℕ) (line other : Line) → ReadsAs before bytes number end line
    → ReadsAs before bytes number end other → line ≡ other
one_line_as before bytes number end line other a b =
    let form : line.form ≡ other.form = one_form (ordinal_of (begun before)) line.form other.form a.form b.form (ordinal_known before line.form a.follows) (ordinal_known before other.form b.follows) (sym a.words ∙ b.words) in
    let numbers : line.number ≡ other.number = a.number_is ∙ sym b.number_is in
    let session : line.session ≡ other.session = a.session ∙ sym b.session in
    ap (λ (n : ℕ). made n line.session line.form) numbers ∙ ap (λ (n : ℕ). made other.number n line.form) session
    ∙ ap (λ (f : Form). made other.number other.session f) form

pub one_line : (text : List ℕ) (before : List Line) (line other : Line) → Reads text before line → Reads text before other → line ≡ other
one_line text before line other a b =
    let same : a.at ≡ b.at = let both : Some a.at ≡ Some b.at = sym a.stands ∙ b.stands in cc in
    one_line_as before b.at.bytes b.at.number b.at.end line other
    (subst (λ (at : Numbered). ReadsAs before at.bytes at.number at.end line) same a.reads) b.reads

-- what is read goes on by what reads behind it
pub IsRead-push : (text : List ℕ) (before : List Line) (line : Line) → IsRead text before → Reads text before line → IsRead text (before ++ line ∷ [])
IsRead-push text before line read next k other e =
    ⊎_elim
    (λ lt. subst (λ front. Reads text front other) (sym (take-append_left before (line ∷ []) k (omega arith))) (read k other (sym (slice_get-append_left before (line ∷ []) k lt) ∙ e)))
    (λ ge. let short : k < length (before ++ line ∷ []) = slice_get_within (before ++ line ∷ []) k other e in
    let last : k ≡ length before = omega (arith, length-append before (line ∷ [])) in
    let there : slice_get (before ++ line ∷ []) k ≡ Some line = ap (λ n. slice_get (before ++ line ∷ []) n) last ∙ slice_get-push before line in
    let same : line ≡ other = let both : Some line ≡ Some other = sym there ∙ e in cc in
    let front : take k (before ++ line ∷ []) ≡ before = ap (λ n. take n (before ++ line ∷ [])) last ∙ take-push before line in
    subst (λ l. Reads text l other) (sym front) (subst (λ x. Reads text before x) same next))
    (cases_lt k (length before))

-- two readings begin alike
pub same_fronts : (text : List ℕ) (lines others : List Line) → IsRead text lines → IsRead text others → (n : ℕ) → n ≤ length lines → n ≤ length others → take n lines ≡ take n others
same_fronts text lines others a b zero le le' = refl
same_fronts text lines others a b (suc n) le le' =
    let before : take n lines ≡ take n others = same_fronts text lines others a b n (omega arith) (omega arith) in
    let x = stands_at lines n (omega arith) in
    let y = stands_at others n (omega arith) in
    let left : Reads text (take n others) x.0 = subst (λ l. Reads text l x.0) before (a n x.0 x.1) in
    let same : x.0 ≡ y.0 = one_line text (take n others) x.0 y.0 left (b n y.0 y.1) in
    take_next lines n x.0 x.1 ∙ ap (λ l. l ++ x.0 ∷ []) before ∙ ap (λ z. take n others ++ z ∷ []) same ∙ sym (take_next others n y.0 y.1)

-- a reading that is longer goes on where the shorter ends
pub goes_on : (text : List ℕ) (lines others : List Line) → IsRead text lines → IsRead text others → length lines < length others → (x : Line) × Reads text lines x
goes_on text lines others a b lt =
    let x = stands_at others (length lines) lt in
    let front : take (length lines) others ≡ lines = sym (same_fronts text lines others a b (length lines) (omega arith) (omega arith)) ∙ take_all (length lines) lines (omega arith) in
    (x.0, subst (λ l. Reads text l x.0) front (b (length lines) x.0 x.1))

pub same_readings : (text : List ℕ) (lines others : List Line) → IsRead text lines → IsRead text others → length lines ≡ length others → lines ≡ others
same_readings text lines others a b e =
    sym (take_all (length lines) lines (omega arith)) ∙ same_fronts text lines others a b (length lines) (omega arith) (omega arith) ∙ take_all (length lines) others (omega arith)

-- no line reads behind the last line of the text
pub none_behind : (text : List ℕ) (lines : List Line) (line : Line) → length (told_lines text) ≤ length lines → Reads text lines line → ⊥
none_behind text lines line le next =
    let lt : length lines < length (told_lines text) = slice_get_within (told_lines text) (length lines) next.at next.stands in
    absurd (omega arith)

-- no more lines read than the text has
pub read-le : (text : List ℕ) (lines : List Line) → IsRead text lines → (n : ℕ) → n ≤ length lines → n ≤ length (told_lines text)
read-le text lines read zero le = omega arith
read-le text lines read (suc n) le =
    let x = stands_at lines n (omega arith) in
    let last = read n x.0 x.1 in
    let lt = slice_get_within (told_lines text) (length (take n lines)) last.at last.stands in
    omega (arith, length-take n lines)

pub one_reading : (text : List ℕ) (lines others : List Line) → IsScript text lines → IsScript text others → lines ≡ others
one_reading text lines others a b = same_readings text lines others a.read b.read (a.whole ∙ sym b.whole)

-- no line reads where one is bad
next_unread : (text : List ℕ) (before : List Line) (at : Option Numbered) (n : ℕ) (c : LineError) → IsBadNext text before at n c
    → slice_get (told_lines text) (length before) ≡ at → (line : Line) → ¬ Reads text before line
next_unread text before None n c bad at line next = let clash : Some next.at ≡ None = sym next.stands ∙ at in absurd (cc)
next_unread text before (Some here) n c bad at line next =
    let same : next.at ≡ here = let both : Some next.at ≡ Some here = sym next.stands ∙ at in cc in
    no_cause before here.bytes here.number here.end line
    (subst (λ (a : Numbered). ReadsAs before a.bytes a.number a.end line) same next.reads) c bad.1.holds

unread : (text : List ℕ) (n : ℕ) (c : LineError) (bad : IsBadAt text n c) (line : Line) → ¬ Reads text bad.before line
unread text n c bad line = next_unread text bad.before (slice_get (told_lines text) (length bad.before)) n c bad.next refl line

next_unfinished : (text : List ℕ) (before : List Line) (at : Option Numbered) (n : ℕ) (c : LineError) → IsBadNext text before at n c
    → slice_get (told_lines text) (length before) ≡ at → ¬ IsScript text before
next_unfinished text before None n c bad at script =
    let none : length before ≡ 0 = ap length bad.0 in
    omega (arith, none, script.some)
next_unfinished text before (Some here) n c bad at script =
    omega (arith, slice_get_within (told_lines text) (length before) here at, script.whole)

pub no_bad_script : (text : List ℕ) (lines : List Line) (n : ℕ) (c : LineError) → IsScript text lines → IsBadAt text n c → ⊥
no_bad_script text lines n c script bad =
    ⊎_elim
    (λ lt. let next = goes_on text bad.before lines bad.read script.read lt in unread text n c bad next.0 next.1)
    (λ ge. ⊎_elim
    (λ lt. let next = goes_on text lines bad.before script.read bad.read lt in none_behind text lines next.0 (omega (arith, script.whole)) next.1)
    (λ le. next_unfinished text bad.before (slice_get (told_lines text) (length bad.before)) n c bad.next refl
    (subst (IsScript text) (same_readings text lines bad.before script.read bad.read (omega arith)) script))
    (cases_lt (length lines) (length bad.before)))
    (cases_lt (length bad.before) (length lines))

one_next : (text : List ℕ) (before : List Line) (at : Option Numbered) (m n : ℕ) (c d : LineError) → IsBadNext text before at m c
    → IsBadNext text before at n d → (m ≡ n) × (c ≡ d)
one_next text before None m n c d a b = (a.1 ∙ sym b.1, a.2 ∙ sym b.2)
one_next text before (Some at) m n c d a b = (a.0 ∙ sym b.0, one_cause before at.bytes at.number at.end c d a.1 b.1)

pub one_bad_line : (text : List ℕ) (m n : ℕ) (c d : LineError) → IsBadAt text m c → IsBadAt text n d → (m ≡ n) × (c ≡ d)
one_bad_line text m n c d a b =
    ⊎_elim
    (λ lt. let next = goes_on text a.before b.before a.read b.read lt in absurd (unread text m c a next.0 next.1))
    (λ ge. ⊎_elim
    (λ lt. let next = goes_on text b.before a.before b.read a.read lt in absurd (unread text n d b next.0 next.1))
    (λ le.
    let same : a.before ≡ b.before = same_readings text a.before b.before a.read b.read (omega arith) in
    one_next text b.before (slice_get (told_lines text) (length b.before)) m n c d
    (subst (λ (l : List Line). IsBadNext text l (slice_get (told_lines text) (length l)) m c) same a.next) b.next)
    (cases_lt (length b.before) (length a.before)))
    (cases_lt (length a.before) (length b.before))
