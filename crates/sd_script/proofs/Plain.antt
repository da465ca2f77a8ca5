-- Words as they count, and as they stand. It serves the goals of parts.rt and form.rt, those on causes, and the law of one form.
use Rattle.std.proofs.Common.{◌≡◌, ◌≢◌, Bool, true, false, ℕ, ℤ, ◌<◌, ◌≤◌, List, [], ◌∷◌, length, get_or, cond, refl, sym, ap, ◌∙◌, subst, arith, ⊎_elim, length-append}
use Rattle.std.proofs.lemmas.Bool.{cases_Bool, cond-true, cond-false}
use Rattle.std.proofs.lemmas.Fmt.{decimal_digit}
use Rattle.std.proofs.lemmas.Slice.Eq.{bytes_eq-Decides}
use Rattle.std.specs.Prelude.{codes}
use Rattle.std.specs.Fmt.{decimal, signed_decimal}
use Rattle.std.specs.List.{join_with_byte}
use Rattle.std.specs.Str.{bytes_eq}
use Rattle.sd_base.specs.declared.refusal.LineError.TheVariants as cause
use Rattle.sd_script.specs.declared.kinds.Part.TheVariants as part
use Rattle.sd_script.specs.declared.kinds.LineKind.{LineKind}
use Rattle.sd_script.specs.declared.kinds.LineKind.TheVariants as kind
use Rattle.sd_script.specs.declared.line.Line.{Line}
use Rattle.sd_script.specs.Causes.{IsMisplaced, Passes, Suits}
use Rattle.sd_script.specs.Forms.{IsAmount, IsInst}
use Rattle.sd_script.specs.Words.{plain, plain_number}
use Rattle.sd_script.proofs.Shapes.{no_verb}
use Rattle.sd_script.proofs.Spellings.{below_none, zero_alone}

differs : (xs ys : List ℕ) → xs ≢ ys → bytes_eq xs ys ≡ false
differs xs ys other = ⊎_elim (λ yes. absurd (other ((bytes_eq-Decides xs ys).0 yes))) (λ no. no) (cases_Bool (bytes_eq xs ys))

-- ---- a number

pub minus_zero : (word : List ℕ) → word ≡ codes "-0" → plain_number word ≡ codes "0"
minus_zero word is = cond-true (bytes_eq word (codes "-0")) (codes "0") word ((bytes_eq-Decides word (codes "-0")).1 is)

pub plain_other : (word : List ℕ) → word ≢ codes "-0" → plain_number word ≡ word
plain_other word other = cond-false (bytes_eq word (codes "-0")) (codes "0") word (differs word (codes "-0") other)

plain_twice : (word : List ℕ) → plain_number (plain_number word) ≡ plain_number word
plain_twice word = ⊎_elim
    (λ (yes : bytes_eq word (codes "-0") ≡ true).
    let is : plain_number word ≡ codes "0" = cond-true (bytes_eq word (codes "-0")) (codes "0") word yes in
    ap plain_number is ∙ sym is)
    (λ (no : bytes_eq word (codes "-0") ≡ false).
    let is : plain_number word ≡ word = cond-false (bytes_eq word (codes "-0")) (codes "0") word no in
    ap plain_number is)
    (cases_Bool (bytes_eq word (codes "-0")))

pub decimal_zero : decimal 0 ≡ codes "0"
decimal_zero = decimal_digit 0 (omega arith)

-- a number is spelled otherwise than `-0`
pub amount_plain : (z : ℤ) → IsAmount z → signed_decimal z ≡ plain_number (signed_decimal z)
amount_plain z is = sym (plain_other (signed_decimal z) (below_none (codes "-0") (codes "0") refl (zero_alone (codes "0") decimal_zero) z is))

-- ---- the words of a line

module _ (verb name rid number : List ℕ) where
  pub plain_add : verb ≡ codes "add" → plain (verb ∷ name ∷ rid ∷ number ∷ []) ≡ verb ∷ name ∷ rid ∷ plain_number number ∷ []
  plain_add is = ap (λ (w : List ℕ). verb ∷ name ∷ rid ∷ w ∷ [])
      (cond-true (bytes_eq verb (codes "add")) (plain_number number) number ((bytes_eq-Decides verb (codes "add")).1 is))

  pub plain_same : verb ≢ codes "add" → plain (verb ∷ name ∷ rid ∷ number ∷ []) ≡ verb ∷ name ∷ rid ∷ number ∷ []
  plain_same other = ap (λ (w : List ℕ). verb ∷ name ∷ rid ∷ w ∷ [])
      (cond-false (bytes_eq verb (codes "add")) (plain_number number) number (differs verb (codes "add") other))

  -- those of a line of another verb, whose first letter is this one
  pub plain_of_verb : (word : List ℕ) → verb ≡ word → get_or word 0 0 ≢ 97
      → plain (verb ∷ name ∷ rid ∷ number ∷ []) ≡ verb ∷ name ∷ rid ∷ number ∷ []
  plain_of_verb word is other = plain_same (λ e. other (ap (λ (l : List ℕ). get_or l 0 0) (sym is ∙ e)))

-- those of a line of an instance
pub plain_inst : (i : ℕ) → IsInst i → (words : List (List ℕ)) → plain (decimal i ∷ words) ≡ decimal i ∷ words
plain_inst i is (a ∷ b ∷ c ∷ []) = plain_same (decimal i) a b c (no_verb i is (codes "add") (omega arith))
plain_inst i is words = refl

-- words as they count are no longer than as they stand
number_within : (word : List ℕ) → length (plain_number word) ≤ length word
number_within word = ⊎_elim
    (λ (yes : bytes_eq word (codes "-0") ≡ true).
    let is : plain_number word ≡ codes "0" = cond-true (bytes_eq word (codes "-0")) (codes "0") word yes in
    omega (arith, ap (λ (l : List ℕ). length l) is, ap (λ (l : List ℕ). length l) ((bytes_eq-Decides word (codes "-0")).0 yes)))
    (λ (no : bytes_eq word (codes "-0") ≡ false).
    let is : plain_number word ≡ word = cond-false (bytes_eq word (codes "-0")) (codes "0") word no in
    omega (arith, ap (λ (l : List ℕ). length l) is))
    (cases_Bool (bytes_eq word (codes "-0")))

last_within : (a b c d e : List ℕ) → length e ≤ length d
    → length (join_with_byte 32 (a ∷ b ∷ c ∷ e ∷ [])) ≤ length (join_with_byte 32 (a ∷ b ∷ c ∷ d ∷ []))
last_within a b c d e le = omega (
  arith,
  le,
  length-append a (32 ∷ join_with_byte 32 (b ∷ c ∷ e ∷ [])),
  length-append b (32 ∷ join_with_byte 32 (c ∷ e ∷ [])),
  length-append c (32 ∷ join_with_byte 32 (e ∷ [])),
  length-append a (32 ∷ join_with_byte 32 (b ∷ c ∷ d ∷ [])),
  length-append b (32 ∷ join_with_byte 32 (c ∷ d ∷ [])),
  length-append c (32 ∷ join_with_byte 32 (d ∷ [])),
)

four_within : (a b c d : List ℕ) (test : Bool) → length (join_with_byte 32 (a ∷ b ∷ c ∷ cond test (plain_number d) d ∷ []))
    ≤ length (join_with_byte 32 (a ∷ b ∷ c ∷ d ∷ []))
four_within a b c d true = last_within a b c d (plain_number d) (number_within d)
four_within a b c d false = omega arith

pub plain_within : (words : List (List ℕ)) → length (join_with_byte 32 (plain words)) ≤ length (join_with_byte 32 words)
plain_within (a ∷ b ∷ c ∷ d ∷ []) = four_within a b c d (bytes_eq a (codes "add"))
plain_within words = omega arith

-- ---- words pass as they stand where they pass as they count

amount_stands : (lines : List Line) (before word : List ℕ) → Suits lines cause.Unknown part.Amount before (plain_number word)
    → Suits lines cause.Unknown part.Amount before word
amount_stands lines before word s =
    let n = s.1 in
    (tt, (n.0, n.1, n.2 ∙ plain_twice word), tt, tt, tt, tt)

module _ (lines : List Line) (a b c d : List ℕ) (is : a ≡ codes "add") where
  no_lead : ((k e : ℕ) → k < length a → (48 ≤ get_or a k e) × (get_or a k e ≤ 57)) → ⊥
  no_lead digits =
      let some : 0 < length a = omega (arith, ap (λ (l : List ℕ). length l) is) in
      let digit = digits 0 0 some in
      let first : get_or a 0 0 ≡ 97 = ap (λ (l : List ℕ). get_or l 0 0) is in
      omega (arith, digit.1, first)

  stands_add : (k : LineKind) → Passes lines (a ∷ b ∷ c ∷ plain_number d ∷ []) cause.Unknown k
      → Passes lines (a ∷ b ∷ c ∷ d ∷ []) cause.Unknown k
  stands_add kind.Add fit = (fit.0, (fit.1.0, (fit.1.1.0, (amount_stands lines c d fit.1.1.1.0, tt))))
  stands_add kind.Begin fit = absurd (no_lead fit.0.0)
  stands_add kind.Ask fit = absurd (no_lead fit.0.0)
  stands_add kind.Give fit = absurd (no_lead fit.0.0)
  stands_add kind.Take fit = absurd (no_lead fit.0.0)
  stands_add kind.Evict fit = absurd (no_lead fit.0.0)
  stands_add kind.Flush fit = absurd (no_lead fit.0.0)
  stands_add kind.Force fit = absurd (no_lead fit.0.0)
  stands_add kind.CheckBegin fit = absurd (no_lead fit.0.0)
  stands_add kind.CheckEnd fit = absurd (no_lead fit.0.0)
  stands_add _ fit = absurd (omega (arith, ap (λ (l : List ℕ). get_or l 0 0) fit.0.0, ap (λ (l : List ℕ). get_or l 0 0) is))

stands_four : (lines : List Line) (a b c d : List ℕ) (k : LineKind) → Passes lines (plain (a ∷ b ∷ c ∷ d ∷ [])) cause.Unknown k
    → Passes lines (a ∷ b ∷ c ∷ d ∷ []) cause.Unknown k
stands_four lines a b c d k fit = ⊎_elim
    (λ (yes : bytes_eq a (codes "add") ≡ true).
    let is : a ≡ codes "add" = (bytes_eq-Decides a (codes "add")).0 yes in
    stands_add lines a b c d is k
    (subst (λ (ws : List (List ℕ)). Passes lines ws cause.Unknown k) (plain_add a b c d is) fit))
    (λ (no : bytes_eq a (codes "add") ≡ false).
    let same : plain (a ∷ b ∷ c ∷ d ∷ []) ≡ a ∷ b ∷ c ∷ d ∷ [] = ap (λ (w : List ℕ). a ∷ b ∷ c ∷ w ∷ [])
    (cond-false (bytes_eq a (codes "add")) (plain_number d) d no) in
    subst (λ (ws : List (List ℕ)). Passes lines ws cause.Unknown k) same fit)
    (cases_Bool (bytes_eq a (codes "add")))

pub passes_stands : (lines : List Line) (words : List (List ℕ)) (k : LineKind) → Passes lines (plain words) cause.Unknown k
    → Passes lines words cause.Unknown k
passes_stands lines (a ∷ b ∷ c ∷ d ∷ []) k fit = stands_four lines a b c d k fit
passes_stands lines words k fit = fit

-- ---- and are misplaced, or a table, as they count where they are as they stand

pub misplaced_plain : (lines : List Line) (words : List (List ℕ)) → IsMisplaced lines words → IsMisplaced lines (plain words)
misplaced_plain [] (a ∷ b ∷ c ∷ d ∷ []) wrong = λ rest same.
    let first : a ≡ codes "complex" = cc in
    wrong (b ∷ c ∷ d ∷ []) (ap (λ (v : List ℕ). v ∷ b ∷ c ∷ d ∷ []) first)
misplaced_plain (line ∷ lines) (a ∷ b ∷ c ∷ d ∷ []) wrong = (wrong.0, (tt, (tt, (tt, tt))))
misplaced_plain [] words wrong = wrong
misplaced_plain (line ∷ lines) words wrong = wrong

pub table_plain : (lines : List Line) (words : List (List ℕ)) → Passes lines words cause.Word kind.Table
    → Passes lines (plain words) cause.Word kind.Table
table_plain lines (a ∷ b ∷ c ∷ d ∷ []) fit = absurd fit.1
table_plain lines words fit = fit
