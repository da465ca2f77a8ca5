-- Words and the line that is taken of them. It serves the goals of form.rt and reader.rt.
use Rattle.std.proofs.Common.{◌≡◌, ℕ, Bool, true, false, List, Option, None, Some, refl, sym, ◌∙◌, subst}
use Rattle.std.specs.Prelude.{◌↔◌, Result, Ok, Err, IfOk, IsTrue}
use Rattle.sd_script.specs.declared.line.Form.{Form}
use Rattle.sd_script.specs.declared.line.Line.{Line}
use Rattle.sd_script.specs.Forms.{form_words, IsForm, IsFormOf}
use Rattle.sd_script.specs.Order.{Follows, begun, ordinal_of}
use Rattle.sd_script.specs.Remembered.{AreOrdinals, FormFits, IsFresh, IsTakenIf, IsTakenOf}
use Rattle.sd_script.proofs.OneForm.{one_form}
use Rattle.sd_script.proofs.Readings.{ordinal_known}
use Rattle.sd_script.proofs.Remembering.{known_from, ordinals_from, follows_from, fits_from, fresh_from}

-- words of no form are taken as no line
pub none_taken : (before : List Line) (number : ℕ) (words : List (List ℕ)) → IsFormOf (ordinal_of (begun before)) words None → IsTakenOf before number words before false
none_taken before number words none = (λ form is follows e. none form is (ordinal_known before form follows) e, refl)

-- a form by what is known is a form by the ordinals
pub by_ordinals : (before : List Line) (known : List ℕ → Option ℕ) → AreOrdinals before known → (words : List (List ℕ)) (found : Option Form) → IsFormOf known words found → IsFormOf (ordinal_of (begun before)) words found
by_ordinals before known names words None none = λ form is knows e. none form is (known_from before known names form is knows) e
by_ordinals before known names words (Some form) found = (found.0, ordinals_from before known names form found.0 found.1, found.2)

-- the form of words is the only one that may follow
the_form : (before : List Line) (words : List (List ℕ)) (form due : Form) → IsForm form → Follows before form → form_words form ≡ words → IsFormOf (ordinal_of (begun before)) words (Some due) → form ≡ due
the_form before words form due is follows e found = one_form (ordinal_of (begun before)) form due is found.0 (ordinal_known before form follows) found.1 (e ∙ sym found.2)

-- where it doesn't fit none is taken
pub none_fits : (before : List Line) (number : ℕ) (words : List (List ℕ)) (due : Form) → IsFormOf (ordinal_of (begun before)) words (Some due) → (FormFits before due → ⊥) → IsTakenOf before number words before false
none_fits before number words due found misfit = (
  λ form is follows e. misfit (fits_from before due (subst (Follows before) (the_form before words form due is follows e found) follows)),
  refl,
)

may_follow : (before : List Line) (words : List (List ℕ)) (due : Form) → IsFormOf (ordinal_of (begun before)) words (Some due) → FormFits before due → IsFresh before due → Follows before due
may_follow before words due found fits fresh = follows_from before (ordinal_of (begun before)) (λ name is. refl) due found.0 found.1 fits fresh

-- where it fits it is taken, unless it begins a name again
pub taken : {E : Type 0} (before after : List Line) (number : ℕ) (line : Line) (words : List (List ℕ)) (answer : Result Bool E) → IfOk answer (IsTakenIf before line after)
    → IsFormOf (ordinal_of (begun before)) words (Some line.form) → FormFits before line.form → line.number ≡ number → line.session ≡ 0
    → IfOk answer (IsTakenOf before number words after)
taken before after number line words (Err e) took found fits number_is session = tt
taken before after number line words (Ok true) took found fits number_is session = record {
  line = line;
  is = took.1;
  words_are = found.2;
  form = found.0;
  follows = may_follow before words line.form found fits took.0;
  number_is = number_is;
  session = session;
}
taken before after number line words (Ok false) took found fits number_is session = (
  λ form is follows e. took.0 (fresh_from before line.form (subst (Follows before) (the_form before words form line.form is follows e found) follows)),
  took.1,
)

-- a name that is new was unknown
pub unknown_if_true : {E U : Type 0} (answer : Result Bool E) → IfOk answer (λ new. IsTrue new ↔ U) → answer ≡ Ok true → U
unknown_if_true (Ok true) new e = new.0 refl
unknown_if_true (Ok false) new e = absurd (cc)
unknown_if_true (Err x) new e = absurd (cc)

-- a line that begins a name again isn't taken, nor is one for which there is no memory
pub not_taken : {E U : Type 0} (before after : List Line) (line : Line) (answer : Result Bool E) → (answer ≡ Ok true → ⊥)
    → IfOk answer (λ new. IsTrue new ↔ U) → (IsFresh before line.form → U) → after ≡ before → IfOk answer (IsTakenIf before line after)
not_taken before after line (Ok true) other new unknown same = absurd (other refl)
not_taken before after line (Ok false) other new unknown same = (λ fresh. let yes : false ≡ true = new.1 (unknown fresh) in absurd (cc), same)
not_taken before after line (Err x) other new unknown same = tt
