-- What is remembered behind one more line. It serves the goals of reader.rt.
use Rattle.std.proofs.Common.{◌≡◌, true, false, cond, ℕ, ◌+◌, List, [], ◌∷◌, ◌++◌, Option, refl, sym, ap, ◌∙◌, arith, ◌≤◌, length, length-append, ⊎_elim}
use Rattle.std.proofs.lemmas.List.{append-nil}
use Rattle.std.proofs.lemmas.List.Concat.{flat_map-append, flat_map-cons}
use Rattle.std.proofs.lemmas.Bool.{cases_Bool, true≢false}
use Rattle.std.proofs.lemmas.List.Sums.{sum_by-append}
use Rattle.std.specs.Prelude.{Some}
use Rattle.std.specs.Str.{bytes_eq}
use Rattle.sd_script.specs.declared.line.Form.{Form}
use Rattle.sd_script.specs.declared.line.Form.TheVariants.{Complex, Begin, Read, Write, Add, Insert, Delete, Save, Back, Rollback, Commit, Table}
use Rattle.sd_script.specs.declared.line.Line.{Line}
use Rattle.sd_script.specs.Order.{begun_by, begun, has_name, ordinal_of, IsBegun, insts_in, insts_of, pages_in, pages_of, is_table, table_count, Follows}
use Rattle.sd_script.specs.Remembered.{known_after, begins_after, insts_after, pages_after, tables_after, AreOrdinals, Remembers, FormFits, IsFresh, IsUnknown}
use Rattle.sd_script.specs.Forms.{IsForm, IsName, IsKnownBy}
use Rattle.sd_script.proofs.Ordinals.{no_ordinal, has_none, ordinal_push}

begun-push : (lines : List Line) (line : Line) → begun (lines ++ line ∷ []) ≡ begun lines ++ begun_by line.form
begun-push lines line = flat_map-append (λ (l : Line). begun_by l.form) lines (line ∷ []) ∙ ap (λ l. begun lines ++ l) (append-nil (begun_by line.form))

-- a name that is begun has no ordinal yet
pub unnamed : (lines : List Line) (name : List ℕ) → ¬ IsBegun name lines → has_name (begun lines) name ≡ false
unnamed lines name fresh = ⊎_elim (λ (had : has_name (begun lines) name ≡ true). absurd (fresh had)) (λ lacks. lacks) (cases_Bool (has_name (begun lines) name))

-- the ordinals
names_form : (lines : List Line) (form : Form) (known : List ℕ → Option ℕ) (begins : ℕ) → Follows lines form → begins ≡ length (begun lines) → AreOrdinals lines known
    → (name : List ℕ) → IsName name → known_after known begins form name ≡ ordinal_of (begun lines ++ begun_by form) name
names_form lines (Begin inst other) known begins follows count was name is =
    ap (λ (o : Option ℕ). cond (bytes_eq other name) (Some begins) o) (was name is)
    ∙ ap (λ (n : ℕ). cond (bytes_eq other name) (Some n) (ordinal_of (begun lines) name)) count
    ∙ sym (ordinal_push (begun lines) other name (unnamed lines other follows.1))
names_form lines _ known begins follows count was name is = was name is ∙ ap (λ (l : List (List ℕ)). ordinal_of l name) (sym (append-nil (begun lines)))

begins_form : (lines : List Line) (form : Form) → begins_after (length (begun lines)) form ≡ length (begun lines ++ begun_by form)
begins_form lines (Begin inst name) = sym (length-append (begun lines) (name ∷ []))
begins_form lines _ = ap length (sym (append-nil (begun lines)))

insts_first : (form : Form) → insts_after 0 form ≡ insts_in form
insts_first (Complex insts pages frames) = refl
insts_first _ = refl

insts_later : (form : Form) (before : ℕ) (line : Line) (lines : List Line) → Follows (line ∷ lines) form → insts_after before form ≡ before
insts_later (Complex insts pages frames) before line lines follows = absurd (cc)
insts_later _ before line lines follows = refl

insts_push : (lines : List Line) (line : Line) → Follows lines line.form → insts_after (insts_of lines) line.form ≡ insts_of (lines ++ line ∷ [])
insts_push [] line follows = insts_first line.form
insts_push (first ∷ lines) line follows = insts_later line.form (insts_in first.form) first lines follows

pages_first : (form : Form) → pages_after 0 form ≡ pages_in form
pages_first (Complex insts pages frames) = refl
pages_first _ = refl

pages_later : (form : Form) (before : ℕ) (line : Line) (lines : List Line) → Follows (line ∷ lines) form → pages_after before form ≡ before
pages_later (Complex insts pages frames) before line lines follows = absurd (cc)
pages_later _ before line lines follows = refl

pages_push : (lines : List Line) (line : Line) → Follows lines line.form → pages_after (pages_of lines) line.form ≡ pages_of (lines ++ line ∷ [])
pages_push [] line follows = pages_first line.form
pages_push (first ∷ lines) line follows = pages_later line.form (pages_in first.form) first lines follows

tables_form : (form : Form) (before : ℕ) → tables_after before form ≡ before + (0 + cond (is_table form) 1 0)
tables_form Table before = omega arith
tables_form _ before = omega arith

tables_push : (lines : List Line) (line : Line) → tables_after (table_count lines) line.form ≡ table_count (lines ++ line ∷ [])
tables_push lines line = tables_form line.form (table_count lines) ∙ sym (sum_by-append (λ (l : Line). cond (is_table l.form) 1 0) lines (line ∷ []))

pub remembers_push : (lines : List Line) (line : Line) (old new : List ℕ → Option ℕ) (begins insts pages tables : ℕ) → Remembers lines old begins insts pages tables → Follows lines line.form
    → ((name : List ℕ) → IsName name → new name ≡ known_after old begins line.form name)
    → Remembers (lines ++ line ∷ []) new (begins_after begins line.form) (insts_after insts line.form) (pages_after pages line.form) (tables_after tables line.form)
remembers_push lines line old new begins insts pages tables was follows names =
    let grown : begun (lines ++ line ∷ []) ≡ begun lines ++ begun_by line.form = begun-push lines line in
    record {
      names = λ name is. names name is ∙ names_form lines line.form old begins follows was.begins_are was.names name is ∙ ap (λ (l : List (List ℕ)). ordinal_of l name) (sym grown);
      begins_are = ap (λ n. begins_after n line.form) was.begins_are ∙ begins_form lines line.form ∙ ap length (sym grown);
      insts_are = ap (λ n. insts_after n line.form) was.insts_are ∙ insts_push lines line follows;
      pages_are = ap (λ n. pages_after n line.form) was.pages_are ∙ pages_push lines line follows;
      tables_are = ap (λ n. tables_after n line.form) was.tables_are ∙ tables_push lines line;
    }

-- no more names are begun than there are lines
pub begun_few : (lines : List Line) → length (begun lines) ≤ length lines
begun_few [] = omega arith
begun_few (line ∷ lines) = omega (arith, ap length (flat_map-cons (λ (l : Line). begun_by l.form) line lines), length-append (begun_by line.form) (begun lines), begun_few lines, one line.form) where
  one : (form : Form) → length (begun_by form) ≤ 1
  one (Begin inst name) = omega arith
  one _ = omega arith

-- what is remembered tells whether a form may follow
pub follows_from : (lines : List Line) (known : List ℕ → Option ℕ) → AreOrdinals lines known → (form : Form) → IsForm form → IsKnownBy known form → FormFits lines form → IsFresh lines form → Follows lines form
follows_from lines known names (Complex insts pages frames) is knows fits fresh = fits
follows_from lines known names (Begin inst name) is knows fits fresh = (fits, fresh)
follows_from lines known names (Read name ordinal rid) is knows fits fresh = (sym (names name is.0) ∙ knows, fits)
follows_from lines known names (Write name ordinal rid value) is knows fits fresh = (sym (names name is.0) ∙ knows, fits)
follows_from lines known names (Add name ordinal rid by) is knows fits fresh = (sym (names name is.0) ∙ knows, fits)
follows_from lines known names (Insert name ordinal page value capacity) is knows fits fresh = (sym (names name is.0) ∙ knows, fits)
follows_from lines known names (Delete name ordinal rid) is knows fits fresh = (sym (names name is.0) ∙ knows, fits)
follows_from lines known names (Save name ordinal mark) is knows fits fresh = sym (names name is.0) ∙ knows
follows_from lines known names (Back name ordinal mark) is knows fits fresh = sym (names name is.0) ∙ knows
follows_from lines known names (Rollback name ordinal) is knows fits fresh = sym (names name is) ∙ knows
follows_from lines known names (Commit name ordinal) is knows fits fresh = sym (names name is) ∙ knows
follows_from lines known names _ is knows fits fresh = fits

pub fits_from : (lines : List Line) (form : Form) → Follows lines form → FormFits lines form
fits_from lines (Begin inst name) follows = follows.0
fits_from lines (Read name ordinal rid) follows = follows.1
fits_from lines (Write name ordinal rid value) follows = follows.1
fits_from lines (Add name ordinal rid by) follows = follows.1
fits_from lines (Insert name ordinal page value capacity) follows = follows.1
fits_from lines (Delete name ordinal rid) follows = follows.1
fits_from lines (Save name ordinal mark) follows = tt
fits_from lines (Back name ordinal mark) follows = tt
fits_from lines (Rollback name ordinal) follows = tt
fits_from lines (Commit name ordinal) follows = tt
fits_from lines _ follows = follows

pub fresh_from : (lines : List Line) (form : Form) → Follows lines form → IsFresh lines form
fresh_from lines (Begin inst name) follows = follows.1
fresh_from lines _ follows = tt

-- the ordinals of the names are those that are known
pub known_from : (lines : List Line) (known : List ℕ → Option ℕ) → AreOrdinals lines known → (form : Form) → IsForm form → IsKnownBy (ordinal_of (begun lines)) form → IsKnownBy known form
known_from lines known names (Read name ordinal rid) is knows = names name is.0 ∙ knows
known_from lines known names (Write name ordinal rid value) is knows = names name is.0 ∙ knows
known_from lines known names (Add name ordinal rid by) is knows = names name is.0 ∙ knows
known_from lines known names (Insert name ordinal page value capacity) is knows = names name is.0 ∙ knows
known_from lines known names (Delete name ordinal rid) is knows = names name is.0 ∙ knows
known_from lines known names (Save name ordinal mark) is knows = names name is.0 ∙ knows
known_from lines known names (Back name ordinal mark) is knows = names name is.0 ∙ knows
known_from lines known names (Rollback name ordinal) is knows = names name is ∙ knows
known_from lines known names (Commit name ordinal) is knows = names name is ∙ knows
known_from lines known names _ is knows = tt

pub ordinals_from : (lines : List Line) (known : List ℕ → Option ℕ) → AreOrdinals lines known → (form : Form) → IsForm form → IsKnownBy known form → IsKnownBy (ordinal_of (begun lines)) form
ordinals_from lines known names (Read name ordinal rid) is knows = sym (names name is.0) ∙ knows
ordinals_from lines known names (Write name ordinal rid value) is knows = sym (names name is.0) ∙ knows
ordinals_from lines known names (Add name ordinal rid by) is knows = sym (names name is.0) ∙ knows
ordinals_from lines known names (Insert name ordinal page value capacity) is knows = sym (names name is.0) ∙ knows
ordinals_from lines known names (Delete name ordinal rid) is knows = sym (names name is.0) ∙ knows
ordinals_from lines known names (Save name ordinal mark) is knows = sym (names name is.0) ∙ knows
ordinals_from lines known names (Back name ordinal mark) is knows = sym (names name is.0) ∙ knows
ordinals_from lines known names (Rollback name ordinal) is knows = sym (names name is) ∙ knows
ordinals_from lines known names (Commit name ordinal) is knows = sym (names name is) ∙ knows
ordinals_from lines known names _ is knows = tt

-- a name is new where it isn't known
pub fresh_unknown : (lines : List Line) (known : List ℕ → Option ℕ) → AreOrdinals lines known → (form : Form) → IsForm form → IsUnknown known form → IsFresh lines form
fresh_unknown lines known names (Begin inst name) is unknown = λ had. true≢false (sym had ∙ has_none (begun lines) name (sym (names name is.1) ∙ unknown))
fresh_unknown lines known names _ is unknown = tt

pub unknown_fresh : (lines : List Line) (known : List ℕ → Option ℕ) → AreOrdinals lines known → (form : Form) → IsForm form → IsFresh lines form → IsUnknown known form
unknown_fresh lines known names (Begin inst name) is fresh = names name is.1 ∙ no_ordinal (begun lines) name (unnamed lines name fresh)
unknown_fresh lines known names _ is fresh = tt
