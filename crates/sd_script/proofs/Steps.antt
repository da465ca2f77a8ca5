-- From one line of a text to the next. It serves the goals of script.rt.
use Rattle.std.proofs.Common.{◌≡◌, ℕ, zero, suc, ◌+◌, ◌-◌, ◌<◌, ◌≤◌, inl, inr, min, List, [], ◌∷◌, ◌++◌, length, take, drop, Some, Result, Ok, Err, refl, sym, ap, ◌∙◌, subst, arith, ⊎_elim, length-append}
use Rattle.std.specs.Prelude.{slice_get, Bool, true, false, ◌==◌, Option, None, IfOk, IfErr}
use Rattle.std.proofs.lemmas.Bool.Decides.{nat_tests}
use Rattle.sd_base.specs.declared.refusal.Refusal.{Refusal}
use Rattle.sd_base.specs.declared.refusal.Refusal.TheVariants as refusal
use Rattle.sd_base.specs.declared.refusal.LineError.{LineError}
use Rattle.sd_base.specs.declared.refusal.LineError.TheVariants.{Order}
use Rattle.sd_script.specs.declared.line.Line.{Line}
use Rattle.sd_script.specs.Text.{Numbered, is_passed_over, line_at, lines_of, numbered, told_lines}
use Rattle.sd_script.specs.Reading.{Reads, IsRead, IsScript, IsBadAt, IsBadNext, IsRefusedWith, UnlessMemory}
use Rattle.sd_script.specs.Remembered.{GoesOn, GoesOnBy, IsLineRefusedWith}
use Rattle.sd_script.proofs.Passing.{passed_decides, told, told_other, told_passed}
use Rattle.sd_script.proofs.Readings.{IsRead-push, read-le, one_reading, no_bad_script, one_bad_line}

-- what stands at a place, from what is left there
place : {X : Type 0} (xs : List X) (n : ℕ) (y : X) (ys : List X) → drop n xs ≡ y ∷ ys → (slice_get xs n ≡ Some y) × (ys ≡ drop (suc n) xs) × (take (suc n) xs ≡ take n xs ++ y ∷ [])
place [] zero y ys e = absurd (cc)
place [] (suc n) y ys e = absurd (cc)
place (x ∷ xs) zero y ys e = let head : x ≡ y = cc in let tail : ys ≡ xs = cc in (ap Some head, tail, ap (λ z. z ∷ []) head)
place (x ∷ xs) (suc n) y ys e = let rest = place xs n y ys e in (rest.0, rest.1, ap (λ l. x ∷ l) rest.2)

-- the lines are read up to this rest of the text, behind so many lines of it
pub record IsUpTo (text : List ℕ) (lines : List Line) (count : ℕ) (rest : List ℕ) : Type 0 where
  pub taken : ℕ
  pub read : IsRead text lines
  pub rest_is : told (numbered (length text) count taken (lines_of rest)) ≡ drop (length lines) (told_lines text)
  pub count_is : count + length (lines_of rest) ≡ length (lines_of text)
  pub end_is : min (length text) taken + length rest ≡ length text
  pub few : count ≤ 100000
  pub fewer : length lines ≤ count

-- the next line of the rest, and what is behind it
pub record IsCut (rest line after : List ℕ) : Type 0 where
  pub some : 0 < length rest
  pub lines : lines_of rest ≡ line ∷ lines_of after
  pub bytes : min (length rest) (length line + 1) + length after ≡ length rest

pub some_left : (empty : Bool) (n : ℕ) → empty ≡ (n == 0) → empty ≡ false → 0 < n
some_left empty n means isnt = grind (arith, nat_tests)

ends : (t s r n a : ℕ) → min t s + r ≡ t → 0 < r → min r n + a ≡ r → min t (s + n) + a ≡ t
ends t s r n a e some bytes = omega arith

-- at the begin of the text
pub begins : (text : List ℕ) → IsUpTo text [] 0 text
begins text = record {
  taken = 0;
  read = λ k line e. absurd (cc);
  rest_is = refl;
  count_is = omega arith;
  end_is = omega arith;
  few = omega arith;
  fewer = omega arith;
}

module _ (text rest line after : List ℕ) (lines : List Line) (count : ℕ) (up : IsUpTo text lines count rest) (cut : IsCut rest line after) where
  -- the next line, and where it ends
  next_end : min (length text) (up.taken + (length line + 1)) + length after ≡ length text
  next_end = ends (length text) up.taken (length rest) (length line + 1) (length after) up.end_is cut.some cut.bytes

  abbrev here : Numbered
  here = line_at line (count + 1) (length text - length after)

  next_is : line_at line (count + 1) (min (length text) (up.taken + (length line + 1))) ≡ here
  next_is = ap (λ (e : ℕ). line_at line (count + 1) e) (let e = next_end in omega (arith, e))

  abbrev others : List Numbered
  others = numbered (length text) (count + 1) (up.taken + (length line + 1)) (lines_of after)

  -- what is to be read of the rest, by whether the line is passed over
  rest_here : told (here ∷ others) ≡ drop (length lines) (told_lines text)
  rest_here = ap (λ (a : Numbered). told (a ∷ others)) (sym next_is)
      ∙ ap (λ (l : List (List ℕ)). told (numbered (length text) count up.taken l)) (sym cut.lines) ∙ up.rest_is

  next_count : count + 1 + length (lines_of after) ≡ length (lines_of text)
  next_count = let n = up.count_is in let m : length (lines_of rest) ≡ length (lines_of after) + 1 = ap (λ (l : List (List ℕ)). length l) cut.lines ∙ omega arith in
      omega (arith, n, m)

  next_place : is_passed_over here ≡ false
      → (slice_get (told_lines text) (length lines) ≡ Some here) × (told others ≡ drop (suc (length lines)) (told_lines text))
  next_place isnt =
      let found = place (told_lines text) (length lines) here (told others) (sym rest_here ∙ told_other here others isnt) in
      (found.0, found.1)

  -- a line that is passed over
  passes : is_passed_over here ≡ true → count + 1 ≤ 100000 → IsUpTo text lines (count + 1) after
  passes is few = record {
    taken = up.taken + (length line + 1);
    read = up.read;
    rest_is = sym (told_passed here others is) ∙ rest_here;
    count_is = next_count;
    end_is = next_end;
    few = few;
    fewer = let le = up.fewer in omega (arith, le);
  }

  -- a line that is read
  reads_on : (new : List Line) → is_passed_over here ≡ false → GoesOnBy lines here new → IsUpTo text new (count + 1) after
  reads_on new isnt next =
      let found = next_place isnt in
      let reads : Reads text lines next.line = record { at = here; stands = found.0; reads = next.reads } in
      let grown : length new ≡ suc (length lines) = ap length next.is ∙ length-append lines (next.line ∷ []) ∙ omega arith in
      let most = next.reads.lines_most in
      let le = up.fewer in
      record {
        taken = up.taken + (length line + 1);
        read = subst (IsRead text) (sym next.is) (IsRead-push text lines next.line up.read reads);
        rest_is = found.1 ∙ ap (λ (n : ℕ). drop n (told_lines text)) (sym grown);
        count_is = next_count;
        end_is = next_end;
        few = omega (arith, most);
        fewer = omega (arith, grown, le);
      }

  pub goes_on_to : (new : List Line) → GoesOn lines here new → IsUpTo text new (count + 1) after
  goes_on_to new next = ⊎_elim
      (λ p. subst (λ (l : List Line). IsUpTo text l (count + 1) after) (sym p.1) (passes p.0
      (let within = ((passed_decides here).0 p.0).1.1.1 in omega (arith, within))))
      (λ n. reads_on new n.0 n.1)
      next

  -- a line that is refused
  pub refused_at : (why : Refusal) → IsLineRefusedWith lines here why → IsRefusedWith text why
  refused_at (refusal.BadLine number cause) refused = record {
    before = lines;
    read = up.read;
    next = subst (λ (o : Option Numbered). IsBadNext text lines o number cause) (sym (next_place refused.0).0) (refused.1, refused.2);
  }
  refused_at refusal.Memory refused = tt
  refused_at _ refused = absurd refused

empty_of : (rest : List ℕ) → length rest ≡ 0 → rest ≡ []
empty_of [] e = refl
empty_of (b ∷ rest) e = absurd (omega arith)

none_left : {X : Type 0} (xs : List X) (n : ℕ) → drop n xs ≡ [] → length xs ≤ n
none_left [] n e = omega arith
none_left (x ∷ xs) zero e = absurd (cc)
none_left (x ∷ xs) (suc n) e = let le = none_left xs n e in omega arith

-- where nothing is left, all lines are read and counted
pub all_counted : (text rest : List ℕ) (lines : List Line) (count : ℕ) → IsUpTo text lines count rest → length rest ≡ 0
    → count ≡ length (lines_of text)
all_counted text rest lines count up e =
    let none : length (lines_of rest) ≡ 0 = ap (λ (l : List ℕ). length (lines_of l)) (empty_of rest e) in
    let n = up.count_is in
    omega (arith, none, n)

pub all_read : (text rest : List ℕ) (lines : List Line) (count : ℕ) → IsUpTo text lines count rest → length rest ≡ 0
    → length lines ≡ length (told_lines text)
all_read text rest lines count up e =
    let nothing : drop (length lines) (told_lines text) ≡ [] = sym up.rest_is
    ∙ ap (λ (l : List ℕ). told (numbered (length text) count up.taken (lines_of l))) (empty_of rest e) in
    let most = none_left (told_lines text) (length lines) nothing in
    let least = read-le text lines up.read (length lines) (omega arith) in
    omega arith

-- a text without a line to read is bad one line behind its last
pub no_line : (text : List ℕ) (lines : List Line) (count : ℕ) → IsRead text lines → length lines ≡ length (told_lines text)
    → count ≡ length (lines_of text) → length lines ≡ 0 → IsBadAt text (count + 1) Order
no_line text lines count read whole counted none = record {
  before = lines;
  read = read;
  next = subst (λ (o : Option Numbered). IsBadNext text lines o (count + 1) Order) (sym (past_end (told_lines text) (length lines) (omega arith)))
      (no_items lines none, ap (λ (n : ℕ). n + 1) counted, refl);
} where
  past_end : {X : Type 0} (xs : List X) (n : ℕ) → length xs ≤ n → slice_get xs n ≡ None
  past_end [] n le = refl
  past_end (x ∷ xs) zero le = absurd (omega (arith, le))
  past_end (x ∷ xs) (suc n) le = past_end xs n (omega (arith, le))

  no_items : (ls : List Line) → length ls ≡ 0 → ls ≡ []
  no_items [] e = refl
  no_items (l ∷ ls) e = absurd (omega (arith, e))

exact_err : (text : List ℕ) (why : Refusal) → IsRefusedWith text why → (lines : List Line) → IsScript text lines → UnlessMemory (Err why) (Ok lines)
exact_err text (refusal.BadLine number cause) bad lines script = absurd (no_bad_script text lines number cause script bad)
exact_err text refusal.Memory bad lines script = inr refl
exact_err text _ bad lines script = absurd bad

-- a script is read
pub exact : (text : List ℕ) (answer : Result (List Line) Refusal) → IfOk answer (IsScript text) → IfErr answer (IsRefusedWith text) → (lines : List Line) → IsScript text lines → UnlessMemory answer (Ok lines)
exact text (Ok lines) found bad others script = inl (ap Ok (one_reading text lines others found script))
exact text (Err why) found bad others script = exact_err text why bad others script

exact_bad_err : (text : List ℕ) (why : Refusal) → IsRefusedWith text why → (n : ℕ) (c : LineError) → IsBadAt text n c
    → UnlessMemory (Err why) (Err (refusal.BadLine n c))
exact_bad_err text (refusal.BadLine number cause) bad n c is =
    let same = one_bad_line text number n cause c bad is in
    inl (ap (λ (k : ℕ). Err (refusal.BadLine k cause)) same.0 ∙ ap (λ (d : LineError). Err (refusal.BadLine n d)) same.1)
exact_bad_err text refusal.Memory bad n c is = inr refl
exact_bad_err text _ bad n c is = absurd bad

-- a bad line is told
pub exact_bad : (text : List ℕ) (answer : Result (List Line) Refusal) → IfOk answer (IsScript text) → IfErr answer (IsRefusedWith text) → (n : ℕ) (c : LineError) → IsBadAt text n c → UnlessMemory answer (Err (refusal.BadLine n c))
exact_bad text (Ok lines) found bad n c at = absurd (no_bad_script text lines n c found at)
exact_bad text (Err why) found bad n c at = exact_bad_err text why bad n c at
