-- Words tried as those of one kind of line after another. It serves the goals of causes.rt.
use Rattle.std.proofs.Common.{◌≡◌, ◌==◌, Bool, true, false, not, ℕ, ◌+◌, ◌<◌, List, [], ◌∷◌, length, get_or, Option, Some, None, refl, sym, ap, ◌∙◌, subst, arith, lit<, ⊎_elim}
use Rattle.std.proofs.lemmas.Bool.{cases_Bool, cases_lt, ne_eqb, true≢false}
use Rattle.std.proofs.lemmas.Option.{get_or_from_slice_get}
use Rattle.std.specs.Prelude.{IsTrue, ◌↔◌, ◌≤◌, codes, slice_get}
use Rattle.sd_base.specs.declared.refusal.LineError.{LineError}
use Rattle.sd_base.specs.declared.refusal.LineError.TheVariants as cause
use Rattle.sd_script.specs.declared.causes.TheConstants.{KINDS}
use Rattle.sd_script.specs.declared.kinds.Part.{Part}
use Rattle.sd_script.specs.declared.kinds.LineKind.{LineKind}
use Rattle.sd_script.specs.declared.kinds.LineKind.TheVariants as kind
use Rattle.sd_script.specs.declared.line.Line.{Line}
use Rattle.sd_script.specs.Causes.{Fit, IsMisplaced, Passes}
use Rattle.sd_script.specs.Order.{IsBegun, IsOfBegun, begun, has_name, ordinal_of}
use Rattle.sd_script.proofs.Ordinals.{has_none, no_ordinal}

-- a name was begun where it has an ordinal
has_begun : (lines : List Line) (name : List ℕ) → IsBegun name lines → (o : ℕ) × IsOfBegun lines name o
has_begun lines name had = at (ordinal_of (begun lines) name) refl where
  at : (x : Option ℕ) → ordinal_of (begun lines) name ≡ x → (o : ℕ) × IsOfBegun lines name o
  at None is = absurd (true≢false (sym had ∙ has_none (begun lines) name is))
  at (Some o) is = (o, is)

begun_has : (lines : List Line) (name : List ℕ) (o : ℕ) → IsOfBegun lines name o → IsBegun name lines
begun_has lines name o of = ⊎_elim
    (λ had. had)
    (λ (lack : has_name (begun lines) name ≡ false). let none : None ≡ Some o = sym (no_ordinal (begun lines) name lack) ∙ of in absurd (cc))
    (cases_Bool (has_name (begun lines) name))

pub unused_is : (lines : List Line) (name : List ℕ) (had : Bool) → IsTrue had ↔ ((o : ℕ) × IsOfBegun lines name o)
    → IsTrue (not had) ↔ ¬ IsBegun name lines
unused_is lines name true is = (
  λ e. absurd (true≢false (sym e)),
  λ fresh. let of = is.0 refl in absurd (fresh (begun_has lines name of.0 of.1)),
)
unused_is lines name false is = (λ _ had. true≢false (sym (is.1 (has_begun lines name had))), λ _. refl)

-- no word is left
pub fit_none : (lines : List Line) (c : LineError) (parts : List Part) (before : List ℕ) (words : List (List ℕ)) (empty : Bool)
    → words ≡ [] → empty ≡ (length parts == 0) → IsTrue empty ↔ Fit lines c parts before words
fit_none lines c parts before words empty none is =
    subst (λ (l : List (List ℕ)). IsTrue empty ↔ Fit lines c parts before l) (sym none) (at parts is) where
      at : (parts : List Part) → empty ≡ (length parts == 0) → IsTrue empty ↔ Fit lines c parts before []
      at [] told = (λ _. tt, λ _. told)
      at (p ∷ parts) told = (
        λ yes. absurd (true≢false (sym yes ∙ told ∙ ne_eqb (length (p ∷ parts)) 0 (λ e. omega (arith, e)))),
        λ fit. absurd fit,
      )

-- no part is left
pub fit_over : (lines : List Line) (c : LineError) (parts : List Part) (before : List ℕ) (words : List (List ℕ)) (first : List ℕ)
    (rest : List (List ℕ)) → length parts < 1 → words ≡ first ∷ rest → ¬ Fit lines c parts before words
fit_over lines c [] before words first rest few is fit = subst (λ (l : List (List ℕ)). Fit lines c [] before l) is fit
fit_over lines c (p ∷ parts) before words first rest few is fit = absurd (omega (arith, few))

-- ---- each kind is tried

place_of : (k : LineKind) → (j : ℕ) × (j < 32) × (slice_get KINDS j ≡ Some k)
place_of kind.Complex = (0, lit< tt, refl)
place_of kind.Begin = (1, lit< tt, refl)
place_of kind.Read = (2, lit< tt, refl)
place_of kind.Write = (3, lit< tt, refl)
place_of kind.Add = (4, lit< tt, refl)
place_of kind.Insert = (5, lit< tt, refl)
place_of kind.InsertWithCapacity = (6, lit< tt, refl)
place_of kind.Delete = (7, lit< tt, refl)
place_of kind.Save = (8, lit< tt, refl)
place_of kind.Back = (9, lit< tt, refl)
place_of kind.Rollback = (10, lit< tt, refl)
place_of kind.Commit = (11, lit< tt, refl)
place_of kind.Ask = (12, lit< tt, refl)
place_of kind.Give = (13, lit< tt, refl)
place_of kind.Take = (14, lit< tt, refl)
place_of kind.Evict = (15, lit< tt, refl)
place_of kind.Flush = (16, lit< tt, refl)
place_of kind.Force = (17, lit< tt, refl)
place_of kind.Fail = (18, lit< tt, refl)
place_of kind.Fuse = (19, lit< tt, refl)
place_of kind.Fault = (20, lit< tt, refl)
place_of kind.FailAll = (21, lit< tt, refl)
place_of kind.Recover = (22, lit< tt, refl)
place_of kind.RecoverInSteps = (23, lit< tt, refl)
place_of kind.Join = (24, lit< tt, refl)
place_of kind.Reopen = (25, lit< tt, refl)
place_of kind.RecoverAll = (26, lit< tt, refl)
place_of kind.JoinAll = (27, lit< tt, refl)
place_of kind.Where = (28, lit< tt, refl)
place_of kind.Table = (29, lit< tt, refl)
place_of kind.CheckBegin = (30, lit< tt, refl)
place_of kind.CheckEnd = (31, lit< tt, refl)

-- the first so many kinds don't pass
abbrev pub NonePass : List Line → List (List ℕ) → LineError → ℕ → Type 0
NonePass lines words c count = (j : ℕ) (k : LineKind) → j < count → slice_get KINDS j ≡ Some k → ¬ Passes lines words c k

pub none_passes : (lines : List Line) (words : List (List ℕ)) (c : LineError) (count : ℕ) → NonePass lines words c count
    → 32 ≤ count → (k : LineKind) → ¬ Passes lines words c k
none_passes lines words c count none all k = let at = place_of k in none at.0 k (omega (arith, at.1, all)) at.2

pub one_more : (lines : List Line) (words : List (List ℕ)) (c : LineError) (count : ℕ) (k : LineKind)
    → NonePass lines words c count → ¬ Passes lines words c (get_or KINDS count k) → NonePass lines words c (count + 1)
one_more lines words c count k none fails j other lt at = ⊎_elim
    (λ (earlier : j < count). none j other earlier at)
    (λ (here : count ≤ j).
    let last : j ≡ count = omega (arith, lt, here) in
    let same : other ≡ get_or KINDS count k = sym (get_or_from_slice_get KINDS j other k at) ∙ ap (λ (n : ℕ). get_or KINDS n k) last in
    λ passed. fails (subst (Passes lines words c) same passed))
    (cases_lt j count)

-- ---- the first line begins with the word of a complex line, and no other is one

pub misplaced_first : (lines : List Line) (words : List (List ℕ)) (b : Bool) → lines ≡ []
    → IsTrue b ↔ ((r : List (List ℕ)) × (words ≡ codes "complex" ∷ r)) → IsTrue (not b) ↔ IsMisplaced lines words
misplaced_first lines words b none is =
    subst (λ (l : List Line). IsTrue (not b) ↔ IsMisplaced l words) (sym none) (at b is) where
      at : (b : Bool) → IsTrue b ↔ ((r : List (List ℕ)) × (words ≡ codes "complex" ∷ r)) → IsTrue (not b) ↔ IsMisplaced [] words
      at true told = (
        λ e. absurd (true≢false (sym e)),
        λ wrong. let found = told.0 refl in absurd (wrong found.0 found.1),
      )
      at false told = (λ _ rest same. true≢false (sym (told.1 (rest, same))), λ _. refl)

pub misplaced_later : (lines : List Line) (words : List (List ℕ)) (b : Bool) → (lines ≡ [] → ⊥)
    → IsTrue b ↔ Passes lines words cause.Word kind.Complex → IsTrue b ↔ IsMisplaced lines words
misplaced_later [] words b some is = absurd (some refl)
misplaced_later (line ∷ lines) words b some is = is
