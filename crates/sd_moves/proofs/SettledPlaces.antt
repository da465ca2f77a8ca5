-- A log that begins at a later place has none but the records that it has. For `settle_log`.
use Rattle.std.proofs.Common.{◌≡◌, ⊎_elim, ℕ, Bool, true, false, cond, ◌||◌, List, [], ◌∷◌, map, filter, refl, sym, ap, ◌∙◌}
use Rattle.std.specs.Prelude.{None, Option, Some, leb}
use Rattle.std.specs.List.{flat_map, list_any}
use Rattle.std.specs.Option.{option_map_or}
use Rattle.std.proofs.lemmas.Bool.{cases_Bool}
use Rattle.std.proofs.lemmas.List.{map-append}
use Rattle.std.proofs.lemmas.List.Concat.{flat_map-cons}
use Rattle.std.proofs.lemmas.List.Folds.{list_any-append}
use Rattle.sd_logrec.specs.Kept.{Group}
use Rattle.sd_logrec.specs.View.{Rec, flat}
use Rattle.sd_log.specs.Logs.{begun_at}
use Rattle.sd_chain.specs.Images.{Keeps}
use Rattle.sd_chain.specs.Logs.{base_at, tail_at}
use Rattle.sd_state.specs.Images.{log_by}
use Rattle.sd_state.specs.Parts.{Parts, log_at, other_at}

-- the records of groups
abbrev recs : List Group → List Rec
recs gs = map (λ r. flat r.1) (flat_map (λ (g : Group). g.records) gs)

module _ (test : Rec → Bool) where
  grown : (a b c : Bool) → (b ≡ true → c ≡ true) → (a || b) ≡ true → (a || c) ≡ true
  grown true b c more e = refl
  grown false b c more e = more e

  behind : (a c : Bool) → c ≡ true → (a || c) ≡ true
  behind true c e = refl
  behind false c e = e

  by-group : (g : Group) (gs : List Group)
      → list_any test (recs (g ∷ gs)) ≡ (list_any test (map (λ r. flat r.1) g.records) || list_any test (recs gs))
  by-group g gs = ap (λ xs. list_any test (map (λ r. flat r.1) xs)) (flat_map-cons (λ (h : Group). h.records) g gs)
      ∙ ap (list_any test) (map-append (λ r. flat r.1) g.records (flat_map (λ (h : Group). h.records) gs))
      ∙ list_any-append test (map (λ r. flat r.1) g.records) (recs gs)

  filtered : (keep : Group → Bool) (gs : List Group) → list_any test (recs (filter keep gs)) ≡ true → list_any test (recs gs) ≡ true
  filtered keep [] e = e
  filtered keep (g ∷ gs) e = ⊎_elim
      (λ is. by-group g gs ∙ grown (list_any test (map (λ r. flat r.1) g.records)) (list_any test (recs (filter keep gs)))
      (list_any test (recs gs)) (filtered keep gs) (sym (by-group g (filter keep gs)) ∙ (rw is at e)))
      (λ off. by-group g gs ∙ behind (list_any test (map (λ r. flat r.1) g.records)) (list_any test (recs gs))
      (filtered keep gs (rw off at e)))
      (cases_Bool (keep g))

  -- so wherever the log begins
  pub by-within : (c : Parts) (moved : Keeps) (j : ℕ) → list_any test (base_at (log_by c moved j)) ≡ true
      → list_any test (base_at (log_at c j)) ≡ true
  by-within c moved j = by (moved j) (other_at c j)
    where
      by : (b : Bool) (o : Option ℕ)
          → list_any test (base_at (cond b (option_map_or (λ place. begun_at place (log_at c j)) o (log_at c j)) (log_at c j))) ≡ true
          → list_any test (base_at (log_at c j)) ≡ true
      by true None e = e
      by true (Some place) e = filtered (λ g. leb place g.at) (log_at c j).groups e
      by false o e = e

-- its tail is the same
pub by-tail : (c : Parts) (moved : Keeps) (j : ℕ) → tail_at (log_by c moved j) ≡ tail_at (log_at c j)
by-tail c moved j = by (moved j) (other_at c j)
  where
    by : (b : Bool) (o : Option ℕ)
        → tail_at (cond b (option_map_or (λ place. begun_at place (log_at c j)) o (log_at c j)) (log_at c j)) ≡ tail_at (log_at c j)
    by true None = refl
    by true (Some place) = refl
    by false o = refl
