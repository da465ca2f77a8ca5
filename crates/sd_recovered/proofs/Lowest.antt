-- The lowest record of a stack, by its indices in the log. It serves the goals of undone.
use Rattle.std.proofs.Common.{◌≡◌, ◌≢◌, ℕ, List, [], ◌∷◌, ◌++◌, Option, Some, None, map, reverse, slice_get, refl, sym, ap, ◌∙◌}
use Rattle.std.specs.Prelude.{option_map}
use Rattle.std.specs.Option.{option_map_or}
use Rattle.std.proofs.lemmas.List.{map-append, reverse-append}
use Rattle.sd_logrec.specs.View.{Rec, flat}
use Rattle.sd_log.specs.declared.placed.Placed.{Placed}
use Rattle.sd_recovered.specs.Losers.{AreAt, record_at}
use Rattle.sd_recovered.specs.Taking.{lowest_place}

-- the last of some values
record Last (records : List Rec) (y : Option Rec) : Type 0 where
  pub above : List Rec
  pub last : Rec
  pub parts : records ≡ above ++ last ∷ []
  pub is : y ≡ Some last

last_of : (xs : List (Option Rec)) (y : Option Rec) (records : List Rec) → xs ++ y ∷ [] ≡ map (λ x. Some x) records → Last records y
last_of [] y [] e = absurd (cc)
last_of [] y (r ∷ []) e = record { above = []; last = r; parts = refl; is = cc }
last_of [] y (r ∷ q ∷ rs) e = absurd (cc)
last_of (x ∷ xs) y [] e = absurd (cc)
last_of (x ∷ xs) y (r ∷ rs) e =
    let rest : xs ++ y ∷ [] ≡ map (λ x. Some x) rs = cc in
    let l : Last rs y = last_of xs y rs rest in
    record { above = r ∷ l.above; last = l.last; parts = ap (λ (l : List Rec). r ∷ l) l.parts; is = l.is }

-- where a stack ends
pub record Lowest (log : List Placed) (open_ones : List ℕ) (records : List Rec) : Type 0 where
  pub index : ℕ
  pub found : Placed
  pub there : slice_get log index ≡ Some found
  pub place_is : lowest_place log open_ones ≡ found.place
  pub above : List Rec
  pub parts : records ≡ above ++ flat found.rec ∷ []

by_record : (log : List Placed) (a : ℕ) (rest : List ℕ) (records : List Rec) (o : Option Placed) → slice_get log a ≡ o
    → Last records (option_map (λ p. flat p.rec) o) → Lowest log (a ∷ rest) records
by_record log a rest records None e l = absurd (let is = l.is in cc)
by_record log a rest records (Some p) e l =
    let same : flat p.rec ≡ l.last = let is = l.is in cc in record {
      index = a;
      found = p;
      there = e;
      place_is = ap (λ (o : Option Placed). option_map_or (λ p. p.place) o 0) e;
      above = l.above;
      parts = l.parts ∙ ap (λ (x : Rec). l.above ++ x ∷ []) (sym same);
    }

pub lowest : (log : List Placed) (open_ones : List ℕ) (records : List Rec) → AreAt log open_ones records → records ≢ []
    → Lowest log open_ones records
lowest log [] [] at some = absurd (some refl)
lowest log [] (r ∷ rs) at some = absurd (cc)
lowest log (a ∷ rest) records at some =
    let ends : map (record_at log) (reverse rest) ++ record_at log a ∷ [] ≡ map (λ x. Some x) records =
    sym (ap (map (record_at log)) (reverse-append (a ∷ []) rest)
    ∙ map-append (record_at log) (reverse rest) (a ∷ [])) ∙ at in
    by_record log a rest records (slice_get log a) refl
    (last_of (map (record_at log) (reverse rest)) (record_at log a) records ends)
