-- The records of a log without a tail, group by group, as chains see them. For the crates above.
use Rattle.std.proofs.Common.{◌≡◌, ℕ, true, List, [], ◌∷◌, ◌++◌, refl, sym, ap, ◌∙◌}
use Rattle.std.specs.Prelude.{map}
use Rattle.std.specs.List.{flat_map}
use Rattle.std.proofs.lemmas.List.{append-nil, map-append}
use Rattle.sd_logrec.specs.declared.record.Record.{Record}
use Rattle.sd_logrec.specs.Kept.{Group, Records}
use Rattle.sd_logrec.specs.View.{Rec, flat}
use Rattle.sd_log.specs.declared.placed.Placed.{Placed}
use Rattle.sd_log.specs.Logs.{LogState, flats, placed, placed_groups, placed_tail, scanned}

flats-group : (rs : Records) → flats (map (placed true) rs) ≡ map (λ r. flat r.1) rs
flats-group [] = refl
flats-group (r ∷ rs) = ap (λ (l : List Rec). flat r.1 ∷ l) (flats-group rs)

-- those of groups
pub flats-groups : (gs : List Group) → flats (placed_groups gs) ≡ map (λ r. flat r.1) (flat_map (λ g. g.records) gs)
flats-groups [] = refl
flats-groups (g ∷ gs) =
    map-append (λ (p : Placed). flat p.rec) (map (placed true) g.records) (placed_groups gs)
    ∙ ap (λ (l : List Rec). l ++ flats (placed_groups gs)) (flats-group g.records)
    ∙ ap (λ (l : List Rec). map (λ r. flat r.1) g.records ++ l) (flats-groups gs)
    ∙ sym (map-append (λ (r : ℕ × Record). flat r.1) g.records (flat_map (λ x. x.records) gs))

-- those of a log that has no tail
pub flats-log : (log : LogState) → log.tail ≡ [] → flats (scanned log) ≡ map (λ r. flat r.1) (flat_map (λ g. g.records) log.groups)
flats-log log none =
    ap (λ (tail : List Record). flats (placed_groups log.groups ++ placed_tail log.gate tail)) none
    ∙ ap flats (append-nil (placed_groups log.groups))
    ∙ flats-groups log.groups
