-- The pages that the records of a log change, as its tail grows, is forced or dropped. It serves the goals of log.rt.
use Rattle.std.proofs.Common.{◌≡◌, ℕ, ◌+◌, Bool, true, false, List, [], ◌∷◌, ◌++◌, length, refl, sym, ap, ◌∙◌, append_assoc}
use Rattle.std.specs.Prelude.{map}
use Rattle.std.proofs.lemmas.List.{append-nil, map-append}
use Rattle.sd_logrec.specs.declared.record.Record.{Record}
use Rattle.sd_logrec.specs.Kept.{Group, Records, placed_from, spelled}
use Rattle.sd_log.specs.declared.placed.Placed.{Placed}
use Rattle.sd_log.specs.ByPage.{changed_page, changed_pages}
use Rattle.sd_log.specs.WrittenStates.{WrittenState, all_in, closed}
use Rattle.sd_log.specs.Logs.{placed, placed_groups, placed_tail}
use Rattle.sd_log.proofs.Parted.{placed_groups-more, placed_tail-more}

pub pages-append : (xs ys : List Placed) → changed_pages (xs ++ ys) ≡ changed_pages xs ++ changed_pages ys
pages-append xs ys = map-append (λ (p : Placed). changed_page p.rec) xs ys

-- one more record behind a tail
pub pages-more : (gate : ℕ) (groups : List Group) (tail : List Record) (r : Record)
    → changed_pages (placed_groups groups ++ placed_tail gate (tail ++ r ∷ [])) ≡ changed_pages (placed_groups groups ++ placed_tail gate tail) ++ changed_page r ∷ []
pages-more gate groups tail r =
    let all : List Placed = placed_groups groups in
    ap (λ (l : List Placed). changed_pages (all ++ l)) (placed_tail-more gate tail r)
    ∙ ap changed_pages (sym (append_assoc all (placed_tail gate tail) (placed false (gate + 5 + length (spelled tail), r) ∷ [])))
    ∙ pages-append (all ++ placed_tail gate tail) (placed false (gate + 5 + length (spelled tail), r) ∷ [])

-- forced or not, a record changes the same page
same_pages : (b c : Bool) (rs : Records) → changed_pages (map (placed b) rs) ≡ changed_pages (map (placed c) rs)
same_pages b c [] = refl
same_pages b c (r ∷ rs) = ap (λ (l : List ℕ). changed_page r.1 ∷ l) (same_pages b c rs)

pub pages-closed : (len : ℕ) (w : WrittenState) → changed_pages (all_in w) ≡ changed_pages (all_in (closed len w))
pages-closed len w =
    let all : List Placed = placed_groups w.groups in
    let rs : Records = placed_from (w.gate + 5) w.tail in
    pages-append all (map (placed false) rs) ∙ ap (λ (l : List ℕ). changed_pages all ++ l) (same_pages false true rs) ∙ sym (pages-append all (map (placed true) rs))
    ∙ ap changed_pages (sym (placed_groups-more w.groups (record { at = w.gate; records = rs }))) ∙ ap changed_pages (sym (append-nil (placed_groups (closed len w).groups)))
