-- The records of a log that change a page, one after another. It serves the goals of change.rt.
use Rattle.std.proofs.Common.{◌≡◌, ℕ, ◌+◌, ◌-◌, ◌<◌, ◌≤◌, Bool, true, eqb, List, [], ◌∷◌, ◌++◌, Some, length, map, take, get_or, sym, ap, ◌∙◌, subst, arith, add-one}
use Rattle.std.specs.Prelude.{All, filter, slice_get}
use Rattle.std.specs.Option.{option_map_or}
use Rattle.std.proofs.lemmas.Bool.{eqb-true}
use Rattle.std.proofs.lemmas.List.{append_assoc, get_or-map, length-map, map-append, take_all, take_more}
use Rattle.std.proofs.lemmas.List.Elements.{All-append, All-cons, All-get_or, All-nil, filter-append, filter_passes}
use Rattle.std.proofs.lemmas.Option.{slice_get-get_or}
use Rattle.sd_logrec.specs.Spelling.{HasSpelling}
use Rattle.sd_logrec.specs.View.{flat}
use Rattle.sd_log.specs.declared.placed.Placed.{Placed}
use Rattle.sd_log.specs.ByPage.{changed_page, changed_pages, places_of}
use Rattle.sd_log.specs.Logs.{AreSpelled, LogState, scanned}
use Rattle.sd_chain.specs.Records.{changes}
use Rattle.sd_chain.proofs.Newest.{and_true}
use Rattle.sd_redo.specs.declared.change.Change.{Change}
use Rattle.sd_redo.specs.Changes.{AllStand, AreChanges, ChangesPage, IsChange, StandsIn, found_of, in_turn, is_of, placed_in}
use Rattle.sd_redo.proofs.OfPage.{as_many, filter_of, on, on_page, places_within, records_at}

-- the record that the k-th index of a page's names in a log
pub record Found (items : List Placed) (p : ℕ) (places : List ℕ) (k at : ℕ) (found : Placed) : Type 0 where
  pub places_are : places ≡ places_of p 0 (changed_pages items)
  pub within : k < length places
  pub at_is : at ≡ get_or places k at
  pub found_is : found ≡ get_or items at found

-- each index of the page's lies in the log
pub at_within : (items : List Placed) (p : ℕ) (places : List ℕ) (k at : ℕ) → places ≡ places_of p 0 (changed_pages items)
    → k < length places → at ≡ get_or places k at → at < length items
at_within items p places k at are lt is =
    let inside : get_or places k at < 0 + length (changed_pages items) =
    All-get_or (λ i. i < 0 + length (changed_pages items)) places k at lt
    (subst (All (λ i. i < 0 + length (changed_pages items))) (sym are) (places_within p 0 (changed_pages items))) in
    omega (arith, is, inside, length-map items (λ (x : Placed). changed_page x.rec))

module _ (items : List Placed) (p : ℕ) (places : List ℕ) (k at : ℕ) (found : Placed) (f : Found items p places k at found) where
  -- the page's records
  abbrev recs : List Placed
  recs = filter (on p) items

  at_places : map (λ i. get_or items i found) places ≡ recs
  at_places = ap (map (λ i. get_or items i found)) f.places_are ∙ records_at found p [] items

  within_recs : k < length recs
  within_recs = omega (arith, as_many p 0 items, ap length f.places_are, f.within)

  is_next : get_or recs k found ≡ found
  is_next =
      ap (λ (l : List Placed). get_or l k found) (sym at_places) ∙ get_or-map (λ i. get_or items i found) places k at found f.within
      ∙ ap (λ i. get_or items i found) (sym f.at_is) ∙ sym f.found_is

  on_it : on p found ≡ true
  on_it = subst (λ (x : Placed). on p x ≡ true) is_next
      (All-get_or (λ (x : Placed). on p x ≡ true) recs k found within_recs (filter_passes (on p) items))

  one_more : take (k + 1) recs ≡ take k recs ++ found ∷ []
  one_more = take_more recs k found within_recs ∙ ap (λ (x : Placed). take k recs ++ x ∷ []) is_next

  -- it comes behind those before
  pub gathered_more : (first old : List Placed) → old ≡ first ++ take k recs → old ++ found ∷ [] ≡ first ++ take (k + 1) recs
  gathered_more first old e =
      ap (λ (l : List Placed). l ++ found ∷ []) e ∙ append_assoc first (take k recs) (found ∷ [])
      ∙ ap (λ (l : List Placed). first ++ l) (sym one_more)

-- the changes so far
pub record SoFar (logs : List LogState) (items first : List Placed) (k : ℕ) (cs : List Change) : Type 0 where
  pub changes : AreChanges cs
  pub stand : AllStand logs cs
  pub gathered : map found_of cs ≡ first ++ take k items

-- one change more, of a log that was read
module _ (logs : List LogState) (index : ℕ) (log : LogState) (p : ℕ) (places : List ℕ) (k at : ℕ) (found : Placed)
    (f : Found (scanned log) p places k at found) (there : index < length logs) (log_is : log ≡ get_or logs index log)
    (page : p < 1024) (spelled : All (λ (l : LogState). AreSpelled (scanned l)) logs) where
  inside : at < length (scanned log)
  inside = at_within (scanned log) p places k at f.places_are f.within f.at_is

  found_spelled : HasSpelling found.rec
  found_spelled =
      let of_log : AreSpelled (scanned log) = subst (λ (l : LogState). AreSpelled (scanned l)) (sym log_is)
      (All-get_or (λ (l : LogState). AreSpelled (scanned l)) logs index log there spelled) in
      subst (λ (x : Placed). HasSpelling x.rec) (sym f.found_is)
      (All-get_or (λ (x : Placed). HasSpelling x.rec) (scanned log) at found inside of_log)

  found_stands : StandsIn logs (index + 1) found
  found_stands =
      let back : index + 1 - 1 ≡ index = omega arith in record {
        log = log;
        some = omega arith;
        log_is = ap (slice_get logs) back ∙ slice_get-get_or logs index log there ∙ ap (λ (l : LogState). Some l) (sym log_is);
        index = at;
        there = slice_get-get_or (scanned log) at found inside ∙ ap (λ (x : Placed). Some x) (sym f.found_is);
      }

  found_changes : ChangesPage found.rec p
  found_changes =
      let both = and_true (changes (flat found.rec).kind) (eqb (flat found.rec).page p)
      (sym (on_page p page found) ∙ on_it (scanned log) p places k at found f) in record {
        kind = both.0;
        here = eqb-true (flat found.rec).page p both.1;
      }

  pub change_more : (first : List Placed) (cs new : List Change) (change : Change)
      → SoFar logs (recs (scanned log) p places k at found f) first k cs
      → change.found.now ≡ found → change.page ≡ p → change.dev ≡ index + 1
      → new ≡ cs ++ change ∷ [] → SoFar logs (recs (scanned log) p places k at found f) first (k + 1) new
  change_more first cs new change s is page_is dev e =
      let P : Change → Type 0 = λ d. StandsIn logs d.dev d.found.now in
      let items : List Placed = filter (on p) (scanned log) in
      let mine : IsChange change = record {
        spelled = subst (λ (x : Placed). HasSpelling x.rec) (sym is) found_spelled;
        page = subst (ChangesPage change.found.now.rec) (sym page_is)
            (subst (λ (x : Placed). ChangesPage x.rec p) (sym is) found_changes);
      } in record {
        changes = subst AreChanges (sym e) (All-append IsChange cs (change ∷ []) s.changes
            (All-cons IsChange change [] mine (All-nil IsChange)));
        stand = subst (AllStand logs) (sym e) (All-append P cs (change ∷ []) s.stand
            (All-cons P change [] (subst (λ (d : ℕ). StandsIn logs d change.found.now) (sym dev)
            (subst (StandsIn logs (index + 1)) (sym is) found_stands)) (All-nil P)));
        gathered = ap (map found_of) e ∙ map-append found_of cs (change ∷ [])
            ∙ ap (λ (x : Placed). map found_of cs ++ x ∷ []) is
            ∙ gathered_more (scanned log) p places k at found f first (map found_of cs) s.gathered;
      }

-- the records of the log of an index
pub placed_in-next : (logs : List LogState) (i : ℕ) (log : LogState) → i < length logs → log ≡ get_or logs i log
    → placed_in logs (i + 1) ≡ scanned log
placed_in-next logs i log lt is =
    ap (placed_in logs) (add-one i)
    ∙ ap (λ o. option_map_or scanned o []) (slice_get-get_or logs i log lt ∙ ap (λ l. Some l) (sym is))

-- behind the last index all of the page's records came
pub took_all : (items : List Placed) (p : ℕ) (places : List ℕ) (k : ℕ)
    → places ≡ places_of p 0 (changed_pages items) → length places ≤ k
    → take k (filter (on p) items) ≡ filter (on p) items
took_all items p places k are all =
    let recs : List Placed = filter (on p) items in
    let short : length recs ≤ k = omega (arith, as_many p 0 items, ap length are, all) in
    take_all k recs short

-- these are the page's records
pub page_all : (items : List Placed) (p : ℕ) (places : List ℕ) (k : ℕ) (first all : List Placed)
    → p < 1024 → places ≡ places_of p 0 (changed_pages items) → length places ≤ k
    → all ≡ first ++ take k (filter (on p) items)
    → all ≡ first ++ filter (is_of p) items
page_all items p places k first all page places_are behind e =
    e ∙ ap (λ (l : List Placed). first ++ l) (took_all items p places k places_are behind ∙ filter_of p page items)

-- in the log of an index
pub changes_all : (logs : List LogState) (index : ℕ) (log : LogState) (p : ℕ) (places : List ℕ) (k : ℕ) (first all : List Placed)
    → index < length logs → log ≡ get_or logs index log → p < 1024
    → places ≡ places_of p 0 (changed_pages (scanned log)) → length places ≤ k
    → all ≡ first ++ take k (filter (on p) (scanned log))
    → all ≡ first ++ filter (is_of p) (placed_in logs (index + 1))
changes_all logs index log p places k first all lt is page places_are behind e =
    page_all (scanned log) p places k first all page places_are behind e
    ∙ ap (λ (l : List Placed). first ++ filter (is_of p) l) (sym (placed_in-next logs index log lt is))

-- and those of the logs so far
pub turn_more : (logs : List LogState) (i : ℕ) (test : Placed → Bool) (old new : List Placed)
    → old ≡ filter test (in_turn (placed_in logs) (i + 1)) → new ≡ old ++ filter test (placed_in logs (i + 1))
    → new ≡ filter test (in_turn (placed_in logs) (i + 1 + 1))
turn_more logs i test old new h e =
    e ∙ ap (λ (l : List Placed). l ++ filter test (placed_in logs (i + 1))) h
    ∙ sym (filter-append test (in_turn (placed_in logs) (i + 1)) (placed_in logs (i + 1)))
    ∙ ap (λ (n : ℕ). filter test (in_turn (placed_in logs) n)) (sym (add-one (i + 1)))
