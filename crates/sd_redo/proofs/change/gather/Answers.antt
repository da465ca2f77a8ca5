use Rattle.std.proofs.Common.{◌≡◌, ℕ, ◌+◌, ◌<◌, ◌++◌, ◌∙◌, List, ap, get_or, length, map, refl, rules, subst, sym, take}
use Rattle.std.specs.Prelude.{filter}
use Rattle.std.proofs.lemmas.List.{get_or_default}
use Rattle.sd_log.specs.declared.placed.Placed.{Placed}
use Rattle.sd_log.specs.Logs.{scanned}
use Rattle.sd_redo.specs.Changes.{found_of}
use Rattle.sd_redo.proofs.Gathered.{Found, SoFar, at_within, change_more, changes_all}
use Rattle.sd_redo.proofs.OfPage.{on}
use Rattle.sd_redo.proofs.change.gather.Goals as goal

pub bounds-records-at : goal.bounds-records-at
bounds-records-at c =
    let places : List ℕ = c.deref-at-items.result.now in
    let at : ℕ = get_or places c.loop-at.at-index 0 in
    subst (λ (l : List Placed). at < length l) (sym c.scan-records.ensures)
    (at_within (scanned c.index-logs-index.result) c.args.page places c.loop-at.at-index at
    (c.deref-at-items.ensures.value ∙ c.in_ok-places.ensures) c.loop-at-test.true
    (get_or_default places c.loop-at.at-index 0 at c.loop-at-test.true))

pub loop-at-preserved : goal.loop-at-preserved
loop-at-preserved c =
    let places : List ℕ = c.deref-at-items.result.now in
    let p : ℕ = c.args.page in
    let log = c.index-logs-index.result in
    let at : ℕ = get_or places c.loop-at.at-index 0 in
    let first : List Placed = map found_of c.args.changes.now.items in
    let is : c.get-number.result ≡ p = c.get-number.ensures.value in
    let found : Found (scanned log) p places c.loop-at.at-index at c.index-records-at.result = record {
      places_are = c.deref-at-items.ensures.value ∙ c.in_ok-places.ensures;
      within = c.loop-at-test.true;
      at_is = get_or_default places c.loop-at.at-index 0 at c.loop-at-test.true;
      found_is = c.index-records-at.is ∙ ap (λ (l : List Placed). get_or l at c.index-records-at.result) c.scan-records.ensures;
    } in
    let same : c.scan-records.result.now ≡ scanned log = c.scan-records.ensures in
    let before : SoFar c.args.logs.now (filter (on p) (scanned log)) first c.loop-at.at-index c.loop-at.changes.items = record {
      changes = c.loop-at.invariant.changes;
      stand = c.loop-at.invariant.stand;
      gathered = c.loop-at.invariant.gathered ∙ ap (λ (l : List Placed). first ++ take c.loop-at.at-index (filter (on p) l)) same;
    } in
    let after = change_more c.args.logs.now c.args.index log p places c.loop-at.at-index at c.index-records-at.result found
    c.requires.there c.index-logs-index.is (subst (λ (q : ℕ). q < 1024) is c.get-number.ensures.range) c.requires.spelled first
    c.loop-at.changes.items c.push.new.self.items _ before refl is (search rules) c.in_ok-push.ensures.items in record {
      changes = after.changes;
      stand = after.stand;
      gathered = after.gathered ∙ ap (λ (l : List Placed). first ++ take (c.loop-at.at-index + 1) (filter (on p) l)) (sym same);
    }

pub returns-clause-gathered : goal.returns-clause-gathered
returns-clause-gathered c =
    let first : List Placed = map found_of c.args.changes.now.items in
    let log = c.index-logs-index.result in
    changes_all c.args.logs.now c.args.index log c.args.page c.deref-at-items.result.now c.loop-at.at-index first
    (map found_of c.loop-at.changes.items) c.requires.there c.index-logs-index.is
    (subst (λ (q : ℕ). q < 1024) c.get-number.ensures.value c.get-number.ensures.range)
    (c.deref-at-items.ensures.value ∙ c.in_ok-places.ensures) c.loop-at-test.false
    (c.loop-at.invariant.gathered
    ∙ ap (λ (l : List Placed). first ++ take c.loop-at.at-index (filter (on c.args.page) l)) c.scan-records.ensures)
