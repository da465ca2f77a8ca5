use Rattle.std.proofs.Common.{◌≡◌, ℕ, ◌<◌, ◌∷◌, [], ◌∙◌, List, length, map, get_or, subst, sym, ap}
use Rattle.std.specs.Prelude.{All}
use Rattle.std.proofs.lemmas.List.{get_or_default, map-append}
use Rattle.std.proofs.lemmas.List.Elements.{All-append, All-cons, All-nil}
use Rattle.std.proofs.lemmas.Option.{slice_get-get_or}
use Rattle.sd_log.specs.Logs.{scanned}
use Rattle.sd_redo.specs.declared.change.Spot.{Spot}
use Rattle.sd_redo.specs.Spots.{IsSpot, no_record, found_at}
use Rattle.sd_redo.proofs.Gathered.{Found, at_within, gathered_more, page_all}
use Rattle.sd_redo.proofs.change.gather_spots.Goals as goal

pub lsn-lsn-requires : goal.lsn-lsn-requires
lsn-lsn-requires c =
    let places : List ℕ = c.deref-at-items.result.now in
    let at : ℕ = get_or places c.loop-at.at-index 0 in
    at_within (scanned c.args.log.now) c.args.page places c.loop-at.at-index at
    (c.deref-at-items.ensures.value ∙ c.in_ok-places.ensures) c.loop-at-test.true
    (get_or_default places c.loop-at.at-index 0 at c.loop-at-test.true)

pub loop-at-preserved : goal.loop-at-preserved
loop-at-preserved c =
    let items = scanned c.args.log.now in
    let places : List ℕ = c.deref-at-items.result.now in
    let k = c.loop-at.at-index in
    let at : ℕ = get_or places k 0 in
    let are = c.deref-at-items.ensures.value ∙ c.in_ok-places.ensures in
    let at_is : at ≡ get_or places k at = get_or_default places k 0 at c.loop-at-test.true in
    let there : at < length items = at_within items c.args.page places k at are c.loop-at-test.true at_is in
    let spot : Spot = record { lsn = c.lsn-lsn.result; log = c.args.log; index = at } in
    let found : Found items c.args.page places k at (found_at spot) = record {
      places_are = are;
      within = c.loop-at-test.true;
      at_is = at_is;
      found_is = get_or_default items at no_record (found_at spot) there;
    } in
    let told : IsSpot spot = record { there = there; lsn_is = c.lsn-lsn.ensures (found_at spot) (slice_get-get_or items at no_record there) } in
    let old = c.loop-at.spots.items in (
      subst (All IsSpot) (sym c.in_ok-push.ensures.items) (All-append IsSpot old (spot ∷ []) c.loop-at.invariant.0 (All-cons IsSpot spot [] told (All-nil IsSpot))),
      ap (map found_at) c.in_ok-push.ensures.items ∙ map-append found_at old (spot ∷ [])
          ∙ gathered_more items c.args.page places k at (found_at spot) found (map found_at c.args.spots.now.items) (map found_at old) c.loop-at.invariant.1,
    )

pub returns-clause-gathered : goal.returns-clause-gathered
returns-clause-gathered c =
    page_all (scanned c.args.log.now) c.args.page c.deref-at-items.result.now c.loop-at.at-index
    (map found_at c.args.spots.now.items) (map found_at c.loop-at.spots.items)
    (subst (λ (q : ℕ). q < 1024) c.get.ensures.value c.get.ensures.range)
    (c.deref-at-items.ensures.value ∙ c.in_ok-places.ensures) c.loop-at-test.false c.loop-at.invariant.1
