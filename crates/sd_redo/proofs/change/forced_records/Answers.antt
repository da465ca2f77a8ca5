use Rattle.std.proofs.Common.{◌≡◌, ◌+◌, ◌++◌, ◌∷◌, [], ◌∙◌, List, map, take, ap, sym}
use Rattle.std.specs.Prelude.{filter}
use Rattle.std.proofs.lemmas.List.{map-append, take_more}
use Rattle.std.proofs.lemmas.List.Elements.{filter-append}
use Rattle.std.proofs.lemmas.Option.{get_or_from_slice_get}
use Rattle.sd_log.specs.declared.placed.Placed.{Placed}
use Rattle.sd_log.specs.Logs.{scanned}
use Rattle.sd_redo.specs.declared.change.Spot.{Spot}
use Rattle.sd_redo.specs.Spots.{no_record, found_at}
use Rattle.sd_redo.proofs.change.forced_records.Goals as goal

pub loop-spot-preserved : goal.loop-spot-preserved
loop-spot-preserved c =
    let spots : List Spot = c.args.spots.now in
    let i = c.loop-spot.spot-index in
    let spot : Spot = c.spot-item.result in
    let front : List Placed = map found_at (take i spots) in
    let found : found_at spot ≡ c.in_ok-found.found =
    get_or_from_slice_get (scanned spot.log.now) spot.index c.in_ok-found.found no_record c.in_ok-found.ensures in
    let longer : take (i + 1) spots ≡ take i spots ++ spot ∷ [] =
    take_more spots i spot c.loop-spot-test.true ∙ ap (λ (t : Spot). take i spots ++ t ∷ []) (sym c.spot-item.is) in
    let all : map found_at (take (i + 1) spots) ≡ front ++ c.in_ok-found.found ∷ [] =
    ap (map found_at) longer ∙ map-append found_at (take i spots) (spot ∷ []) ∙ ap (λ (x : Placed). front ++ x ∷ []) found in
    c.in_ok-push_forced.ensures ∙ ap (λ (l : List Placed). l ++ filter (λ x. x.forced) (c.in_ok-found.found ∷ [])) c.loop-spot.invariant
    ∙ sym (ap (filter (λ x. x.forced)) all ∙ filter-append (λ x. x.forced) front (c.in_ok-found.found ∷ []))
