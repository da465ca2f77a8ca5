use Rattle.std.proofs.Common.{◌≡◌, ◌+◌, ◌∙◌, List, ap, length, map, rules, subst, sym}
use Rattle.std.specs.Prelude.{All, IfOk, filter}
use Rattle.std.proofs.lemmas.List.Sorted.{All-permutation, IsNonDecreasingBy-from_sort_by_key, answers_always}
use Rattle.std.proofs.lemmas.Result.{IfOk-weaker}
use Rattle.sd_log.specs.declared.placed.Placed.{Placed}
use Rattle.sd_redo.specs.declared.change.Spot.{Spot}
use Rattle.sd_redo.specs.Changes.{AreByLsn, in_turn, is_forced_of, is_of, placed_in}
use Rattle.sd_redo.specs.Spots.{IsSpot, found_at}
use Rattle.sd_redo.proofs.Merges.{forced_chain, forced_changes, forced_merged, forced_ones, forced_spelled}
use Rattle.sd_redo.proofs.Turns.{forced_by_lsn, sorted_spots}
use Rattle.sd_redo.proofs.change.merge_page.Goals as goal

pub forced_records-requires : goal.forced_records-requires
forced_records-requires c =
    subst (All IsSpot) (sym c.deref.ensures.value)
    (All-permutation IsSpot c.in_ok-spots.spots.items c.sort_by_key.new.self.items c.in_ok-sort_by_key.ensures.permutation c.in_ok-spots.ensures.told)

by_lsn : (c : goal.After-drop-spots-2) (found : List Placed) → found ≡ filter (λ x. x.forced) (map found_at c.sort_by_key.new.self.items)
    → AreByLsn (filter (is_forced_of c.args.p) (in_turn (placed_in c.args.logs.now) (length c.args.logs.now + 1))) found
by_lsn c found is =
    let all : List Placed = in_turn (placed_in c.args.logs.now) (length c.args.logs.now + 1) in
    let old : List Spot = c.in_ok-spots.spots.items in
    let new : List Spot = c.sort_by_key.new.self.items in
    subst (AreByLsn (filter (is_forced_of c.args.p) all)) (sym is)
    (forced_by_lsn c.args.p all (map found_at new)
    (sorted_spots old new (filter (is_of c.args.p) all) c.in_ok-spots.ensures.gathered c.in_ok-spots.ensures.told c.in_ok-sort_by_key.ensures.permutation
    (IsNonDecreasingBy-from_sort_by_key (λ (t : Spot). t.lsn) new c.in_ok-sort_by_key.ensures.sorted (λ a r q k. search rules))
    (c.in_ok-sort_by_key.ensures.stable (λ (t : Spot). t.lsn) (answers_always _ (λ a r. r ≡ a.0.now.lsn) _ (λ f a r q k. search rules)))))

-- what holds of all that come by LSN
each : (c : goal.After-drop-spots-2) (P : List Placed → Type 0)
    → ((found : List Placed) → AreByLsn (filter (is_forced_of c.args.p) (in_turn (placed_in c.args.logs.now) (length c.args.logs.now + 1))) found → P found)
    → IfOk c.forced_records.result (λ found. P found.items)
each c P holds =
    IfOk-weaker c.forced_records.result (λ found. found.items ≡ filter (λ x. x.forced) (map found_at c.deref.result.now)) (λ found. P found.items)
    (λ found is. holds found.items (by_lsn c found.items (is ∙ ap (λ (ts : List Spot). filter (λ x. x.forced) (map found_at ts)) c.deref.ensures.value))) c.forced_records.ensures

pub returns-clause-spelled : goal.returns-clause-spelled
returns-clause-spelled c = each c _ (λ found by. forced_spelled c.args.logs.now (length c.args.logs.now + 1) c.args.p found by c.requires.spelled)

pub returns-clause-pages : goal.returns-clause-pages
returns-clause-pages c = each c _ (λ found by. forced_changes c.args.logs.now (length c.args.logs.now + 1) c.args.p found by)

pub returns-clause-forced : goal.returns-clause-forced
returns-clause-forced c = each c _ (λ found by. forced_ones c.args.logs.now (length c.args.logs.now + 1) c.args.p found by)

pub returns-clause-merged : goal.returns-clause-merged
returns-clause-merged c = each c _ (λ found by. forced_merged c.args.logs.now (length c.args.logs.now + 1) c.args.p found by)

pub returns-clause-turns : goal.returns-clause-turns
returns-clause-turns c = each c _ (λ found by. by.turns)

pub returns-clause-chain : goal.returns-clause-chain
returns-clause-chain c = each c _ (λ found by. forced_chain c.args.logs.now (length c.args.logs.now + 1) c.args.p found by)
