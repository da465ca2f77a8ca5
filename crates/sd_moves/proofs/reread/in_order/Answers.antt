use Rattle.std.proofs.Common.{◌≡◌, [], ◌++◌, List, append-nil, sym, ◌∙◌, rules, subst, map}
use Rattle.std.specs.Prelude.{Contains, Some, ◌↔◌}
use Rattle.std.specs.Map.{lookup}
use Rattle.sd_base.specs.Ids.{same_txn}
use Rattle.sd_recovered.specs.Walks.{AreRising}
use Rattle.sd_moves.proofs.SettledStanding.{Who, found-there, rising-sorted}
use Rattle.sd_moves.proofs.reread.in_order.Goals as goal

pub returns-clause-rows : goal.returns-clause-rows
returns-clause-rows c t state =
    let rows = c.args.states.entries in
    let left : c.loop-row.row-iterator ≡ [] = search rules in
    let all : c.loop-row.who.items ≡ rows = sym (append-nil c.loop-row.who.items)
    ∙ subst (λ (l : List Who). c.loop-row.who.items ++ l ≡ rows) left c.loop-row.invariant in
    subst (λ (l : List Who). Contains l (t, state) ↔ (lookup (same_txn t) rows ≡ Some state)) (sym all)
    (found-there rows c.into_iter-row-iterator.ensures.into_iter_gives.5 t state)

pub returns-clause-rising : goal.returns-clause-rising
returns-clause-rising c =
    let rows = c.args.states.entries in
    let left : c.loop-row.row-iterator ≡ [] = search rules in
    let all : c.loop-row.who.items ≡ rows = sym (append-nil c.loop-row.who.items)
    ∙ subst (λ (l : List Who). c.loop-row.who.items ++ l ≡ rows) left c.loop-row.invariant in
    subst (λ (l : List Who). AreRising (map (λ w. w.0) l)) (sym all)
    (rising-sorted (map (λ w. w.0) rows) c.into_iter-row-iterator.ensures.into_iter_gives.5)
