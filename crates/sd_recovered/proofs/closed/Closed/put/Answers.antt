use Rattle.std.proofs.Common.{rules, ◌≡◌, List, Some, true, cond, sym, ap, subst, ◌∙◌}
use Rattle.std.specs.Map.{keys_of, lookup}
use Rattle.sd_base.specs.Ids.{same_txn}
use Rattle.sd_recovered.proofs.Rising.{Row, AreBelow, AreRising, look_more, rising_more}
use Rattle.sd_recovered.proofs.closed.Closed.put.Goals as goal

pub invariant_of-self-2 : goal.invariant_of-self-2
invariant_of-self-2 c =
    let rows = c.self.inside.rows.items in
    let yes : c.are_below.result ≡ true = search rules in
    let below : AreBelow c.args.txn.now (keys_of rows) = subst (λ (l : List Row). AreBelow c.args.txn.now (keys_of l)) (sym c.self.view_is) (c.are_below.ensures yes) in
    subst AreRising (sym c.in_ok-push.ensures.items) (rising_more c.args.txn.now c.in-Some.at rows c.self.invariant below)

pub returns-clause-put : goal.returns-clause-put
returns-clause-put c is =
    let rows = c.self.inside.rows.items in
    let t = c.args.txn.now in
    let yes : c.are_below.result ≡ true = search rules in
    let below : AreBelow t (keys_of rows) = subst (λ (l : List Row). AreBelow t (keys_of l)) (sym c.self.view_is) (c.are_below.ensures yes) in (
      c.in-Some.at,
      search rules,
      λ q. ap (λ (l : List Row). lookup (same_txn q) l) c.in_ok-push.ensures.items
          ∙ look_more q t c.in-Some.at rows below
          ∙ ap (λ (l : List Row). cond (same_txn t q) (Some c.in-Some.at) (lookup (same_txn q) l)) c.self.view_is,
    )
