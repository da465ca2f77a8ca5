use Rattle.std.proofs.Common.{◌-◌, length, Bool, List, refl, sym, ap, ◌∙◌}
use Rattle.std.specs.Map.{lookup, set_value}
use Rattle.sd_base.specs.Ids.{same_txn}
use Rattle.sd_base.specs.declared.ids.TxnId.{TxnId}
use Rattle.sd_txn.specs.Transactions.{Transaction}
use Rattle.sd_txn.specs.contracts.list.TxnList.{the_view}
use Rattle.sd_txn.proofs.Keyed.{tests_of, lookup-last, same_txn-self}
use Rattle.sd_txn.proofs.Placed.{set-at, value-at}
use Rattle.sd_txn.proofs.list.TxnList.get_mut.Goals as goal

pub returns : goal.returns
returns c = (
  (
    refl,
    λ w. (c.get_mut.follows.holds w).0 ∙ ap (λ (test : TxnId → Bool). set_value test c.self.inside.txns.entries w) (tests_of c.args.t.now) ∙ ap (λ (l : List (TxnId × Transaction)). set_value (same_txn c.args.t.now) l w) c.self.view_is,
    ap (λ txns. the_view (record { txns = txns })) c.get_mut.follows.holds-at-none ∙ c.self.view_is,
  ),
  record { writes_back = tt; value = c.get_mut.ensures.value ∙ ap (λ (test : TxnId → Bool). lookup test c.self.inside.txns.entries) (tests_of c.args.t.now) ∙ ap (lookup (same_txn c.args.t.now)) c.self.view_is },
)

pub returns-then-is_newest : goal.returns-then-is_newest
returns-then-is_newest c =
    let es = c.self.inside.txns.entries in
    let t = c.args.t.now in
    let once = c.is_newest.ensures.once in
    let last = c.is_newest.ensures.last c.if-is_newest.true in (
      (
        refl,
        λ w. set-at t last.0 w es (length es - 1) once last.1 ∙ ap (λ (l : List (TxnId × Transaction)). set_value (same_txn t) l w) c.self.view_is,
        c.self.view_is,
      ),
      record { writes_back = tt; value = c.last_mut.ensures.value ∙ value-at t last.0 es (length es - 1) last.1 ∙ sym (lookup-last t t last.0 es once last.1 (same_txn-self t)) ∙ ap (lookup (same_txn t)) c.self.view_is },
    )
