use Rattle.std.proofs.Common.{◌≡◌, ℕ, ◌-◌, ◌≤◌, ap, sym, subst, arith, slice_set}
use Rattle.std.specs.List.{IsDistinct}
use Rattle.sd_base.specs.Ids.{same_txn}
use Rattle.sd_base.specs.declared.ids.TxnId.{TxnId}
use Rattle.sd_state.specs.Complexes.{parts}
use Rattle.sd_state.specs.Good.{Good}
use Rattle.sd_state.specs.Parts.{Parts, txns_at}
use Rattle.sd_state.specs.Recovering.{decided_as}
use Rattle.sd_state.specs.Values.{Pending}
use Rattle.sd_chain.specs.Records.{home}
use Rattle.sd_txn.specs.Transactions.{SameOrder, Transactions, ids}
use Rattle.sd_txn.specs.declared.state.TxnState.{TxnState}
use Rattle.sd_state.proofs.Answered.{table-lent, table-set}
use Rattle.sd_update.proofs.Deciding.{decided-good, has-row, replaces-state}
use Rattle.sd_update.proofs.losers.decide.Goals as goal

pub returns-clause-good : goal.returns-clause-good
returns-clause-good g c m good =
    let p : Parts = parts c.args.c.now in
    let t : TxnId = c.args.t.now in
    let i : ℕ = home t in
    let low : 1 ≤ i = omega (arith, c.get.ensures.value, c.get.ensures.low) in
    let high : i ≤ 8 = omega (arith, c.get.ensures.value, c.get.ensures.high) in
    let place : c.get.result - 1 ≡ i - 1 = ap (λ n. n - 1) c.get.ensures.value in
    let table : Transactions = c.set.new.self in
    let seen = g.G.Rig.seen c.args.c.now.rig in
    let leaves = g.G.Rig.leaves c.args.c.now.rig in
    let row = has-row (txns_at p i) t TxnState.Doubt c.requires.doubt in
    let lent = table-lent p i
    (c.get.result - 1) c.index_mut.result.now low high good.shape.txns place c.index_mut.ensures.value in
    let read = table-lent p i (c.get.result - 1) c.index.result.now low high good.shape.txns place c.index.ensures in
    let once : IsDistinct same_txn (ids (txns_at p i)) = subst (λ (tb : Transactions). IsDistinct same_txn (ids tb))
    (sym read) c.keeps.ensures.once in
    subst (λ (n : ℕ). Good seen leaves Pending.Idle (record p { txns = slice_set p.txns n table }) m) (sym place)
    (decided-good t row.x c.args.committed table seen leaves p m low high good c.requires.recovering.0 c.requires.recovering.1
    c.requires.settled c.requires.no_tail c.requires.kept row.state once
    (replaces-state (txns_at p i) c.index_mut.result.now table t row.x c.decided_state.result
    (decided_as c.args.committed) lent row.row
    c.set.ensures.changed c.decided_state.ensures c.set.ensures.others c.set.ensures.order))

pub returns-clause-order : goal.returns-clause-order
returns-clause-order g c =
    let p : Parts = parts c.args.c.now in
    let i : ℕ = home c.args.t.now in
    let low : 1 ≤ i = omega (arith, c.get.ensures.value, c.get.ensures.low) in
    let high : i ≤ 8 = omega (arith, c.get.ensures.value, c.get.ensures.high) in
    let eight = c.requires.good.1.shape.txns in
    let place : c.get.result - 1 ≡ i - 1 = ap (λ n. n - 1) c.get.ensures.value in
    let lent = table-lent p i (c.get.result - 1) c.index_mut.result.now low high eight place c.index_mut.ensures.value in
    subst (SameOrder (txns_at p i)) (sym (table-set p i (c.get.result - 1) c.set.new.self low high eight place))
    (subst (λ (tb : Transactions). SameOrder tb c.set.new.self) (sym lent) c.set.ensures.order)
