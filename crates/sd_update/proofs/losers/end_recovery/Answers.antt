use Rattle.std.proofs.Common.{◌≡◌, ℕ, ◌-◌, ◌≤◌, ◌∙◌, ap, get_or, sym, subst, arith, slice_set}
use Rattle.std.specs.Prelude.{None, cond, is_some}
use Rattle.std.specs.List.{IsDistinct}
use Rattle.sd_base.specs.Ids.{same_txn}
use Rattle.sd_base.specs.declared.ids.TxnId.{TxnId}
use Rattle.sd_base.specs.declared.ids.Rid.{Rid}
use Rattle.sd_base.specs.declared.place.Status.{Status}
use Rattle.sd_base.specs.declared.place.Status.TheVariants as S
use Rattle.sd_model.specs.Changes.{after_recovery}
use Rattle.sd_reclock.specs.Locks.{LockTable, held}
use Rattle.sd_state.specs.Complexes.{parts}
use Rattle.sd_state.specs.Good.{Good}
use Rattle.sd_state.specs.Parts.{Parts, status_at, txns_at}
use Rattle.sd_state.specs.Recovering.{recovered_from, without_rows}
use Rattle.sd_state.specs.Values.{Pending}
use Rattle.sd_txn.specs.Transactions.{Transactions, ids, txn_at}
use Rattle.sd_state.proofs.Answered.{table-lent}
use Rattle.sd_state.proofs.Items.{item-is}
use Rattle.sd_update.proofs.Finishing.{recovered-good}
use Rattle.sd_update.proofs.losers.end_recovery.Goals as goal

pub returns-clause-good : goal.returns-clause-good
returns-clause-good g c m good =
    let p : Parts = parts c.args.c.now in
    let i : ℕ = c.args.i in
    let seen = g.G.Rig.seen c.args.c.now.rig in
    let leaves = g.G.Rig.leaves c.args.c.now.rig in
    let low : 1 ≤ i = omega (arith, c.get.ensures.value, c.get.ensures.low) in
    let high : i ≤ 8 = omega (arith, c.get.ensures.value, c.get.ensures.high) in
    let place : c.get.result - 1 ≡ i - 1 = ap (λ n. n - 1) c.get.ensures.value in
    let locks : LockTable = c.end_rows.new.locks in
    let then = recovered_from i (txns_at p i) m in
    let read = item-is S.Closed p.statuses i c.index.result.now low high good.shape.statuses
    (c.index.ensures ∙ ap (λ (n : ℕ). get_or p.statuses n c.index.result.now) place) in
    let kept = table-lent p i (c.get.result - 1) c.index-2.result.now low high good.shape.txns place c.index-2.ensures in
    let lent = table-lent p i
    (c.get.result - 1) c.index_mut-2.result.now low high good.shape.txns place c.index_mut-2.ensures.value in
    let once : IsDistinct same_txn (ids (txns_at p i)) = subst (λ (tb : Transactions). IsDistinct same_txn (ids tb))
    (sym kept) c.keeps.ensures.once in
    let rows : c.end_rows.new.table ≡ without_rows (txns_at p i) = c.end_rows.ensures.rows ∙ ap without_rows (sym lent) in
    let status : c.recovered_status.result ≡ after_recovery i (status_at p i) = c.recovered_status.ensures
    ∙ ap (after_recovery i) (sym read) in
    let freed : (t : TxnId) (r : Rid) → held locks t r ≡ cond (is_some (txn_at (txns_at p i) t)) None (held p.locks t r) =
    subst (λ (tb : Transactions). (t : TxnId) (r : Rid) → held locks t r ≡ cond (is_some (txn_at tb t)) None (held p.locks t r))
    (sym lent) c.end_rows.ensures.locks in
    subst (λ (n : ℕ). Good seen leaves Pending.Idle (record p {
      txns = slice_set p.txns n c.end_rows.new.table;
      statuses = slice_set p.statuses n c.recovered_status.result;
      locks = locks;
    }) then) (sym place)
    (subst (λ (tb : Transactions). Good seen leaves Pending.Idle (record p {
      txns = slice_set p.txns (i - 1) tb;
      statuses = slice_set p.statuses (i - 1) c.recovered_status.result;
      locks = locks;
    }) then) (sym rows)
    (subst (λ (s : Status). Good seen leaves Pending.Idle (record p {
      txns = slice_set p.txns (i - 1) (without_rows (txns_at p i));
      statuses = slice_set p.statuses (i - 1) s;
      locks = locks;
    }) then) (sym status)
    (recovered-good i locks seen leaves p m low high good c.requires.may once freed)))
