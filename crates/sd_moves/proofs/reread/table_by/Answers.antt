use Rattle.std.proofs.Common.{◌≡◌, List, subst, sym}
use Rattle.std.specs.Prelude.{Contains, IfOk, Some, ◌↔◌}
use Rattle.sd_base.specs.declared.ids.TxnId.{TxnId}
use Rattle.sd_log.specs.declared.placed.Placed.{Placed}
use Rattle.sd_log.specs.Logs.{flats}
use Rattle.sd_txn.specs.declared.state.TxnState.{TxnState}
use Rattle.sd_txn.specs.Transactions.{state_at}
use Rattle.sd_moves.specs.Settling.{IsRelisted}
use Rattle.sd_moves.proofs.SettledStanding.{Who, relisted-if}
use Rattle.sd_moves.proofs.reread.table_by.Goals as goal

pub returns : goal.returns
returns c =
    let who : List Who = c.deref.result.now in
    let each : (t : TxnId) (state : TxnState) → Contains who (t, state) ↔ (state_at c.args.old.now t ≡ Some state) =
    (λ t state. subst (λ (l : List Who). Contains l (t, state) ↔ (state_at c.args.old.now t ≡ Some state))
    (sym c.deref.ensures.value) (c.in_ok-who.ensures.each t state)) in
    let made = c.relist.ensures in
    subst (λ (log : List Placed). IfOk c.relist.result (IsRelisted c.args.i (flats log) c.args.old.now)) c.scan.ensures
    (relisted-if c.args.i (flats c.scan.result.now) who c.args.old.now c.relist.result each made.order made.rows made.fresh made.owes
    made.reserves)
