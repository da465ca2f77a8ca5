use Rattle.std.proofs.Common.{◌≡◌, Option, subst}
use Rattle.std.specs.Prelude.{Contains, Some, ◌↔◌}
use Rattle.std.proofs.lemmas.Result.{IfOk-weaker}
use Rattle.sd_txn.specs.declared.state.TxnState.{TxnState}
use Rattle.sd_moves.proofs.reread.standing.Goals as goal

pub returns-clause-each : goal.returns-clause-each
returns-clause-each c = IfOk-weaker c.in_order.result _ _
    (λ who each t state. subst (λ (o : Option TxnState). Contains who.items (t, state) ↔ (o ≡ Some state)) (c.in_ok-states.ensures t)
    (each t state)) c.in_order.ensures.rows
