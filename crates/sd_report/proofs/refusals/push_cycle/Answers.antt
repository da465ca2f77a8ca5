use Rattle.std.proofs.Common.{◌∷◌}
use Rattle.sd_base.specs.declared.ids.TxnId.{TxnId}
use Rattle.sd_report.specs.Names.{name_in}
use Rattle.sd_report.specs.Words.{spelled}
use Rattle.sd_report.proofs.Growing.{text_more}
use Rattle.sd_report.proofs.refusals.push_cycle.Goals as goal

pub loop-txn-preserved : goal.loop-txn-preserved
loop-txn-preserved c =
    text_more (λ (t : TxnId). 32 ∷ spelled (name_in c.args.names.now) t) _ c.loop-txn.txn-index c.txn-item.result
    c.loop-txn-test.true c.txn-item.is c.args.out.now.items c.loop-txn.out.items c.push_txn.new.out.items
    c.loop-txn.invariant c.in_ok-push_txn.ensures
