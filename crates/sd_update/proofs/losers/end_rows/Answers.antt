use Rattle.std.proofs.Common.{◌<◌, List, get_or, length, ap, ◌∙◌, arith}
use Rattle.sd_base.specs.declared.ids.TxnId.{TxnId}
use Rattle.sd_update.proofs.RecoverRows.{one-ended}
use Rattle.sd_update.proofs.losers.end_rows.Goals as goal

pub loop-n-preserved : goal.loop-n-preserved
loop-n-preserved c =
    let t : TxnId = c.index-unresolved-0.result in
    let left = c.loop-n.invariant.left in
    let some : 0 < length c.loop-n.table.unresolved = omega (arith, left, c.loop-n-test.true, c.count-n-end.ensures) in
    one-ended c.loop-n._n c.args.table.now c.loop-n.table c.end.new.self c.args.locks.now c.loop-n.locks c.release_all.new.self t
    c.loop-n.invariant some
    (c.index-unresolved-0.is
    ∙ ap (λ (xs : List TxnId). get_or xs 0 t) c.unresolved.ensures) c.end.ensures.rest c.end.ensures.gone c.end.ensures.others
    c.release_all.ensures.locks c.release_all.ensures.waits
