use Rattle.std.proofs.Common.{take}
use Rattle.std.proofs.lemmas.List.Folds.{list_any_more}
use Rattle.std.specs.List.{list_any}
use Rattle.sd_base.specs.Ids.{same_txn, same_rid}
use Rattle.sd_reclock.specs.Locks.{held_in}
use Rattle.sd_reclock.proofs.Writes.{gone_in_turn}
use Rattle.sd_reclock.proofs.many.release_each.Goals as goal
use Rattle.sd_base.proofs.Orders.{same_rid-sym}

pub loop-rid-preserved : goal.loop-rid-preserved
loop-rid-preserved c = λ u q. rw (list_any_more (same_rid q) c.args.rids.now c.loop-rid.rid-index c.rid-item.result c.loop-rid-test.true, ← c.rid-item.is, same_rid-sym q c.rid-item.result)
    (gone_in_turn (same_txn c.args.t.now u) (list_any (same_rid q) (take c.loop-rid.rid-index c.args.rids.now)) (same_rid c.rid-item.result q)
    (held_in c.lower.new.records.entries u q) (held_in c.loop-rid.records.entries u q) (held_in c.args.records.now.entries u q) (c.lower.ensures u q) (c.loop-rid.invariant u q))
