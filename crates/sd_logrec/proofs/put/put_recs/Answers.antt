use Rattle.std.proofs.Common.{length}
use Rattle.sd_logrec.specs.Spelling.{two, changed}
use Rattle.sd_logrec.proofs.Writes.{room_for, one_more}
use Rattle.sd_logrec.proofs.put.put_recs.Goals as goal

pub put_rec-requires : goal.put_rec-requires
put_rec-requires c =
    let below = rw c.items-item-items.ensures at c.loop-item-test.true in
    let is = rw c.items-item-items.ensures at c.item-item.is in
    room_for changed (two (length c.args.recs.now)) c.args.recs.now c.loop-item.item-index c.item-item.result c.args.out.now c.loop-item.out below is c.requires.room c.loop-item.invariant

pub loop-item-preserved : goal.loop-item-preserved
loop-item-preserved c =
    let below = rw c.items-item-items.ensures at c.loop-item-test.true in
    let is = rw c.items-item-items.ensures at c.item-item.is in
    one_more changed (two (length c.args.recs.now)) c.args.recs.now c.loop-item.item-index c.item-item.result c.args.out.now c.loop-item.out c.put_rec.new.out below is c.loop-item.invariant c.put_rec.ensures
