use Rattle.std.proofs.Common.{length}
use Rattle.sd_logrec.specs.Spelling.{two, span}
use Rattle.sd_logrec.proofs.Writes.{room_for, one_more}
use Rattle.sd_logrec.proofs.put.put_spans.Goals as goal

pub put_span-requires : goal.put_span-requires
put_span-requires c =
    let below = rw c.items-item-items.ensures at c.loop-item-test.true in
    let is = rw c.items-item-items.ensures at c.item-item.is in
    room_for span (two (length c.args.spans.now)) c.args.spans.now c.loop-item.item-index c.item-item.result c.args.out.now c.loop-item.out below is c.requires.room c.loop-item.invariant

pub loop-item-preserved : goal.loop-item-preserved
loop-item-preserved c =
    let below = rw c.items-item-items.ensures at c.loop-item-test.true in
    let is = rw c.items-item-items.ensures at c.item-item.is in
    one_more span (two (length c.args.spans.now)) c.args.spans.now c.loop-item.item-index c.item-item.result c.args.out.now c.loop-item.out c.put_span.new.out below is c.loop-item.invariant c.put_span.ensures
