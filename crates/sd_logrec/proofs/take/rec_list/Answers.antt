use Rattle.sd_logrec.specs.Reading.{items_at, changed_at}
use Rattle.sd_logrec.proofs.Lists.{goes_on, ends, is_done}
use Rattle.sd_logrec.proofs.take.rec_list.Goals as goal

pub returns-in_default : goal.returns-in_default
returns-in_default c = ends changed_at c.loop.recs.items c.args.count c.loop.counter c.loop.rest.now (items_at changed_at c.args.count c.args.bytes.now) c.loop-test.true c.in_default.ensures c.loop.invariant

pub loop-preserved : goal.loop-preserved
loop-preserved c = rw c.in_ok-push.ensures.items (goes_on changed_at c.loop.recs.items c.args.count c.loop.counter c.loop.rest.now c.in-Some.rec c.in-Some.behind.now (items_at changed_at c.args.count c.args.bytes.now) c.loop-test.true c.in-Some.ensures c.loop.invariant)

pub returns : goal.returns
returns c = is_done changed_at c.loop.recs.items c.args.count c.loop.counter c.loop.rest.now (items_at changed_at c.args.count c.args.bytes.now) c.loop-test.false c.loop.invariant
