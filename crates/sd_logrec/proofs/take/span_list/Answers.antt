use Rattle.sd_logrec.specs.Reading.{items_at, span_at}
use Rattle.sd_logrec.proofs.Lists.{goes_on, ends, is_done}
use Rattle.sd_logrec.proofs.take.span_list.Goals as goal

pub returns-in_default : goal.returns-in_default
returns-in_default c = ends span_at c.loop.spans.items c.args.count c.loop.counter c.loop.rest.now (items_at span_at c.args.count c.args.bytes.now) c.loop-test.true c.in_default.ensures c.loop.invariant

pub loop-preserved : goal.loop-preserved
loop-preserved c = rw c.in_ok-push.ensures.items (goes_on span_at c.loop.spans.items c.args.count c.loop.counter c.loop.rest.now c.in-Some.span c.in-Some.behind.now (items_at span_at c.args.count c.args.bytes.now) c.loop-test.true c.in-Some.ensures c.loop.invariant)

pub returns : goal.returns
returns c = is_done span_at c.loop.spans.items c.args.count c.loop.counter c.loop.rest.now (items_at span_at c.args.count c.args.bytes.now) c.loop-test.false c.loop.invariant
