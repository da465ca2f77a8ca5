use Rattle.std.proofs.Common.{sym, ap, ◌∙◌}
use Rattle.std.specs.Ordering.{is_lt}
use Rattle.sd_recovered.proofs.Walking.{below_more, next_here, next_none}
use Rattle.sd_recovered.proofs.relisting.skip_below.Goals as goal

pub loop-next-preserved : goal.loop-next-preserved
loop-next-preserved c =
    below_more c.args.losers.now c.loop-next.next c.args.txn.now c.index-losers-next.result c.loop-next.invariant c.loop-next-test.true
    (sym (ap is_lt c.cmp.ensures) ∙ sym c.is_lt.ensures ∙ c.if-is_lt.true)

pub returns-else-is_lt : goal.returns-else-is_lt
returns-else-is_lt c =
    next_here c.args.losers.now c.loop-next.next c.args.txn.now c.index-losers-next.result c.loop-next.invariant c.loop-next-test.true
    (sym (ap is_lt c.cmp.ensures) ∙ sym c.is_lt.ensures ∙ c.if-is_lt.false)

pub returns-after-loop-next : goal.returns-after-loop-next
returns-after-loop-next c = next_none c.args.losers.now c.loop-next.next c.args.txn.now c.loop-next.invariant c.loop-next-test.false
