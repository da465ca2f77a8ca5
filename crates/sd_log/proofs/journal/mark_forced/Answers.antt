use Rattle.std.proofs.Common.{arith}
use Rattle.sd_log.proofs.Parted.{tells}
use Rattle.sd_log.proofs.journal.mark_forced.Goals as goal

pub loop-i-preserved : goal.loop-i-preserved
loop-i-preserved c = tells c.args.from c.loop-i.i c.args.placed.now.items c.loop-i.placed.items c.index_mut-p.result.now (omega arith) (omega (arith, c.args.placed.now.ok.0)) c.loop-i.invariant c.index_mut-p.ensures.value
