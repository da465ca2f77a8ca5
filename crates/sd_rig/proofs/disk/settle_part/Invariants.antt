use Rattle.sd_rig.specs.Disk.{ReadsAsLeft}
use Rattle.sd_rig.proofs.disk.settle_part.Given as goal

abbrev pub invariant-loop-i : goal.invariant-loop-i
invariant-loop-i l = ReadsAsLeft l.pick l.base l.i l.fn.seen l.synced l.pending l.seen
