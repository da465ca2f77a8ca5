use Rattle.sd_rig.specs.Devices.{LeavesOnly}
use Rattle.sd_log.specs.Logs.{StandsOn}
use Rattle.sd_bench.proofs.logs.filled.Given as goal

abbrev pub invariant-loop-n : goal.invariant-loop-n
invariant-loop-n g l = StandsOn l.log (g.G.Rig.seen l.rig l.log.inst) × LeavesOnly (g.G.Rig.seen l.rig l.log.inst) (g.G.Rig.leaves l.rig l.log.inst)
