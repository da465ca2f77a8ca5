use Rattle.std.proofs.Common.{◌≡◌, drop}
use Rattle.sd_oracle.specs.Lists.{inst_from, inst_in}
use Rattle.sd_oracle.proofs.standing.instance.Given as goal

abbrev pub invariant-loop-number : goal.invariant-loop-number
invariant-loop-number l = inst_from l.found (drop l.number-index l.insts) l.inst ≡ inst_in l.fn.rest l.insts l.inst
