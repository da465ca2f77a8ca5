use Rattle.std.proofs.Common.{take}
use Rattle.sd_oracle.specs.Lists.{inst_in}
use Rattle.sd_oracle.proofs.Lowering.{LowersAll}
use Rattle.sd_oracle.proofs.reopenings.lowered.Given as goal

abbrev pub invariant-loop-txn : goal.invariant-loop-txn
invariant-loop-txn l = LowersAll l.parts (take l.txn-index l.parts) (inst_in l.rest l.fn.insts.items) (inst_in l.rest l.new.items)
