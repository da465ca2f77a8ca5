use Rattle.std.proofs.Common.{◌≡◌, ℕ, take}
use Rattle.sd_base.specs.declared.place.Status.{Status}
use Rattle.sd_oracle.specs.Lists.{unjoined, inst_from}
use Rattle.sd_oracle.specs.Wholes.{turned_status, turned_inst}
use Rattle.sd_oracle.proofs.wholes.turned_insts.Given as goal

abbrev pub invariant-loop-number : goal.invariant-loop-number
invariant-loop-number l = (rest : Status) (i : ℕ) → inst_from (unjoined (turned_status l.turn rest)) l.all.items i ≡ turned_inst l.turn (inst_from (unjoined rest) (take l.number-index l.insts) i)
