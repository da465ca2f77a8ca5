use Rattle.std.proofs.Common.{reverse, take}
use Rattle.sd_recovered.specs.Others.{seen_in}
use Rattle.sd_recovered.specs.Taking.{MayTake, Taken, picked}
use Rattle.sd_recovered.proofs.taking_back.take_back_stack.Given as goal

abbrev pub invariant-loop-k : goal.invariant-loop-k
invariant-loop-k l =
    MayTake l.initial.pages (seen_in l.last) (picked l.log (take l.k (reverse l.stack)))
    × Taken l.initial.pages l.pages (picked l.log (take l.k (reverse l.stack)))
