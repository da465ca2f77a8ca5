use Rattle.std.proofs.Common.{take}
use Rattle.sd_recovered.specs.Others.{seen_in}
use Rattle.sd_recovered.specs.Taking.{MayTake, Taken, stacks_in}
use Rattle.sd_recovered.proofs.taking_back.take_back_log.Given as goal

abbrev pub invariant-loop-loser : goal.invariant-loop-loser
invariant-loop-loser l =
    MayTake l.initial.pages (seen_in l.last) (stacks_in l.log (take l.loser-index l.losers))
    × Taken l.initial.pages l.pages (stacks_in l.log (take l.loser-index l.losers))
