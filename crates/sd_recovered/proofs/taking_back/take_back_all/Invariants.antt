use Rattle.std.proofs.Common.{take}
use Rattle.sd_recovered.specs.Others.{seen_in}
use Rattle.sd_recovered.specs.Taking.{MayTake, Taken, open_in}
use Rattle.sd_recovered.proofs.taking_back.take_back_all.Given as goal

abbrev pub invariant-loop-j : goal.invariant-loop-j
invariant-loop-j l =
    MayTake l.initial.pages (seen_in l.last) (open_in (take l.j l.logs) (take l.j l.losers))
    × Taken l.initial.pages l.pages (open_in (take l.j l.logs) (take l.j l.losers))
