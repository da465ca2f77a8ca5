use Rattle.std.proofs.Common.{take}
use Rattle.sd_restart.specs.Reading.{AreEpochs}
use Rattle.sd_restart.proofs.parts.epochs_of.Given as goal

abbrev pub invariant-loop-i : goal.invariant-loop-i
invariant-loop-i l = AreEpochs l.masters (take l.i l.logs) l.epochs.items
