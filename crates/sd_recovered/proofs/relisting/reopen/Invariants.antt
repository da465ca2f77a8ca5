use Rattle.sd_recovered.proofs.Stacked.{Reopening}
use Rattle.sd_recovered.proofs.relisting.reopen.Given as goal

abbrev pub invariant-loop-at : goal.invariant-loop-at
invariant-loop-at l = Reopening l.log l.loser l.fn.table l.table l.at-index
