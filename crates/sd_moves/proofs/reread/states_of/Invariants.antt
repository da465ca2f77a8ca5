use Rattle.sd_moves.proofs.SettledStanding.{HasFirst}
use Rattle.sd_moves.proofs.reread.states_of.Given as goal

abbrev pub invariant-loop-t : goal.invariant-loop-t
invariant-loop-t l = HasFirst l.table l.t-index l.states.entries
