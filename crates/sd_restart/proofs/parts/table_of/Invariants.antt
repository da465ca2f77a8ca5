use Rattle.std.proofs.Common.{◌≡◌, take}
use Rattle.sd_restart.proofs.Tables.{retained}
use Rattle.sd_restart.proofs.parts.table_of.Given as goal

abbrev pub invariant-loop-loser : goal.invariant-loop-loser
invariant-loop-loser l = l.who.items ≡ retained (take l.loser-index l.loser-items)
