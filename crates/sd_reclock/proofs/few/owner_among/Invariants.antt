use Rattle.std.proofs.Common.{drop}
use Rattle.sd_reclock.proofs.Ranging.{IsSeen}
use Rattle.sd_reclock.proofs.few.owner_among.Given as goal

abbrev pub invariant-loop-row : goal.invariant-loop-row
invariant-loop-row l = IsSeen l.p l.rows (drop l.row-index l.rows) l.lowest
