use Rattle.std.proofs.Common.{◌≡◌, max, drop}
use Rattle.sd_log.specs.Marks.{greatest_lsn}
use Rattle.sd_log.proofs.journal.greatest_lsn.Given as goal

abbrev pub invariant-loop-p : goal.invariant-loop-p
invariant-loop-p l = max l.greatest (greatest_lsn (drop l.p-index l.placed)) ≡ greatest_lsn l.placed
