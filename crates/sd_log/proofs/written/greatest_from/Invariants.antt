use Rattle.std.proofs.Common.{◌≡◌, max, drop}
use Rattle.sd_log.specs.WrittenStates.{greatest_in}
use Rattle.sd_log.proofs.written.greatest_from.Given as goal

abbrev pub invariant-loop-index : goal.invariant-loop-index
invariant-loop-index l = max l.greatest (greatest_in (drop l.index l.records.entries)) ≡ greatest_in (drop l.from l.records.entries)
