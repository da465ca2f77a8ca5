use Rattle.std.proofs.Common.{◌≡◌, length}
use Rattle.sd_log.specs.Parts.{text_of}
use Rattle.sd_log.proofs.Bodies.{ReadsOn}
use Rattle.sd_log.proofs.reading.read_groups.Given as goal

abbrev pub invariant-loop-rest : goal.invariant-loop-rest
invariant-loop-rest l = ReadsOn l.bytes l.rest l.fn.journal l.journal × (l.text.items ≡ text_of l.journal.groups)

abbrev pub decreases-loop-rest : goal.decreases-loop-rest
decreases-loop-rest l = length l.rest
