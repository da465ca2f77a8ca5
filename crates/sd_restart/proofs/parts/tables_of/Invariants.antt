use Rattle.std.proofs.Common.{take}
use Rattle.sd_restart.specs.Reading.{AreTables}
use Rattle.sd_restart.proofs.parts.tables_of.Given as goal

abbrev pub invariant-loop-i : goal.invariant-loop-i
invariant-loop-i l = AreTables (take l.i l.logs) l.tables.items
