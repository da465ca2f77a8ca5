use Rattle.std.proofs.Common.{◌+◌, length}
use Rattle.sd_redo.proofs.Merges.{Pages}
use Rattle.sd_redo.proofs.change.merged_changes.Given as goal

abbrev pub invariant-loop-p : goal.invariant-loop-p
invariant-loop-p l = record { pages : Pages l.logs (length l.logs + 1) l.p l.changes.items }
