use Rattle.std.proofs.Common.{All}
use Rattle.sd_redo.specs.PageReplays.{CanReplay}
use Rattle.sd_tests_disk.proofs.many_pages.many_pages.Given as goal

abbrev pub invariant-loop-p : goal.invariant-loop-p
invariant-loop-p l = All CanReplay l.pages.items
