use Rattle.std.proofs.Common.{◌≡◌, ◌≤◌, ◌+◌, length, take}
use Rattle.sd_log.specs.ByPage.{changed_pages}
use Rattle.sd_log.proofs.pages.PageChains.of.Given as goal

abbrev pub invariant-loop-p : goal.invariant-loop-p
invariant-loop-p l = (l.pages.chains ≡ changed_pages (take l.p-index l.placed)) × (length l.placed ≤ l.pages.room + l.p-index)
