use Rattle.std.specs.Prelude.{map}
use Rattle.sd_log.specs.PagesInside.{chain_of}
use Rattle.sd_log.proofs.Paging.{Walks}
use Rattle.sd_log.proofs.pages.PageChains.of_page.Given as goal

abbrev pub invariant-loop-at : goal.invariant-loop-at
invariant-loop-at l = Walks l.fn.page l.at (map chain_of l.self-inside.links.items) l.found.items

abbrev pub decreases-loop-at : goal.decreases-loop-at
decreases-loop-at l = l.at
