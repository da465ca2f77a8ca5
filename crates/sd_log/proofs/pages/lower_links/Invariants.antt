use Rattle.std.proofs.Common.{◌≡◌}
use Rattle.sd_log.specs.PagesInside.{lowered}
use Rattle.sd_log.proofs.Lowered.{written_to}
use Rattle.sd_log.proofs.pages.lower_links.Given as goal

abbrev pub invariant-loop-link : goal.invariant-loop-link
invariant-loop-link l = l.links ≡ written_to (lowered l.gone) l.link-index l.fn.links
