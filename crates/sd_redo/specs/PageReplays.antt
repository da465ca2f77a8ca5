-- The image of a page with a chain that is to be replayed on it.
use Rattle.std.specs.Prelude.{All}
use Rattle.sd_page.specs.Page.{Page}
use Rattle.sd_log.specs.Logs.{AreSpelled, flats}
use Rattle.sd_chain.specs.Pages.{FitAll, replay}
use Rattle.sd_chain.specs.Records.{IsPageRecord}
use Rattle.sd_redo.specs.declared.parallel.PageReplay.{PageReplay}

-- The records change a page, and those that are above the image's LSN fit it one after another.
pub record CanReplay (r : PageReplay) : Type 0 where
  pub spelled : AreSpelled r.chain.items
  pub pages : All (λ x. IsPageRecord x.rec) r.chain.items
  pub joins : FitAll r.image.value.lsn r.image.value (flats r.chain.items)

-- what the chain leaves of the image
abbrev pub replayed : PageReplay → Page
replayed r = replay r.image.value.lsn r.image.value (flats r.chain.items)
