-- How far a chain is replayed on a page.
use Rattle.std.specs.Prelude.{◌≡◌, ◌<◌, List, ◌∷◌, ◌++◌}
use Rattle.sd_logrec.specs.View.{Rec}
use Rattle.sd_page.specs.Page.{Page}
use Rattle.sd_chain.specs.Pages.{FitAll, FitsPage, replay}

-- The page has what stands in front of the first record that doesn't fit.
pub record IsStopped (old new : Page) (chain : List Rec) : Type 0 where
  pub before : List Rec
  pub next : Rec
  pub behind : List Rec
  pub parts : chain ≡ before ++ next ∷ behind
  pub fits : FitAll old.lsn old before
  pub is : new ≡ replay old.lsn old before
  pub above : old.lsn < next.lsn
  pub misfit : FitsPage new next → ⊥
