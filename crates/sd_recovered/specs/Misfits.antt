-- Where pages can't be read: at a twin, or at the record that comes first in its page's chain and doesn't fit.
use Rattle.std.specs.Prelude.{◌≡◌, ◌⊎◌, ℕ, ◌+◌, ◌<◌, List, ◌∷◌, ◌++◌}
use Rattle.sd_logrec.specs.View.{Rec, flat}
use Rattle.sd_log.specs.declared.placed.Placed.{Placed}
use Rattle.sd_log.specs.Logs.{LogState, lsn_of}
use Rattle.sd_chain.specs.Checks.{TwinIsSound}
use Rattle.sd_chain.specs.Faults.{FailsInTwin}
use Rattle.sd_chain.specs.Storage.{Storage, chain}
use Rattle.sd_chain.specs.Pages.{FitAll, FitsPage, replay}
use Rattle.sd_redo.specs.Changes.{LsnsRise, StandsIn}
use Rattle.sd_recovered.specs.ReadPages.{ChainFits, image_of}

-- The first record of the page's chain that doesn't fit the page that it finds stands in this device's log at this place.
pub record ChainMisfit (img : Storage) (logs : List LogState) (p dev at : ℕ) : Type 0 where
  pub found : Placed
  pub stands : StandsIn logs dev found
  pub at_is : at ≡ 130 + found.place
  pub before : List Rec
  pub behind : List Rec
  pub parts : chain img p ≡ before ++ flat found.rec ∷ behind
  pub fits : FitAll (img.disk p).lsn (img.disk p) before
  pub above : (img.disk p).lsn < lsn_of found
  pub misfit : FitsPage (replay (img.disk p).lsn (img.disk p) before) (flat found.rec) → ⊥

-- Of the pages the first whose chain doesn't fit.
pub record FirstMisfit (img : Storage) (logs : List LogState) (dev at : ℕ) : Type 0 where
  pub page : ℕ
  pub few : page < 1024
  pub before : (p : ℕ) → p < page → ChainFits img p
  pub here : ChainMisfit img logs page dev at

-- the first twin that isn't sound, or with all sound the first misfit, of logs whose LSNs rise
abbrev pub FailsAt : List ℕ → List LogState → ℕ → ℕ → Type 0
FailsAt bytes logs dev at =
    FailsInTwin (λ _. bytes) dev at
    ⊎ (((p : ℕ) → p < 1024 → TwinIsSound p bytes) × (LsnsRise logs → FirstMisfit (image_of bytes logs) logs dev at))
