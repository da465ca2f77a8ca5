-- Pages with their changes redone.
use Rattle.std.specs.Prelude.{◌≡◌, ℕ, ◌+◌, ◌<◌, cond, ltb, List, [], ◌∷◌, Option, None, Some, slice_get, take, unwrap_or}
use Rattle.sd_logrec.specs.View.{Rec}
use Rattle.sd_page.specs.Page.{Page}
use Rattle.sd_chain.specs.Pages.{FitAll, FitsPage, replay}
use Rattle.sd_redo.specs.declared.change.Change.{Change}
use Rattle.sd_redo.specs.Changes.{chain_of, redone_of}

-- the record fits the page where it is above the LSN that the page has on disk
abbrev pub FitsAbove : ℕ → Page → Rec → Type 0
FitsAbove disk_lsn page x = disk_lsn < x.lsn → FitsPage page x

-- the changes of page p fit, and are redone where they are above the LSN that it had
pub record IsRedone (p : ℕ) (cs : List Change) (old new : List Page) : Type 0 where
  pub page : Page
  pub before : slice_get old p ≡ Some page
  pub after : slice_get new p ≡ Some (replay page.lsn page (chain_of p cs))
  pub fit : FitAll page.lsn page (chain_of p cs)

-- the LSN of the first record above the floor, with one more record
abbrev pub noted : ℕ → Option ℕ → Rec → Option ℕ
noted floor first x = cond (ltb floor x.lsn) (Some (unwrap_or first x.lsn)) first

-- the LSN of the first record above the floor
abbrev pub first_above : ℕ → List Rec → Option ℕ
first_above floor [] = None
first_above floor (x ∷ xs) = cond (ltb floor x.lsn) (Some x.lsn) (first_above floor xs)

-- of page p the LSN is noted of its first change above the LSN that it had
pub record IsNoted (p : ℕ) (cs : List Change) (old : List Page) (firsts : List (Option ℕ)) : Type 0 where
  pub page : Page
  pub before : slice_get old p ≡ Some page
  pub first : slice_get firsts p ≡ Some (first_above page.lsn (chain_of p cs))

-- a change of page p doesn't fit
pub record IsMisfit (p : ℕ) (cs : List Change) (old : List Page) : Type 0 where
  pub page : Page
  pub before : slice_get old p ≡ Some page
  pub misfit : FitAll page.lsn page (chain_of p cs) → ⊥

-- the changes of page p fit
pub record FitOn (p : ℕ) (cs : List Change) (old : List Page) : Type 0 where
  pub page : Page
  pub before : slice_get old p ≡ Some page
  pub fit : FitAll page.lsn page (chain_of p cs)

-- The first change that doesn't fit the page that it finds stands in the log of this device at this place.
pub record MisfitsAt (cs : List Change) (old : List Page) (dev at : ℕ) : Type 0 where
  pub index : ℕ
  pub change : Change
  pub there : slice_get cs index ≡ Some change
  pub dev_is : dev ≡ change.dev
  pub at_is : at ≡ 130 + change.found.now.place
  pub few : change.page < 1024
  pub front : (p : ℕ) → p < 1024 → FitOn p (take index cs) old
  pub page : Page
  pub before : slice_get old change.page ≡ Some page
  pub misfit : FitsAbove page.lsn (replay page.lsn page (chain_of change.page (take index cs))) (redone_of change) → ⊥
