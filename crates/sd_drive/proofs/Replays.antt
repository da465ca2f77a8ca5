-- Lines are driven one after another. It serves the goals of `replay` in driver.rt.
use Rattle.std.proofs.Common.{◌≡◌, ℕ, ◌+◌, ◌<◌, List, [], ◌∷◌, length, drop, get_or, refl, sym, ap, ◌∙◌, subst}
use Rattle.std.specs.Prelude.{Some, slice_get}
use Rattle.std.proofs.lemmas.Option.{slice_get-get_or}
use Rattle.sd_script.specs.declared.line.Line.{Line}
use Rattle.sd_world.specs.Serving.{Telling}
use Rattle.sd_drive.specs.declared.driver.Driver.{Driver}
use Rattle.sd_drive.specs.Driven.{IsIn}
use Rattle.sd_drive.specs.Driving.{IsTold, World, ahead, left_from, works_of}
use Rattle.sd_drive.specs.Reaching.{AreDriven, AtLine, DrivesLine, DrivesSome, IsSame, Reached}
use Rattle.sd_drive.specs.Running.{Start}

drop-all : (lines : List Line) → drop (length lines) lines ≡ []
drop-all [] = refl
drop-all (line ∷ lines) = drop-all lines

-- the line at an index
the-line : (lines : List Line) (n : ℕ) (line : Line) → n < length lines → line ≡ get_or lines n line → slice_get lines n ≡ Some line
the-line lines n line lt is = slice_get-get_or lines n line lt ∙ ap (λ (x : Line). Some x) (sym is)

module _ {G : Type 0} (tell : Telling G) (lines : List Line) (old : Driver G) (d : AreDriven lines old.insts old.pages) where
  -- wherever the driver began, the first n lines are done
  abbrev pub IsAt : Driver G → ℕ → Type 0
  IsAt here n = (start : Start G) (w : World) → Reached tell start lines 0 old w → (w' : World) × Reached tell start lines n here w'

  module _ (here : Driver G) (same : IsSame old here) (n : ℕ) (on : IsAt here n) where
    driven-here : AreDriven lines here.insts here.pages
    driven-here = subst (λ (n : ℕ). AreDriven lines n here.pages) (sym same.0) (subst (λ (n : ℕ). AreDriven lines old.insts n) (sym same.1) d)

    pub at-line : (line : Line) → n < length lines → line ≡ get_or lines n line
        → (start : Start G) × (w : World) × Reached tell start lines 0 old w → AtLine tell here line
    at-line line lt is s =
        let h = on s.0 s.1 s.2 in
        record { start = s.0; world = h.0; lines = lines; n = n; next = the-line lines n line lt is; driven = driven-here; reached = h.1 }

    pub line-done : (line : Line) → n < length lines → line ≡ get_or lines n line → (new : Driver G) → DrivesLine tell here new line → IsAt new (n + 1)
    line-done line lt is new driven start w r =
        let h = on start w r in driven start h.0 lines n (the-line lines n line lt is) driven-here h.1

    pub line-some : (line : Line) → n < length lines → line ≡ get_or lines n line → (new : Driver G) → DrivesSome tell here new line
        → (start : Start G) (w : World) → Reached tell start lines 0 old w → (w' : World) × IsIn tell start new.hall w'
    line-some line lt is new some start w r =
        let h = on start w r in some start h.0 lines n (the-line lines n line lt is) driven-here h.1

  -- each line has its reply
  pub all-told : (here : Driver G) → IsAt here (length lines) → (start : Start G) (w : World) → Reached tell start lines 0 old w
      → (w' : World) × IsIn tell start here.hall w' × IsTold w'.core.scene.state w'.told
  all-told here on start w r =
      let h = on start w r in (
        h.0,
        h.1.there,
        (
          h.1.unfailed,
          ap (λ o. left_from h.0.core.scene.state h.0.told.known o h.0.told.left) h.1.rests ∙ h.1.left
              ∙ ap (λ (ls : List Line). ahead h.0.core.scene.state h.0.told.known (works_of ls)) (drop-all lines),
        ),
      )
