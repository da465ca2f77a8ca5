-- The recoveries of an opening: how far they are.
use Rattle.std.specs.Prelude.{◌≡◌, ℕ, true, false, List, ◌∷◌}
use Rattle.sd_script.specs.declared.line.Line.{Line}
use Rattle.sd_world.specs.Serving.{Telling}
use Rattle.sd_drive.specs.Driven.{IsIn}
use Rattle.sd_drive.specs.Driving.{IsUnderWay, Work, World, cursor_in, next_down, opens, untold, works_of}
use Rattle.sd_drive.specs.Pulls.{Pull}
use Rattle.sd_drive.specs.Running.{Start}
use Rattle.sd_drive.specs.declared.opening.Rise.{Rise}

-- In the opening the instances below i have been looked at: of the others the lowest that is down recovers next; where none is,
-- instance 1 joins.
pub record RestartsNext {G : Type 0} (tell : Telling G) (start : Start G) (lines : List Line) (rise : Rise G) (i : ℕ) (w : World) : Type 0 where
  pub there : IsIn tell start rise.hall w
  pub known : w.told.known ≡ (untold rise.insts rise.pages lines).known
  pub left : w.told.left ≡ Work.Opening ∷ works_of lines
  pub at : cursor_in w.core.scene.state w.told.known Work.Opening w.told.cursor ≡ opens (next_down w.core.scene.state i)
  pub idle : w.told.pull ≡ Pull.Idle
  pub unfailed : w.told.failed ≡ false

-- in some world they have been
pub record IsRestarting {G : Type 0} (tell : Telling G) (rise : Rise G) (i : ℕ) : Type 0 where
  pub start : Start G
  pub world : World
  pub lines : List Line
  pub restarts : RestartsNext tell start lines rise i world

-- those from i on were looked at, up to j
abbrev pub Restarts : {G : Type 0} → Telling G → Rise G → Rise G → ℕ → ℕ → Type 0
Restarts {G} tell old new i j = (start : Start G) (w : World) (lines : List Line) → RestartsNext tell start lines old i w
    → (w' : World) × RestartsNext tell start lines new j w'

-- as much of it as there was memory for, and the opening is still under way
abbrev pub RestartsSome : {G : Type 0} → Telling G → Rise G → Rise G → ℕ → Type 0
RestartsSome {G} tell old new i = (start : Start G) (w : World) (lines : List Line) → RestartsNext tell start lines old i w
    → (w' : World) × IsIn tell start new.hall w' × IsUnderWay Work.Opening (works_of lines) w'

-- a device failed
abbrev pub RestartBreaks : {G : Type 0} → Telling G → Rise G → Rise G → ℕ → Type 0
RestartBreaks {G} tell old new i = (start : Start G) (w : World) (lines : List Line) → RestartsNext tell start lines old i w
    → (w' : World) × IsIn tell start new.hall w' × (w'.told.failed ≡ true)
