-- A line that recovers the instances that are down, and the recoveries of the opening: how far they are.
use Rattle.std.specs.Prelude.{◌≡◌, ◌⊎◌, ℕ, ◌+◌, Bool, true, false, List, None, Some, drop, slice_get}
use Rattle.sd_model.specs.declared.event.Event.TheVariants as event
use Rattle.sd_script.specs.declared.line.Line.{Line}
use Rattle.sd_world.specs.Serving.{Telling}
use Rattle.sd_drive.specs.declared.driver.Driver.{Driver}
use Rattle.sd_drive.specs.declared.recovery.Owner.{Owner}
use Rattle.sd_drive.specs.Driven.{IsIn}
use Rattle.sd_drive.specs.Driving.{Cursor, World, next_down, works_of}
use Rattle.sd_drive.specs.Operating.{IsDueFor}
use Rattle.sd_drive.specs.Reaching.{KnowsAll, Reached}
use Rattle.sd_drive.specs.Running.{Start}

-- under whom its entries are noted
abbrev pub owner_of : Line → Owner
owner_of line = record { session = line.session; line = line.number; is_opening = false }

-- the n-th line begins the recovery of instance j next
pub record WaitsToRecover {G : Type 0} (tell : Telling G) (start : Start G) (lines : List Line) (n : ℕ) (line : Line) (driver : Driver G) (j : ℕ)
    (w : World) : Type 0 where
  pub there : IsIn tell start driver.hall w
  pub due : IsDueFor line.session line.number (event.RecoverBegin j j) w.told.known line (works_of (drop (n + 1) lines)) (Cursor.Recovers j j None) w
  pub knows : KnowsAll lines (n + 1) driver w.told.known

-- Of the instances from i on, the lowest that is down recovers next; where none is, the line is done.
abbrev pub RecoversOn : {G : Type 0} → Telling G → Start G → List Line → ℕ → Line → Driver G → ℕ → World → Type 0
RecoversOn tell start lines n line driver i w =
    ((j : ℕ) × (next_down w.core.scene.state i ≡ Some j) × WaitsToRecover tell start lines n line driver j w)
    ⊎ ((next_down w.core.scene.state i ≡ None) × Reached tell start lines (n + 1) driver w)

-- in some script the line recovers those from i on
pub record LineRecovers {G : Type 0} (tell : Telling G) (driver : Driver G) (line : Line) (i : ℕ) : Type 0 where
  pub start : Start G
  pub world : World
  pub lines : List Line
  pub n : ℕ
  pub next : slice_get lines n ≡ Some line
  pub recovers : RecoversOn tell start lines n line driver i world

-- Instance i was looked at, and recovered where it was down: the line goes on, or is done.
abbrev pub RecoversNow : {G : Type 0} → Telling G → Driver G → Driver G → Line → ℕ → Bool → Type 0
RecoversNow {G} tell old new line i true =
    (start : Start G) (w : World) (lines : List Line) (n : ℕ) → slice_get lines n ≡ Some line → RecoversOn tell start lines n line old i w
    → (w' : World) × RecoversOn tell start lines n line new (i + 1) w'
RecoversNow {G} tell old new line i false =
    (start : Start G) (w : World) (lines : List Line) (n : ℕ) → slice_get lines n ≡ Some line → RecoversOn tell start lines n line old i w
    → (w' : World) × Reached tell start lines (n + 1) new w'

-- as much of it as there was memory for
abbrev pub RecoversSome : {G : Type 0} → Telling G → Driver G → Driver G → Line → ℕ → Type 0
RecoversSome {G} tell old new line i =
    (start : Start G) (w : World) (lines : List Line) (n : ℕ) → slice_get lines n ≡ Some line → RecoversOn tell start lines n line old i w
    → (w' : World) × IsIn tell start new.hall w'
