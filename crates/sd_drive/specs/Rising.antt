-- How far a hall has come in its opening: recoveries, joins, and pools that are emptied.
use Rattle.std.specs.Prelude.{◌≡◌, ◌⊎◌, ℕ, ◌+◌, ◌<◌, ◌≤◌, true, false, List, ◌∷◌, Option, None, Some}
use Rattle.sd_script.specs.declared.line.Line.{Line}
use Rattle.sd_world.specs.Serving.{Core, Telling}
use Rattle.sd_drive.specs.Driven.{IsIn}
use Rattle.sd_drive.specs.Driving.{Cursor, IsUnderWay, Work, World, cursor_in, leavers, untold, works_of}
use Rattle.sd_drive.specs.Pulls.{Pull}
use Rattle.sd_drive.specs.Running.{Start}
use Rattle.sd_drive.specs.declared.opening.Rise.{Rise}

-- before the first entry
abbrev pub before : ℕ → ℕ → List Line → Core → World
before insts pages lines core = record { told = untold insts pages lines; core = core }

-- where a hall rises from
abbrev pub begin_of : {G : Type 0} → Rise G → List Line → Core → G → Start G
begin_of rise lines core rig =
    record { world = before rise.insts rise.pages lines core; rig = rig; table = rise.hall.book.opening; opened = false }

-- The opening stands there, and no page is pulled.
pub record Opens {G : Type 0} (tell : Telling G) (start : Start G) (lines : List Line) (rise : Rise G) (c : Cursor) (w : World) : Type 0 where
  pub there : IsIn tell start rise.hall w
  pub known : w.told.known ≡ (untold rise.insts rise.pages lines).known
  pub left : w.told.left ≡ Work.Opening ∷ works_of lines
  pub at : cursor_in w.core.scene.state w.told.known Work.Opening w.told.cursor ≡ Some c
  pub idle : w.told.pull ≡ Pull.Idle
  pub unfailed : w.told.failed ≡ false

-- The opening is done: the hall is in this world, in which the lines are to come.
pub record HasRisen {G : Type 0} (tell : Telling G) (start : Start G) (lines : List Line) (rise : Rise G) (w : World) : Type 0 where
  pub there : IsIn tell start rise.hall w
  pub known : w.told.known ≡ (untold rise.insts rise.pages lines).known
  pub left : w.told.left ≡ works_of lines
  pub rests : w.told.cursor ≡ None
  pub idle : w.told.pull ≡ Pull.Idle
  pub unfailed : w.told.failed ≡ false

-- it stands there, or, where that is nowhere, it is done, and the lines are to come
abbrev pub OpensOn : {G : Type 0} → Telling G → Start G → List Line → Rise G → Option Cursor → World → Type 0
OpensOn tell start lines rise None w = HasRisen tell start lines rise w
OpensOn tell start lines rise (Some c) w = Opens tell start lines rise c w

-- Instance i joins next, after those below it.
pub record JoinsNext {G : Type 0} (tell : Telling G) (start : Start G) (lines : List Line) (rise : Rise G) (i : ℕ) (w : World) : Type 0 where
  pub opens : Opens tell start lines rise (Cursor.Joins i) w
  pub most : i ≤ rise.insts

-- in some world it does
pub record IsOpening {G : Type 0} (tell : Telling G) (rise : Rise G) (i : ℕ) : Type 0 where
  pub start : Start G
  pub world : World
  pub lines : List Line
  pub joins : JoinsNext tell start lines rise i world

-- all have joined, and pools are to be emptied
abbrev pub AllJoined : {G : Type 0} → Telling G → Start G → List Line → Rise G → World → Type 0
AllJoined tell start lines rise w = OpensOn tell start lines rise (leavers w.core 1 8) w

-- The instances below i have joined: i joins next, or, behind the last one, pools are to be emptied.
abbrev pub HaveJoined : {G : Type 0} → Telling G → Start G → List Line → Rise G → ℕ → World → Type 0
HaveJoined tell start lines rise i w =
    JoinsNext tell start lines rise i w ⊎ ((rise.insts < i) × AllJoined tell start lines rise w)

-- from the join of instance i on, as much came as there was memory for, and the opening is still under way
abbrev pub OpensSome : {G : Type 0} → Telling G → Rise G → Rise G → ℕ → Type 0
OpensSome {G} tell old new i = (start : Start G) (w : World) (lines : List Line) → JoinsNext tell start lines old i w
    → (w' : World) × IsIn tell start new.hall w' × IsUnderWay Work.Opening (works_of lines) w'

-- from there on all joined
abbrev pub JoinsAll : {G : Type 0} → Telling G → Rise G → Rise G → ℕ → Type 0
JoinsAll {G} tell old new i = (start : Start G) (w : World) (lines : List Line) → JoinsNext tell start lines old i w
    → (w' : World) × AllJoined tell start lines new w'

-- instance i joined
abbrev pub Joins : {G : Type 0} → Telling G → Rise G → Rise G → ℕ → Type 0
Joins {G} tell old new i = (start : Start G) (w : World) (lines : List Line) → JoinsNext tell start lines old i w
    → (w' : World) × HaveJoined tell start lines new (i + 1) w'

-- a device failed in a join from that of instance i on
abbrev pub JoinBreaks : {G : Type 0} → Telling G → Rise G → Rise G → ℕ → Type 0
JoinBreaks {G} tell old new i = (start : Start G) (w : World) (lines : List Line) → JoinsNext tell start lines old i w
    → (w' : World) × IsIn tell start new.hall w' × (w'.told.failed ≡ true)

-- how many instances and pages there are is as before
abbrev pub IsSame : {G : Type 0} → Rise G → Rise G → Type 0
IsSame old new = (new.insts ≡ old.insts) × (new.pages ≡ old.pages)
