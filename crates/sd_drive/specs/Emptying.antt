-- Behind the joins of the opening, where the pools of instances that aren't up are emptied: from one place of the opening to another.
use Rattle.std.specs.Prelude.{◌≡◌, ℕ, ◌-◌, true, false, List, Option, Some, is_some}
use Rattle.sd_model.specs.State.{State}
use Rattle.sd_model.specs.declared.event.Event.{Event}
use Rattle.sd_model.specs.declared.event.Reply.{Reply}
use Rattle.sd_script.specs.declared.line.Line.{Line}
use Rattle.sd_world.specs.Serving.{Core, Telling}
use Rattle.sd_drive.specs.declared.opening.Rise.{Rise}
use Rattle.sd_drive.specs.Driven.{IsIn}
use Rattle.sd_drive.specs.Driving.{Cursor, IsUnderWay, Work, World, empties, event_at, goes_on, leavers, works_of}
use Rattle.sd_drive.specs.Pulls.{puller}
use Rattle.sd_drive.specs.Rising.{Opens, OpensOn}
use Rattle.sd_drive.specs.Running.{Start}

-- ---- places of the opening, by the core

-- the pools of the instances from i on are to be emptied
abbrev pub pools_from : ℕ → Core → Option Cursor
pools_from i w = leavers w i (9 - i)

-- the pool of i is, from page p on, and then those of the instances behind it
abbrev pub copies_from : ℕ → ℕ → Core → Option Cursor
copies_from i p w = empties w i p

abbrev pub stands_at : Cursor → Core → Option Cursor
stands_at c w = Some c

-- ---- from place to place

-- in some world it is there
pub record OpensAt {G : Type 0} (tell : Telling G) (rise : Rise G) (place : Core → Option Cursor) : Type 0 where
  pub start : Start G
  pub world : World
  pub lines : List Line
  pub on : OpensOn tell start lines rise (place world.core) world

-- wherever it was there, it comes to the next place
abbrev pub OpensTo : {G : Type 0} → Telling G → Rise G → Rise G → (Core → Option Cursor) → (Core → Option Cursor) → Type 0
OpensTo {G} tell old new place next = (start : Start G) (w : World) (lines : List Line) → OpensOn tell start lines old (place w.core) w
    → (w' : World) × OpensOn tell start lines new (next w'.core) w'

-- as much of it came as there was memory for, and the opening is still under way
abbrev pub StopsIn : {G : Type 0} → Telling G → Rise G → Rise G → (Core → Option Cursor) → Type 0
StopsIn {G} tell old new place = (start : Start G) (w : World) (lines : List Line) → OpensOn tell start lines old (place w.core) w
    → (w' : World) × IsIn tell start new.hall w' × IsUnderWay Work.Opening (works_of lines) w'

-- a device failed
abbrev pub BreaksIn : {G : Type 0} → Telling G → Rise G → Rise G → (Core → Option Cursor) → Type 0
BreaksIn {G} tell old new place = (start : Start G) (w : World) (lines : List Line) → OpensOn tell start lines old (place w.core) w
    → (w' : World) × IsIn tell start new.hall w' × (w'.told.failed ≡ true)

-- ---- one event

-- no page is pulled for it
abbrev pub IsAlone : Event → Type 0
IsAlone e = (m : State) → is_some (puller m e) ≡ false

-- wherever it was due it came, with this reply, and the opening goes on behind it
abbrev pub OpensBy : {G : Type 0} → Telling G → Rise G → Rise G → Event → Reply → Type 0
OpensBy {G} tell old new e r = (start : Start G) (w : World) (lines : List Line) (c : Cursor) → Opens tell start lines old c w
    → event_at w.told.known Work.Opening c ≡ Some e
    → (w' : World) × OpensOn tell start lines new (goes_on w'.core w.told.known Work.Opening c r) w'

-- a device failed in it
abbrev pub BreaksBy : {G : Type 0} → Telling G → Rise G → Rise G → Event → Type 0
BreaksBy {G} tell old new e = (start : Start G) (w : World) (lines : List Line) (c : Cursor) → Opens tell start lines old c w
    → event_at w.told.known Work.Opening c ≡ Some e
    → (w' : World) × IsIn tell start new.hall w' × (w'.told.failed ≡ true)
