-- The recovery of an instance, by another in a line or by itself in a line or in the opening: what a begin, a step, and all of it come to
-- in the hall.
use Rattle.std.specs.Prelude.{◌≡◌, ℕ, Bool, true, false, List, Option, None, Some, cond, is_some}
use Rattle.sd_base.specs.declared.place.Mode.TheVariants as modes
use Rattle.sd_base.specs.declared.place.Status.TheVariants as S
use Rattle.sd_base.specs.declared.refusal.Refusal.TheVariants as R
use Rattle.sd_model.specs.declared.event.Event.{Event}
use Rattle.sd_model.specs.declared.event.Event.TheVariants as event
use Rattle.sd_model.specs.declared.event.Reply.{Reply}
use Rattle.sd_model.specs.declared.event.Reply.TheVariants as reply
use Rattle.sd_world.specs.PageCauses.{IsNeededPage}
use Rattle.sd_world.specs.Serving.{Core, Telling}
use Rattle.sd_fits.specs.declared.body.Body.{Body}
use Rattle.sd_hall.specs.Bodies.{AwaitsIn, fits_in}
use Rattle.sd_hall.specs.declared.hall.Hall.{Hall}
use Rattle.sd_drive.specs.declared.recovery.Next.{Next}
use Rattle.sd_drive.specs.declared.recovery.Next.TheVariants as nexts
use Rattle.sd_drive.specs.declared.recovery.Outcome.{Outcome}
use Rattle.sd_drive.specs.declared.recovery.Outcome.TheVariants as outcomes
use Rattle.sd_drive.specs.declared.recovery.Owner.{Owner}
use Rattle.sd_drive.specs.Driven.{IsIn}
use Rattle.sd_drive.specs.Driving.{Cursor, IsUnderWay, Work, World, behind, done, followed, goes_further, number_of, one_less, session_of, stays}
use Rattle.sd_drive.specs.Pulls.{Pull}
use Rattle.sd_drive.specs.Running.{Start}
use Rattle.sd_drive.specs.Standing.{EventIsDue, Pulling}

abbrev pub is_opening : Work → Bool
is_opening Work.Opening = true
is_opening (Work.Do line) = false

-- the event is due in this world, for a work of this owner
pub record IsDueOf (of : Owner) (work : Work) (rest : List Work) (c : Cursor) (e : Event) (w : World) : Type 0 where
  pub stands : EventIsDue w.told.known work rest c e w
  pub session : of.session ≡ session_of work
  pub line : of.line ≡ number_of work
  pub opening : of.is_opening ≡ is_opening work

-- in some world it is
pub record DueOf {G : Type 0} (tell : Telling G) (hall : Hall G) (of : Owner) (c : Cursor) (e : Event) : Type 0 where
  pub start : Start G
  pub world : World
  pub work : Work
  pub rest : List Work
  pub there : IsIn tell start hall world
  pub due : IsDueOf of work rest c e world

-- as much of it came as there was memory for, and the work is still under way
abbrev pub DoesSome : {G : Type 0} → Telling G → Hall G → Hall G → Owner → Cursor → Event → Type 0
DoesSome {G} tell old new of c e =
    (start : Start G) (w : World) (work : Work) (rest : List Work) → IsIn tell start old w → IsDueOf of work rest c e w
    → (w' : World) × IsIn tell start new w' × IsUnderWay work rest w'

-- ---- how a recovery ends

-- what a refusal makes of a recovery: the opening ends where a device failed
abbrev pub refused_as : Reply → Bool → Outcome
refused_as (reply.Refused R.Failed) true = outcomes.Broken
refused_as r opens = outcomes.Refused

-- of at most so many steps one was done
abbrev pub behind_step : Option ℕ → Next
behind_step most = cond {A = Next} (goes_further most) (nexts.Again (one_less most)) (nexts.Over outcomes.Part)

-- how the reply to one of at most so many steps leaves the recovery
abbrev pub ending_as : Reply → Bool → Option ℕ → Next
ending_as reply.Step opens most = behind_step most
ending_as reply.Finished opens most = nexts.Over outcomes.Ended
ending_as r opens most = nexts.Over (refused_as r opens)

-- The recovery of i came to its end, or was refused, and the work went on behind it.
pub record GoneOn {G : Type 0} (tell : Telling G) (new : Hall G) (work : Work) (rest : List Work) (i : ℕ) (ended : Bool) (start : Start G)
    (w : World) : Type 0 where
  pub reply : Reply
  pub core : Core
  pub there : IsIn tell start new (record { told = followed w.told work rest reply (behind core.scene.state work i ended); core = core })

-- As many steps were done as the work does at most, and it is done with them.
pub record IsParted {G : Type 0} (tell : Telling G) (new : Hall G) (work : Work) (rest : List Work) (most : Option ℕ) (start : Start G)
    (w : World) : Type 0 where
  pub bounded : is_some most ≡ true
  pub core : Core
  pub there : IsIn tell start new (record { told = done w.told work rest reply.Step; core = core })

-- a device failed in the opening
pub record IsBroken {G : Type 0} (tell : Telling G) (new : Hall G) (of : Owner) (start : Start G) : Type 0 where
  pub opening : of.is_opening ≡ true
  pub world : World
  pub there : IsIn tell start new world
  pub failed : world.told.failed ≡ true

-- the recovery of i ended so, in at most so many steps
abbrev pub EndsAs : {G : Type 0} → Telling G → Hall G → Owner → Work → List Work → ℕ → Option ℕ → Start G → World → Outcome → Type 0
EndsAs tell new of work rest i most start w outcomes.Ended = GoneOn tell new work rest i true start w
EndsAs tell new of work rest i most start w outcomes.Refused = GoneOn tell new work rest i false start w
EndsAs tell new of work rest i most start w outcomes.Part = IsParted tell new work rest most start w
EndsAs tell new of work rest i most start w outcomes.Broken = IsBroken tell new of start

-- the work stands at the steps of the recovery of i, at most so many of them, and no page is pulled
abbrev pub at_steps : World → Work → List Work → ℕ → Option ℕ → Core → World
at_steps w work rest i most core = record { told = stays w.told work rest (Cursor.Steps i most) Pull.Idle; core = core }

-- Of at most so many steps none or one was done: a step is due, of those that are left, or the recovery ended so.
abbrev pub GoesAs : {G : Type 0} → Telling G → Hall G → Owner → Work → List Work → ℕ → Option ℕ → Start G → World → Next → Type 0
GoesAs tell new of work rest i most start w (nexts.Again left) =
    (is_some left ≡ is_some most) × (core : Core) × IsIn tell start new (at_steps w work rest i left core)
GoesAs tell new of work rest i most start w (nexts.Over how) = EndsAs tell new of work rest i most start w how

-- ---- wherever it was due

abbrev pub StepsAs : {G : Type 0} → Telling G → Hall G → Hall G → Owner → ℕ → Option ℕ → Next → Type 0
StepsAs {G} tell old new of i most next =
    (start : Start G) (w : World) (work : Work) (rest : List Work) → IsIn tell start old w
    → IsDueOf of work rest (Cursor.Steps i most) (event.RecoverStep i) w → GoesAs tell new of work rest i most start w next

-- the steps led to this end
abbrev pub StepsTo : {G : Type 0} → Telling G → Hall G → Hall G → Owner → ℕ → Option ℕ → Outcome → Type 0
StepsTo tell old new of i most how = StepsAs tell old new of i most (nexts.Over how)

-- so did the recovery of i from its begin by `by` on
abbrev pub RecoversTo : {G : Type 0} → Telling G → Hall G → Hall G → Owner → ℕ → ℕ → Option ℕ → Outcome → Type 0
RecoversTo {G} tell old new of i by most how =
    (start : Start G) (w : World) (work : Work) (rest : List Work) → IsIn tell start old w
    → IsDueOf of work rest (Cursor.Recovers i by most) (event.RecoverBegin i by) w → EndsAs tell new of work rest i most start w how

-- ---- a step that wants a page

-- In the world `at` a step of the recovery of i was due, one of at most so many, and wanted page p, which is pulled for `by` since.
pub record IsWanted (of : Owner) (i : ℕ) (most : Option ℕ) (by p : ℕ) (work : Work) (rest : List Work) (at here : World) : Type 0 where
  pub due : IsDueOf of work rest (Cursor.Steps i most) (event.RecoverStep i) at
  pub pulls : Pulling at work rest (Cursor.Steps i most) (event.RecoverStep i) (record { inst = by; mode = modes.Excl }) (Pull.Asks p) here

-- in some world it is
pub record WantsOf {G : Type 0} (tell : Telling G) (hall : Hall G) (of : Owner) (i : ℕ) (most : Option ℕ) (by p : ℕ) : Type 0 where
  pub start : Start G
  pub at : World
  pub world : World
  pub work : Work
  pub rest : List Work
  pub there : IsIn tell start hall world
  pub wanted : IsWanted of i most by p work rest at world

-- behind the pull a step is due again, or was done, and the recovery ended so
abbrev pub PulledAs : {G : Type 0} → Telling G → Hall G → Hall G → Owner → ℕ → Option ℕ → ℕ → ℕ → Next → Type 0
PulledAs {G} tell old new of i most by p next =
    (start : Start G) (at here : World) (work : Work) (rest : List Work) → IsIn tell start old here
    → IsWanted of i most by p work rest at here → GoesAs tell new of work rest i most start at next

-- as much of it came as there was memory for
abbrev pub PulledSome : {G : Type 0} → Telling G → Hall G → Hall G → Owner → ℕ → Option ℕ → ℕ → ℕ → Type 0
PulledSome {G} tell old new of i most by p =
    (start : Start G) (at here : World) (work : Work) (rest : List Work) → IsIn tell start old here
    → IsWanted of i most by p work rest at here → (w' : World) × IsIn tell start new w' × IsUnderWay work rest w'

-- Who recovers i, and the page of the record that its recovery undoes next; none where no undo is next, or nobody recovers i.
abbrev pub Waits : {G : Type 0} → Telling G → Option (Body G) → ℕ → Option (ℕ × ℕ) → Type 0
Waits tell body i (Some x) = (w : Core) → fits_in tell.seen tell.leaves body w
    → ((w.scene.state.inst i).status ≡ S.Recovering x.0) × IsNeededPage w.scene.state i x.1
Waits tell body i None = (w : Core) (by : ℕ) → fits_in tell.seen tell.leaves body w → AwaitsIn i body
    → (w.scene.state.inst i).status ≡ S.Recovering by → ⊥
