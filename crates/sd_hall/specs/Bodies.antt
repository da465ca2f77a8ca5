-- The complex of a hall, open or closed; there is none only while a call is under way.
use Rattle.std.specs.Prelude.{◌≡◌, ℕ, ◌<◌, List, Option, None, Some}
use Rattle.sd_base.specs.declared.ids.TxnId.{TxnId}
use Rattle.sd_base.specs.declared.place.Place.{Place}
use Rattle.sd_base.specs.declared.refusal.Refusal.TheVariants as R
use Rattle.sd_model.specs.declared.event.Event.{Event}
use Rattle.sd_model.specs.declared.event.Event.TheVariants.{Ask, Evict, Flush, Give, RecoverStep, Take, Undo}
use Rattle.sd_model.specs.declared.event.Reply.{Reply}
use Rattle.sd_model.specs.declared.event.Reply.TheVariants.{Finished, Refused, Step}
use Rattle.sd_rig.specs.Devices.{DeviceImages}
use Rattle.sd_state.specs.Complexes.{parts}
use Rattle.sd_state.specs.Parts.{Parts, status_at}
use Rattle.sd_state.specs.declared.complex.Complex.{Complex}
use Rattle.sd_world.specs.Serving.{Core, Telling}
use Rattle.sd_fits.specs.Bodies.{ServingHall, fits_body, rig_of}
use Rattle.sd_fits.specs.Resting.{LeavesRest}
use Rattle.sd_fits.specs.declared.body.Body.{Body}
use Rattle.sd_pagelock.specs.Places as places
use Rattle.sd_pagelock.specs.Places.{PageEntry}
use Rattle.sd_recover.specs.Recovering.{AwaitsPage, HasCleared, HasOneLess, IsStandingBy}
use Rattle.sd_recover.specs.Tasks.{IsNext}
use Rattle.sd_recover.specs.Work.{steps_left}
use Rattle.sd_recover.specs.declared.tasks.Task.TheVariants as task
use Rattle.sd_hall.specs.Served.{IsDownThen}

-- it fits the world, open or closed
abbrev pub fits_in : {G : Type 0} → (G → DeviceImages) → (G → ℕ → List ℕ → Type 0) → Option (Body G) → Core → Type 0
fits_in seen leaves None w = ⊥
fits_in seen leaves (Some body) w = fits_body seen leaves body w

-- the call serves the event on it
abbrev pub ServesIn : {G : Type 0} → Telling G → Event → Option Reply → Option (Body G) → Option (Body G) → Type 0
ServesIn tell e answer None new = ⊥
ServesIn tell e answer (Some old) None = ⊥
ServesIn tell e answer (Some old) (Some new) = ServingHall tell e answer old new

-- the complex, where it is open
abbrev pub open_in : {G : Type 0} → Option (Body G) → Option (Complex G)
open_in None = None
open_in (Some (Body.Open c)) = Some c
open_in (Some (Body.Closed rig shape)) = None

-- these are its devices
abbrev pub IsRigIn : {G : Type 0} → G → Option (Body G) → Type 0
IsRigIn rig None = ⊥
IsRigIn rig (Some body) = rig_of body ≡ rig

-- an undo that a device fails has taken its instance down; on a closed complex none is done
abbrev pub IsDownIn : {G : Type 0} → Event → Option Reply → Body G → Type 0
IsDownIn e answer (Body.Open c) = IsDownThen e answer (parts c)
IsDownIn e answer (Body.Closed rig shape) = (t : TxnId) → e ≡ Undo t → answer ≡ Some (Refused R.Failed) → ⊥

abbrev pub IsDownAt : {G : Type 0} → Event → Option Reply → Option (Body G) → Type 0
IsDownAt e answer None = ⊥
IsDownAt e answer (Some body) = IsDownIn e answer body

-- the next task of the recovery of i is an undo
abbrev pub AwaitsUndo : Parts → ℕ → Type 0
AwaitsUndo c i = (t : TxnId) × (p : ℕ) × IsNext c i (task.Undo t p)

-- the complex is open, and so it is
abbrev pub AwaitsIn : {G : Type 0} → ℕ → Option (Body G) → Type 0
AwaitsIn i None = ⊥
AwaitsIn i (Some (Body.Open c)) = AwaitsUndo (parts c) i
AwaitsIn i (Some (Body.Closed rig shape)) = ⊥

-- a step of a recovery wants a page where an undo is next
abbrev pub IsAwaited : {G : Type 0} → Event → Reply → Option (Body G) → Type 0
IsAwaited (RecoverStep i) (Refused (R.NeedPage place)) body = AwaitsIn i body
IsAwaited e r body = Unit {0}

-- the same of an answer
abbrev pub IsAwaitedIn : {G : Type 0} → Event → Option Reply → Option (Body G) → Type 0
IsAwaitedIn e answer body = (i : ℕ) (place : Place) → e ≡ RecoverStep i → answer ≡ Some (Refused (R.NeedPage place))
    → AwaitsIn i body

-- ---- what an event leaves of recoveries, on a complex that is open; on a closed one none runs

-- The recovery of i has done a task: it has settled a device or freed a lost page, or there is one task less in the rows of i; all
-- stand as before, and less is left to do.
pub record HasWorked {G : Type 0} (seen : G → DeviceImages) (i : ℕ) (old new : Complex G) : Type 0 where
  pub cleared : HasCleared (parts old) (parts new)
  pub stepped : HasOneLess i (parts old) (parts new)
  pub stands : (j : ℕ) → status_at (parts new) j ≡ status_at (parts old) j
  pub falls : steps_left (seen new.rig) (parts new) i < steps_left (seen old.rig) (parts old) i

abbrev pub HasWorkedIn : {G : Type 0} → (G → DeviceImages) → ℕ → Option (Body G) → Option (Body G) → Type 0
HasWorkedIn seen i (Some (Body.Open old)) (Some (Body.Open new)) = HasWorked seen i old new
HasWorkedIn seen i old new = Unit {0}

-- nothing was left to do
abbrev pub HasEndedIn : {G : Type 0} → (G → DeviceImages) → ℕ → Option (Body G) → Type 0
HasEndedIn seen i (Some (Body.Open old)) = steps_left (seen old.rig) (parts old) i ≡ 0
HasEndedIn seen i old = Unit {0}

-- It waits for a page that is here: that of the next undo, which its recoverer hasn't alone and can pull. Nothing has changed.
pub record Waits (i : ℕ) (here : PageEntry) (old new : Parts) : Type 0 where
  pub same : new ≡ old
  pub awaits : AwaitsPage old i here
  pub stands : IsStandingBy old here

abbrev pub WaitsIn : {G : Type 0} → ℕ → PageEntry → Option (Body G) → Option (Body G) → Type 0
WaitsIn i here (Some (Body.Open old)) (Some (Body.Open new)) = Waits i here (parts old) (parts new)
WaitsIn i here old new = Unit {0}

-- it goes on
abbrev pub RestsIn : {G : Type 0} → Option (Body G) → Option (Body G) → Type 0
RestsIn (Some (Body.Open old)) (Some (Body.Open new)) = LeavesRest (parts old) (parts new)
RestsIn old new = Unit {0}

-- A step of a recovery that is told is made, the last one is told where nothing is left, and one that wants a page changes nothing; an
-- event by which a page is pulled leaves recoveries under way, whatever its reply.
abbrev pub IsWorked : {G : Type 0} → (G → DeviceImages) → Event → Reply → Option (Body G) → Option (Body G) → Type 0
IsWorked seen (RecoverStep i) Step old new = HasWorkedIn seen i old new
IsWorked seen (RecoverStep i) Finished old new = HasEndedIn seen i old
IsWorked seen (RecoverStep i) (Refused (R.NeedPage place)) old new = WaitsIn i (places.seen place) old new
IsWorked seen (Ask i p mode) r old new = RestsIn old new
IsWorked seen (Give i p) r old new = RestsIn old new
IsWorked seen (Take i p) r old new = RestsIn old new
IsWorked seen (Evict i p) r old new = RestsIn old new
IsWorked seen (Flush i p) r old new = RestsIn old new
IsWorked seen e r old new = Unit {0}

-- the same of an answer
abbrev pub IsWorkedIn : {G : Type 0} → (G → DeviceImages) → Event → Option Reply → Option (Body G) → Option (Body G) → Type 0
IsWorkedIn seen e answer old new = (r : Reply) → answer ≡ Some r → IsWorked seen e r old new
