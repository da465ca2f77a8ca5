-- A complex that is open or closed, and a call of an event on it: what it promises, in one word.
use Rattle.std.specs.Prelude.{◌≡◌, ℕ, List, Option}
use Rattle.sd_rig.specs.Devices.{DeviceImages, Elapses, Leaves, Span}
use Rattle.sd_model.specs.declared.event.Event.{Event}
use Rattle.sd_model.specs.declared.event.Event.TheVariants.{Arm, FailAll, Reopen}
use Rattle.sd_model.specs.declared.event.Reply.{Reply}
use Rattle.sd_world.specs.Serving.{Core, Served, Telling}
use Rattle.sd_fits.specs.Closed.{FitsClosed}
use Rattle.sd_fits.specs.Opened.{NoneMore}
use Rattle.sd_fits.specs.Serving.{fits_by, stands_for}
use Rattle.sd_fits.specs.declared.body.Body.{Body}

-- the devices
abbrev pub rig_of : {G : Type 0} → Body G → G
rig_of (Body.Open c) = c.rig
rig_of (Body.Closed rig shape) = rig

-- The devices of a closed complex fit the world, whose pools have as many frames as it opens again with.
pub record FitsShut (leaves : ℕ → List ℕ → Type 0) (frames : ℕ) (w : Core) : Type 0 where
  pub fits : FitsClosed leaves w
  pub frames_are : w.pages.frames ≡ frames

-- the complex fits the world, open or closed
abbrev pub fits_body : {G : Type 0} → (G → DeviceImages) → (G → ℕ → List ℕ → Type 0) → Body G → Core → Type 0
fits_body seen leaves (Body.Open c) w = fits_by seen leaves c w
fits_body seen leaves (Body.Closed rig shape) w = FitsShut (leaves rig) shape.frames w

-- The call serves the event on it, and answers so.
abbrev pub ServingHall : {G : Type 0} → Telling G → Event → Option Reply → Body G → Body G → Type 0
ServingHall {G} tell e answer old new =
    Served {C = Body G} {D = G} tell stands_for rig_of (fits_body tell.seen tell.leaves) e answer old new

-- an event that a closed complex refuses
abbrev pub IsShutOut : Event → Type 0
IsShutOut (FailAll pick) = ⊥
IsShutOut (Arm trouble) = ⊥
IsShutOut Reopen = ⊥
IsShutOut e = Unit {0}

-- Calls on devices alone: a crash leaves nothing that it might not leave before, and no other since.
pub record LeavesNoMore {G : Type 0} (tell : Telling G) (old new : G) : Type 0 where
  pub less : NoneMore (tell.leaves old) (tell.leaves new)
  pub time : Elapses (tell.moment old) (tell.moment new) (tell.since old) (tell.since new)
  pub span : Span (tell.moment old) (tell.since new) (Leaves (tell.leaves old))
