-- A call of an event on a complex: what it promises, in one word.
use Rattle.std.specs.Prelude.{ℕ, List, Option}
use Rattle.sd_rig.specs.Devices.{DeviceImages}
use Rattle.sd_model.specs.State.{State}
use Rattle.sd_model.specs.declared.event.Event.{Event}
use Rattle.sd_model.specs.declared.event.Reply.{Reply}
use Rattle.sd_world.specs.Serving.{Core, Served, Telling}
use Rattle.sd_state.specs.Complexes.{parts}
use Rattle.sd_state.specs.Images.{Stands}
use Rattle.sd_state.specs.Values.{Pending}
use Rattle.sd_state.specs.declared.complex.Complex.{Complex}
use Rattle.sd_fits.specs.Fits.{Fits}

-- between two events an image stands for a state with nothing under way
abbrev pub stands_for : DeviceImages → State → Type 0
stands_for img m = Stands m Pending.Idle img

-- the complex fits the world, by what its devices read and a crash may leave of them
abbrev pub fits_by : {G : Type 0} → (G → DeviceImages) → (G → ℕ → List ℕ → Type 0) → Complex G → Core → Type 0
fits_by seen leaves c w = Fits (seen c.rig) (leaves c.rig) (parts c) w

-- The call serves the event on the complex, and answers so.
abbrev pub Serving : {G : Type 0} → Telling G → Event → Option Reply → Complex G → Complex G → Type 0
Serving {G} tell e answer old new = Served {C = Complex G} tell stands_for (λ c. c.rig) (fits_by tell.seen tell.leaves) e answer old new
