-- A call that leaves the parts of a complex and its devices as they are. For the calls of events that are refused.
use Rattle.std.proofs.Common.{◌≡◌, sym, subst}
use Rattle.sd_rig.specs.Devices.{DeviceImages, Leaves}
use Rattle.sd_model.specs.declared.event.Event.{Event}
use Rattle.sd_model.specs.declared.event.Reply.{Reply}
use Rattle.sd_world.specs.Bounds.{TellsNoPlace}
use Rattle.sd_world.specs.Serving.{Core, Passes, Serves, Spares, Telling, Turns}
use Rattle.sd_state.specs.Complexes.{parts}
use Rattle.sd_state.specs.declared.complex.Complex.{Complex}
use Rattle.sd_fits.specs.Fits.{Fits}
use Rattle.sd_fits.specs.Serving.{fits_by, stands_for}
use Rattle.sd_fits.proofs.Served.{fits-left, nothing-fits, passed, still-passes, still-serves}

module _ {G : Type 0} (tell : Telling G) (old new : Complex G) (same : new.rig ≡ old.rig) where
  -- what the new parts fit by the old devices they fit by the new ones
  pub moved-fits : (w : Core) → Fits (tell.seen old.rig) (tell.leaves old.rig) (parts new) w → fits_by tell.seen tell.leaves new w
  moved-fits w f = subst (λ d. Fits (tell.seen d) (tell.leaves d) (parts new) w) (sym same) f

  module _ (stays : parts new ≡ parts old)
      (now : (img : DeviceImages) → tell.since old.rig (tell.moment old.rig) img → Leaves (tell.leaves old.rig) img)
      (w : Core) (f : fits_by tell.seen tell.leaves old w) where
    kept-fits : (w' : Core) → fits_by tell.seen tell.leaves old w' → fits_by tell.seen tell.leaves new w'
    kept-fits w' f' = moved-fits w' (subst (λ c. Fits (tell.seen old.rig) (tell.leaves old.rig) c w') (sym stays) f')

    -- the event turns the world so, and nothing changes but its sums
    pub kept-serves : (e : Event) (r : Reply) → TellsNoPlace r → Turns w e r (passed w w.scene.waits e r)
        → Serves {C = Complex G} tell stands_for (λ c. c.rig) (fits_by tell.seen tell.leaves) e r old new w (passed w w.scene.waits e r)
    kept-serves e r told turns = still-serves tell e r old new w (passed w w.scene.waits e r) (sym same) now f turns
        (kept-fits (passed w w.scene.waits e r)
        (nothing-fits (parts old).locks w.scene.waits e r (tell.seen old.rig) (tell.leaves old.rig) (parts old) w f told))

    -- want of memory spares all
    pub kept-spares : Spares {C = Complex G} tell stands_for (λ c. c.rig) (fits_by tell.seen tell.leaves) old new w
    kept-spares = record {
      fits_still = kept-fits w f;
      passes = subst (λ d. Passes tell stands_for old.rig d w.scene.state w.scene.state) (sym same)
          (still-passes tell old.rig w.scene.state w.scene.state now (fits-left (tell.seen old.rig) (tell.leaves old.rig) (parts old) w f));
    }
