-- Devices that are armed serve their event: for the goals of `arm`.
use Rattle.std.proofs.Common.{◌≡◌, ℕ, ◌≤◌, refl, sym, subst}
use Rattle.std.specs.Prelude.{Some}
use Rattle.sd_base.specs.declared.trouble.Trouble.{Trouble}
use Rattle.sd_rig.specs.Devices.{DeviceImages, IsUnchanged, Leaves}
use Rattle.sd_model.specs.declared.event.Event.{Event}
use Rattle.sd_model.specs.declared.event.Event.TheVariants.{Arm}
use Rattle.sd_model.specs.declared.event.Reply.TheVariants as reply
use Rattle.sd_world.specs.Serving.{Core, Telling, Turns}
use Rattle.sd_state.specs.Complexes.{parts}
use Rattle.sd_state.specs.Parts.{Parts}
use Rattle.sd_state.specs.Values.{Pending}
use Rattle.sd_state.specs.declared.complex.Complex.{Complex}
use Rattle.sd_state.proofs.LockReads.{unchanged-good}
use Rattle.sd_fits.specs.Fits.{Fits}
use Rattle.sd_fits.specs.Serving.{Serving, fits_by}
use Rattle.sd_fits.proofs.Places.{read-fits, read-serves}
use Rattle.sd_fits.proofs.Served.{none-ended, nothing-fits, passed, turns-on}

module _ {G : Type 0} (tell : Telling G) (c new : Complex G) (trouble : Trouble)
    (now : (img : DeviceImages) → tell.since c.rig (tell.moment c.rig) img → Leaves (tell.leaves c.rig) img)
    (reads : (d : ℕ) → d ≤ 8 → tell.leaves new.rig d (tell.seen new.rig d))
    (u : IsUnchanged (tell.seen c.rig) (tell.seen new.rig) (tell.leaves c.rig) (tell.leaves new.rig) (tell.moment c.rig)
    (tell.moment new.rig) (tell.since c.rig) (tell.since new.rig))
    (same : parts new ≡ parts c) where
  abbrev event : Event
  event = Arm trouble

  -- the complex fits the same world
  fits-then : (w : Core) → fits_by tell.seen tell.leaves c w → fits_by tell.seen tell.leaves new w
  fits-then w f = subst (λ (k : Parts). Fits (tell.seen new.rig) (tell.leaves new.rig) k w) (sym same)
      (read-fits tell c.rig new.rig u now (parts c) w f
      (unchanged-good (tell.seen c.rig) (tell.seen new.rig) (tell.leaves c.rig) (tell.leaves new.rig) (tell.moment c.rig)
      (tell.moment new.rig) (tell.since c.rig) (tell.since new.rig) u Pending.Idle (parts c) w.scene.state f.good reads))

  turns : (w : Core) → fits_by tell.seen tell.leaves c w → Turns w event reply.Did (passed w w.scene.waits event reply.Did)
  turns w f = turns-on w w.scene.waits event reply.Did (tt, refl)
      (λ t. sym (none-ended (tell.seen c.rig) (tell.leaves c.rig) (parts c) w f t)) tt tt (tt, refl) tt

  pub armed : tell.faults new.rig ≡ tell.faults c.rig → Serving tell event (Some reply.Did) c new
  armed quiet = (
    (λ w f.
        let next : Core = passed w w.scene.waits event reply.Did in (
          next,
          read-serves tell event reply.Did c new w next u now f (turns w f)
              (nothing-fits (parts new).locks w.scene.waits event reply.Did (tell.seen new.rig) (tell.leaves new.rig) (parts new) w
              (fits-then w f) tt),
        )),
    quiet,
  )
