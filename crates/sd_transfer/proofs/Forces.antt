-- A force serves its event: for the goals of `force`.
use Rattle.std.proofs.Common.{◌≡◌, ℕ, ◌≤◌, true, false, refl, sym, subst}
use Rattle.std.specs.Prelude.{None, Some, Result, Ok, Err, OnErr, OnOk, IfErr}
use Rattle.sd_base.specs.declared.refusal.Refusal.{Refusal}
use Rattle.sd_base.specs.declared.refusal.Refusal.TheVariants as R
use Rattle.sd_rig.specs.Devices.{DeviceImages, Leaves}
use Rattle.sd_model.specs.Applies.{MayServe}
use Rattle.sd_model.specs.declared.cause.Cause.{Cause}
use Rattle.sd_model.specs.declared.event.Event.{Event}
use Rattle.sd_model.specs.declared.event.Event.TheVariants.{Force}
use Rattle.sd_model.specs.declared.event.Reply.TheVariants as reply
use Rattle.sd_world.specs.Serving.{Core, Serves, Spares, Telling, did, refused}
use Rattle.sd_state.specs.Complexes.{parts}
use Rattle.sd_state.specs.Parts.{is_active}
use Rattle.sd_state.specs.declared.complex.Complex.{Complex}
use Rattle.sd_fits.specs.Serving.{Serving, fits_by, stands_for}
use Rattle.sd_fits.proofs.Served.{none-ended, nothing-fits, passed, turns-on}
use Rattle.sd_fits.proofs.Refused.{IsFor, active-serves, idle-refuses, refused-serves}
use Rattle.sd_transfer.specs.Breaking.{BreaksBy}

module _ {G : Type 0} (tell : Telling G) (c : Complex G) (i : ℕ) (low : 1 ≤ i) (high : i ≤ 8) where
  abbrev event : Event
  event = Force i

  idle : is_active (parts c) i ≡ false → (w : Core) → fits_by tell.seen tell.leaves c w → IsFor w.scene.state w event R.Down
      Cause.Down
  idle rests w f = record {
    waits = refl;
    whom = tt;
    unused = tt;
    allowed = tt;
    names = refl;
    tells = tt;
    first = (refl, (f.good.not_closed, tt), idle-refuses (tell.seen c.rig) (tell.leaves c.rig) (parts c) w f i low high rests);
    refuses = refl;
    passes = (tt, tt);
    says = λ never. absurd (cc);
    place = tt;
    left = refl;
  }

  pub force-refused : ((img : DeviceImages) → tell.since c.rig (tell.moment c.rig) img → Leaves (tell.leaves c.rig) img)
      → is_active (parts c) i ≡ false → Serving tell event (Some (reply.Refused R.Down)) c c
  force-refused now rests = ((λ w f. refused-serves tell c now w f event R.Down Cause.Down (idle rests w f)), refl)

  module _ (active : is_active (parts c) i ≡ true) where
    stands : (w : Core) → fits_by tell.seen tell.leaves c w → (MayServe w.scene.state event → ⊥) → ⊥
    stands w f none = none (active-serves (tell.seen c.rig) (tell.leaves c.rig) (parts c) w f i low high active)

    breaks : (w : Core) → fits_by tell.seen tell.leaves c w → BreaksBy i event w
    breaks w f = record {
      nobodys = refl;
      falls = refl;
      uncounted = refl;
      first = (refl, (f.good.not_closed, (stands w f, tt)), tt);
      passes = (tt, (tt, tt));
      did = refl;
      unused = tt;
    }

    module _ (new : Complex G) where
      spared-serves : (w : Core) → fits_by tell.seen tell.leaves c w
          → Spares {C = Complex G} tell stands_for (λ k. k.rig) (fits_by tell.seen tell.leaves) c new w
          → (w' : Core) × Serves {C = Complex G} tell stands_for (λ k. k.rig) (fits_by tell.seen tell.leaves) event reply.Did c
          new w w'
      spared-serves w f spares = (
        passed w w.scene.waits event reply.Did,
        record {
          turns = turns-on w w.scene.waits event reply.Did
              ((f.good.not_closed, (stands w f, (tt, tt))), refl)
              (λ t. sym (none-ended (tell.seen c.rig) (tell.leaves c.rig) (parts c) w f t))
              tt tt ((tt, (tt, (tt, tt))), refl) tt;
          fits_then = nothing-fits (parts new).locks w.scene.waits event reply.Did (tell.seen new.rig) (tell.leaves new.rig)
              (parts new) w
              spares.fits_still tt;
          passes = spares.passes;
        },
      )

      -- what the force of the log answers serves the event
      pub force-did : (r : Result (Unit {0}) Refusal) → OnOk r ((e : Event) → Serving tell e None c new)
          → OnErr r ((e : Event) → ((w : Core) → fits_by tell.seen tell.leaves c w → BreaksBy i e w)
          → Serving tell e (Some (reply.Refused R.Failed)) c new)
          → IfErr r (λ n. n ≡ R.Failed) → Serving tell event (did r) c new
      force-did (Ok x) spared failed only =
          let done = spared event in ((λ w f. spared-serves w f (done.0 w f)), done.1)
      force-did (Err n) spared failed only = subst (λ (k : Refusal). Serving tell event (refused k) c new) (sym only)
          (failed event breaks)
