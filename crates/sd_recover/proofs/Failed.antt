-- A failure serves its event: for the goals of `fail`.
use Rattle.std.proofs.Common.{◌≡◌, ℕ, ◌≤◌, true, false, refl, sym, ap, subst}
use Rattle.std.specs.Prelude.{None, Some}
use Rattle.sd_base.specs.declared.refusal.Refusal.TheVariants as R
use Rattle.sd_base.specs.Waits.{with_wait}
use Rattle.sd_rig.specs.Devices.{DeviceImages, Leaves}
use Rattle.sd_model.specs.Applies.{MayServe}
use Rattle.sd_model.specs.Fields.{nobody}
use Rattle.sd_model.specs.State.{State, fall}
use Rattle.sd_model.specs.declared.cause.Cause.{Cause}
use Rattle.sd_model.specs.declared.event.Event.{Event}
use Rattle.sd_model.specs.declared.event.Event.TheVariants.{Fail}
use Rattle.sd_model.specs.declared.event.Reply.TheVariants as reply
use Rattle.sd_moves.specs.Falling.{IsFallen, with_fallen}
use Rattle.sd_world.specs.Bounds.{bounds_after}
use Rattle.sd_world.specs.Serving.{Core, Serves, Telling, Turns}
use Rattle.sd_state.specs.Complexes.{parts}
use Rattle.sd_state.specs.Good.{Good}
use Rattle.sd_state.specs.Parts.{is_active}
use Rattle.sd_state.specs.Values.{Pending}
use Rattle.sd_state.specs.declared.complex.Complex.{Complex}
use Rattle.sd_fits.specs.Fits.{Fits}
use Rattle.sd_fits.specs.Serving.{Serving, fits_by, stands_for}
use Rattle.sd_fits.proofs.Falling.{fallen-fits, fell-waits, fell_core, numbers_of, turns-fell}
use Rattle.sd_fits.proofs.Served.{bounds-stay, none-ended, still-serves}
use Rattle.sd_fits.proofs.Refused.{IsFor, active-serves, idle-refuses, refused-serves}

module _ {G : Type 0} (tell : Telling G) (c : Complex G) (i : ℕ) (low : 1 ≤ i) (high : i ≤ 8)
    (now : (img : DeviceImages) → tell.since c.rig (tell.moment c.rig) img → Leaves (tell.leaves c.rig) img) where
  abbrev event : Event
  event = Fail i

  -- ---- the instance isn't active

  idle : is_active (parts c) i ≡ false → (w : Core) → fits_by tell.seen tell.leaves c w
      → IsFor w.scene.state w event R.Down Cause.Down
  idle rests w f = record {
    waits = refl;
    whom = tt;
    unused = tt;
    allowed = tt;
    names = refl;
    tells = tt;
    first = (refl, (f.good.not_closed, tt), idle-refuses (tell.seen c.rig) (tell.leaves c.rig) (parts c) w f i low high rests);
    refuses = refl;
    passes = (tt, tt);
    says = λ never. absurd (cc);
    place = tt;
    left = refl;
  }

  pub fail-refused : is_active (parts c) i ≡ false → Serving tell event (Some (reply.Refused R.Down)) c c
  fail-refused rests = ((λ w f. refused-serves tell c now w f event R.Down Cause.Down (idle rests w f)), refl)

  -- ---- the instance falls

  module _ (new : Complex G) (same : new.rig ≡ c.rig) (is : parts new ≡ with_fallen i (parts new) (parts c))
      (fallen : IsFallen i (parts c) (parts new))
      (good : (m : State) → Good (tell.seen c.rig) (tell.leaves c.rig) Pending.Idle (parts c) m
      → Good (tell.seen new.rig) (tell.leaves new.rig) Pending.Idle (parts new) (fall i m))
      (active : is_active (parts c) i ≡ true) where
    module _ (w : Core) (f : fits_by tell.seen tell.leaves c w) where
      abbrev m : State
      m = w.scene.state

      abbrev number : ℕ → ℕ
      number = numbers_of (tell.seen c.rig) (tell.leaves c.rig) (parts new)

      abbrev next : Core
      next = fell_core i m number (bounds_after w.bounds event reply.Did) w

      stands : (MayServe m event → ⊥) → ⊥
      stands none = none (active-serves (tell.seen c.rig) (tell.leaves c.rig) (parts c) w f i low high active)

      fits-then : Fits (tell.seen c.rig) (tell.leaves c.rig) (parts new) next
      fits-then = fallen-fits i (tell.seen c.rig) (tell.seen c.rig) (tell.leaves c.rig) (tell.leaves c.rig) Pending.Idle
          (parts c) (parts c) (parts new) m m w low high f f.good
          (record { logs = λ j ne. refl; txns = λ j ne. refl; waits = λ t. refl })
          is fallen (λ t ne. refl) (bounds_after w.bounds event reply.Did) f.pages
          (bounds-stay (tell.seen c.rig) (parts c) w.bounds event reply.Did tt f.bounds) f.doubts
          (subst (λ (d : G). Good (tell.seen d) (tell.leaves d) Pending.Idle (parts new) (fall i m)) same (good m f.good))

      turns : Turns w event reply.Did next
      turns = turns-fell i m number w event reply.Did
          ((f.good.not_closed, (stands, tt)), refl)
          (fell-waits i (tell.seen c.rig) (tell.seen c.rig) (tell.leaves c.rig) (tell.leaves c.rig) Pending.Idle
          (parts c) (parts c) (parts new) m m w low high f f.good
          (record { logs = λ j ne. refl; txns = λ j ne. refl; waits = λ t. refl })
          is fallen (λ t ne. refl) (with_wait nobody None w.scene.waits)
          (λ u ne. none-ended (tell.seen c.rig) (tell.leaves c.rig) (parts c) w f u))
          tt tt ((tt, (tt, tt)), (number, refl)) tt

      done : (w' : Core) × Serves {C = Complex G} tell stands_for (λ k. k.rig)
          (fits_by tell.seen tell.leaves) event reply.Did c new w w'
      done = (
        next,
        still-serves tell event reply.Did c new w next (sym same) now f turns
            (subst (λ (d : G). Fits (tell.seen d) (tell.leaves d) (parts new) next) (sym same) fits-then),
      )

    pub failed : Serving tell event (Some reply.Did) c new
    failed = (done, ap tell.faults same)
