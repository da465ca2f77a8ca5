-- A recovery begins, or may not: for the goals of `recover_begin`.
use Rattle.std.proofs.Common.{◌≡◌, ◌≢◌, ◌⊎◌, inl, inr, ⊎_elim, ℕ, ◌≤◌, refl, sym, ap, ◌∙◌, subst}
use Rattle.std.specs.Prelude.{None, Some}
use Rattle.sd_base.specs.declared.place.Status.TheVariants as S
use Rattle.sd_base.specs.declared.refusal.Refusal.{Refusal}
use Rattle.sd_base.specs.declared.refusal.Refusal.TheVariants as R
use Rattle.sd_rig.specs.Devices.{DeviceImages, Leaves}
use Rattle.sd_model.specs.Applies.{MayServe}
use Rattle.sd_model.specs.State.{State}
use Rattle.sd_model.specs.declared.cause.Cause.{Cause}
use Rattle.sd_model.specs.declared.event.Event.{Event}
use Rattle.sd_model.specs.declared.event.Event.TheVariants.{RecoverBegin}
use Rattle.sd_model.specs.declared.event.Reply.TheVariants as reply
use Rattle.sd_world.specs.Serving.{Core, Telling, Turns, refused}
use Rattle.sd_state.specs.Complexes.{parts}
use Rattle.sd_state.specs.Good.{Good}
use Rattle.sd_state.specs.Parts.{Parts, status_at}
use Rattle.sd_state.specs.Recovering.{recovers, with_recovering}
use Rattle.sd_state.specs.Values.{Pending}
use Rattle.sd_state.specs.declared.complex.Complex.{Complex}
use Rattle.sd_fits.specs.Fits.{Fits}
use Rattle.sd_fits.specs.Serving.{Serving, fits_by}
use Rattle.sd_fits.proofs.Recovering.{begun-fits, begun_core}
use Rattle.sd_fits.proofs.Served.{none-ended, still-serves}
use Rattle.sd_fits.proofs.Refused.{IsFor, refused-serves}
use Rattle.sd_recover.specs.Recovering.{MayNotBegin}

module _ {G : Type 0} (tell : Telling G) (c : Complex G) (i by : ℕ) (low : 1 ≤ i) (high : i ≤ 8) (by_low : 1 ≤ by) (by_high : by ≤ 8)
    (now : (img : DeviceImages) → tell.since c.rig (tell.moment c.rig) img → Leaves (tell.leaves c.rig) img) where
  abbrev event : Event
  event = RecoverBegin i by

  module _ (w : Core) (f : fits_by tell.seen tell.leaves c w) where
    abbrev m : State
    m = w.scene.state

    status-is : status_at (parts c) i ≡ (m.inst i).status
    status-is = (f.good.instances i low high).status

    up-is : status_at (parts c) by ≡ (m.inst by).status
    up-is = (f.good.instances by by_low by_high).status

    stays-down : status_at (parts c) i ≡ S.Down → ((m.inst i).status ≢ S.Down) → ⊥
    stays-down down off = off (sym status-is ∙ down)

    -- ---- refused

    not-down : (status : _) → MayNotBegin (parts c) i by (R.NotDown status) → IsFor m w event (R.NotDown status) Cause.NotDown
    not-down status h = record {
      waits = refl;
      whom = tt;
      unused = tt;
      allowed = tt;
      names = refl;
      tells = h.0 ∙ status-is;
      first = (refl, (f.good.not_closed, tt), λ down. h.1 (status-is ∙ down));
      refuses = refl;
      passes = (tt, tt);
      says = λ never. absurd (cc);
      place = tt;
      left = refl;
    }

    no-recoverer : MayNotBegin (parts c) i by R.Down → IsFor m w event R.Down Cause.Down
    no-recoverer h = record {
      waits = refl;
      whom = tt;
      unused = tt;
      allowed = tt;
      names = refl;
      tells = tt;
      first = (refl, (f.good.not_closed, (stays-down h.0, tt)), ⊎_elim (λ own. h.1 own) (λ up. h.2 (up-is ∙ up)));
      refuses = refl;
      passes = (tt, (tt, tt));
      says = λ never. absurd (cc);
      place = tt;
      left = refl;
    }

  pub begin-refused : (n : Refusal) → MayNotBegin (parts c) i by n → Serving tell event (refused n) c c
  begin-refused (R.NotDown status) h =
      ((λ w f. refused-serves tell c now w f event (R.NotDown status) Cause.NotDown (not-down w f status h)), refl)
  begin-refused R.Down h = ((λ w f. refused-serves tell c now w f event R.Down Cause.Down (no-recoverer w f h)), refl)
  begin-refused n h = elim h [ ]

  -- ---- it begins

  module _ (new : Complex G) (same : new.rig ≡ c.rig) (is : parts new ≡ with_recovering i by (parts c))
      (good : (m : State) → Good (tell.seen c.rig) (tell.leaves c.rig) Pending.Idle (parts c) m
      → Good (tell.seen new.rig) (tell.leaves new.rig) Pending.Idle (parts new) (recovers i by m))
      (down : status_at (parts c) i ≡ S.Down) (recoverer : (by ≡ i) ⊎ (status_at (parts c) by ≡ S.Up)) where
    module _ (w : Core) (f : fits_by tell.seen tell.leaves c w) where
      stands : (MayServe w.scene.state event → ⊥) → ⊥
      stands off = off (⊎_elim (λ own. inl own) (λ up. inr (sym (up-is w f) ∙ up)) recoverer)

      turns : Turns w event reply.Did (begun_core i by w)
      turns = record {
        wanted = None;
        near = tt;
        plays = record {
          step = ((f.good.not_closed, (stays-down w f down, (stands, tt))), refl);
          waits = λ t. sym (none-ended (tell.seen c.rig) (tell.leaves c.rig) (parts c) w f t);
        };
        exact = tt;
        unused = tt;
        moves = ((tt, (tt, (tt, tt))), refl);
        within = tt;
        sums = refl;
      }

      fits-then : Fits (tell.seen new.rig) (tell.leaves new.rig) (parts new) (begun_core i by w)
      fits-then = subst (λ (p : Parts). Fits (tell.seen new.rig) (tell.leaves new.rig) p (begun_core i by w)) (sym is)
          (subst (λ (d : G). Fits (tell.seen d) (tell.leaves d) (with_recovering i by (parts c)) (begun_core i by w)) (sym same)
          (begun-fits i by (tell.seen c.rig) (tell.leaves c.rig) (parts c) w f low high
          (subst (λ (p : Parts). Good (tell.seen c.rig) (tell.leaves c.rig) Pending.Idle p (recovers i by w.scene.state)) is
          (subst (λ (d : G). Good (tell.seen d) (tell.leaves d) Pending.Idle (parts new) (recovers i by w.scene.state)) same
          (good w.scene.state f.good)))))

    pub begins : Serving tell event (Some reply.Did) c new
    begins = (
      λ w f. (begun_core i by w, still-serves tell event reply.Did c new w (begun_core i by w) (sym same) now f (turns w f) (fits-then w f)),
      ap tell.faults same,
    )
