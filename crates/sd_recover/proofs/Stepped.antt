-- A step of a recovery that doesn't run is refused: for the goals of `recover_step`.
use Rattle.std.proofs.Common.{◌≡◌, ℕ, ◌≤◌, refl, ◌∙◌, subst}
use Rattle.sd_base.specs.declared.place.Status.{Status}
use Rattle.sd_base.specs.declared.refusal.Refusal.{Refusal}
use Rattle.sd_base.specs.declared.refusal.Refusal.TheVariants as R
use Rattle.sd_rig.specs.Devices.{DeviceImages, Leaves}
use Rattle.sd_model.specs.declared.cause.Cause.{Cause}
use Rattle.sd_model.specs.declared.event.Event.TheVariants.{RecoverStep}
use Rattle.sd_world.specs.Serving.{Core, Telling, refused}
use Rattle.sd_state.specs.Complexes.{parts}
use Rattle.sd_state.specs.Parts.{Parts, status_at}
use Rattle.sd_state.specs.declared.complex.Complex.{Complex}
use Rattle.sd_fits.specs.Serving.{Serving, fits_by}
use Rattle.sd_fits.proofs.Refused.{IsFor, refused-serves}
use Rattle.sd_recover.specs.Recovering.{IsUnrecovering}

-- ---- no recovery runs

module _ {G : Type 0} (tell : Telling G) (c : Complex G) (i : ℕ) (low : 1 ≤ i) (high : i ≤ 8)
    (now : (img : DeviceImages) → tell.since c.rig (tell.moment c.rig) img → Leaves (tell.leaves c.rig) img) where
  module _ (w : Core) (f : fits_by tell.seen tell.leaves c w) where
    status-is : status_at (parts c) i ≡ (w.scene.state.inst i).status
    status-is = (f.good.instances i low high).status

    unrecovering : (status : Status) → IsUnrecovering (parts c) i (R.NotRecovered status)
        → IsFor w.scene.state w (RecoverStep i) (R.NotRecovered status) Cause.NotRecovered
    unrecovering status h = record {
      waits = refl;
      whom = tt;
      unused = tt;
      allowed = tt;
      names = refl;
      tells = h.0 ∙ status-is;
      first = (refl, (f.good.not_closed, tt), λ r. h.1 r.0 (status-is ∙ r.1));
      refuses = refl;
      passes = (tt, tt);
      says = λ never. absurd (cc);
      place = tt;
      left = refl;
    }

  pub step-refused : (n : Refusal) → IsUnrecovering (parts c) i n → Serving tell (RecoverStep i) (refused n) c c
  step-refused (R.NotRecovered status) h = (
    (λ w f. refused-serves tell c now w f (RecoverStep i) (R.NotRecovered status) Cause.NotRecovered (unrecovering w f status h)),
    refl,
  )
  step-refused n h = elim h [ ]

pub none-failed : (c : Parts) (i : ℕ) (n : Refusal) → IsUnrecovering c i n → n ≡ R.Failed → ⊥
none-failed c i n h e = subst (IsUnrecovering c i) e h
