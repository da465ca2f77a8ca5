-- A complex that opens from what its devices read. It serves the goals of `open_again` in turning.rt, and of the call above that opens a
-- hall.
use Rattle.std.proofs.Common.{◌≡◌, ◌≢◌, ◌⊎◌, ⊎_elim, ℕ, ◌≤◌, length, refl, sym, subst}
use mathlib.Core.Path.{fun_ext}
use Rattle.sd_base.specs.Streams.{Rises}
use Rattle.sd_base.specs.declared.refusal.Refusal.{Refusal}
use Rattle.sd_base.specs.declared.refusal.Refusal.TheVariants as R
use Rattle.sd_model.specs.declared.event.Event.TheVariants.{Reopen}
use Rattle.sd_rig.specs.Devices.{DeviceImages, Leaves, LeavesOnly, device_len}
use Rattle.sd_chain.specs.Checks.{DevicesAreSound}
use Rattle.sd_world.specs.Serving.{Core, Telling, refused}
use Rattle.sd_moves.specs.Opening.{AreOpened}
use Rattle.sd_state.specs.Parts.{Parts}
use Rattle.sd_state.specs.declared.complex.Shape.{Shape}
use Rattle.sd_fits.specs.Bodies.{LeavesNoMore, ServingHall, fits_body}
use Rattle.sd_fits.specs.Fits.{Fits}
use Rattle.sd_fits.specs.Opened.{IsOpenedOn, opening_core}
use Rattle.sd_fits.specs.declared.body.Body.{Body}
use Rattle.sd_fits.proofs.Bodies.{closed-sound, spared-served, unopened-served}
use Rattle.sd_fits.proofs.Opened.{opened-world}
use Rattle.sd_restart.specs.Devices.{Calms}

abbrev pub CalmsFrom : {G : Type 0} → Telling G → G → G → Type 0
CalmsFrom tell old new = Calms (tell.seen old) (tell.seen new) (tell.leaves old) (tell.leaves new) (tell.moment old)
    (tell.moment new) (tell.since old) (tell.since new)

module _ {G : Type 0} (tell : Telling G) (old new : G) (calm : CalmsFrom tell old new) where
  pub leaves-less : LeavesNoMore tell old new
  leaves-less = record { less = λ d le bytes left. calm.less d bytes left; time = calm.time; span = calm.span }

  same-reads : tell.seen old ≡ tell.seen new
  same-reads = fun_ext (λ d. sym (calm.reads d))

  pub left-so : ((d : ℕ) → d ≤ 8 → tell.leaves old d (tell.seen old d)) → Leaves (tell.leaves old) (tell.seen new)
  left-so seen d le = subst (tell.leaves old d) (sym (calm.reads d)) (seen d le)

  pub opened-on : (frames : ℕ) (c : Parts) → length (tell.seen old 0) ≡ device_len 0
      → ((d : ℕ) → d ≤ 8 → LeavesOnly (tell.seen old d) (tell.leaves new d)) → AreOpened frames (tell.seen old) c
      → IsOpenedOn frames (tell.seen new) (tell.leaves new) c
  opened-on frames c size only opened = subst (λ (devices : DeviceImages). IsOpenedOn frames devices (tell.leaves new) c) same-reads
      (record { only = only; size = size; opened = opened })

  -- what is opened fits the world that the devices told
  pub opening-fits : (frames : ℕ) (c : Parts) → IsOpenedOn frames (tell.seen new) (tell.leaves new) c
      → Fits (tell.seen new) (tell.leaves new) c (opening_core frames (tell.seen old))
  opening-fits frames c on =
      subst (λ (devices : DeviceImages). Fits (tell.seen new) (tell.leaves new) c (opening_core frames devices)) (sym same-reads)
      (opened-world (tell.leaves new) frames (tell.seen new) c on)

  -- why a closed complex stays closed: a device failed, or there was no memory
  pub stays-closed : (shape : Shape) (w : Core) → fits_body tell.seen tell.leaves (Body.Closed old shape) w
      → Leaves (tell.leaves old) (tell.seen old) → (n : Refusal)
      → (n ≡ R.Failed) ⊎ (n ≡ R.Memory) ⊎ ((dev : ℕ) × (at : ℕ) × (n ≡ R.Damaged dev at))
      → ((dev at : ℕ) → n ≡ R.Damaged dev at → DevicesAreSound (tell.seen old) → ⊥)
      → (n ≡ R.Failed → Rises (tell.faults old) (tell.faults new)) → (n ≢ R.Failed → tell.faults new ≡ tell.faults old)
      → ServingHall tell Reopen (refused n) (Body.Closed old shape) (Body.Closed new shape)
  stays-closed shape w f left R.Failed why unsound rises quiet = unopened-served tell old new shape leaves-less (rises refl)
  stays-closed shape w f left R.Memory why unsound rises quiet = spared-served tell old new shape leaves-less (quiet (λ e. cc))
  stays-closed shape w f left (R.Damaged dev at) why unsound rises quiet =
      absurd (unsound dev at refl (closed-sound tell old shape w f left))
  stays-closed shape w f left n why unsound rises quiet =
      absurd (⊎_elim (λ e. cc) (⊎_elim (λ e. cc) (λ e. let is = e.2 in cc)) why)
