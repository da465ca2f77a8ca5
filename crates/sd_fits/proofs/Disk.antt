-- What a call leaves of the data device: where its devices stay, and where that of a log alone may change. For the calls that say so.
use Rattle.std.proofs.Common.{◌≡◌, ◌≢◌, ℕ, ◌≤◌, ap, ◌∙◌, sym, subst, arith}
use Rattle.sd_rig.specs.Devices.{LeavesSame}
use Rattle.sd_world.specs.Serving.{Telling}
use Rattle.sd_state.specs.declared.complex.Complex.{Complex}

pub other-device : (i : ℕ) → 1 ≤ i → 0 ≢ i
other-device i low e = omega (arith, low, e)

-- devices that stay leave what they left
pub leaves-same : {G : Type 0} (tell : Telling G) (old new : G) → new ≡ old → LeavesSame (tell.leaves old 0) (tell.leaves new 0)
leaves-same {G} tell old new same = subst (λ (d : G). LeavesSame (tell.leaves old 0) (tell.leaves d 0)) (sym same)
    (λ b. ((λ left. left), (λ left. left)))

-- the data device is as it was, where the log of i was forced in between
module _ {G : Type 0} (tell : Telling G) (i : ℕ) (low : 1 ≤ i) (old sealed then new : Complex G) (first : sealed.rig ≡ old.rig)
    (last : new.rig ≡ then.rig) where
  pub disk-same : ((d : ℕ) → d ≢ i → tell.seen then.rig d ≡ tell.seen sealed.rig d) → tell.seen new.rig 0 ≡ tell.seen old.rig 0
  disk-same others = ap (λ (d : G). tell.seen d 0) last ∙ others 0 (other-device i low) ∙ ap (λ (d : G). tell.seen d 0) first

  pub disk-leaves : ((d : ℕ) → d ≢ i → LeavesSame (tell.leaves sealed.rig d) (tell.leaves then.rig d))
      → LeavesSame (tell.leaves old.rig 0) (tell.leaves new.rig 0)
  disk-leaves others = subst (λ (d : G). LeavesSame (tell.leaves old.rig 0) (tell.leaves d 0)) (sym last)
      (subst (λ (d : G). LeavesSame (tell.leaves d 0) (tell.leaves then.rig 0)) first (others 0 (other-device i low)))
