-- What may be left of one device, by what may be left of all: for the laws `force`, `put_page` and `put_master`.
use Rattle.std.proofs.Common.{◌≡◌, ◌≢◌, ⊎_elim, ℕ, ◌≤◌, Bool, cond, eqb, List, refl, sym, ap, subst, eq-eqb, ne_eqb}
use Rattle.std.proofs.lemmas.Bool.{cases_eq}
use Rattle.sd_log.specs.Forces.{StandsEither, forced_at, forced_len}
use Rattle.sd_rig.specs.Devices.{AgreesOutside, LeavesSame}
use Rattle.sd_rig.specs.Devices as rig
use Rattle.sd_chain.specs.Images.{log}
use Rattle.sd_chain.specs.Logs.{LessElsewhere, Outcomes}
use Rattle.sd_chain.specs.ChecksKept.{FailedForceLeaves, PutLeaves}

-- the other devices are left as before
pub less-same : (i : ℕ) (leaves leaves' : Outcomes) → ((d : ℕ) → d ≢ i → LeavesSame (leaves d) (leaves' d))
    → LessElsewhere i leaves leaves'
less-same i leaves leaves' same d ne bytes l = (same d ne bytes).0 l

-- an image with one outcome of a device, and the others as they are read
abbrev pub with_outcome : ℕ → List ℕ → rig.DeviceImages → rig.DeviceImages
with_outcome i bytes seen d = cond (eqb d i) bytes (seen d)

-- it has it there
pub outcome-here : (i : ℕ) (bytes : List ℕ) (seen : rig.DeviceImages) → with_outcome i bytes seen i ≡ bytes
outcome-here i bytes seen = ap (λ (b : Bool). cond b bytes (seen i)) (eq-eqb i i refl)

-- and may be left
pub outcome-left : (i : ℕ) (bytes : List ℕ) (seen : rig.DeviceImages) (leaves : Outcomes) → ((d : ℕ) → d ≤ 8 → leaves d (seen d))
    → leaves i bytes → rig.Leaves leaves (with_outcome i bytes seen)
outcome-left i bytes seen leaves reads l d le = ⊎_elim
    (λ e. subst (λ (k : ℕ). leaves k (with_outcome i bytes seen k)) (sym e)
    (subst (leaves i) (sym (outcome-here i bytes seen)) l))
    (λ ne. subst (leaves d) (sym (ap (λ (b : Bool). cond b bytes (seen d)) (ne_eqb d i ne))) (reads d le))
    (cases_eq d i)

-- what a failed force leaves of its device, by what it leaves of all
pub failed-outcomes : (leaves leaves' : Outcomes) → FailedForceLeaves leaves leaves'
failed-outcomes leaves leaves' i log seen seen' inst reads during bytes l =
    let f = during (with_outcome i bytes seen') (outcome-left i bytes seen' leaves' reads l) in
    let here : with_outcome i bytes seen' i ≡ bytes = outcome-here i bytes seen' in (
      subst (AgreesOutside (forced_at log) (forced_len log) (seen i)) here
          (subst (λ (k : ℕ). AgreesOutside (forced_at log) (forced_len log) (seen k)
          (with_outcome i bytes seen' k)) inst f.outside),
      subst (StandsEither log) here (subst (λ (k : ℕ). StandsEither log (with_outcome i bytes seen' k)) inst f.whole),
    )

-- and what a put leaves, Ok or failed
pub put-outcomes : (leaves leaves' : Outcomes) → PutLeaves leaves leaves'
put-outcomes leaves leaves' dev at n body seen seen' reads during bytes l = (
  with_outcome dev bytes seen',
  outcome-here dev bytes seen',
  during (with_outcome dev bytes seen')
      (outcome-left dev bytes seen' leaves' reads l),
)
