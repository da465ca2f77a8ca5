-- Each image that the put of a later master may leave stands for the same state.
use Rattle.std.proofs.Common.{◌≡◌, ◌≢◌, ℕ, ◌≤◌, false, List, refl, sym, ap, subst}
use Rattle.std.specs.Prelude.{None}
use Rattle.sd_logrec.specs.Kept.{master}
use Rattle.sd_log.specs.Logs.{LogState}
use Rattle.sd_model.specs.State.{State}
use Rattle.sd_rig.specs.Devices as rig
use Rattle.sd_chain.specs.Logs.{Outcomes}
use Rattle.sd_chain.specs.Soundly.{IsReady}
use Rattle.sd_logrec.specs.declared.record.Record.{Record}
use Rattle.sd_state.specs.Good.{Good}
use Rattle.sd_state.specs.Images.{Stands}
use Rattle.sd_chain.proofs.Masters.{put-outcome}
use Rattle.sd_state.specs.Parts.{Parts, is_loose, log_at, other_at}
use Rattle.sd_state.specs.Values.{Pending}
use Rattle.sd_state.proofs.Standing.{left-stands, no-place, one-place}
use Rattle.sd_chain.specs.Images.{Keeps}
use Rattle.sd_rig.specs.Gates.{LeavesOthers}
use Rattle.sd_ckpt.proofs.EitherGood.{either-good}
use Rattle.sd_ckpt.specs.Laws.{HasEither, MasterPutStands, MayBegin}

-- the log is ready on its device before
pub was-ready : (i : ℕ) (seen : rig.DeviceImages) (leaves : Outcomes) (c : Parts) (m : State) → 1 ≤ i → i ≤ 8
    → Good seen leaves Pending.Idle c m → leaves i (seen i) → is_loose c i ≡ false → IsReady i (seen i) (log_at c i)
was-ready i seen leaves c m low high g reads settled = subst (IsReady i (seen i)) (one-place c some-way i one)
    ((g.half some-way).soundly.ready i low high (seen i)
    (reads, no-place (other_at c i) (λ p. (master (seen i)).start ≡ (log_at c i).start) one))
  where
    one : other_at c i ≡ None
    one = (g.settled i low high settled).one_place

    some-way : Keeps
    some-way j = false

-- An image that may be left, but for device i: there the log is ready behind the master of before, or behind another one.
module _ (i place : ℕ) (gone : List Record) (l' : LogState) (seen img : rig.DeviceImages) (leaves : Outcomes) (c : Parts)
    (m : State)
    (g : Good seen leaves Pending.Idle c m) (reads : (d : ℕ) → d ≤ 8 → leaves d (seen d)) (idle : c.due ≡ None)
    (may : MayBegin i place gone l' c)
    (others_left : LeavesOthers i leaves img) (outcome_here : HasEither i (seen i) (log_at c i) l' (img i)) where
  -- what may be left, but this image's device i
  here : ℕ → List ℕ → Type 0
  here d bytes = (d ≢ i → leaves d bytes) × (d ≡ i → bytes ≡ img i)

  outcome : (bytes : List ℕ) → here i bytes → HasEither i (seen i) (log_at c i) l' bytes
  unfolding here
  outcome bytes now = subst (HasEither i (seen i) (log_at c i) l') (sym (now.1 refl)) outcome_here

  others : (d : ℕ) → d ≢ i → rig.LeavesSame (leaves d) (here d)
  unfolding here
  others d ne bytes = (λ now. now.0 ne, λ l. ((λ z. l), λ e. absurd (ne e)))

  left : rig.Leaves here img
  unfolding here
  left d le = (λ ne. others_left d le ne, λ e. ap img e)

  image-stands : Stands m Pending.Idle img
  image-stands = left-stands here seen img Pending.Idle _ m
      (either-good leaves here i place gone l' seen seen c m g reads idle may
      (record { reads = λ d ne. refl; left = others }) outcome) left

-- each image that the put of the master may leave
pub put-stands : (leaves : Outcomes) → MasterPutStands leaves
put-stands leaves i place gone l' body seen img c m g reads idle may names f =
    image-stands i place gone l' seen img leaves c m g reads idle may f.others
    (put-outcome i (log_at c i) l' body seen leaves img names
    (was-ready i seen leaves c m may.low may.high g (reads i may.high) may.settled) f)
