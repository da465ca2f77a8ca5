-- A complex that is closed, of which the devices alone are left: when they are as a world says.
use Rattle.std.specs.Prelude.{◌≡◌, ℕ, false, [], None}
use Rattle.sd_base.specs.declared.ids.TxnId.{TxnId}
use Rattle.sd_base.specs.declared.place.Status.TheVariants as S
use Rattle.sd_base.specs.declared.trouble.Pick.{Pick}
use Rattle.sd_model.specs.Kept.{Kept}
use Rattle.sd_model.specs.Listed.{Listed}
use Rattle.sd_model.specs.Marks.{Marked}
use Rattle.sd_model.specs.Lives.{LivesAreSound}
use Rattle.sd_model.specs.Recoverers.{Recoverers}
use Rattle.sd_model.specs.State.{closed}
use Rattle.sd_model.specs.declared.event.Event.TheVariants.{FailAll, Reopen}
use Rattle.sd_model.specs.declared.event.Reply.TheVariants as reply
use Rattle.sd_pagelock.specs.Places.{PageEntry}
use Rattle.sd_rig.specs.Devices as rig
use Rattle.sd_chain.specs.Logs.{Outcomes}
use Rattle.sd_world.specs.Bounds.{Bounds, bounds_after}
use Rattle.sd_world.specs.Pages.{Pages, emptied}
use Rattle.sd_world.specs.Serving.{Core, Turns}
use Rattle.sd_state.specs.Images.{Stands}
use Rattle.sd_moves.specs.Opening.{opened_again}
use Rattle.sd_state.specs.Parts.{Parts}
use Rattle.sd_state.specs.Values.{Pending}
use Rattle.sd_fits.specs.Fits.{Fits}
use Rattle.sd_fits.specs.Opened.{IsOpenedOn, NoneMore, opened_core}
use Rattle.sd_fits.specs.Sums.{IsWithinSums}

-- no page is in a pool or lost, nobody asks for one, and no checkpoint is begun
pub record AreEmptied (w : Pages) : Type 0 where
  pub entry : (p : ℕ) → w.entry p ≡ PageEntry.Free
  pub asks : (p : ℕ) → w.asks p ≡ []
  pub begun : (i : ℕ) → w.begun i ≡ false

-- The devices of a closed complex are as the world says: whatever a crash leaves of them stands for its state and is within its
-- sums. The state is one to which a run leads, as far as a reopening asks for that; nobody waits, and no pool has a page.
pub record FitsClosed (leaves : Outcomes) (w : Core) : Type 0 where
  pub closed : (i : ℕ) → (w.scene.state.inst i).status ≡ S.Closed
  pub stands : (img : rig.DeviceImages) → rig.Leaves leaves img → Stands w.scene.state Pending.Idle img
  pub sums : (img : rig.DeviceImages) → rig.Leaves leaves img → IsWithinSums img w.bounds
  pub kept : Kept w.scene.state
  pub placed : LivesAreSound w.scene.state
  pub listed : Listed w.scene.state
  pub marked : Marked w.scene.state
  pub recoverers : Recoverers w.scene.state
  pub waits : (t : TxnId) → w.scene.waits t ≡ None
  pub pages : AreEmptied w.pages

-- the world once all instances have failed, with these sums
abbrev pub closed_core : Bounds → Core → Core
closed_core sums w = record {
  scene = record { state = closed w.scene.state; waits = λ t. None };
  pages = emptied (λ p. false) w.pages.number w.pages;
  bounds = sums;
}

-- the world once that opens again from these devices
abbrev pub reopened_core : rig.DeviceImages → Core → Core
reopened_core devices w = opened_core w.pages.frames devices (opened_again devices w.scene.state)
    (bounds_after w.bounds Reopen reply.Did)

-- ---- laws: at most as much may be left of the devices after the event

-- All instances fail: the event turns the world so, and what is left fits it.
abbrev pub AllFail : Outcomes → Outcomes → Type 0
AllFail leaves leaves' = (seen : rig.DeviceImages) (c : Parts) (w : Core) (pick : Pick) → Fits seen leaves c w → NoneMore leaves leaves'
    → Turns w (FailAll pick) reply.Did (closed_core (bounds_after w.bounds (FailAll pick) reply.Did) w)
    × FitsClosed leaves' (closed_core (bounds_after w.bounds (FailAll pick) reply.Did) w)

-- So do those of a closed complex: the sums alone change.
abbrev pub AllFailAgain : Outcomes → Outcomes → Type 0
AllFailAgain leaves leaves' = (w : Core) (pick : Pick) → FitsClosed leaves w → NoneMore leaves leaves'
    → Turns w (FailAll pick) reply.Did (closed_core (bounds_after w.bounds (FailAll pick) reply.Did) w)
    × FitsClosed leaves' (closed_core (bounds_after w.bounds (FailAll pick) reply.Did) w)

-- A closed complex goes on fitting.
abbrev pub ClosedStays : Outcomes → Outcomes → Type 0
ClosedStays leaves leaves' = (w : Core) → FitsClosed leaves w → NoneMore leaves leaves' → FitsClosed leaves' w

-- A complex that is opened from devices as a crash may leave them, and leaves them alone then: the event turns the world so, and
-- the complex fits it.
abbrev pub ClosedReopens : Outcomes → Outcomes → Type 0
ClosedReopens leaves leaves' = (devices : rig.DeviceImages) (c : Parts) (w : Core) → FitsClosed leaves w → rig.Leaves leaves devices
    → IsOpenedOn w.pages.frames devices leaves' c
    → Turns w Reopen reply.Did (reopened_core devices w) × Fits devices leaves' c (reopened_core devices w)
