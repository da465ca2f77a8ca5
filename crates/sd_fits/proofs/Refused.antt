-- Refusals of events of instances: who is active, and what a refusal that leaves all serves. For the calls of all events of
-- pages.
use Rattle.std.proofs.Common.{◌≡◌, inl, inr, ℕ, ◌≤◌, Bool, true, false, refl, sym, ap, ◌∙◌, eq-eqb, eqb-true}
use Rattle.std.specs.Prelude.{None}
use Rattle.sd_base.specs.Waits.{Waits, with_wait}
use Rattle.sd_base.specs.declared.place.Status.{Status}
use Rattle.sd_base.specs.declared.place.Status.TheVariants as S
use Rattle.sd_base.specs.declared.refusal.Refusal.{Refusal}
use Rattle.sd_rig.specs.Devices.{DeviceImages, Leaves}
use Rattle.sd_model.specs.Applies.{First, IsActive}
use Rattle.sd_model.specs.Causes.{before, order}
use Rattle.sd_model.specs.Exact.{IsOfFreeSlot, NamesWhom}
use Rattle.sd_model.specs.Fields.{nobody, txn_of}
use Rattle.sd_model.specs.Refusing.{Names, Refuses, Tells}
use Rattle.sd_model.specs.Scenes.{asked_of, of_running, wait_after}
use Rattle.sd_model.specs.State.{State}
use Rattle.sd_model.specs.declared.cause.Cause.{Cause}
use Rattle.sd_model.specs.declared.event.Event.{Event}
use Rattle.sd_model.specs.declared.event.Reply.TheVariants as reply
use Rattle.sd_world.specs.Answers.{NamesPlace, RefusalLeaves}
use Rattle.sd_world.specs.Bounds.{Allows}
use Rattle.sd_world.specs.PageCauses.{NoneSays, PagesAgree}
use Rattle.sd_world.specs.Serving.{Core, Serves, Telling, Turns}
use Rattle.sd_state.specs.Complexes.{parts}
use Rattle.sd_state.specs.Parts.{Parts, is_active}
use Rattle.sd_base.specs.Standing.{active_as}
use Rattle.sd_state.specs.declared.complex.Complex.{Complex}
use Rattle.sd_fits.specs.Fits.{Fits}
use Rattle.sd_fits.specs.Serving.{fits_by, stands_for}
use Rattle.sd_fits.proofs.Served.{none-ended, nothing-fits, passed, still-serves, turns-on}
use Rattle.sd_chain.specs.Logs.{Outcomes}

-- ---- who is active

pub unlike : {A : Type 0} {b : Bool} → b ≡ false → b ≡ true → A
unlike isnt is = let clash = sym isnt ∙ is in absurd (cc)

active-is : (i : ℕ) (s : Status) → active_as i s ≡ true → IsActive i s
active-is i S.Up h = inl refl
active-is i S.Down h = absurd (cc)
active-is i (S.Recovering by) h = inr (inr (ap (λ (k : ℕ). S.Recovering k) (eqb-true by i h)))
active-is i S.Clean h = absurd (cc)
active-is i S.Restarting h = inr (inl refl)
active-is i S.Closed h = absurd (cc)

is-active : (i : ℕ) (s : Status) → IsActive i s → active_as i s ≡ true
is-active i s (inl up) = ap (active_as i) up
is-active i s (inr (inl again)) = ap (active_as i) again
is-active i s (inr (inr own)) = ap (active_as i) own ∙ eq-eqb i i refl

module _ (seen : DeviceImages) (leaves : Outcomes) (c : Parts) (w : Core) (f : Fits seen leaves c w) (i : ℕ) (low : 1 ≤ i)
    (high : i ≤ 8) where
  -- an instance that is active serves events of pages,
  pub active-serves : is_active c i ≡ true → IsActive i (w.scene.state.inst i).status
  active-serves active = active-is i (w.scene.state.inst i).status
      (sym (ap (active_as i) (f.good.instances i low high).status) ∙ active)

  -- and another doesn't
  pub idle-refuses : is_active c i ≡ false → IsActive i (w.scene.state.inst i).status → ⊥
  idle-refuses idle is =
      let there : is_active c i ≡ true =
      ap (active_as i) (f.good.instances i low high).status ∙ is-active i (w.scene.state.inst i).status is in
      let clash = sym idle ∙ there in absurd (cc)

-- ---- a refusal that leaves state and pages

-- It is for this cause, the first that applies, and no cause before it is said by the pages.
pub record IsFor (m : State) (w : Core) (e : Event) (n : Refusal) (cause : Cause) : Type 0 where
  pub waits : with_wait (txn_of e) (wait_after (asked_of e None) (reply.Refused n)) w.scene.waits ≡ with_wait nobody None
      w.scene.waits
  pub whom : NamesWhom w.scene (txn_of e) (asked_of e None) n
  pub unused : IsOfFreeSlot m e None (reply.Refused n)
  pub allowed : Allows m w.bounds e n
  pub names : Names cause n
  pub tells : Tells m e n
  pub first : First m e cause
  pub refuses : Refuses m e cause m
  pub passes : NoneSays m w.pages e (before cause (order e))
  pub says : PagesAgree m w.pages e cause
  pub place : NamesPlace m w.pages e n
  pub left : RefusalLeaves m w.pages e n m w.pages

pub refused-turns : (seen : DeviceImages) (leaves : Outcomes) (c : Parts) (w : Core) → Fits seen leaves c w → (e : Event) (n : Refusal)
    (cause : Cause) → IsFor w.scene.state w e n cause → Turns w e (reply.Refused n) (passed w w.scene.waits e (reply.Refused n))
refused-turns seen leaves c w f e n cause is = turns-on w w.scene.waits e (reply.Refused n)
    (cause, is.names, is.tells, is.first, is.refuses)
    (λ t. sym (none-ended seen leaves c w f t) ∙ sym (ap (λ (asks : Waits). of_running w.scene.state asks t) is.waits))
    is.whom is.unused
    (record {
      cause = cause;
      names = is.names;
      first = is.first;
      passes = is.passes;
      says = is.says;
      place = is.place;
      leaves = is.left;
    })
    is.allowed

-- One that leaves all as it is serves the event.
pub refused-serves : {G : Type 0} (tell : Telling G) (c : Complex G)
    → ((img : DeviceImages) → tell.since c.rig (tell.moment c.rig) img → Leaves (tell.leaves c.rig) img)
    → (w : Core) → fits_by tell.seen tell.leaves c w → (e : Event) (n : Refusal) (cause : Cause) → IsFor w.scene.state w e n cause
    → (w' : Core) × Serves {C = Complex G} tell stands_for (λ k. k.rig) (fits_by tell.seen tell.leaves) e
    (reply.Refused n) c c w w'
refused-serves {G} tell c now w f e n cause is = (
  passed w w.scene.waits e (reply.Refused n),
  still-serves tell e (reply.Refused n) c c w (passed w w.scene.waits e (reply.Refused n)) refl now f
      (refused-turns (tell.seen c.rig) (tell.leaves c.rig) (parts c) w f e n cause is)
      (nothing-fits (parts c).locks w.scene.waits e (reply.Refused n) (tell.seen c.rig) (tell.leaves c.rig) (parts c) w f tt),
)
