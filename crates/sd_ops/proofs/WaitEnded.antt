-- A call whose wait is ended is served. For the calls on records.
use Rattle.std.proofs.Common.{◌≡◌, ℕ, Bool, cond, refl, sym, ap, ◌∙◌, subst, arith}
use Rattle.std.specs.Prelude.{Option, None, Result, Ok, Err}
use Rattle.sd_base.specs.Ids.{same_txn}
use Rattle.sd_base.specs.Waits.{Wait, Waits, with_wait}
use Rattle.sd_base.specs.declared.ids.Rid.{Rid}
use Rattle.sd_base.specs.declared.ids.TxnId.{TxnId}
use Rattle.sd_base.specs.declared.refusal.Refusal.{Refusal}
use Rattle.sd_base.specs.declared.refusal.Refusal.TheVariants as R
use Rattle.sd_model.specs.Fields.{txn_of}
use Rattle.sd_model.specs.Scenes.{asked_of, is_running, wait_after, waits_after}
use Rattle.sd_model.specs.declared.event.Event.{Event}
use Rattle.sd_model.specs.declared.event.Event.TheVariants.{FailAll}
use Rattle.sd_model.specs.declared.event.Reply.{Reply}
use Rattle.sd_model.specs.declared.event.Reply.TheVariants as reply
use Rattle.sd_reclock.specs.Locks.{Held, held_in}
use Rattle.sd_rig.specs.Devices.{DeviceImages, Leaves}
use Rattle.sd_chain.specs.Logs.{Outcomes}
use Rattle.sd_world.specs.Serving.{Core, FaultsAre, FewFaults, IsFault, Passes, Serves, Spares, Telling, Turns, answered}
use Rattle.sd_state.specs.Complexes.{parts}
use Rattle.sd_state.specs.Parts.{Parts}
use Rattle.sd_state.specs.Values.{Pending}
use Rattle.sd_state.specs.declared.complex.Complex.{Complex}
use Rattle.sd_fits.specs.Fits.{Fits}
use Rattle.sd_fits.specs.Serving.{Serving, fits_by, stands_for}
use Rattle.sd_fits.proofs.Known.{none-waits}
use Rattle.sd_fits.proofs.Served.{ended-wait, fits-left, relocked-good, running-wait, still-passes, still-serves}
use Rattle.sd_fits.proofs.Taking.{same-on, taken-fits}
use Rattle.sd_ops.specs.Halves.{EndsWait, HalfServed, HalfTurns, IsRewaited, noted, refusal_of}

-- ---- no fault

few-none : (e : Event) (n : ℕ) → FewFaults e n n
few-none (FailAll pick) n = omega arith
few-none e n = refl

-- where the devices' count stays, a reply that tells no fault is right of it
pub no-fault : (e : Event) (r : Reply) (n : ℕ) → (IsFault r → ⊥) → FaultsAre e r n n
no-fault e (reply.Refused R.Failed) n none = absurd (none tt)
no-fault e (reply.Refused R.CutCommit) n none = absurd (none tt)
no-fault e r n none = few-none e n

-- ---- the wait

-- Nobody begins to wait by this reply.
pub record IsCalm (r : Reply) : Type 0 where
  pub after : (asked : Option Wait) → wait_after asked r ≡ None
  pub waits : (e : Event) (wanted : Option Rid) (asks : Waits) → noted e wanted r asks ≡ asks

-- The world that is reached, and the parts that fit it.
pub record Reaches (seen : DeviceImages) (leaves : Outcomes) (w : Core) (e : Event) (r : Reply) (new : Parts) : Type 0 where
  pub core : Core
  pub turns : Turns w e r core
  pub fits : Fits seen leaves new core

abbrev without_wait : TxnId → Core → Core
without_wait t w = record {
  scene = record { state = w.scene.state; waits = with_wait t None w.scene.waits };
  pages = w.pages;
  bounds = w.bounds;
}

module _ (wanted : Option Rid) (e : Event) (r : Reply) (seen : DeviceImages) (leaves : Outcomes) (mid new : Parts) (w w' : Core)
    (h : HalfTurns wanted w e r w') (f : Fits seen leaves mid w') where
  module _ (calm : IsCalm r) (ends : IsRewaited (txn_of e) None mid new) where
    abbrev t : TxnId
    t = txn_of e

    calmed-fits : Fits seen leaves new (without_wait t w')
    calmed-fits = subst (λ (c : Parts). Fits seen leaves c (without_wait t w')) (sym ends.rest)
        (taken-fits new.locks (with_wait t None w'.scene.waits) w'.scene.state w'.bounds seen leaves mid w' f
        (relocked-good new.locks seen leaves Pending.Idle mid w'.scene.state f.good
        (λ u q. ap (λ (l : Held). held_in l u q) ends.locks))
        (same-on w'.scene.state) f.bounds
        (λ u. ends.waits u ∙ ap (λ (o : Option Wait). cond {A = Option Wait} (same_txn t u) None o) (f.waits u))
        (λ u off. none-waits (same_txn t u) (w'.scene.waits u) (f.waiting u off)))

    abbrev run : TxnId → Bool
    run u = is_running (w'.scene.state.part u).life

    calmed-waits : (u : TxnId) → with_wait t None w'.scene.waits u ≡ waits_after w'.scene.state e wanted r w.scene.waits u
    calmed-waits u = sym (ended-wait seen leaves mid w' f t u)
        ∙ ap (λ (o : Option Wait). cond {A = Option Wait} (run u) (cond {A = Option Wait} (same_txn t u) None o) None)
        (h.waits u ∙ ap (λ (asks : Waits). asks u) (calm.waits e wanted w.scene.waits))
        ∙ ap (λ (o : Option Wait). cond {A = Option Wait} (run u) (cond {A = Option Wait} (same_txn t u) o (w.scene.waits u)) None)
        (sym (calm.after (asked_of e wanted)))

    pub calm-reaches : Reaches seen leaves w e r new
    calm-reaches = record {
      core = without_wait t w';
      turns = record {
        wanted = wanted;
        near = h.near;
        plays = record { step = h.step; waits = calmed-waits };
        exact = h.exact;
        unused = h.unused;
        moves = h.moves;
        within = h.within;
        sums = h.sums;
      };
      fits = calmed-fits;
    }

  -- one that is blocked waits on
  module _ (by : TxnId) (is : r ≡ reply.Refused (R.Blocked by)) (same : new ≡ mid) where
    blocked-waits : (u : TxnId) → w'.scene.waits u ≡ waits_after w'.scene.state e wanted r w.scene.waits u
    blocked-waits u = sym (running-wait seen leaves mid w' f u)
        ∙ ap (λ (o : Option Wait). cond {A = Option Wait} (is_running (w'.scene.state.part u).life) o None)
        (h.waits u ∙ subst (λ (x : Reply). noted e wanted x w.scene.waits u
        ≡ with_wait (txn_of e) (wait_after (asked_of e wanted) x) w.scene.waits u) (sym is) refl)

    pub blocked-reaches : Reaches seen leaves w e r new
    blocked-reaches = record {
      core = w';
      turns = record {
        wanted = wanted;
        near = h.near;
        plays = record { step = h.step; waits = blocked-waits };
        exact = h.exact;
        unused = h.unused;
        moves = h.moves;
        within = h.within;
        sums = h.sums;
      };
      fits = subst (λ (c : Parts). Fits seen leaves c w') (sym same) f;
    }

-- ---- the call

module _ {G : Type 0} (tell : Telling G) (wanted : Option Rid) (e : Event) (old mid new : Complex G)
    (now : (img : DeviceImages) → tell.since old.rig (tell.moment old.rig) img → Leaves (tell.leaves old.rig) img)
    (rig_is : new.rig ≡ old.rig) where
  serves-by : (r : Reply) (w : Core) → fits_by tell.seen tell.leaves old w
      → Reaches (tell.seen old.rig) (tell.leaves old.rig) w e r (parts new)
      → (w' : Core) × Serves {C = Complex G} tell stands_for (λ c. c.rig) (fits_by tell.seen tell.leaves) e r old new w w'
  serves-by r w f x = (
    x.core,
    still-serves tell e r old new w x.core (sym rig_is) now f x.turns
        (subst (λ (d : G). Fits (tell.seen d) (tell.leaves d) (parts new) x.core) (sym rig_is) x.fits),
  )

  faults-by : (r : Reply) → (IsFault r → ⊥) → FaultsAre e r (tell.faults old.rig) (tell.faults new.rig)
  faults-by r none = subst (λ (d : G). FaultsAre e r (tell.faults old.rig) (tell.faults d)) (sym rig_is)
      (no-fault e r (tell.faults old.rig) none)

  spares-by : (w : Core) → fits_by tell.seen tell.leaves old w → Fits (tell.seen old.rig) (tell.leaves old.rig) (parts new) w
      → Spares {C = Complex G} tell stands_for (λ c. c.rig) (fits_by tell.seen tell.leaves) old new w
  spares-by w f then = record {
    fits_still = subst (λ (d : G). Fits (tell.seen d) (tell.leaves d) (parts new) w) (sym rig_is) then;
    passes = subst (λ (d : G). Passes tell stands_for old.rig d w.scene.state w.scene.state) (sym rig_is)
        (still-passes tell old.rig w.scene.state w.scene.state now
        (fits-left (tell.seen old.rig) (tell.leaves old.rig) (parts old) w f));
  }

  -- Every reply to a call is served, where what was reached before its wait is ended is, and the wait is ended.
  pub half-serves : {X : Type 0} (answer : X → Reply) → ((x : X) → IsCalm (answer x)) → (done : Result X Refusal)
      → HalfServed (tell.seen old.rig) (tell.leaves old.rig) wanted e (answered answer done) (parts old) (parts mid)
      → EndsWait (txn_of e) (refusal_of done) (parts mid) (parts new)
      → Serving tell e (answered answer done) old new
  half-serves answer calm (Ok x) h ends = (
    λ w f. let half = h.0 w f in serves-by (answer x) w f (calm-reaches wanted e (answer x) _ _ (parts mid) (parts new) w half.0
        half.1 half.2 (calm x) ends),
    faults-by (answer x) h.1,
  )
  half-serves answer calm (Err R.Memory) h ends = (
    λ w f. spares-by w f (subst (λ (c : Parts). Fits (tell.seen old.rig) (tell.leaves old.rig) c w) (sym ends) (h w f)),
    ap (λ (d : G). tell.faults d) rig_is,
  )
  half-serves answer calm (Err (R.Blocked by)) h ends = (
    λ w f. let half = h.0 w f in serves-by (reply.Refused (R.Blocked by)) w f (blocked-reaches wanted e (reply.Refused (R.Blocked by)) _ _
        (parts mid) (parts new) w half.0 half.1 half.2 by refl ends),
    faults-by (reply.Refused (R.Blocked by)) h.1,
  )
  half-serves answer calm (Err n) h ends = (
    λ w f. let half = h.0 w f in serves-by (reply.Refused n) w f (calm-reaches wanted e (reply.Refused n) _ _ (parts mid) (parts new) w
        half.0 half.1 half.2 (record { after = λ asked. refl; waits = λ e wanted asks. refl }) ends),
    faults-by (reply.Refused n) h.1,
  )
