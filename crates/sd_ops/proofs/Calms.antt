-- Replies by which nothing changes but a wait that ends, and those whose transaction turns: how the event is served. For `back_to` and
-- `undo`.
use Rattle.std.proofs.Common.{◌≡◌, ◌≢◌, ◌⊎◌, inl, inr, Bool, true, false, cond, refl, sym, ap, ◌∙◌, subst}
use Rattle.std.specs.Prelude.{Option, None}
use Rattle.sd_base.specs.Ids.{same_txn}
use Rattle.sd_base.specs.Waits.{Wait, with_wait}
use Rattle.sd_base.specs.declared.ids.TxnId.{TxnId}
use Rattle.sd_base.specs.declared.refusal.Refusal.TheVariants as R
use Rattle.sd_base.proofs.SameIds.{cases_txn, each_txn, eq-same, ne-same}
use Rattle.sd_model.specs.Exact.{IsExact, IsOfFreeSlot}
use Rattle.sd_model.specs.Fields.{txn_of}
use Rattle.sd_model.specs.Scenes.{asked_of, is_running, of_running, wait_after}
use Rattle.sd_model.specs.State.{Part, State, put_part}
use Rattle.sd_model.specs.Step.{Step}
use Rattle.sd_model.specs.declared.event.Event.{Event}
use Rattle.sd_model.specs.declared.event.Reply.{Reply}
use Rattle.sd_model.specs.declared.event.Reply.TheVariants as reply
use Rattle.sd_reclock.specs.Locks.{Held, held_in, waits}
use Rattle.sd_rig.specs.Devices.{DeviceImages, Leaves}
use Rattle.sd_chain.specs.Logs.{Outcomes}
use Rattle.sd_world.specs.Answers.{Moves}
use Rattle.sd_world.specs.Bounds.{TellsNoPlace, Within, bounds_after}
use Rattle.sd_world.specs.Serving.{Core, Serves, Telling, Turns}
use Rattle.sd_state.specs.Complexes.{parts}
use Rattle.sd_state.specs.Parts.{Parts}
use Rattle.sd_state.specs.Working.{with_locks}
use Rattle.sd_state.specs.declared.complex.Complex.{Complex}
use Rattle.sd_fits.specs.Fits.{Fits}
use Rattle.sd_fits.specs.Serving.{fits_by, stands_for}
use Rattle.sd_fits.proofs.Known.{none-waits}
use Rattle.sd_fits.proofs.Served.{ended-wait, passed, stays-fitting, still-serves, turns-on}
use Rattle.sd_fits.proofs.Still.{moved-fits}
use Rattle.sd_fits.proofs.Turning.{turned_core}

-- The transaction waits for nothing, and nothing else is changed.
pub record IsCalmed (t : TxnId) (old new : Parts) : Type 0 where
  pub rest : new ≡ with_locks new.locks old
  pub locks : new.locks.locks ≡ old.locks.locks
  pub waits : (u : TxnId) → waits new.locks u ≡ with_wait t None (waits old.locks) u

-- who asks for no lock waits for none
pub no-wait : (r : Reply) → wait_after None r ≡ None
no-wait (reply.Refused (R.Blocked by)) = refl
no-wait r = refl

-- What is to be shown of a reply that leaves state and pages.
pub record IsAnswer (w : Core) (e : Event) (r : Reply) : Type 0 where
  pub step : Step w.scene.state e r w.scene.state
  pub exact : IsExact w.scene (txn_of e) (asked_of e None) r
  pub unused : IsOfFreeSlot w.scene.state e None r
  pub moves : Moves w.scene.state w.pages e r w.scene.state w.pages
  pub within : Within w.scene.state w.bounds e r

module _ (t : TxnId) (seen : DeviceImages) (leaves : Outcomes) (c : Parts) (w : Core) (f : Fits seen leaves c w) where
  abbrev m : State
  m = w.scene.state

  -- one that doesn't run waits for nothing anyway
  pub calm-already : is_running (m.part t).life ≡ false → IsCalmed t c c
  calm-already rests = record { rest = refl; locks = refl; waits = λ u. by u (cases_txn t u) }
    where
      by : (u : TxnId) → (t ≡ u) ⊎ (t ≢ u) → waits c.locks u ≡ cond {A = Option Wait} (same_txn t u) None (waits c.locks u)
      by u (inl e) = ap (waits c.locks) (sym e) ∙ f.waits t ∙ f.waiting t rests
          ∙ sym (ap (λ (b : Bool). cond {A = Option Wait} b None (waits c.locks u)) (eq-same t u e))
      by u (inr ne) = sym (ap (λ (b : Bool). cond {A = Option Wait} b None (waits c.locks u)) (ne-same t u ne))

  -- ---- nothing changes but the wait

  module _ (e : Event) (r : Reply) (whose : txn_of e ≡ t) (none : wait_after (asked_of e None) r ≡ None) where
    abbrev next : Core
    next = passed w (with_wait t None w.scene.waits) e r

    pub calm-turns : IsAnswer w e r → Turns w e r next
    calm-turns a = turns-on w (with_wait t None w.scene.waits) e r a.step
        (λ u. sym (ended-wait seen leaves c w f t u)
        ∙ sym (ap (λ (v : TxnId). of_running m (with_wait v (wait_after (asked_of e None) r) w.scene.waits) u) whose
        ∙ ap (λ (o : Option Wait). of_running m (with_wait t o w.scene.waits) u) none))
        a.exact a.unused a.moves a.within

    pub calm-fits : TellsNoPlace r → (new : Parts) → IsCalmed t c new → Fits seen leaves new next
    calm-fits told new k = subst (λ (q : Parts). Fits seen leaves q next) (sym k.rest)
        (stays-fitting new.locks (with_wait t None w.scene.waits) e r seen leaves c w f told
        (λ u q. ap (λ (l : Held). held_in l u q) k.locks)
        (λ u. k.waits u ∙ ap (λ (o : Option Wait). cond {A = Option Wait} (same_txn t u) None o) (f.waits u))
        (λ u rests. none-waits (same_txn t u) (w.scene.waits u) (f.waiting u rests)))

  -- the waits of those that run, once t's part is another, and it waits for nothing
  pub turned-waits : (p : Part) (u : TxnId)
      → with_wait t None w.scene.waits u ≡ of_running (put_part t p m) (with_wait t None w.scene.waits) u
  turned-waits p = each_txn t
      (λ u (q : Part). with_wait t None w.scene.waits u ≡ cond {A = Option Wait} (is_running q.life) (with_wait t None w.scene.waits u) None)
      p m.part (by (is_running p.life)) (λ u ne. sym (ended-wait seen leaves c w f t u))
    where
      own : with_wait t None w.scene.waits t ≡ None
      own = ap (λ (b : Bool). cond {A = Option Wait} b None (w.scene.waits t)) (eq-same t t refl)

      by : (b : Bool) → with_wait t None w.scene.waits t ≡ cond {A = Option Wait} b (with_wait t None w.scene.waits t) None
      by true = refl
      by false = own

-- the call that leaves all but the wait serves the event
pub calm-serves : {G : Type 0} (tell : Telling G) (t : TxnId) (e : Event) (r : Reply) (old new : Complex G) → new.rig ≡ old.rig
    → ((img : DeviceImages) → tell.since old.rig (tell.moment old.rig) img → Leaves (tell.leaves old.rig) img) → txn_of e ≡ t
    → wait_after (asked_of e None) r ≡ None → TellsNoPlace r → (w : Core) → fits_by tell.seen tell.leaves old w
    → IsCalmed t (parts old) (parts new) → IsAnswer w e r
    → (w' : Core) × Serves {C = Complex G} tell stands_for (λ c. c.rig) (fits_by tell.seen tell.leaves) e r old new w w'
calm-serves tell t e r old new same now whose none told w f k a = (
  passed w (with_wait t None w.scene.waits) e r,
  still-serves tell e r old new w (passed w (with_wait t None w.scene.waits) e r) (sym same) now f
      (calm-turns t (tell.seen old.rig) (tell.leaves old.rig) (parts old) w f e r whose none a)
      (moved-fits tell old new same (passed w (with_wait t None w.scene.waits) e r)
      (calm-fits t (tell.seen old.rig) (tell.leaves old.rig) (parts old) w f e r whose none told (parts new) k)),
)

-- and the call that turns the transaction does
pub turn-serves : {G : Type 0} (tell : Telling G) (t : TxnId) (p : Part) (e : Event) (r : Reply) (old new : Complex G) → new.rig ≡ old.rig
    → ((img : DeviceImages) → tell.since old.rig (tell.moment old.rig) img → Leaves (tell.leaves old.rig) img) → txn_of e ≡ t
    → wait_after (asked_of e None) r ≡ None → (w : Core) → fits_by tell.seen tell.leaves old w
    → Fits (tell.seen old.rig) (tell.leaves old.rig) (parts new) (turned_core t p (with_wait t None w.scene.waits) (bounds_after w.bounds e r) w)
    → Step w.scene.state e r (put_part t p w.scene.state) → IsExact w.scene (txn_of e) (asked_of e None) r
    → IsOfFreeSlot w.scene.state e None r → Moves w.scene.state w.pages e r (put_part t p w.scene.state) w.pages
    → Within w.scene.state w.bounds e r
    → (w' : Core) × Serves {C = Complex G} tell stands_for (λ c. c.rig) (fits_by tell.seen tell.leaves) e r old new w w'
turn-serves tell t p e r old new same now whose none w f fits step exact unused moves within = (
  turned_core t p (with_wait t None w.scene.waits) (bounds_after w.bounds e r) w,
  still-serves tell e r old new w (turned_core t p (with_wait t None w.scene.waits) (bounds_after w.bounds e r) w) (sym same) now f
      (record {
        wanted = None;
        near = tt;
        plays = record {
          step = step;
          waits = λ u. turned-waits t (tell.seen old.rig) (tell.leaves old.rig) (parts old) w f p u
              ∙ sym (ap (λ (v : TxnId). of_running (put_part t p w.scene.state) (with_wait v (wait_after (asked_of e None) r) w.scene.waits) u) whose
              ∙ ap (λ (o : Option Wait). of_running (put_part t p w.scene.state) (with_wait t o w.scene.waits) u) none);
        };
        exact = exact;
        unused = unused;
        moves = moves;
        within = within;
        sums = refl;
      })
      (moved-fits tell old new same (turned_core t p (with_wait t None w.scene.waits) (bounds_after w.bounds e r) w) fits),
)
