-- A lock that is refused: the call is blocked, or would close a cycle. For the calls on records.
use Rattle.std.proofs.Common.{◌≡◌, false, cond, List, refl, sym, ap, ◌∙◌, subst}
use Rattle.std.specs.Prelude.{Option, None, Some}
use Rattle.sd_base.specs.Ids.{same_txn}
use Rattle.sd_base.specs.Waits.{IsBlocked, IsDeadlock, Wait, with_wait}
use Rattle.sd_base.specs.declared.ids.Rid.{Rid}
use Rattle.sd_base.specs.declared.ids.TxnId.{TxnId}
use Rattle.sd_base.specs.declared.place.Mode.{Mode}
use Rattle.sd_base.specs.declared.refusal.Refusal.{Refusal}
use Rattle.sd_base.specs.declared.refusal.Refusal.TheVariants as R
use Rattle.sd_base.proofs.SameIds.{each_txn}
use Rattle.sd_model.specs.Applies.{First, Locked}
use Rattle.sd_model.specs.Causes.{before, order}
use Rattle.sd_model.specs.Exact.{Blocks, Closes, IsOfFreeSlot}
use Rattle.sd_model.specs.Fields.{txn_of}
use Rattle.sd_model.specs.Refusing.{Names, Refuses}
use Rattle.sd_model.specs.Scenes.{asked_of, is_running}
use Rattle.sd_model.specs.State.{State}
use Rattle.sd_model.specs.Waits as claims
use Rattle.sd_model.specs.Waits.{claim_of}
use Rattle.sd_model.specs.declared.act.Life.{Life}
use Rattle.sd_model.specs.declared.cause.Cause.{Cause}
use Rattle.sd_model.specs.declared.event.Event.{Event}
use Rattle.sd_model.specs.declared.event.Reply.{Reply}
use Rattle.sd_model.specs.declared.event.Reply.TheVariants as reply
use Rattle.sd_model.proofs.WaitAnswers.{blocked-locked, deadlock-locked}
use Rattle.sd_reclock.specs.Answers.{IsRefused}
use Rattle.sd_reclock.specs.Locks as locks
use Rattle.sd_reclock.specs.Locks.{Held, held_in, waits}
use Rattle.sd_rig.specs.Devices.{DeviceImages}
use Rattle.sd_chain.specs.Logs.{Outcomes}
use Rattle.sd_world.specs.Bounds.{bounds_after}
use Rattle.sd_world.specs.PageCauses.{NoneSays, PagesAgree}
use Rattle.sd_world.specs.Serving.{AsksNear, Core, refused}
use Rattle.sd_state.specs.Parts.{Parts}
use Rattle.sd_state.specs.Values.{Pending}
use Rattle.sd_fits.specs.Fits.{Fits}
use Rattle.sd_fits.proofs.Looking.{blocked-there, deadlock-there, locks-agree}
use Rattle.sd_fits.proofs.Served.{bounds-stay, nothing-fits, relocked-good}
use Rattle.sd_fits.proofs.Taking.{same-on, taken-fits}
use Rattle.sd_ops.specs.Halves.{HalfServed, IsRewaited, NotesWait}
use Rattle.sd_ops.proofs.Work.{IsFor, refused-turns, refused_to}

-- What is asked of an event whose lock is refused, in a world where another has a conflicting claim.
pub record MayBlock (wanted : Option Rid) (w : Core) (e : Event) : Type 0 where
  pub cause : Cause
  pub blocked : (by : TxnId) → Names cause (R.Blocked by)
  pub deadlock : (cycle : List TxnId) → Names cause (R.Deadlock cycle)
  pub first : First w.scene.state e cause
  pub refuses : Refuses w.scene.state e cause w.scene.state
  pub passes : NoneSays w.scene.state w.pages e (before cause (order e))
  pub says : PagesAgree w.scene.state w.pages e cause
  pub unused : (r : Reply) → IsOfFreeSlot w.scene.state e wanted r
  pub near : AsksNear w.bounds e wanted

module _ (seen : DeviceImages) (leaves : Outcomes) (c new : Parts) (e : Event) (wanted : Option Rid) (t : TxnId) (r : Rid) (mode : Mode)
    (asks : asked_of e wanted ≡ Some (locks.wait_for r mode)) (own : txn_of e ≡ t)
    (runs : (w : Core) → Fits seen leaves c w → (w.scene.state.part t).life ≡ Life.Running)
    (may : (w : Core) → Fits seen leaves c w → Locked w.scene.state t r (claim_of mode) → MayBlock wanted w e) where
  abbrev wait : Wait
  wait = locks.wait_for r mode

  module _ (w : Core) (f : Fits seen leaves c w) where
    abbrev m : State
    m = w.scene.state

    is-blocked : (by : TxnId) → IsBlocked (locks.stands c.locks) (waits c.locks) t wait by → IsBlocked (claims.stands m) w.scene.waits t wait by
    is-blocked by b = blocked-there (locks.stands c.locks) (claims.stands m) (waits c.locks) w.scene.waits
        (locks-agree seen leaves Pending.Idle c m f.good) f.waits t wait by b

    is-deadlock : (cycle : List TxnId) → IsDeadlock (locks.stands c.locks) (waits c.locks) t wait cycle
        → IsDeadlock (claims.stands m) w.scene.waits t wait cycle
    is-deadlock cycle d = deadlock-there (locks.stands c.locks) (claims.stands m) (waits c.locks) w.scene.waits
        (locks-agree seen leaves Pending.Idle c m f.good) f.waits t wait cycle d

    blocked-for : (by : TxnId) → IsBlocked (claims.stands m) w.scene.waits t wait by → (k : MayBlock wanted w e)
        → IsFor wanted w e (R.Blocked by) k.cause m
    blocked-for by b k = record {
      names = k.blocked by;
      tells = tt;
      first = k.first;
      refuses = k.refuses;
      passes = k.passes;
      says = k.says;
      place = tt;
      leaves = refl;
      allows = tt;
      whom = subst (λ (o : Option Wait). Blocks w.scene (txn_of e) o by) (sym asks)
          (subst (λ (u : TxnId). IsBlocked (claims.stands m) w.scene.waits u wait by) (sym own) b);
      unused = k.unused (reply.Refused (R.Blocked by));
      near = k.near;
    }

    deadlock-for : (cycle : List TxnId) → IsDeadlock (claims.stands m) w.scene.waits t wait cycle → (k : MayBlock wanted w e)
        → IsFor wanted w e (R.Deadlock cycle) k.cause m
    deadlock-for cycle d k = record {
      names = k.deadlock cycle;
      tells = tt;
      first = k.first;
      refuses = k.refuses;
      passes = k.passes;
      says = k.says;
      place = tt;
      leaves = refl;
      allows = tt;
      whom = subst (λ (o : Option Wait). Closes w.scene (txn_of e) o cycle) (sym asks)
          (subst (λ (u : TxnId). IsDeadlock (claims.stands m) w.scene.waits u wait cycle) (sym own) d);
      unused = k.unused (reply.Refused (R.Deadlock cycle));
      near = k.near;
    }

    -- the waits with that of the blocked call
    waits-then : IsRewaited t (Some wait) c new → (u : TxnId) → waits new.locks u ≡ with_wait (txn_of e) (asked_of e wanted) w.scene.waits u
    waits-then n u = n.waits u
        ∙ ap (λ (o : Option Wait). cond {A = Option Wait} (same_txn t u) (Some wait) o) (f.waits u)
        ∙ ap (λ (x : TxnId). cond {A = Option Wait} (same_txn x u) (Some wait) (w.scene.waits u)) (sym own)
        ∙ ap (λ (o : Option Wait). cond {A = Option Wait} (same_txn (txn_of e) u) o (w.scene.waits u)) (sym asks)

    only-running : (u : TxnId) → is_running (m.part u).life ≡ false → with_wait (txn_of e) (asked_of e wanted) w.scene.waits u ≡ None
    only-running = each_txn (txn_of e) (λ u (o : Option Wait). is_running (m.part u).life ≡ false → o ≡ None) (asked_of e wanted) w.scene.waits
        (λ off. let clash = sym off ∙ ap (λ (u : TxnId). is_running (m.part u).life) own ∙ ap is_running (runs w f) in absurd (cc))
        (λ u ne off. f.waiting u off)

    noted-fits : (by : TxnId) → IsRewaited t (Some wait) c new → Fits seen leaves new (refused_to w e wanted (R.Blocked by) m)
    noted-fits by n = subst (λ (x : Parts). Fits seen leaves x (refused_to w e wanted (R.Blocked by) m)) (sym n.rest)
        (taken-fits new.locks (with_wait (txn_of e) (asked_of e wanted) w.scene.waits) m
        (bounds_after w.bounds e (reply.Refused (R.Blocked by))) seen leaves c w f
        (relocked-good new.locks seen leaves Pending.Idle c m f.good (λ u q. ap (λ (l : Held). held_in l u q) n.locks))
        (same-on m) (bounds-stay seen c w.bounds e (reply.Refused (R.Blocked by)) tt f.bounds) (waits-then n) only-running)

  -- The refusal of a lock is right: it names just who stands in the way.
  pub asked-half : (n : Refusal) → IsRefused (locks.stands c.locks) (waits c.locks) t wait n → NotesWait t wait n c new
      → HalfServed seen leaves wanted e (refused n) c new
  asked-half (R.Blocked by) is notes = (
    λ w f. let b = is-blocked w f by is in
        let k = may w f (blocked-locked w.scene.state w.scene.waits t wait by b) in (
          refused_to w e wanted (R.Blocked by) w.scene.state,
          refused-turns wanted w e (R.Blocked by) k.cause w.scene.state (blocked-for w f by b k),
          noted-fits w f by notes,
        ),
    λ fault. fault,
  )
  asked-half (R.Deadlock cycle) is notes = subst (λ (x : Parts). HalfServed seen leaves wanted e (refused (R.Deadlock cycle)) c x) (sym notes) (
    λ w f. let d = is-deadlock w f cycle is in
        let k = may w f (deadlock-locked w.scene.state w.scene.waits t wait cycle d) in (
          refused_to w e wanted (R.Deadlock cycle) w.scene.state,
          refused-turns wanted w e (R.Deadlock cycle) k.cause w.scene.state (deadlock-for w f cycle d k),
          nothing-fits c.locks w.scene.waits e (reply.Refused (R.Deadlock cycle)) seen leaves c w f tt,
        ),
    λ fault. fault,
  )
  asked-half R.Memory is notes = λ w f. subst (λ (x : Parts). Fits seen leaves x w) (sym notes) f
  asked-half n is notes = elim is [ ]
