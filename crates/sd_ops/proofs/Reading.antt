-- A read before its wait is ended: each reply that it may get. For `look`.
use Rattle.std.proofs.Common.{◌≡◌, ◌≤◌, true, false, cond, List, [], ◌∷◌, ◌&&◌, refl, sym, ap, ◌∙◌, subst}
use Rattle.std.specs.Prelude.{None, Some}
use Rattle.sd_base.specs.Ids.{same_rid, same_txn}
use Rattle.sd_base.specs.declared.ids.Rid.{Rid}
use Rattle.sd_base.specs.declared.ids.TxnId.{TxnId}
use Rattle.sd_base.specs.declared.place.Mode.TheVariants as modes
use Rattle.sd_base.specs.declared.place.Place as coded
use Rattle.sd_base.specs.declared.place.Status.TheVariants as S
use Rattle.sd_base.specs.declared.refusal.Refusal.{Refusal}
use Rattle.sd_base.specs.declared.refusal.Refusal.TheVariants as R
use Rattle.sd_model.specs.Applies.{Locked, PassesAll}
use Rattle.sd_model.specs.State.{State, read_at, view}
use Rattle.sd_model.specs.StepLaws.{MayAct}
use Rattle.sd_model.specs.Tables.{Content}
use Rattle.sd_model.specs.declared.act.Act.{Act}
use Rattle.sd_model.specs.declared.act.Claim.{Claim}
use Rattle.sd_model.specs.declared.cause.Cause.{Cause}
use Rattle.sd_model.specs.declared.event.Event.TheVariants as event
use Rattle.sd_model.specs.declared.event.Reply.TheVariants as reply
use Rattle.sd_pagelock.specs.Directory.{entry_at}
use Rattle.sd_pagelock.specs.Places.{PageEntry, holds, is_lost, seen}
use Rattle.sd_reclock.specs.Answers.{IsFree, IsRefused}
use Rattle.sd_reclock.specs.Locks.{held, raised, stands, wait_for, waits, waits_in}
use Rattle.sd_reclock.specs.declared.wait.Asked.{Asked}
use Rattle.sd_rig.specs.Devices.{DeviceImages}
use Rattle.sd_chain.specs.Logs.{Outcomes}
use Rattle.sd_chain.specs.Pages.{value}
use Rattle.sd_chain.specs.Records.{home}
use Rattle.sd_txn.specs.Transactions.{state_at}
use Rattle.sd_txn.specs.declared.state.TxnState.{TxnState}
use Rattle.sd_world.specs.Bounds.{bounds_after}
use Rattle.sd_world.specs.Serving.{Core, refused}
use Rattle.sd_update.specs.Changing.{image_for}
use Rattle.sd_state.specs.Parts.{Parts, status_at, txns_at}
use Rattle.sd_state.specs.Values.{Pending}
use Rattle.sd_state.specs.Working.{with_locks}
use Rattle.sd_state.proofs.WorkingTakes.{free-claims}
use Rattle.sd_fits.specs.Fits.{Fits}
use Rattle.sd_fits.proofs.Heads.{is-ready}
use Rattle.sd_fits.proofs.Served.{bounds-stay}
use Rattle.sd_fits.proofs.Taking.{noted-good, taken-fits, took-on, turned_to}
use Rattle.sd_fits.proofs.Values.{copy-seen}
use Rattle.sd_ops.specs.Halves.{HalfServed, HalfTurns, NotesWait}
use Rattle.sd_ops.specs.Copies.{LacksPage}
use Rattle.sd_ops.proofs.Asking.{MayBlock, asked-half}
use Rattle.sd_ops.proofs.Work.{IsFor, IsWork, ready-passes, refused-half}

-- a read is of a transaction that must run
pub read-work : (t : TxnId) (r : Rid) → IsWork (event.Read t r) t
read-work t r = record {
  rest = Cause.Lock ∷ Cause.Lost ∷ Cause.Away ∷ [];
  order = refl;
  txn = refl;
  serve = λ m up. up;
  serves = λ m up. up;
  busy = λ m rolls. rolls;
  works = λ m rolls. rolls;
  names = λ m. refl;
  unused = λ m r. tt;
}

module _ (t : TxnId) (r : Rid) (seen_by : DeviceImages) (leaves : Outcomes) (c : Parts) (low : 1 ≤ home t) (high : home t ≤ 8)
    (up : status_at c (home t) ≡ S.Up) (state : state_at (txns_at c (home t)) t ≡ Some TxnState.Running) where
  ready-here : (w : Core) → Fits seen_by leaves c w → MayAct w.scene.state t
  ready-here w f = is-ready seen_by leaves Pending.Idle c w.scene.state f.good t low high up state

  head : (w : Core) → Fits seen_by leaves c w
      → PassesAll w.scene.state (event.Read t r) (Cause.Shut ∷ Cause.NoTxn ∷ Cause.Down ∷ Cause.Busy ∷ [])
  head w f = ready-passes (event.Read t r) t (read-work t r) seen_by leaves c low high w f (ready-here w f)

  -- its lock is refused
  may-block : (w : Core) → Fits seen_by leaves c w → Locked w.scene.state t r Claim.Shared → MayBlock None w (event.Read t r)
  may-block w f locked = let h = head w f in record {
    cause = Cause.Lock;
    blocked = λ by. refl;
    deadlock = λ cycle. refl;
    first = (refl, h, locked);
    refuses = refl;
    passes = (tt, (tt, (tt, (tt, tt))));
    says = λ b. absurd (cc);
    unused = λ x. tt;
    near = tt;
  }

  pub read-asked : (new : Parts) (n : Refusal) → IsRefused (stands c.locks) (waits c.locks) t (wait_for r modes.Shared) n
      → NotesWait t (wait_for r modes.Shared) n c new → HalfServed seen_by leaves None (event.Read t r) (refused n) c new
  read-asked new = asked-half seen_by leaves c new (event.Read t r) None t r modes.Shared refl refl
      (λ w f. (ready-here w f).runs) may-block

  module _ (free : IsFree (stands c.locks) t (wait_for r modes.Shared)) where
    unlocked : (w : Core) → Fits seen_by leaves c w → Locked w.scene.state t r Claim.Shared → ⊥
    unlocked w f locked = free-claims seen_by leaves Pending.Idle c w.scene.state t r modes.Shared f.good free locked.0 locked.1 locked.2

    -- ---- the page

    lost-for : (w : Core) → Fits seen_by leaves c w → is_lost (entry_at c.directory r.page) ≡ true
        → IsFor None w (event.Read t r) R.Lost Cause.Lost w.scene.state
    lost-for w f lost = let h = head w f in record {
      names = refl;
      tells = tt;
      first = (refl, (h.0, (h.1.0, (h.1.1.0, (h.1.1.1.0, (unlocked w f, tt))))), tt);
      refuses = refl;
      passes = (tt, (tt, (tt, (tt, (tt, tt)))));
      says = λ b. ap is_lost (f.pages.entry r.page) ∙ lost;
      place = tt;
      leaves = refl;
      allows = tt;
      whom = tt;
      unused = tt;
      near = tt;
    }

    away-for : (place : coded.Place) (w : Core) → Fits seen_by leaves c w → is_lost (entry_at c.directory r.page) ≡ false
        → holds (entry_at c.directory r.page) (home t) ≡ false → seen place ≡ entry_at c.directory r.page
        → IsFor None w (event.Read t r) (R.NeedPage place) Cause.Away w.scene.state
    away-for place w f there away is = let h = head w f in record {
      names = refl;
      tells = tt;
      first = (refl, (h.0, (h.1.0, (h.1.1.0, (h.1.1.1.0, (unlocked w f, (tt, tt)))))), tt);
      refuses = refl;
      passes = (tt, (tt, (tt, (tt, (tt, (not-lost w f there, tt))))));
      says = λ b. ap (λ (e : PageEntry). holds e (home t)) (f.pages.entry r.page) ∙ away;
      place = is ∙ sym (f.pages.entry r.page);
      leaves = refl;
      allows = tt;
      whom = tt;
      unused = tt;
      near = tt;
    }
      where
        not-lost : (w : Core) → Fits seen_by leaves c w → is_lost (entry_at c.directory r.page) ≡ false
            → is_lost (w.pages.entry r.page) ≡ true → ⊥
        not-lost w f there lost = let clash = sym there ∙ ap is_lost (sym (f.pages.entry r.page)) ∙ lost in absurd (cc)

    pub read-away : (n : Refusal) → LacksPage modes.Shared (home t) r.page c n → HalfServed seen_by leaves None (event.Read t r) (refused n) c c
    read-away R.Lost lacks = refused-half seen_by leaves c None (event.Read t r) R.Lost Cause.Lost (λ asks. refl)
        (λ w f. lost-for w f lacks) (λ fault. fault)
    read-away (R.NeedPage place) lacks = refused-half seen_by leaves c None (event.Read t r) (R.NeedPage place) Cause.Away (λ asks. refl)
        (λ w f. away-for place w f lacks.0 lacks.1 lacks.2) (λ fault. fault)
    read-away R.Memory lacks = λ w f. f
    read-away n lacks = elim lacks [ ]

    -- ---- the value

    module _ (new : Parts) (v : Content) (held_there : holds (entry_at c.directory r.page) (home t) ≡ true)
        (is : v ≡ value (image_for t r.page c).slots r.slot) (rest : new ≡ with_locks new.locks c)
        (given : (u : TxnId) (q : Rid) → held new.locks u q
        ≡ cond (same_txn t u && same_rid r q) (Some (raised (held c.locks t r) modes.Shared)) (held c.locks u q))
        (same_waits : new.locks.waiting ≡ c.locks.waiting) where
      module _ (w : Core) (f : Fits seen_by leaves c w) where
        abbrev m : State
        m = w.scene.state

        sees : v ≡ view m t r
        sees = is ∙ copy-seen seen_by leaves c m t r modes.Shared f.good up (ready-here w f).runs free held_there

        abbrev then : Core
        then = turned_to w (read_at t r v m) w.scene.waits w.pages (event.Read t r) (reply.Value v)

        there : is_lost (w.pages.entry r.page) ≡ true → ⊥
        there lost = holds-there (w.pages.entry r.page) (ap (λ (e : PageEntry). holds e (home t)) (f.pages.entry r.page) ∙ held_there) lost
          where
            holds-there : (e : PageEntry) → holds e (home t) ≡ true → is_lost e ≡ true → ⊥
            holds-there PageEntry.Lost h l = cc
            holds-there PageEntry.Free h l = cc
            holds-there (PageEntry.Shared set writer) h l = cc
            holds-there (PageEntry.Excl holder dirty) h l = cc
            holds-there (PageEntry.Moving to mode left dirty) h l = cc

        near : holds (w.pages.entry r.page) (home t) ≡ false → ⊥
        near away = let clash = sym away ∙ ap (λ (e : PageEntry). holds e (home t)) (f.pages.entry r.page) ∙ held_there in absurd (cc)

        turns : HalfTurns None w (event.Read t r) (reply.Value v) then
        turns = let h = head w f in record {
          near = tt;
          step = ((h.0, (h.1.0, (h.1.1.0, (h.1.1.1.0, (unlocked w f, (tt, (tt, tt))))))), ((ready-here w f).runs, sees, refl));
          waits = λ u. refl;
          exact = tt;
          unused = tt;
          moves = ((tt, (tt, (tt, (tt, (tt, (there, (near, tt))))))), refl);
          within = tt;
          sums = refl;
        }

        fits : Fits seen_by leaves new then
        fits = subst (λ (x : Parts). Fits seen_by leaves x then) (sym rest)
            (taken-fits new.locks w.scene.waits (read_at t r v m) (bounds_after w.bounds (event.Read t r) (reply.Value v)) seen_by leaves c w f
            (noted-good seen_by leaves c m t r modes.Shared v new.locks f.good f.idle up (ready-here w f).runs free sees given)
            (took-on t r Claim.Shared (Act.Read r v ∷ []) m (ready-here w f).runs)
            (bounds-stay seen_by c w.bounds (event.Read t r) (reply.Value v) tt f.bounds)
            (λ u. ap (λ (l : List (TxnId × Asked)). waits_in l u) same_waits ∙ f.waits u) f.waiting)

      pub read-done : HalfServed seen_by leaves None (event.Read t r) (Some (reply.Value v)) c new
      read-done = (λ w f. (then w f, turns w f, fits w f), λ fault. fault)
