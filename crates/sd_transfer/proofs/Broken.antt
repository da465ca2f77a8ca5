-- A device fails, and the instance that used it falls: how the event is served. For the calls of events that force logs and
-- write pages.
use Rattle.std.proofs.Common.{◌≡◌, inr, inl, ℕ, ◌≤◌, refl, sym, ap, ◌∙◌, subst}
use Rattle.std.specs.Prelude.{None}
use Rattle.sd_base.specs.Waits.{with_wait}
use Rattle.sd_base.specs.declared.ids.TxnId.{TxnId}
use Rattle.sd_base.specs.declared.refusal.Refusal.TheVariants as R
use Rattle.sd_rig.specs.Devices.{Elapses, Span}
use Rattle.sd_model.specs.Fields.{txn_of}
use Rattle.sd_model.specs.Scenes.{of_running}
use Rattle.sd_model.specs.State.{State, fall}
use Rattle.sd_model.specs.declared.cause.Cause.{Cause}
use Rattle.sd_model.specs.declared.event.Event.{Event}
use Rattle.sd_model.specs.declared.event.Reply.{Reply}
use Rattle.sd_model.specs.declared.event.Reply.TheVariants as reply
use Rattle.sd_moves.specs.Falling.{IsFallen, with_fallen}
use Rattle.sd_world.specs.Answers.{Fails}
use Rattle.sd_world.specs.Bounds.{bounds_after}
use Rattle.sd_world.specs.Pages.{fell}
use Rattle.sd_world.specs.Serving.{Core, Passes, Serves, Telling, Turns}
use Rattle.sd_state.specs.Complexes.{parts}
use Rattle.sd_state.specs.Good.{Good}
use Rattle.sd_state.specs.Images.{Stands}
use Rattle.sd_state.specs.Parts.{Parts}
use Rattle.sd_state.specs.Values.{Pending}
use Rattle.sd_state.specs.declared.complex.Complex.{Complex}
use Rattle.sd_fits.specs.Fits.{Fits, FitsBounds, FitsDoubts, FitsPages}
use Rattle.sd_fits.specs.Serving.{fits_by, stands_for}
use Rattle.sd_fits.proofs.Falling.{IsElsewhere, fallen-fits-so, fallen-pages, fell-waits, fell_core, numbers_of, turns-fell}
use Rattle.sd_fits.proofs.Served.{bounds-stay, none-ended}
use Rattle.sd_transfer.specs.Breaking.{BreaksBy}

-- Instance i used a device that failed, which left the parts `mid` of a complex that fitted w, and sums as behind the event; then i fell.
module _ {G : Type 0} (tell : Telling G) (c new : Complex G) (rig : G) (mid : Parts) (i : ℕ) (low : 1 ≤ i) (high : i ≤ 8) (w : Core)
    (f : fits_by tell.seen tell.leaves c w)
    (good : Good (tell.seen rig) (tell.leaves rig) Pending.Idle mid w.scene.state)
    (else : IsElsewhere i (parts c) mid)
    (pages : FitsPages (tell.seen rig) (tell.leaves rig) (parts new)
    (fell i (numbers_of (tell.seen rig) (tell.leaves rig) (parts new)) w.pages))
    (doubts : FitsDoubts (tell.seen rig) mid w.scene.state)
    (same : new.rig ≡ rig) (is : parts new ≡ with_fallen i (parts new) mid)
    (fallen : IsFallen i mid (parts new))
    (fell_good : Good (tell.seen new.rig) (tell.leaves new.rig) Pending.Idle (parts new) (fall i w.scene.state))
    (time : Elapses (tell.moment c.rig) (tell.moment rig) (tell.since c.rig) (tell.since rig))
    (span : Span (tell.moment c.rig) (tell.since rig) (Stands w.scene.state Pending.Idle))
    (e : Event) (breaks : BreaksBy i e w)
    (bounds : FitsBounds (tell.seen rig) (tell.leaves rig) mid (bounds_after w.bounds e (reply.Refused R.Failed))) where
  abbrev m : State
  m = w.scene.state

  abbrev answer : Reply
  answer = reply.Refused R.Failed

  abbrev number : ℕ → ℕ
  number = numbers_of (tell.seen rig) (tell.leaves rig) (parts new)

  abbrev next : Core
  next = fell_core i m number (bounds_after w.bounds e answer) w

  good-there : Good (tell.seen rig) (tell.leaves rig) Pending.Idle (parts new) (fall i m)
  good-there = subst (λ (d : G). Good (tell.seen d) (tell.leaves d) Pending.Idle (parts new) (fall i m)) same fell_good

  fits-then : Fits (tell.seen rig) (tell.leaves rig) (parts new) next
  fits-then = fallen-fits-so i (tell.seen c.rig) (tell.seen rig) (tell.leaves c.rig) (tell.leaves rig) Pending.Idle
      (parts c) mid (parts new) m m w low high f good else is fallen (λ t ne. refl) (bounds_after w.bounds e answer)
      pages bounds doubts good-there

  kept : (u : TxnId) → of_running m (with_wait (txn_of e) None w.scene.waits) u ≡ w.scene.waits u
  kept u = ap (λ (t : TxnId). of_running m (with_wait t None w.scene.waits) u) breaks.nobodys
      ∙ none-ended (tell.seen c.rig) (tell.leaves c.rig) (parts c) w f u

  turns : Turns w e answer next
  turns = turns-fell i m number w e answer
      (Cause.Rig, refl, tt, breaks.first, inr (i, breaks.falls, sym (ap (fall i) breaks.uncounted)))
      (fell-waits i (tell.seen c.rig) (tell.seen rig) (tell.leaves c.rig) (tell.leaves rig) Pending.Idle
      (parts c) mid (parts new) m m w low high f good else is fallen (λ t ne. refl)
      (with_wait (txn_of e) None w.scene.waits)
      (λ u ne. kept u))
      tt breaks.unused
      (record {
        cause = Cause.Rig;
        names = refl;
        first = breaks.first;
        passes = breaks.passes;
        says = λ never. absurd (cc);
        place = tt;
        leaves = Fails.falls i w.pages number breaks.falls (sym (ap (fall i) breaks.uncounted)) breaks.did refl;
      })
      tt

  passes-on : Passes tell stands_for c.rig rig m (fall i m)
  passes-on = record { time = time; span = record { each = λ img s. inl (span.each img s) } }

  -- the event is refused as `Failed`
  pub broken-serves-so : (w' : Core) × Serves {C = Complex G} tell stands_for (λ k. k.rig) (fits_by tell.seen tell.leaves) e answer
      c new w w'
  broken-serves-so = (
    next,
    record {
      turns = turns;
      fits_then = subst (λ (d : G). Fits (tell.seen d) (tell.leaves d) (parts new) next) (sym same) fits-then;
      passes = subst (λ (d : G). Passes tell stands_for c.rig d m (fall i m)) (sym same) passes-on;
    },
  )

-- The same where what is left of the complex has the pages and the sums of w still.
module _ {G : Type 0} (tell : Telling G) (c mid new : Complex G) (i : ℕ) (low : 1 ≤ i) (high : i ≤ 8) (w : Core)
    (f : fits_by tell.seen tell.leaves c w)
    (good : Good (tell.seen mid.rig) (tell.leaves mid.rig) Pending.Idle (parts mid) w.scene.state)
    (else : IsElsewhere i (parts c) (parts mid))
    (pages : FitsPages (tell.seen mid.rig) (tell.leaves mid.rig) (parts mid) w.pages)
    (bounds : FitsBounds (tell.seen mid.rig) (tell.leaves mid.rig) (parts mid) w.bounds)
    (doubts : FitsDoubts (tell.seen mid.rig) (parts mid) w.scene.state)
    (same : new.rig ≡ mid.rig) (is : parts new ≡ with_fallen i (parts new) (parts mid))
    (fallen : IsFallen i (parts mid) (parts new))
    (fell_good : Good (tell.seen new.rig) (tell.leaves new.rig) Pending.Idle (parts new) (fall i w.scene.state))
    (time : Elapses (tell.moment c.rig) (tell.moment mid.rig) (tell.since c.rig) (tell.since mid.rig))
    (span : Span (tell.moment c.rig) (tell.since mid.rig) (Stands w.scene.state Pending.Idle))
    (e : Event) (breaks : BreaksBy i e w) where
  pub broken-serves : (w' : Core)
      × Serves {C = Complex G} tell stands_for (λ k. k.rig) (fits_by tell.seen tell.leaves) e (reply.Refused R.Failed) c new w w'
  broken-serves = broken-serves-so tell c new mid.rig (parts mid) i low high w f good else
      (fallen-pages i (tell.seen mid.rig) (tell.leaves mid.rig) Pending.Idle (parts mid) (parts new) w.scene.state low high good is
      fallen w.pages pages)
      doubts same is fallen fell_good time span e breaks
      (bounds-stay (tell.seen mid.rig) (parts mid) w.bounds e (reply.Refused R.Failed) tt bounds)
