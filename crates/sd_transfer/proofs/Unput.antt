-- A put that failed: how its event is served. For the calls of events that put pages.
use Rattle.std.proofs.Common.{◌≡◌, ◌≢◌, inl, ℕ, ◌≤◌, true, false, [], refl, sym, ap, ◌∙◌, subst, arith}
use Rattle.std.specs.Prelude.{None, Some}
use Rattle.sd_base.specs.Streams.{Rises}
use Rattle.sd_base.specs.Waits.{with_wait}
use Rattle.sd_base.specs.declared.ids.TxnId.{TxnId}
use Rattle.sd_base.specs.declared.refusal.Refusal.TheVariants as R
use Rattle.sd_rig.specs.Devices.{Elapses, LeavesSame, Span}
use Rattle.sd_model.specs.State.{State, fall}
use Rattle.sd_model.specs.declared.cause.Cause.{Cause}
use Rattle.sd_model.specs.declared.event.Event.{Event}
use Rattle.sd_model.specs.declared.event.Reply.{Reply}
use Rattle.sd_model.specs.declared.event.Reply.TheVariants as reply
use Rattle.sd_moves.specs.Falling.{IsFallen, with_fallen}
use Rattle.sd_moves.specs.Putting.{SameVersions, with_loose_disk}
use Rattle.sd_world.specs.Answers.{Fails}
use Rattle.sd_world.specs.Bounds.{bounds_after}
use Rattle.sd_world.specs.Serving.{Core, Passes, Telling}
use Rattle.sd_state.specs.Complexes.{parts}
use Rattle.sd_state.specs.Forcing.{KeepMasters}
use Rattle.sd_state.specs.Good.{Good}
use Rattle.sd_state.specs.Images.{Stands}
use Rattle.sd_state.specs.Parts.{Parts, is_loose, log_at}
use Rattle.sd_state.specs.Values.{Pending}
use Rattle.sd_state.specs.declared.complex.Complex.{Complex}
use Rattle.sd_state.proofs.Masters.{masters-less}
use Rattle.sd_fits.specs.Fits.{Fits, FitsBounds, FitsDoubts, FitsPages}
use Rattle.sd_fits.specs.Serving.{Serving, fits_by, stands_for}
use Rattle.sd_fits.proofs.Falling.{IsElsewhere}
use Rattle.sd_transfer.proofs.PutFits.{put-bounds, put-doubts, put-fits, put-pages}
use Rattle.sd_fits.proofs.Refused.{IsFor, refused-turns}
use Rattle.sd_fits.proofs.Served.{bounds-stay, passed}
use Rattle.sd_transfer.specs.Breaking.{BreaksBy}
use Rattle.sd_transfer.specs.Forcing.{OnlyLogs}
use Rattle.sd_transfer.specs.Writing.{IsUnread}
use Rattle.sd_transfer.proofs.Broken.{broken-serves}

-- a read failed behind a force that left `mid` of old
pub unread-behind : (i : ℕ) (old mid new : Parts) → OnlyLogs old mid → (is_loose old i ≡ false → (log_at mid i).tail ≡ [])
    → new ≡ with_loose_disk false mid → IsUnread i old new
unread-behind i old mid new stays forced same = record {
  stays = same ∙ ap (with_loose_disk false) stays
      ∙ ap (λ (k : Parts). record (with_loose_disk false old) { logs = k.logs; owed = k.owed }) (sym same);
  forced = λ settled. ap (λ (k : Parts). (log_at k i).tail) same ∙ forced settled;
}

-- A put of instance i during event e failed, and left `mid` of c.
module _ {G : Type 0} (tell : Telling G) (c mid : Complex G) (i : ℕ) (e : Event)
    (breaks : (w : Core) → fits_by tell.seen tell.leaves c w → BreaksBy i e w)
    (good : (pend : Pending) (m : State) → Good (tell.seen c.rig) (tell.leaves c.rig) pend (parts c) m
    → Good (tell.seen mid.rig) (tell.leaves mid.rig) pend (parts mid) m)
    (images : (pend : Pending) (m : State) → Good (tell.seen c.rig) (tell.leaves c.rig) pend (parts c) m
    → Span (tell.moment c.rig) (tell.since mid.rig) (Stands m pend))
    (time : Elapses (tell.moment c.rig) (tell.moment mid.rig) (tell.since c.rig) (tell.since mid.rig))
    (versions : SameVersions (tell.seen c.rig) (tell.seen mid.rig) (parts c))
    (others_leave : (d : ℕ) → d ≢ 0 → LeavesSame (tell.leaves c.rig d) (tell.leaves mid.rig d))
    (rises : Rises (tell.faults c.rig) (tell.faults mid.rig)) where
  abbrev answer : Reply
  answer = reply.Refused R.Failed

  kept : KeepMasters (tell.leaves c.rig) (tell.leaves mid.rig)
  kept = masters-less (tell.leaves c.rig) (tell.leaves mid.rig)
      (λ j lo bytes left. (others_leave j (λ e. omega (arith, lo, e)) bytes).0 left)

  module _ (w : Core) (f : fits_by tell.seen tell.leaves c w) where
    good-then : Good (tell.seen mid.rig) (tell.leaves mid.rig) Pending.Idle (parts mid) w.scene.state
    good-then = good Pending.Idle w.scene.state f.good

    passes-on : Passes tell stands_for c.rig mid.rig w.scene.state w.scene.state
    passes-on = record {
      time = time;
      span = record { each = λ img s. inl ((images Pending.Idle w.scene.state f.good).each img s) };
    }

    same-pages : FitsPages (tell.seen c.rig) (tell.leaves c.rig)
        (record (parts c) { pools = (parts c).pools; directory = (parts c).directory }) w.pages
    same-pages = record {
      frames = f.pages.frames;
      entry = f.pages.entry;
      asks = f.pages.asks;
      number = f.pages.number;
      begun = f.pages.begun;
    }

    -- it is refused for the device, and nothing changes
    failed-for : IsFor w.scene.state w e R.Failed Cause.Rig
    failed-for =
        let b : BreaksBy i e w = breaks w f in
        record {
          waits = ap (λ (t : TxnId). with_wait t None w.scene.waits) b.nobodys;
          whom = tt;
          unused = b.unused;
          allowed = tt;
          names = refl;
          tells = tt;
          first = b.first;
          refuses = inl (sym b.uncounted);
          passes = b.passes;
          says = λ never. absurd (cc);
          place = tt;
          left = Fails.stays (sym b.uncounted) refl;
        }

  -- a read failed: nothing changes that the world tells
  pub unread-served : parts mid ≡ with_loose_disk false (parts c) → Serving tell e (Some answer) c mid
  unread-served is = (
    λ w f. (
      passed w w.scene.waits e answer,
      record {
        turns = refused-turns (tell.seen c.rig) (tell.leaves c.rig) (parts c) w f e R.Failed Cause.Rig (failed-for w f);
        fits_then = subst (λ (k : Parts). Fits (tell.seen mid.rig) (tell.leaves mid.rig) k (passed w w.scene.waits e answer))
            (sym is)
            (put-fits false (parts c).directory (tell.seen c.rig) (tell.seen mid.rig) (tell.leaves c.rig)
            (tell.leaves mid.rig) (parts c) versions kept w f w.pages (bounds_after w.bounds e answer)
            (subst (λ (k : Parts). Good (tell.seen mid.rig) (tell.leaves mid.rig) Pending.Idle k w.scene.state) is
            (good-then w f))
            (same-pages w f) (bounds-stay (tell.seen c.rig) (parts c) w.bounds e answer tt f.bounds));
        passes = passes-on w f;
      },
    ),
    rises,
  )

  -- a write failed, and the instance fell
  module _ (low : 1 ≤ i) (high : i ≤ 8) (loose : parts mid ≡ with_loose_disk true (parts c)) where
    else : IsElsewhere i (parts c) (parts mid)
    else = subst (IsElsewhere i (parts c)) (sym loose)
        (record { logs = λ j ne. refl; txns = λ j ne. refl; waits = λ t. refl })

    pub unwritten-served : (new : Complex G) → new.rig ≡ mid.rig → parts new ≡ with_fallen i (parts new) (parts mid)
        → IsFallen i (parts mid) (parts new)
        → ((m : State) → Good (tell.seen mid.rig) (tell.leaves mid.rig) Pending.Idle (parts mid) m
        → Good (tell.seen new.rig) (tell.leaves new.rig) Pending.Idle (parts new) (fall i m))
        → Serving tell e (Some answer) c new
    unwritten-served new same is fallen down = (
      λ w f. broken-serves tell c mid new i low high w f (good-then w f) else
          (subst (λ (k : Parts). FitsPages (tell.seen mid.rig) (tell.leaves mid.rig) k w.pages) (sym loose)
          (put-pages true (parts c).directory (tell.seen c.rig) (tell.seen mid.rig) (tell.leaves c.rig) (tell.leaves mid.rig)
          (parts c) versions w.pages (same-pages w f)))
          (subst (λ (k : Parts). FitsBounds (tell.seen mid.rig) (tell.leaves mid.rig) k w.bounds) (sym loose)
          (put-bounds true (parts c).directory (tell.seen c.rig) (tell.seen mid.rig) (tell.leaves c.rig) (tell.leaves mid.rig)
          (parts c) versions kept w.bounds f.bounds))
          (subst (λ (k : Parts). FitsDoubts (tell.seen mid.rig) k w.scene.state) (sym loose)
          (put-doubts true (parts c).directory (tell.seen c.rig) (tell.seen mid.rig) (tell.leaves c.rig) (tell.leaves mid.rig)
          (parts c) versions w.scene.state f.doubts))
          same is fallen (down w.scene.state (good-then w f)) time (images Pending.Idle w.scene.state f.good) e (breaks w f),
      subst (λ (d : G). Rises (tell.faults c.rig) (tell.faults d)) (sym same) rises,
    )
