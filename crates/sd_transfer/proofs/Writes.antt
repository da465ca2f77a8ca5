-- A page write serves its event: for the goals of writing.rt.
use Rattle.std.proofs.Common.{◌≡◌, ◌≢◌, inl, ⊎_elim, ℕ, ◌≤◌, Bool, true, false, cond, List, [], ◌∷◌, refl, sym, ap, ◌∙◌, subst, arith, eq-eqb, ne_eqb}
use Rattle.std.specs.Prelude.{◌||◌, None, Some}
use Rattle.std.proofs.lemmas.Bool.{cases_eq}
use Rattle.sd_base.specs.declared.refusal.Refusal.{Refusal}
use Rattle.sd_base.specs.declared.refusal.Refusal.TheVariants as R
use Rattle.sd_rig.specs.Devices.{DeviceImages, Elapses, Leaves, LeavesSame, Span}
use Rattle.sd_chain.specs.Records.{Each}
use Rattle.sd_model.specs.State.{State}
use Rattle.sd_model.specs.declared.cause.Cause.{Cause}
use Rattle.sd_model.specs.declared.event.Event.{Event}
use Rattle.sd_model.specs.declared.event.Event.TheVariants.{Flush}
use Rattle.sd_model.specs.declared.event.Reply.TheVariants as reply
use Rattle.sd_moves.specs.Putting.{SameVersions, with_written}
use Rattle.sd_pagelock.specs.Asks.{is_open_ask, open_asks}
use Rattle.sd_pagelock.specs.Directory.{asks_at, entry_at}
use Rattle.sd_pagelock.specs.Places.{PageEntry, changed, is_lost}
use Rattle.sd_pagelock.specs.Rows.{may_write, written}
use Rattle.sd_pagelock.specs.declared.queue.Ask.{Ask}
use Rattle.sd_pagelock.proofs.Uses.{clean-written}
use Rattle.sd_world.specs.Bounds.{bounds_after}
use Rattle.sd_world.specs.PageCauses.{IsAway}
use Rattle.sd_world.specs.Pages.{Pages, is_duty, page_placed, put}
use Rattle.sd_world.specs.Serving.{Core, Passes, Telling, Turns, refused}
use Rattle.sd_state.specs.Complexes.{parts}
use Rattle.sd_state.specs.Forcing.{KeepMasters}
use Rattle.sd_state.specs.Good.{Good}
use Rattle.sd_state.proofs.Masters.{masters-less}
use Rattle.sd_state.specs.Images.{Stands}
use Rattle.sd_state.specs.Locking.{IsSet}
use Rattle.sd_state.specs.Parts.{Parts, is_active}
use Rattle.sd_state.specs.Values.{Pending}
use Rattle.sd_state.specs.declared.complex.Complex.{Complex}
use Rattle.sd_fits.specs.Fits.{Fits, FitsPages}
use Rattle.sd_fits.specs.Serving.{Serving, fits_by, stands_for}
use Rattle.sd_fits.proofs.Places.{placed-pages, repaged, turns-repaged}
use Rattle.sd_fits.proofs.Served.{bounds-stay, none-ended, still-serves}
use Rattle.sd_fits.proofs.Refused.{unlike}
use Rattle.sd_transfer.specs.Breaking.{BreaksBy}
use Rattle.sd_transfer.specs.Writing.{IsWriters, IsWritten, StaysUnwritten}
use Rattle.sd_transfer.proofs.Barred.{IsPaging, IsUnbarred, away-served, barred-served, unbarred}
use Rattle.sd_transfer.proofs.PutFits.{put-fits}
use Rattle.sd_transfer.proofs.Settled.{settled-page}

-- ---- a page that isn't changed

-- what is put at one place is what is there, and the others are
put-same : {X : Type 0} (p : ℕ) (x : X) (f g : ℕ → X) → x ≡ g p → ((q : ℕ) → f q ≡ g q) → (q : ℕ) → put p x f q ≡ g q
put-same {X} p x f g here others q = ⊎_elim
    (λ e. subst (λ (b : Bool). cond {A = X} b x (f q) ≡ g q) (sym (eq-eqb p q e)) (here ∙ ap g e))
    (λ ne. subst (λ (b : Bool). cond {A = X} b x (f q) ≡ g q) (sym (ne_eqb p q ne)) (others q))
    (cases_eq p q)

-- whoever has the write of it has it alone
clean-same : (i : ℕ) (e : PageEntry) → is_duty i e ≡ true → may_write e ≡ false → written e ≡ e
clean-same i PageEntry.Free d w = absurd (cc)
clean-same i (PageEntry.Shared set None) d w = absurd (cc)
clean-same i (PageEntry.Shared set (Some x)) d w = absurd (cc)
clean-same i (PageEntry.Excl holder dirty) d w = ap (PageEntry.Excl holder) (sym w)
clean-same i (PageEntry.Moving to mode rest dirty) d w = absurd (cc)
clean-same i PageEntry.Lost d w = absurd (cc)

pub clean-unchanged : (i : ℕ) (e : PageEntry) → is_duty i e ≡ true → may_write e ≡ false → changed e ≡ false
clean-unchanged i PageEntry.Free d w = absurd (cc)
clean-unchanged i (PageEntry.Shared set None) d w = absurd (cc)
clean-unchanged i (PageEntry.Shared set (Some x)) d w = absurd (cc)
clean-unchanged i (PageEntry.Excl holder dirty) d w = w
clean-unchanged i (PageEntry.Moving to mode rest dirty) d w = absurd (cc)
clean-unchanged i PageEntry.Lost d w = absurd (cc)

-- open asks stay
pub asks-stay : (active : ℕ → Bool) (e : PageEntry) (asks : List Ask)
    → Each (λ (ask : Ask). (active ask.by ≡ true) × (is_open_ask e ask ≡ true)) asks → open_asks e asks ≡ asks
asks-stay active e [] all = refl
asks-stay active e (ask ∷ asks) all =
    ap (λ (b : Bool). cond {A = List Ask} b (ask ∷ open_asks e asks) (open_asks e asks)) all.0.1
    ∙ ap (λ (rest : List Ask). ask ∷ rest) (asks-stay active e asks all.1)

-- ---- the event

-- a page write is an event of its page
pub of-flush : (i p : ℕ) → IsPaging (Flush i p) i p
of-flush i p = record {
  rest = Cause.Away ∷ Cause.Rig ∷ [];
  order = refl;
  nobodys = refl;
  serve = λ m active. active;
  serves = λ m active. active;
  page = λ m. tt;
  lose = λ m w lost. lost;
  loses = λ m w lost. lost;
  unused = λ m r. tt;
  quiet = λ n. refl;
}

module _ {G : Type 0} (tell : Telling G) (c : Complex G) (i p : ℕ) (low : 1 ≤ i) (high : i ≤ 8) where
  abbrev here : PageEntry
  here = entry_at (parts c).directory p

  abbrev event : Event
  event = Flush i p

  -- ---- what the world says of it

  module _ (w : Core) (f : fits_by tell.seen tell.leaves c w) where
    abbrev m : State
    m = w.scene.state

    its : is_active (parts c) i ≡ true → is_lost here ≡ false → IsUnbarred m w.pages event
    its active not_lost = unbarred (of-flush i p) tell c low high w f active not_lost

    there : is_duty i here ≡ true → IsAway m w.pages event → ⊥
    there is away = unlike away (ap (is_duty i) (f.pages.entry p) ∙ is)

    pub flush-breaks : IsWriters (parts c) i p → BreaksBy i event w
    flush-breaks may = record {
      nobodys = refl;
      falls = refl;
      uncounted = refl;
      first = (refl, (f.good.not_closed, ((its may.active may.found).serves, (tt, (tt, tt)))), tt);
      passes = (tt, (tt, ((its may.active may.found).found, (there may.duty, tt))));
      did = refl;
      unused = tt;
    }

    abbrev pages : Pages
    pages = page_placed p (written (w.pages.entry p)) w.pages

    -- the write is done, and the page is clean
    done-turns : IsWriters (parts c) i p → Turns w event reply.Did (repaged w pages event reply.Did)
    done-turns may = turns-repaged w pages event reply.Did
        ((f.good.not_closed, ((its may.active may.found).serves, (tt, (tt, (tt, tt))))), refl)
        (λ t. sym (none-ended (tell.seen c.rig) (tell.leaves c.rig) (parts c) w f t))
        tt tt ((tt, (tt, ((its may.active may.found).found, (there may.duty, (tt, tt))))), refl) tt

  -- ---- refused at once

  module _ (now : (img : DeviceImages) → tell.since c.rig (tell.moment c.rig) img → Leaves (tell.leaves c.rig) img) where
    pub flush-refused : (n : Refusal) → StaysUnwritten (parts c) i p n → Serving tell event (refused n) c c
    flush-refused (R.NeedPage place) why = away-served (of-flush i p) tell c low high now refl place why.0 why.1
        (λ w f. (ap (is_duty i) (f.pages.entry p) ∙ why.2, why.3 ∙ sym (f.pages.entry p)))
    flush-refused n why = barred-served (of-flush i p) tell c low high now n why

    -- ---- a page that isn't changed

    module _ (may : IsWriters (parts c) i p) (clean : may_write here ≡ false)
        (any : (w : Core) × fits_by tell.seen tell.leaves c w) where
      same : written here ≡ here
      same = clean-same i here may.duty clean

      asks : open_asks (written here) (asks_at (parts c).directory p) ≡ asks_at (parts c).directory p
      asks = ap (λ (e : PageEntry). open_asks e (asks_at (parts c).directory p)) same
          ∙ asks-stay (is_active (parts c)) here (asks_at (parts c).directory p) (any.1.good.asks p)

      clean-fits : (w : Core) (f : fits_by tell.seen tell.leaves c w) → fits_by tell.seen tell.leaves c
          (repaged w (pages w f) event reply.Did)
      clean-fits w f = record {
        good = f.good;
        idle = f.idle;
        rolling = f.rolling;
        waits = f.waits;
        waiting = f.waiting;
        put = f.put;
        pages = record {
          frames = f.pages.frames;
          entry = entries;
          asks = put-same p (open_asks (written (w.pages.entry p)) (w.pages.asks p)) w.pages.asks (asks_at (parts c).directory)
              (ap (λ (e : PageEntry). open_asks (written e) (w.pages.asks p)) (f.pages.entry p)
              ∙ ap (open_asks (written here)) (f.pages.asks p) ∙ asks)
              f.pages.asks;
          number = λ q there. f.pages.number q (ap is_lost (f.pages.entry q ∙ sym (entries q)) ∙ there);
          begun = f.pages.begun;
        };
        bounds = bounds-stay (tell.seen c.rig) (parts c) w.bounds event reply.Did tt f.bounds;
        doubts = f.doubts;
      }
        where
          entries : (q : ℕ) → put p (written (w.pages.entry p)) w.pages.entry q ≡ entry_at (parts c).directory q
          entries = put-same p (written (w.pages.entry p)) w.pages.entry (entry_at (parts c).directory)
              (ap written (f.pages.entry p) ∙ same) f.pages.entry

      pub clean-served : Serving tell event (Some reply.Did) c c
      clean-served = (
        λ w f. (
          repaged w (pages w f) event reply.Did,
          still-serves tell event reply.Did c c w (repaged w (pages w f) event reply.Did) refl now f (done-turns w f may)
              (clean-fits w f),
        ),
        refl,
      )

  -- ---- put

  module _ (mid : Complex G) (may : IsWriters (parts c) i p)
      (good : (pend : Pending) (m : State) → Good (tell.seen c.rig) (tell.leaves c.rig) pend (parts c) m
      → Good (tell.seen mid.rig) (tell.leaves mid.rig) pend (parts mid) m)
      (images : (pend : Pending) (m : State) → Good (tell.seen c.rig) (tell.leaves c.rig) pend (parts c) m
      → Span (tell.moment c.rig) (tell.since mid.rig) (Stands m pend))
      (time : Elapses (tell.moment c.rig) (tell.moment mid.rig) (tell.since c.rig) (tell.since mid.rig))
      (versions : SameVersions (tell.seen c.rig) (tell.seen mid.rig) (parts c))
      (others_leave : (d : ℕ) → d ≢ 0 → LeavesSame (tell.leaves c.rig d) (tell.leaves mid.rig d)) where
    kept : KeepMasters (tell.leaves c.rig) (tell.leaves mid.rig)
    kept = masters-less (tell.leaves c.rig) (tell.leaves mid.rig)
        (λ j lo bytes left. (others_leave j (λ e. omega (arith, lo, e)) bytes).0 left)

    good-then : (w : Core) → fits_by tell.seen tell.leaves c w
        → Good (tell.seen mid.rig) (tell.leaves mid.rig) Pending.Idle (parts mid) w.scene.state
    good-then w f = good Pending.Idle w.scene.state f.good

    passes-on : (w : Core) → fits_by tell.seen tell.leaves c w → Passes tell stands_for c.rig mid.rig w.scene.state w.scene.state
    passes-on w f = record {
      time = time;
      span = record { each = λ img s. inl ((images Pending.Idle w.scene.state f.good).each img s) };
    }

    module _ (is : parts mid ≡ with_written (parts mid).directory (parts c))
        (set : IsSet p (written here) None (parts c).directory (parts mid).directory)
        (quiet : tell.faults mid.rig ≡ tell.faults c.rig) where
      done-pages : (w : Core) (f : fits_by tell.seen tell.leaves c w) → FitsPages (tell.seen c.rig) (tell.leaves c.rig)
          (record (parts c) { pools = (parts c).pools; directory = (parts mid).directory }) (pages w f)
      done-pages w f = placed-pages (parts c).pools (parts mid).directory (tell.seen c.rig) (tell.leaves c.rig) (parts c) w f
          (λ j. refl) p (written (w.pages.entry p)) None
          (subst (λ (e : PageEntry). IsSet p (written e) None (parts c).directory (parts mid).directory) (sym (f.pages.entry p)) set)
          (λ there. ap is_lost (f.pages.entry p) ∙ may.found)

      done-fits : (w : Core) (f : fits_by tell.seen tell.leaves c w) → fits_by tell.seen tell.leaves mid
          (repaged w (pages w f) event reply.Did)
      done-fits w f = subst (λ (k : Parts). Fits (tell.seen mid.rig) (tell.leaves mid.rig) k
          (repaged w (pages w f) event reply.Did)) (sym is)
          (put-fits false (parts mid).directory (tell.seen c.rig) (tell.seen mid.rig) (tell.leaves c.rig) (tell.leaves mid.rig)
          (parts c)
          versions kept w f (pages w f) (bounds_after w.bounds event reply.Did)
          (subst (λ (k : Parts). Good (tell.seen mid.rig) (tell.leaves mid.rig) Pending.Idle k w.scene.state) is (good-then w f))
          (done-pages w f) (bounds-stay (tell.seen c.rig) (parts c) w.bounds event reply.Did tt f.bounds))

      pub put-served : Serving tell event (Some reply.Did) c mid
      put-served = (
        λ w f. (
          repaged w (pages w f) event reply.Did,
          record { turns = done-turns w f may; fits_then = done-fits w f; passes = passes-on w f },
        ),
        quiet,
      )

      -- the page stands on the device, and all its records are forced
      pub put-stands : ((w : Core) × fits_by tell.seen tell.leaves c w) → may_write here ≡ true
          → IsWritten p (tell.seen mid.rig) (tell.leaves mid.rig) (parts mid)
      put-stands any dirty = settled-page p (tell.seen mid.rig) (tell.leaves mid.rig) Pending.Idle (parts mid) any.0.scene.state
          (good-then any.0 any.1) (ap (λ (k : Parts). k.due) is ∙ any.1.idle)
          (ap changed set.entry ∙ clean-written here (ap (λ (b : Bool). b || is_lost here) dirty))
