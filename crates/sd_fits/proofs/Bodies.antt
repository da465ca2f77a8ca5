-- The events of a complex that is open or closed, by what they make of the devices: for whoever serves them.
use Rattle.std.proofs.Common.{◌≡◌, ◌⊎◌, inl, ⊎_elim, ℕ, ◌≤◌, Bool, true, false, cond, [], refl, sym, ap, ◌∙◌, subst, arith}
use Rattle.std.specs.Prelude.{Option, None, Some}
use Rattle.sd_base.specs.Streams.{Rises}
use Rattle.sd_base.specs.Waits.{Wait, Waits}
use Rattle.sd_base.specs.declared.ids.TxnId.{TxnId}
use Rattle.sd_base.specs.declared.place.Status.{Status}
use Rattle.sd_base.specs.declared.place.Status.TheVariants as S
use Rattle.sd_base.specs.declared.refusal.Refusal.TheVariants as R
use Rattle.sd_base.specs.declared.trouble.Pick.{Pick}
use Rattle.sd_base.specs.declared.trouble.Trouble.{Trouble}
use Rattle.sd_model.specs.Applies.{First, PassesAll}
use Rattle.sd_model.specs.Causes.{before, has_cause, order}
use Rattle.sd_model.specs.Exact.{IsOfFreeSlot}
use Rattle.sd_model.specs.Lives.{SuitsStatus}
use Rattle.sd_model.specs.Scenes.{is_running, of_running}
use Rattle.sd_model.specs.State.{State}
use Rattle.sd_model.specs.declared.act.Life.{Life}
use Rattle.sd_model.specs.declared.cause.Cause.{Cause}
use Rattle.sd_model.specs.declared.event.Event.{Event}
use Rattle.sd_model.specs.declared.event.Event.TheVariants.{Arm, Back, FailAll, Insert, Reopen}
use Rattle.sd_model.specs.declared.event.Reply.{Reply}
use Rattle.sd_model.specs.declared.event.Reply.TheVariants as reply
use Rattle.sd_rig.specs.Devices.{DeviceImages, Elapses, IsUnchanged, LeavesOnly}
use Rattle.sd_rig.specs.Devices as rig
use Rattle.sd_chain.specs.Checks.{DevicesAreSound}
use Rattle.sd_chain.specs.Logs.{Outcomes}
use Rattle.sd_world.specs.Answers.{Fails}
use Rattle.sd_world.specs.Bounds.{TellsNoPlace, bounds_after}
use Rattle.sd_world.specs.PageCauses.{NoneSays}
use Rattle.sd_world.specs.Serving.{Core, FewFaults, Passes, Telling, Turns}
use Rattle.sd_state.specs.Complexes.{parts}
use Rattle.sd_state.specs.Parts.{pool_at, status_at}
use Rattle.sd_state.specs.declared.complex.Complex.{Complex}
use Rattle.sd_state.specs.declared.complex.Shape.{Shape}
use Rattle.sd_fits.specs.Bodies.{IsShutOut, LeavesNoMore, ServingHall, fits_body}
use Rattle.sd_fits.specs.Closed.{FitsClosed, closed_core, reopened_core}
use Rattle.sd_fits.specs.Opened.{IsOpenedOn, NoneMore}
use Rattle.sd_fits.specs.Serving.{Serving, stands_for}
use Rattle.sd_fits.specs.declared.body.Body.{Body}
use Rattle.sd_fits.proofs.Closing.{all-fail, all-fail-again, closed-stays}
use Rattle.sd_fits.proofs.Fitting.{fits-stands}
use Rattle.sd_fits.proofs.Refused.{refused-serves}
use Rattle.sd_fits.proofs.Reopening.{closed-reopens}
use Rattle.sd_fits.proofs.Sums.{sums-stay}

-- ---- a closed complex goes on

-- the same world, with the sums after an event
abbrev pub later_core : Core → Event → Reply → Core
later_core w e r = record w { bounds = bounds_after w.bounds e r }

pub closed-later : (leaves leaves' : Outcomes) (w : Core) (e : Event) (r : Reply) → TellsNoPlace r → FitsClosed leaves w → NoneMore leaves leaves'
    → FitsClosed leaves' (later_core w e r)
closed-later leaves leaves' w e r told f less = let k = closed-stays leaves leaves' w f less in record {
  closed = k.closed;
  stands = k.stands;
  sums = λ img left. sums-stay img w.bounds e r told (k.sums img left);
  kept = k.kept;
  placed = k.placed;
  listed = k.listed;
  marked = k.marked;
  recoverers = k.recoverers;
  waits = k.waits;
  pages = k.pages;
}

none-runs : (life : Life) (s : Status) → s ≡ S.Closed → SuitsStatus life s → is_running life ≡ false
none-runs Life.Gone s e stands = refl
none-runs Life.Running s e stands = absurd (subst (SuitsStatus Life.Running) e stands)
none-runs Life.Retained s e stands = refl
none-runs (Life.Rolling to) s e stands = refl
none-runs (Life.Doubt cut) s e stands = refl

-- nobody waits, whatever is asked
closed-waits : (leaves : Outcomes) (w : Core) → FitsClosed leaves w → (asks : Waits) (t : TxnId)
    → w.scene.waits t ≡ of_running w.scene.state asks t
closed-waits leaves w f asks t = f.waits t ∙ sym (ap (λ (b : Bool). cond {A = Option Wait} b (asks t) None)
    (none-runs (w.scene.state.part t).life (w.scene.state.inst t.inst).status (f.closed t.inst) (f.placed.stands t)))

-- ---- what it refuses

shut-first : (e : Event) → IsShutOut e → (has_cause Cause.Shut (order e) ≡ true) × (before Cause.Shut (order e) ≡ [])
shut-first (FailAll pick) out = absurd out
shut-first (Arm trouble) out = absurd out
shut-first Reopen out = absurd out
shut-first (Back t None) out = (refl, refl)
shut-first (Back t (Some mark)) out = (refl, refl)
shut-first e out = (refl, refl)

unused-none : (m : State) (e : Event) (r : Reply) → IsOfFreeSlot m e None r
unused-none m (Insert t p v n) r = tt
unused-none m e r = tt

no-fault : (e : Event) → IsShutOut e → (n : ℕ) → FewFaults e n n
no-fault (FailAll pick) out n = absurd out
no-fault (Arm trouble) out n = absurd out
no-fault e out n = refl

shut-turns : (leaves : Outcomes) (w : Core) → FitsClosed leaves w → (e : Event) → IsShutOut e
    → Turns w e (reply.Refused R.Down) (later_core w e (reply.Refused R.Down))
shut-turns leaves w f e out =
    let m : State = w.scene.state in
    let is = shut-first e out in
    let first : First m e Cause.Shut = (is.0, subst (PassesAll m e) (sym is.1) tt, f.closed 1) in
    record {
      wanted = None;
      near = tt;
      plays = record {
        step = (Cause.Shut, refl, tt, first, refl);
        waits = closed-waits leaves w f _;
      };
      exact = tt;
      unused = unused-none m e (reply.Refused R.Down);
      moves = record {
        cause = Cause.Shut;
        names = refl;
        first = first;
        passes = subst (NoneSays m w.pages e) (sym is.1) tt;
        says = λ never. absurd (cc);
        place = tt;
        leaves = refl;
      };
      within = tt;
      sums = refl;
    }

-- ---- served

module _ {G : Type 0} (tell : Telling G) where
  -- what an event does to an open complex it does to the hall's
  pub open-served : (e : Event) (answer : Option Reply) (old new : Complex G) → Serving tell e answer old new
      → ServingHall tell e answer (Body.Open old) (Body.Open new)
  open-served e None old new s = (
    λ w f. let k = s.0 w f in record { fits_still = k.fits_still; passes = k.passes },
    s.1,
  )
  open-served e (Some r) old new s = (
    λ w f. let k = s.0 w f in (k.0, record { turns = k.1.turns; fits_then = k.1.fits_then; passes = k.1.passes }),
    s.1,
  )

  calm-passes : (old new : G) (m m' : State) → LeavesNoMore tell old new
      → ((img : DeviceImages) → rig.Leaves (tell.leaves old) img → stands_for img m) → Passes tell stands_for old new m m'
  calm-passes old new m m' calm each = record {
    time = calm.time;
    span = record { each = λ img s. inl (each img (calm.span.each img s)) };
  }

  -- devices on which no call is made
  pub calm-still : (d : G) → ((img : DeviceImages) → tell.since d (tell.moment d) img → rig.Leaves (tell.leaves d) img) → LeavesNoMore tell d d
  calm-still d now = record {
    less = λ k le bytes left. left;
    time = record { later = omega arith; splits = λ t img le s. inl s; keeps = λ t img le s. s };
    span = record { each = now };
  }

  -- devices that were crashed
  pub calm-crash : (old new : G) → NoneMore (tell.leaves old) (tell.leaves new)
      → Elapses (tell.moment old) (tell.moment new) (tell.since old) (tell.since new)
      → ((img : DeviceImages) → tell.since new (tell.moment old) img → rig.Leaves (tell.leaves old) img ⊎ rig.Leaves (tell.leaves new) img)
      → LeavesNoMore tell old new
  calm-crash old new less time step = record {
    less = less;
    time = time;
    span = record { each = λ img s. ⊎_elim (λ was. was) (λ left d le. less d le (img d) (left d le)) (step img s) };
  }

  -- devices of which nothing changed that is told
  pub calm-unchanged : (old new : G)
      → IsUnchanged (tell.seen old) (tell.seen new) (tell.leaves old) (tell.leaves new) (tell.moment old) (tell.moment new)
      (tell.since old) (tell.since new)
      → ((img : DeviceImages) → tell.since old (tell.moment old) img → rig.Leaves (tell.leaves old) img) → LeavesNoMore tell old new
  calm-unchanged old new u now = record {
    less = λ d le bytes left. (u.outcomes d bytes).0 left;
    time = record {
      later = let clock = u.clock in omega (arith, clock);
      splits = λ t img le s. inl ((u.past t img).0 s);
      keeps = λ t img le s. (u.past t img).1 s;
    };
    span = record { each = λ img s. now img ((u.past (tell.moment old) img).0 s) };
  }

  -- ---- all instances fail

  pub all-fail-served : (pick : Pick) (c : Complex G) (new : G) (shape : Shape) → (pool_at (parts c) 1).frames ≡ shape.frames
      → LeavesNoMore tell c.rig new → tell.faults c.rig ≤ tell.faults new
      → ServingHall tell (FailAll pick) (Some reply.Did) (Body.Open c) (Body.Closed new shape)
  all-fail-served pick c new shape frames calm count = (
    λ w f.
        let k = all-fail (tell.leaves c.rig) (tell.leaves new) (tell.seen c.rig) (parts c) w pick f calm.less in (
          closed_core (bounds_after w.bounds (FailAll pick) reply.Did) w,
          record {
            turns = k.0;
            fits_then = record {
              fits = k.1;
              frames_are = sym (f.pages.frames 1 (omega arith) (omega arith)) ∙ frames;
            };
            passes = calm-passes c.rig new w.scene.state _ calm
                (λ img left. fits-stands (tell.leaves c.rig) (tell.seen c.rig) img (parts c) w f left);
          },
        ),
    count,
  )

  pub all-fail-again-served : (pick : Pick) (old new : G) (shape : Shape) → LeavesNoMore tell old new → tell.faults old ≤ tell.faults new
      → ServingHall tell (FailAll pick) (Some reply.Did) (Body.Closed old shape) (Body.Closed new shape)
  all-fail-again-served pick old new shape calm count = (
    λ w f.
        let k = all-fail-again (tell.leaves old) (tell.leaves new) w pick f.fits calm.less in (
          closed_core (bounds_after w.bounds (FailAll pick) reply.Did) w,
          record {
            turns = k.0;
            fits_then = record { fits = k.1; frames_are = f.frames_are };
            passes = calm-passes old new w.scene.state _ calm f.fits.stands;
          },
        ),
    count,
  )

  -- ---- a closed complex

  pub shut-served : (e : Event) → IsShutOut e → (d : G) (shape : Shape)
      → ((img : DeviceImages) → tell.since d (tell.moment d) img → rig.Leaves (tell.leaves d) img)
      → ServingHall tell e (Some (reply.Refused R.Down)) (Body.Closed d shape) (Body.Closed d shape)
  shut-served e out d shape now = (
    λ w f. (
      later_core w e (reply.Refused R.Down),
      record {
        turns = shut-turns (tell.leaves d) w f.fits e out;
        fits_then = record {
          fits = closed-later (tell.leaves d) (tell.leaves d) w e (reply.Refused R.Down) tt f.fits (λ k le bytes left. left);
          frames_are = f.frames_are;
        };
        passes = calm-passes d d w.scene.state w.scene.state (calm-still d now) f.fits.stands;
      },
    ),
    no-fault e out (tell.faults d),
  )

  pub arm-served : (trouble : Trouble) (old new : G) (shape : Shape) → LeavesNoMore tell old new → tell.faults new ≡ tell.faults old
      → ServingHall tell (Arm trouble) (Some reply.Did) (Body.Closed old shape) (Body.Closed new shape)
  arm-served trouble old new shape calm quiet = (
    λ w f. (
      later_core w (Arm trouble) reply.Did,
      record {
        turns = record {
          wanted = None;
          near = tt;
          plays = record { step = (tt, refl); waits = closed-waits (tell.leaves old) w f.fits _ };
          exact = tt;
          unused = tt;
          moves = (tt, refl);
          within = tt;
          sums = refl;
        };
        fits_then = record {
          fits = closed-later (tell.leaves old) (tell.leaves new) w (Arm trouble) reply.Did tt f.fits calm.less;
          frames_are = f.frames_are;
        };
        passes = calm-passes old new w.scene.state w.scene.state calm f.fits.stands;
      },
    ),
    quiet,
  )

  -- ---- a reopening

  -- a complex was opened from what the devices read
  pub reopened-served : (old : G) (c : Complex G) (shape : Shape) → LeavesNoMore tell old c.rig
      → rig.Leaves (tell.leaves old) (tell.seen c.rig) → IsOpenedOn shape.frames (tell.seen c.rig) (tell.leaves c.rig) (parts c)
      → tell.faults c.rig ≡ tell.faults old → ServingHall tell Reopen (Some reply.Did) (Body.Closed old shape) (Body.Open c)
  reopened-served old c shape calm left on quiet = (
    λ w f.
        let k = closed-reopens (tell.leaves old) (tell.leaves c.rig) (tell.seen c.rig) (parts c) w f.fits left
        (subst (λ (n : ℕ). IsOpenedOn n (tell.seen c.rig) (tell.leaves c.rig) (parts c)) (sym f.frames_are) on) in (
          reopened_core (tell.seen c.rig) w,
          record {
            turns = k.0;
            fits_then = k.1;
            passes = calm-passes old c.rig w.scene.state _ calm f.fits.stands;
          },
        ),
    quiet,
  )

  -- a device failed: the complex is closed still
  pub unopened-served : (old new : G) (shape : Shape) → LeavesNoMore tell old new → Rises (tell.faults old) (tell.faults new)
      → ServingHall tell Reopen (Some (reply.Refused R.Failed)) (Body.Closed old shape) (Body.Closed new shape)
  unopened-served old new shape calm rises = (
    λ w f. (
      later_core w Reopen (reply.Refused R.Failed),
      record {
        turns = failed-turns (tell.leaves old) w f.fits;
        fits_then = record {
          fits = closed-later (tell.leaves old) (tell.leaves new) w Reopen (reply.Refused R.Failed) tt f.fits calm.less;
          frames_are = f.frames_are;
        };
        passes = calm-passes old new w.scene.state w.scene.state calm f.fits.stands;
      },
    ),
    rises,
  )
    where
      failed-turns : (leaves : Outcomes) (w : Core) → FitsClosed leaves w
          → Turns w Reopen (reply.Refused R.Failed) (later_core w Reopen (reply.Refused R.Failed))
      failed-turns leaves w f =
          let first : First w.scene.state Reopen Cause.Rig = (refl, ((λ opens. opens (f.closed 1)), tt), tt) in
          record {
            wanted = None;
            near = tt;
            plays = record { step = (Cause.Rig, refl, tt, first, inl refl); waits = closed-waits leaves w f _ };
            exact = tt;
            unused = tt;
            moves = record {
              cause = Cause.Rig;
              names = refl;
              first = first;
              passes = (tt, tt);
              says = λ never. absurd (cc);
              place = tt;
              leaves = Fails.stays refl refl;
            };
            within = tt;
            sums = refl;
          }

  -- there was no memory: all is as it was
  pub spared-served : (old new : G) (shape : Shape) → LeavesNoMore tell old new → tell.faults new ≡ tell.faults old
      → ServingHall tell Reopen None (Body.Closed old shape) (Body.Closed new shape)
  spared-served old new shape calm quiet = (
    λ w f. record {
      fits_still = record { fits = closed-stays (tell.leaves old) (tell.leaves new) w f.fits calm.less; frames_are = f.frames_are };
      passes = calm-passes old new w.scene.state w.scene.state calm f.fits.stands;
    },
    quiet,
  )

  -- devices of a closed complex are sound
  pub closed-sound : (d : G) (shape : Shape) (w : Core) → fits_body tell.seen tell.leaves (Body.Closed d shape) w
      → rig.Leaves (tell.leaves d) (tell.seen d) → DevicesAreSound (tell.seen d)
  closed-sound d shape w f left = (f.fits.stands (tell.seen d) left).sound

  -- ---- a complex that is open isn't opened

  pub opened-refused : (c : Complex G) (status : Status) → status_at (parts c) 1 ≡ status
      → ((img : DeviceImages) → tell.since c.rig (tell.moment c.rig) img → rig.Leaves (tell.leaves c.rig) img)
      → Serving tell Reopen (Some (reply.Refused (R.NotDown status))) c c
  opened-refused c status is now = (
    λ w f. refused-serves tell c now w f Reopen (R.NotDown status) Cause.NotDown (record {
      waits = refl;
      whom = tt;
      unused = tt;
      allowed = tt;
      names = refl;
      tells = sym is ∙ (f.good.instances 1 (omega arith) (omega arith)).status;
      first = (refl, tt, f.good.not_closed);
      refuses = refl;
      passes = tt;
      says = λ never. absurd (cc);
      place = tt;
      left = refl;
    }),
    refl,
  )
