-- A join that comes to the force of its Start serves its event: for the goals of `join`.
use Rattle.std.proofs.Common.{◌≡◌, ◌≢◌, inr, ℕ, ◌+◌, ◌-◌, ◌≤◌, false, refl, sym, ap, ◌∙◌, subst, arith}
use Rattle.std.specs.Prelude.{None}
use Rattle.sd_base.specs.Waits.{with_wait}
use Rattle.sd_base.specs.declared.refusal.Refusal.TheVariants as R
use Rattle.sd_log.specs.Logs.{forced, with_record}
use Rattle.sd_logrec.specs.declared.record.Record.TheVariants as records
use Rattle.sd_rig.specs.Devices.{Elapses, Span}
use Rattle.sd_model.specs.Applies.{First, IsNotDown, IsNotRecovered}
use Rattle.sd_model.specs.Fields.{nobody}
use Rattle.sd_model.specs.Refusing.{counted}
use Rattle.sd_model.specs.State.{State, fall, joined}
use Rattle.sd_model.specs.StepLaws.{MayJoin}
use Rattle.sd_model.specs.declared.cause.Cause.{Cause}
use Rattle.sd_model.specs.declared.event.Event.{Event}
use Rattle.sd_model.specs.declared.event.Event.TheVariants.{Join}
use Rattle.sd_model.specs.declared.event.Reply.{Reply}
use Rattle.sd_model.specs.declared.event.Reply.TheVariants as reply
use Rattle.sd_model.proofs.Steps.{join-step}
use Rattle.sd_chain.specs.Logs.{next_lsn}
use Rattle.sd_world.specs.Answers.Fails.{falls}
use Rattle.sd_world.specs.Bounds.{bounds_after}
use Rattle.sd_world.specs.Serving.{Core, Passes, Serves, Telling, Turns}
use Rattle.sd_state.specs.Complexes.{parts}
use Rattle.sd_state.specs.Forcing.{KeepMasters, with_failed, with_forced}
use Rattle.sd_state.specs.Good.{Good}
use Rattle.sd_state.specs.Images.{Stands}
use Rattle.sd_state.specs.Joining.{with_joined}
use Rattle.sd_state.specs.Parts.{Parts, epoch_at, is_loose, log_at, no_log, owed_at, status_at}
use Rattle.sd_update.specs.Sealing.{with_start}
use Rattle.sd_state.specs.Values.{Pending}
use Rattle.sd_state.specs.declared.complex.Complex.{Complex}
use Rattle.sd_state.proofs.Items.{item-kept, item-set}
use Rattle.sd_moves.specs.Falling.{IsFallen, with_fallen}
use Rattle.sd_moves.proofs.FallModel.{IsFall, start-falls}
use Rattle.sd_fits.specs.Fits.{Fits, FitsBounds, FitsDoubts, FitsPages}
use Rattle.sd_fits.specs.Serving.{fits_by, stands_for}
use Rattle.sd_fits.proofs.Falling.{IsElsewhere, fallen-fits, fell-waits, fell_core, numbers_of, turns-fell}
use Rattle.sd_fits.proofs.Served.{none-ended}
use Rattle.sd_recover.specs.Joining.{MayStart}
use Rattle.sd_recover.proofs.Fewer.{few-good, failed_so}
use Rattle.sd_recover.proofs.Spans.{fall-stands, join-stands}
use Rattle.sd_recover.proofs.Started.{failed-bounds-fit, failed-doubts-fit, failed-pages-fit, joined-fits, joined_core, settled}
use Rattle.sd_recover.proofs.Unjoined.{not-up, recovered}

-- What a call has made of the complex c before its last part: the Start, of this LSN and epoch, is in the log (s), and its force
-- has come back (k).
pub record HasStarted {G : Type 0} (tell : Telling G) (i lsn epoch spare : ℕ) (c s k : Complex G) : Type 0 where
  pub low : 1 ≤ i
  pub high : i ≤ 8
  pub waits : MayStart (status_at (parts c) i)
  pub next : lsn ≡ next_lsn (log_at (parts c) i) 0
  -- the Start
  pub same : s.rig ≡ c.rig
  pub is : parts s ≡ with_start i lsn epoch spare (parts c)
  pub good : (m : State) → Good (tell.seen c.rig) (tell.leaves c.rig) Pending.Idle (parts c) m
      → Good (tell.seen s.rig) (tell.leaves s.rig) (Pending.Starts i) (parts s) m
  -- its force
  pub good_then : (pend : Pending) (m : State) → Good (tell.seen s.rig) (tell.leaves s.rig) pend (parts s) m
      → Good (tell.seen k.rig) (tell.leaves k.rig) pend (parts k) m
  pub images : (pend : Pending) (m : State) → Good (tell.seen s.rig) (tell.leaves s.rig) pend (parts s) m
      → Span (tell.moment s.rig) (tell.since k.rig) (Stands m pend)
  pub time : Elapses (tell.moment s.rig) (tell.moment k.rig) (tell.since s.rig) (tell.since k.rig)
  pub others : (d : ℕ) → d ≢ i → tell.seen k.rig d ≡ tell.seen s.rig d
  pub masters : KeepMasters (tell.leaves s.rig) (tell.leaves k.rig)

module _ {G : Type 0} (tell : Telling G) (i lsn epoch spare : ℕ) (c s k : Complex G) (h : HasStarted tell i lsn epoch spare c s k)
    (w : Core) (f : fits_by tell.seen tell.leaves c w) where
  abbrev m : State
  m = w.scene.state

  abbrev mid : Parts
  mid = with_start i lsn epoch spare (parts c)

  good-s : Good (tell.seen s.rig) (tell.leaves s.rig) (Pending.Starts i) (parts s) m
  good-s = h.good m f.good

  good-k : Good (tell.seen k.rig) (tell.leaves k.rig) (Pending.Starts i) (parts k) m
  good-k = h.good_then (Pending.Starts i) m good-s

  good-mid : Good (tell.seen c.rig) (tell.leaves c.rig) (Pending.Starts i) mid m
  good-mid = subst (λ (p : Parts). Good (tell.seen c.rig) (tell.leaves c.rig) (Pending.Starts i) p m) h.is
      (subst (λ (d : G). Good (tell.seen d) (tell.leaves d) (Pending.Starts i) (parts s) m) h.same good-s)

  disk : tell.seen k.rig 0 ≡ tell.seen c.rig 0
  disk = h.others 0 (let low = h.low in λ e. absurd (omega (arith, low, e))) ∙ ap (λ (d : G). tell.seen d 0) h.same

  kept : KeepMasters (tell.leaves c.rig) (tell.leaves k.rig)
  kept = subst (λ (d : G). KeepMasters (tell.leaves d) (tell.leaves k.rig)) h.same h.masters

  time : Elapses (tell.moment c.rig) (tell.moment k.rig) (tell.since c.rig) (tell.since k.rig)
  time = subst (λ (d : G). Elapses (tell.moment d) (tell.moment k.rig) (tell.since d) (tell.since k.rig)) h.same h.time

  span : (m' : State) → Good (tell.seen c.rig) (tell.leaves c.rig) (Pending.Starts i) mid m'
      → Span (tell.moment c.rig) (tell.since k.rig) (Stands m' (Pending.Starts i))
  span m' g = subst (λ (d : G). Span (tell.moment d) (tell.since k.rig) (Stands m' (Pending.Starts i))) h.same
      (h.images (Pending.Starts i) m'
      (subst (λ (d : G). Good (tell.seen d) (tell.leaves d) (Pending.Starts i) (parts s) m') (sym h.same)
      (subst (λ (p : Parts). Good (tell.seen c.rig) (tell.leaves c.rig) (Pending.Starts i) p m') (sym h.is) g)))

  settled-start : is_loose (parts c) i ≡ false
  settled-start = settled i lsn epoch spare (tell.seen c.rig) (tell.leaves c.rig) (parts c) w f h.low h.high h.waits h.next
      (reply.Joined epoch) refl

  stays-down : IsNotDown m (Join i) → ⊥
  stays-down = not-up i (tell.seen c.rig) (tell.leaves c.rig) (parts c) w f h.low h.high h.waits

  is-recovered : IsNotRecovered m (Join i) → ⊥
  is-recovered = recovered i (tell.seen c.rig) (tell.leaves c.rig) (parts c) w f h.low h.high h.waits

  -- ---- the instance comes up

  module _ (n : Complex G) (forces : parts k ≡ with_forced i (forced (log_at (parts s) i)) (owed_at (parts k) i) (parts s))
      (rigs : n.rig ≡ k.rig) (is : parts n ≡ with_joined i (parts k))
      (good : (m : State) → Good (tell.seen k.rig) (tell.leaves k.rig) (Pending.Starts i) (parts k) m
      → Good (tell.seen n.rig) (tell.leaves n.rig) Pending.Idle (parts n) (joined i (epoch_at (parts k) i) m))
      (may : (m : State) → Good (tell.seen k.rig) (tell.leaves k.rig) (Pending.Starts i) (parts k) m
      → MayJoin m i (epoch_at (parts k) i)) where
    abbrev owes : ℕ
    owes = owed_at (parts k) i

    abbrev done : Parts
    done = with_forced i (forced (log_at mid i)) owes mid

    abbrev next : Core
    next = joined_core i epoch (bounds_after w.bounds (Join i) (reply.Joined epoch)) w

    done-is : parts k ≡ done
    done-is = forces ∙ ap (λ (p : Parts). with_forced i (forced (log_at p i)) owes p) h.is

    good-done : Good (tell.seen k.rig) (tell.leaves k.rig) (Pending.Starts i) done m
    good-done = subst (λ (p : Parts). Good (tell.seen k.rig) (tell.leaves k.rig) (Pending.Starts i) p m) done-is good-k

    epoch-is : epoch_at (parts k) i ≡ epoch
    epoch-is = ap (λ (p : Parts). epoch_at p i) done-is ∙ item-set 0 (parts c).epochs i epoch h.low h.high f.good.shape.epochs

    may-join : MayJoin m i epoch
    may-join = subst (MayJoin m i) epoch-is (may m good-k)

    -- the epoch tells how often joins failed
    failed-is : (m.inst i).epoch + 1 + (epoch - ((m.inst i).epoch + 1)) ≡ epoch
    failed-is = let above = may-join.above in omega (arith, above)

    few-mid : Good (tell.seen c.rig) (tell.leaves c.rig) (Pending.Starts i) mid (failed_so i (epoch - ((m.inst i).epoch + 1)) m)
    few-mid = few-good i (epoch - ((m.inst i).epoch + 1)) (tell.seen c.rig) (tell.leaves c.rig) mid m h.low h.high good-mid
        settled-start
        (failed-is ∙ sym (item-set 0 (parts c).epochs i epoch h.low h.high f.good.shape.epochs))

    turns : Turns w (Join i) (reply.Joined epoch) next
    turns = record {
      wanted = None;
      near = tt;
      plays = record {
        step = join-step m i epoch f.good.not_closed may-join;
        waits = λ t. sym (none-ended (tell.seen c.rig) (tell.leaves c.rig) (parts c) w f t);
      };
      exact = tt;
      unused = tt;
      moves = ((tt, (tt, (tt, (tt, (tt, (tt, tt)))))), refl);
      within = tt;
      sums = refl;
    }

    fits-then : fits_by tell.seen tell.leaves n next
    fits-then = subst (λ (d : G). Fits (tell.seen d) (tell.leaves d) (parts n) next) (sym rigs)
        (subst (λ (p : Parts). Fits (tell.seen k.rig) (tell.leaves k.rig) p next) (sym new-is)
        (joined-fits i lsn epoch spare (tell.seen c.rig) (tell.leaves c.rig) (parts c) w f h.low h.high h.waits h.next
        (reply.Joined epoch) refl
        (tell.seen k.rig) (tell.leaves k.rig) disk kept good-mid owes good-done
        (subst (λ (p : Parts). Good (tell.seen k.rig) (tell.leaves k.rig) Pending.Idle p (joined i epoch m)) new-is
        (subst (λ (d : G). Good (tell.seen d) (tell.leaves d) Pending.Idle (parts n) (joined i epoch m)) rigs
        (subst (λ (e : ℕ). Good (tell.seen n.rig) (tell.leaves n.rig) Pending.Idle (parts n) (joined i e m)) epoch-is
        (good m good-k))))))
      where
        new-is : parts n ≡ with_joined i done
        new-is = is ∙ ap (λ (p : Parts). with_joined i p) done-is

    passes : Passes tell stands_for c.rig n.rig m (joined i epoch m)
    passes = subst (λ (d : G). Passes tell stands_for c.rig d m (joined i epoch m)) (sym rigs) (record {
      time = time;
      span = record {
        each = λ img since. join-stands i (epoch - ((m.inst i).epoch + 1)) epoch m h.low h.high may-join failed-is img
            ((span (failed_so i (epoch - ((m.inst i).epoch + 1)) m) few-mid).each img since);
      };
    })

    pub joins : (w' : Core)
        × Serves {C = Complex G} tell stands_for (λ k. k.rig) (fits_by tell.seen tell.leaves) (Join i)
        (reply.Joined epoch) c n w w'
    joins = (next, record { turns = turns; fits_then = fits-then; passes = passes })

  -- ---- the instance falls

  module _ (a : ℕ) (n : Complex G) (fails : parts k ≡ with_failed a i (parts s)) (rigs : n.rig ≡ k.rig)
      (is : parts n ≡ with_fallen i (parts n) (parts k)) (fallen : IsFallen i (parts k) (parts n))
      (good : (m : State) → Good (tell.seen k.rig) (tell.leaves k.rig) (Pending.Starts i) (parts k) m
      → Good (tell.seen n.rig) (tell.leaves n.rig) Pending.Idle (parts n) (fall i (counted (Join i) m))) where
    abbrev event : Event
    event = Join i

    abbrev answer : Reply
    answer = reply.Refused R.Failed

    abbrev number : ℕ → ℕ
    number = numbers_of (tell.seen k.rig) (tell.leaves k.rig) (parts n)

    abbrev after : Core
    after = fell_core i (counted event m) number (bounds_after w.bounds event answer) w

    half-is : parts k ≡ with_failed a i mid
    half-is = fails ∙ ap (with_failed a i) h.is

    else : IsElsewhere i (parts c) (parts k)
    else = subst (IsElsewhere i (parts c)) (sym half-is) (record {
      logs = λ j ne. item-kept no_log (parts c).logs i (with_record (records.Start lsn epoch) spare (log_at (parts c) i))
          h.low j ne;
      txns = λ j ne. refl;
      waits = λ t. refl;
    })

    fits-after : Fits (tell.seen k.rig) (tell.leaves k.rig) (parts n) after
    fits-after = fallen-fits i (tell.seen c.rig) (tell.seen k.rig) (tell.leaves c.rig) (tell.leaves k.rig) (Pending.Starts i)
        (parts c) (parts k) (parts n) m (counted event m) w h.low h.high f good-k else is fallen (λ t ne. refl)
        (bounds_after w.bounds event answer)
        (subst (λ (p : Parts). FitsPages (tell.seen k.rig) (tell.leaves k.rig) p w.pages) (sym half-is)
        (failed-pages-fit i lsn epoch spare (tell.seen c.rig) (tell.leaves c.rig) (parts c) w f h.low h.high h.waits h.next answer refl
        (tell.seen k.rig) (tell.leaves k.rig) disk kept good-mid a))
        (subst (λ (p : Parts). FitsBounds (tell.seen k.rig) (tell.leaves k.rig) p (bounds_after w.bounds event answer)) (sym half-is)
        (failed-bounds-fit i lsn epoch spare (tell.seen c.rig) (tell.leaves c.rig)
        (parts c) w f h.low h.high h.waits h.next answer refl
        (tell.seen k.rig) (tell.leaves k.rig) disk kept good-mid a))
        (subst (λ (p : Parts). FitsDoubts (tell.seen k.rig) p m) (sym half-is)
        (failed-doubts-fit i lsn epoch spare (tell.seen c.rig) (tell.leaves c.rig)
        (parts c) w f h.low h.high h.waits h.next answer refl
        (tell.seen k.rig) (tell.leaves k.rig) disk kept good-mid a))
        (subst (λ (d : G). Good (tell.seen d) (tell.leaves d) Pending.Idle (parts n) (fall i (counted event m))) rigs
        (good m good-k))

    turns-after : Turns w event answer after
    turns-after = turns-fell i (counted event m) number w event answer
        (Cause.Rig, refl, tt, first, inr (i, refl, refl))
        (fell-waits i (tell.seen c.rig) (tell.seen k.rig) (tell.leaves c.rig) (tell.leaves k.rig) (Pending.Starts i)
        (parts c) (parts k) (parts n) m (counted event m) w h.low h.high f good-k else is fallen (λ t ne. refl)
        (with_wait nobody None w.scene.waits) (λ u ne. none-ended (tell.seen c.rig) (tell.leaves c.rig) (parts c) w f u))
        tt tt
        (record {
          cause = Cause.Rig;
          names = refl;
          first = first;
          passes = (tt, (tt, (tt, (tt, (tt, tt)))));
          says = λ never. absurd (cc);
          place = tt;
          leaves = falls i w.pages number refl refl refl refl;
        })
        tt
      where
        first : First m event Cause.Rig
        first = (refl, (f.good.not_closed, (stays-down, (is-recovered, (tt, (tt, tt))))), tt)

    passes-after : Passes tell stands_for c.rig n.rig m (fall i (counted event m))
    passes-after = subst (λ (d : G). Passes tell stands_for c.rig d m (fall i (counted event m))) (sym rigs) (record {
      time = time;
      span = record {
        each = λ img since. inr (fall-stands i m (fall i (counted event m)) img is-fall ((span m good-mid).each img since));
      };
    })
      where
        is-fall : IsFall i (Pending.Starts i) m (fall i (counted event m))
        is-fall = start-falls i m f.good.not_closed (subst MayStart (f.good.instances i h.low h.high).status h.waits)
            f.good.kept f.good.placed f.good.listed f.good.marked f.good.recoverers

    pub fails-join : (w' : Core)
        × Serves {C = Complex G} tell stands_for (λ k. k.rig) (fits_by tell.seen tell.leaves) event answer c n w w'
    fails-join = (
      after,
      record {
        turns = turns-after;
        fits_then = subst (λ (d : G). Fits (tell.seen d) (tell.leaves d) (parts n) after) (sym rigs) fits-after;
        passes = passes-after;
      },
    )
