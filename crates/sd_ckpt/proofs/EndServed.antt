-- An end of a checkpoint that comes to its devices serves its event, done or refused by one of them. For `check_end`.
use Rattle.std.proofs.Common.{◌≡◌, ◌≢◌, ◌⊎◌, inl, inr, ⊎_elim, ℕ, ◌+◌, ◌≤◌, Bool, true, false, cond, List, [], ◌∷◌, ◌++◌, length, refl, sym, ap, ◌∙◌, subst, arith, eq-eqb}
use Rattle.std.specs.Prelude.{Option, None, Some, is_some}
use Rattle.std.proofs.lemmas.List.{get_or-set_same}
use Rattle.sd_base.specs.declared.refusal.Refusal.TheVariants as R
use Rattle.sd_log.specs.Logs.{IsStartFor, LogState, forced}
use Rattle.sd_logrec.specs.declared.record.Record.{Record}
use Rattle.sd_logrec.specs.Kept.{Master, master}
use Rattle.sd_rig.specs.Devices.{DeviceImages, Elapses, LeavesSame, Span}
use Rattle.sd_rig.specs.Spans.{elapses-then, span-then}
use Rattle.sd_model.specs.Applies.{MayServe}
use Rattle.sd_model.specs.State.{State, fall}
use Rattle.sd_model.specs.declared.cause.Cause.{Cause}
use Rattle.sd_model.specs.declared.event.Event.{Event}
use Rattle.sd_model.specs.declared.event.Event.TheVariants.{CheckEnd}
use Rattle.sd_model.specs.declared.event.Reply.{Reply}
use Rattle.sd_model.specs.declared.event.Reply.TheVariants as reply
use Rattle.sd_chain.specs.Images.{Keeps}
use Rattle.sd_chain.specs.Logs.{next_lsn}
use Rattle.sd_moves.specs.Falling.{IsFallen, with_fallen}
use Rattle.sd_state.specs.Complexes.{parts}
use Rattle.sd_state.specs.Forcing.{KeepMasters, with_failed, with_forced}
use Rattle.sd_state.specs.Good.{Good, TakesCheck}
use Rattle.sd_state.specs.Images.{Stands}
use Rattle.sd_state.specs.Parts.{Begun, Parts, actor, check_at, epoch_at, is_loose, log_at, low_of, no_log, owed_at, status_at}
use Rattle.sd_state.specs.Values.{Pending}
use Rattle.sd_state.specs.declared.complex.Complex.{Complex}
use Rattle.sd_state.proofs.Items.{item-kept, item-set}
use Rattle.sd_world.specs.Answers.{Fails}
use Rattle.sd_world.specs.Bounds.{Bounds, bounds_after, is_wait}
use Rattle.sd_world.specs.Pages.{begins}
use Rattle.sd_world.specs.Serving.{Core, Passes, Serves, Telling, Turns}
use Rattle.sd_fits.specs.Fits.{Fits, FitsBounds, FitsDoubts, FitsPages}
use Rattle.sd_fits.specs.Serving.{fits_by, stands_for}
use Rattle.sd_fits.proofs.Falling.{IsElsewhere, fallen-pages}
use Rattle.sd_fits.proofs.Forcing.{failed-bounds, failed-doubts, failed-pages}
use Rattle.sd_fits.proofs.Refused.{IsFor, refused-turns}
use Rattle.sd_fits.proofs.Served.{none-ended, passed}
use Rattle.sd_transfer.proofs.Broken.{broken-serves-so}
use Rattle.sd_transfer.proofs.Forced.{forced-fits, forced-owes}
use Rattle.sd_ckpt.specs.Endings.{FellForcing, FellPutting, HasEnded, StaysBegun, end_record, with_end, with_forced_end}
use Rattle.sd_ckpt.specs.Laws.{with_either}
use Rattle.sd_ckpt.specs.Masters.{IsMasterOr, IsMasterPut, MayPutMaster, next_master, with_master}
use Rattle.sd_ckpt.specs.Readings.{ReadsAlike, storage_by}
use Rattle.sd_ckpt.proofs.EndRefused.{end-breaks}
use Rattle.sd_ckpt.proofs.EndSealed.{counted_core, end-fits, end-here, end-settled}
use Rattle.sd_ckpt.proofs.MasterCalls.{acts-by}
use Rattle.sd_ckpt.proofs.MasterFits.{either-bounds, either-doubts, either-pages, put-fits, read-fits}

-- the world in which i has ended its checkpoint
abbrev pub ended_core : ℕ → Core → Core
ended_core i w = record {
  scene = w.scene;
  pages = begins i false w.pages;
  bounds = bounds_after w.bounds (CheckEnd i) reply.Did;
}

-- What a call has made of the complex c: the end of checkpoint k is in the log of i (s), and the force of that has come back (f).
pub record HasForced {G : Type 0} (tell : Telling G) (i spare : ℕ) (k : Begun) (c s f : Complex G) : Type 0 where
  pub low : 1 ≤ i
  pub high : i ≤ 8
  pub was : check_at (parts c) i ≡ Some k
  -- the end
  pub same : s.rig ≡ c.rig
  pub is : parts s ≡ with_end i k spare (parts c)
  pub good : (m : State) → Good (tell.seen c.rig) (tell.leaves c.rig) Pending.Idle (parts c) m
      → Good (tell.seen s.rig) (tell.leaves s.rig) Pending.Idle (parts s) m
  -- its force
  pub good_then : (m : State) → Good (tell.seen s.rig) (tell.leaves s.rig) Pending.Idle (parts s) m
      → Good (tell.seen f.rig) (tell.leaves f.rig) Pending.Idle (parts f) m
  pub images : (m : State) → Good (tell.seen s.rig) (tell.leaves s.rig) Pending.Idle (parts s) m
      → Span (tell.moment s.rig) (tell.since f.rig) (Stands m Pending.Idle)
  pub time : Elapses (tell.moment s.rig) (tell.moment f.rig) (tell.since s.rig) (tell.since f.rig)
  pub others : (d : ℕ) → d ≢ i → tell.seen f.rig d ≡ tell.seen s.rig d
  pub masters : KeepMasters (tell.leaves s.rig) (tell.leaves f.rig)
  pub reads : (d : ℕ) → d ≤ 8 → tell.leaves f.rig d (tell.seen f.rig d)

-- a list that gains an item has one
none-last : (xs : List Record) (x : Record) → xs ++ x ∷ [] ≡ [] → ⊥
none-last [] x e = absurd (cc)
none-last (y ∷ xs) x e = absurd (cc)

module _ {G : Type 0} (tell : Telling G) (i spare : ℕ) (k : Begun) (c s f : Complex G) (h : HasForced tell i spare k c s f)
    (w : Core) (fits : fits_by tell.seen tell.leaves c w) where
  abbrev m : State
  m = w.scene.state

  abbrev event : Event
  event = CheckEnd i

  abbrev failed : Reply
  failed = reply.Refused R.Failed

  abbrev mid : Parts
  mid = with_end i k spare (parts c)

  good-s : Good (tell.seen s.rig) (tell.leaves s.rig) Pending.Idle (parts s) m
  good-s = h.good m fits.good

  good-mid : Good (tell.seen c.rig) (tell.leaves c.rig) Pending.Idle mid m
  good-mid = subst (λ (p : Parts). Good (tell.seen c.rig) (tell.leaves c.rig) Pending.Idle p m) h.is
      (subst (λ (d : G). Good (tell.seen d) (tell.leaves d) Pending.Idle (parts s) m) h.same good-s)

  pub good-f : Good (tell.seen f.rig) (tell.leaves f.rig) Pending.Idle (parts f) m
  good-f = h.good_then m good-s

  disk : tell.seen f.rig 0 ≡ tell.seen c.rig 0
  disk = h.others 0 (let low = h.low in λ e. absurd (omega (arith, low, e))) ∙ ap (λ (d : G). tell.seen d 0) h.same

  kept : KeepMasters (tell.leaves c.rig) (tell.leaves f.rig)
  kept = subst (λ (d : G). KeepMasters (tell.leaves d) (tell.leaves f.rig)) h.same h.masters

  time-f : Elapses (tell.moment c.rig) (tell.moment f.rig) (tell.since c.rig) (tell.since f.rig)
  time-f = subst (λ (d : G). Elapses (tell.moment d) (tell.moment f.rig) (tell.since d) (tell.since f.rig)) h.same h.time

  span-f : Span (tell.moment c.rig) (tell.since f.rig) (Stands m Pending.Idle)
  span-f = subst (λ (d : G). Span (tell.moment d) (tell.since f.rig) (Stands m Pending.Idle)) h.same (h.images m good-s)

  settled : is_loose (parts c) i ≡ false
  settled = end-settled i spare k (tell.seen c.rig) (tell.leaves c.rig) (parts c) w fits h.low h.high h.was

  fits-mid : (r : Reply) → is_wait r ≡ false → Fits (tell.seen c.rig) (tell.leaves c.rig) mid (counted_core i r w)
  fits-mid r works = end-fits i spare k (tell.seen c.rig) (tell.leaves c.rig) (parts c) w fits h.low h.high h.was r works good-mid

  log-else : (j : ℕ) → j ≢ i → log_at mid j ≡ log_at (parts c) j
  log-else j ne = item-kept no_log (parts c).logs i _ h.low j ne

  -- i acts for itself
  acts : actor (parts s) i ≡ i
  acts = ap (λ (p : Parts). actor p i) h.is ∙ acts-by (status_at (parts c) i) i (fits.good.checking i k h.was).takes

  pub settled-s : is_loose (parts s) i ≡ false
  settled-s = ap (λ (p : Parts). is_loose p i) h.is ∙ settled

  pub some-tail : (log_at (parts s) i).tail ≢ []
  some-tail e = none-last (log_at (parts c) i).tail (end_record (next_lsn (log_at (parts c) i) 0) k)
      (ap (λ (l : LogState). l.tail) (sym (ap (λ (p : Parts). log_at p i) h.is
      ∙ end-here i spare k (tell.seen c.rig) (tell.leaves c.rig) (parts c) w fits h.low h.high h.was)) ∙ e)

  -- the fall that is due once the force failed
  pub fall-due : parts f ≡ with_failed (actor (parts s) i) i (parts s)
      → ((parts f).due ≡ None) ⊎ ((j : ℕ) × ((parts f).due ≡ Some (i, j)) × (is_loose (parts f) j ≡ true))
  fall-due fails = inr (
    i,
    ap (λ (p : Parts). p.due) fails ∙ ap (λ (b : ℕ). Some (b, i)) acts,
    ap (λ (p : Parts). is_loose p i) fails
        ∙ get_or-set_same (parts s).loose i true true
        (let nine = ap (λ (p : Parts). length p.loose) h.is ∙ fits.good.shape.loose in omega (arith, nine, h.high)),
  )

  -- ---- the force failed, and i fell

  module _ (n : Complex G) (fails : parts f ≡ with_failed (actor (parts s) i) i (parts s)) (rigs : n.rig ≡ f.rig)
      (is : parts n ≡ with_fallen i (parts n) (parts f)) (fallen : IsFallen i (parts f) (parts n))
      (good : (m' : State) → Good (tell.seen f.rig) (tell.leaves f.rig) Pending.Idle (parts f) m'
      → Good (tell.seen n.rig) (tell.leaves n.rig) Pending.Idle (parts n) (fall i m')) where
    abbrev a : ℕ
    a = actor (parts s) i

    half-is : parts f ≡ with_failed a i mid
    half-is = fails ∙ ap (with_failed a i) h.is

    else : IsElsewhere i (parts c) (parts f)
    else = subst (IsElsewhere i (parts c)) (sym half-is) (record { logs = log-else; txns = λ j ne. refl; waits = λ t. refl })

    abbrev sums : Bounds
    sums = bounds_after w.bounds event failed

    fits-then : Fits (tell.seen c.rig) (tell.leaves c.rig) mid (counted_core i failed w)
    fits-then = fits-mid failed refl

    pages-f : FitsPages (tell.seen f.rig) (tell.leaves f.rig) (parts f) w.pages
    pages-f = subst (λ (p : Parts). FitsPages (tell.seen f.rig) (tell.leaves f.rig) p w.pages) (sym half-is)
        (failed-pages a i (tell.seen c.rig) (tell.seen f.rig) (tell.leaves c.rig) (tell.leaves f.rig) Pending.Idle mid m good-mid
        h.low h.high settled disk w.pages fits-then.pages)

    bounds-f : FitsBounds (tell.seen f.rig) (tell.leaves f.rig) (parts f) sums
    bounds-f = subst (λ (p : Parts). FitsBounds (tell.seen f.rig) (tell.leaves f.rig) p sums) (sym half-is)
        (failed-bounds a i (tell.seen c.rig) (tell.seen f.rig) (tell.leaves c.rig) (tell.leaves f.rig) Pending.Idle mid m good-mid
        h.low h.high settled disk kept sums fits-then.bounds)

    doubts-f : FitsDoubts (tell.seen f.rig) (parts f) m
    doubts-f = subst (λ (p : Parts). FitsDoubts (tell.seen f.rig) p m) (sym half-is)
        (failed-doubts a i (tell.seen c.rig) (tell.seen f.rig) (tell.leaves c.rig) (tell.leaves f.rig) Pending.Idle mid m good-mid
        h.low h.high settled disk m fits-then.doubts)

    pub fails-force : (w' : Core)
        × Serves {C = Complex G} tell stands_for (λ q. q.rig) (fits_by tell.seen tell.leaves) event failed c n w w'
    fails-force = broken-serves-so tell c n f.rig (parts f) i h.low h.high w fits good-f else
        (fallen-pages i (tell.seen f.rig) (tell.leaves f.rig) Pending.Idle (parts f) (parts n) m h.low h.high good-f is fallen
        w.pages pages-f)
        doubts-f rigs is fallen (good m good-f) time-f span-f event
        (end-breaks i (tell.seen c.rig) (tell.leaves c.rig) (parts c) w fits h.low h.high k h.was) bounds-f

    pub fell-forcing : FellForcing i (parts c) (parts n)
    fell-forcing = record {
      k = k;
      begun = h.was;
      spare = spare;
      fell = record {
        is = is ∙ ap (with_fallen i (parts n)) own-is;
        fallen = subst (λ (p : Parts). IsFallen i p (parts n)) own-is fallen;
      };
    }
      where
        own-is : parts f ≡ with_failed i i mid
        own-is = half-is ∙ ap (λ (b : ℕ). with_failed b i mid) acts

  -- ---- all of the log is forced

  module _ (forces : parts f ≡ with_forced i (forced (log_at (parts s) i)) (owed_at (parts f) i) (parts s)) where
    abbrev owes : ℕ
    owes = owed_at (parts f) i

    pub done-is : parts f ≡ with_forced_end i k spare owes (parts c)
    done-is = forces ∙ ap (λ (p : Parts). with_forced i (forced (log_at p i)) owes p) h.is

    there : log_at (parts f) i ≡ forced (log_at mid i)
    there = ap (λ (p : Parts). log_at p i) done-is
        ∙ item-set no_log mid.logs i (forced (log_at mid i)) h.low h.high good-mid.shape.logs

    pub settled-f : is_loose (parts f) i ≡ false
    settled-f = ap (λ (p : Parts). is_loose p i) done-is ∙ settled

    pub fits-f : (r : Reply) → is_wait r ≡ false → fits_by tell.seen tell.leaves f (counted_core i r w)
    fits-f r works = subst (λ (p : Parts). Fits (tell.seen f.rig) (tell.leaves f.rig) p (counted_core i r w)) (sym done-is)
        (forced-fits i owes (tell.seen c.rig) (tell.seen f.rig) (tell.leaves c.rig) (tell.leaves f.rig) mid (counted_core i r w)
        h.low h.high (fits-mid r works) settled disk kept
        (subst (λ (p : Parts). Good (tell.seen f.rig) (tell.leaves f.rig) Pending.Idle p m) done-is good-f)
        (forced-owes i (tell.seen f.rig) (tell.leaves f.rig) Pending.Idle mid (parts f) m h.low h.high good-f there settled-f))

    -- its master is that of before
    master-same : (was : List ℕ) × tell.leaves c.rig i was × (master (tell.seen f.rig i) ≡ master was)
    master-same = kept i h.low (tell.seen f.rig i) (h.reads i h.high)

    pub was-master : master (tell.seen f.rig i) ≡ master (tell.seen c.rig i)
    was-master = master-same.2 ∙ ap master (((fits.good.settled i h.low h.high settled).only master-same.0).0 master-same.1)

    -- so a further count is within the sums
    count-next : (b : Bounds) → b.masters i ≡ w.bounds.masters i + 1 → (master (tell.seen f.rig i)).count + 1 ≤ b.masters i
    count-next b is =
        let most = fits.bounds.left_masters i h.low h.high master-same.0 master-same.1 in
        let same = ap (λ (x : Master). x.count) master-same.2 in
        omega (arith, is, most, same)

    one-more : (r : Reply) → (bounds_after w.bounds event r).masters i ≡ w.bounds.masters i + 1
    one-more r = let own = ap (λ (b : Bool). cond b 1 0 + w.bounds.masters i) (eq-eqb i i refl) in omega (arith, own)

    -- ---- and the master is put

    module _ (check start : ℕ) (may : MayPutMaster i check start (parts f)) (n : Complex G)
        (earlier : (t u : ℕ) (img : DeviceImages) → t ≤ u → tell.since n.rig u img → tell.since n.rig t img)
        (images : (m' : State) → Good (tell.seen f.rig) (tell.leaves f.rig) Pending.Idle (parts f) m'
        → Span (tell.moment f.rig) (tell.since n.rig) (Stands m' Pending.Idle))
        (time : Elapses (tell.moment f.rig) (tell.moment n.rig) (tell.since f.rig) (tell.since n.rig))
        (left : (bytes : List ℕ) → tell.leaves n.rig i bytes
        → IsMasterOr (next_master (epoch_at (parts f) i) check start (master (tell.seen f.rig i))) (tell.seen f.rig i) bytes)
        (others_leave : (d : ℕ) → d ≢ i → LeavesSame (tell.leaves f.rig d) (tell.leaves n.rig d)) where
      abbrev named : Master
      named = next_master (epoch_at (parts f) i) check start (master (tell.seen f.rig i))

      time-n : Elapses (tell.moment c.rig) (tell.moment n.rig) (tell.since c.rig) (tell.since n.rig)
      time-n = elapses-then (tell.moment c.rig) (tell.moment f.rig) (tell.moment n.rig) (tell.since c.rig) (tell.since f.rig)
          (tell.since n.rig) earlier time-f time

      span-n : Span (tell.moment c.rig) (tell.since n.rig) (Stands m Pending.Idle)
      span-n = span-then (tell.moment c.rig) (tell.moment f.rig) (tell.moment n.rig) (tell.since f.rig) (tell.since n.rig)
          (Stands m Pending.Idle) time-f.later time span-f (images m good-f)

      left-most : (b : Bounds) → b.masters i ≡ w.bounds.masters i + 1 → (bytes : List ℕ) → tell.leaves n.rig i bytes
          → (master bytes).count ≤ b.masters i
      left-most b is bytes l =
          let most = count-next b is in
          ⊎_elim
          (λ old. let same = ap (λ (x : Master). x.count) old in omega (arith, most, same))
          (λ new. let same = ap (λ (x : Master). x.count) new in omega (arith, most, same))
          (left bytes l)

      passes : (m' : State) → Passes tell stands_for c.rig n.rig m m'
      passes m' = record { time = time-n; span = record { each = λ img since. inl (span-n.each img since) } }

      takes : TakesCheck (status_at (parts c) i)
      takes = (fits.good.checking i k h.was).takes

      stands : (MayServe m event → ⊥) → ⊥
      stands none = none (subst TakesCheck (fits.good.instances i h.low h.high).status takes)

      begun : w.pages.begun i ≡ false → ⊥
      begun off = let clash : true ≡ false = sym (ap (λ (o : Option Begun). is_some o) h.was) ∙ sym (fits.pages.begun i) ∙ off in
          absurd (cc)

      -- ---- the put is done

      turns : Turns w event reply.Did (ended_core i w)
      turns = record {
        wanted = None;
        near = tt;
        plays = record {
          step = ((fits.good.not_closed, (stands, (tt, (tt, (tt, (tt, tt)))))), refl);
          waits = λ t. sym (none-ended (tell.seen c.rig) (tell.leaves c.rig) (parts c) w fits t);
        };
        exact = tt;
        unused = tt;
        moves = ((tt, (tt, (begun, (tt, (tt, (tt, tt)))))), refl);
        within = tt;
        sums = refl;
      }

      pub ends : parts n ≡ with_master i start (master (tell.seen n.rig i)).count (parts f)
          → IsMasterPut named (tell.seen n.rig i) (tell.leaves n.rig i)
          → ((moved keeps : Keeps) → ReadsAlike (storage_by (tell.seen f.rig) (parts f) moved keeps)
          (storage_by (tell.seen n.rig) (parts n) moved keeps))
          → ((m' : State) → Good (tell.seen f.rig) (tell.leaves f.rig) Pending.Idle (parts f) m'
          → Good (tell.seen n.rig) (tell.leaves n.rig) Pending.Idle (parts n) m')
          → (w' : Core) × Serves {C = Complex G} tell stands_for (λ q. q.rig) (fits_by tell.seen tell.leaves) event reply.Did c n w w'
      ends put done alike good =
          let count : ℕ = (master (tell.seen n.rig i)).count in
          let sums : Bounds = bounds_after w.bounds event reply.Did in
          let most = count-next sums (one-more reply.Did) in
          let says = ap (λ (x : Master). x.count) done.says in (
            ended_core i w,
            record {
              turns = turns;
              fits_then = subst (λ (p : Parts). Fits (tell.seen n.rig) (tell.leaves n.rig) p (ended_core i w)) (sym put)
                  (put-fits i check start (tell.seen f.rig) (tell.seen n.rig) (tell.leaves f.rig) (tell.leaves n.rig) (parts f) m
                  h.low h.high good-f (fits-f reply.Did refl).idle h.reads may others_leave sums
                  (left-most sums (one-more reply.Did)) count (omega (arith, most, says))
                  (subst (λ (p : Parts). (moved keeps : Keeps) → ReadsAlike (storage_by (tell.seen f.rig) (parts f) moved keeps)
                  (storage_by (tell.seen n.rig) p moved keeps)) put alike)
                  (counted_core i reply.Did w) refl refl (fits-f reply.Did refl)
                  (subst (λ (p : Parts). Good (tell.seen n.rig) (tell.leaves n.rig) Pending.Idle p m) put (good m good-f)));
              passes = passes m;
            },
          )

      pub has-ended : check ≡ next_lsn (log_at (parts c) i) 0
          → IsStartFor (low_of k) (log_at (parts f) i).groups (log_at (parts f) i).gate start
          → parts n ≡ with_master i start (master (tell.seen n.rig i)).count (parts f)
          → IsMasterPut named (tell.seen n.rig i) (tell.leaves n.rig i)
          → ((moved keeps : Keeps) → ReadsAlike (storage_by (tell.seen f.rig) (parts f) moved keeps)
          (storage_by (tell.seen n.rig) (parts n) moved keeps))
          → HasEnded i (tell.seen c.rig) (tell.seen n.rig) (tell.leaves n.rig) (parts c) (parts n)
      has-ended lsn place put done alike = record {
        k = k;
        begun = h.was;
        spare = spare;
        owes = owes;
        start = start;
        place = subst (λ (p : Parts). IsStartFor (low_of k) (log_at p i).groups (log_at p i).gate start) done-is place;
        is = put ∙ ap (with_master i start (master (tell.seen n.rig i)).count) done-is;
        says = subst (λ (x : Master). IsMasterPut x (tell.seen n.rig i) (tell.leaves n.rig i))
            (ap (λ (p : Parts). next_master (epoch_at p i) check start (master (tell.seen f.rig i))) done-is
            ∙ ap (λ (l : ℕ). next_master (epoch_at (parts c) i) l start (master (tell.seen f.rig i))) lsn
            ∙ ap (next_master (epoch_at (parts c) i) (next_lsn (log_at (parts c) i) 0) start) was-master)
            done;
        alike = subst (λ (p : Parts). (moved keeps : Keeps) → ReadsAlike (storage_by (tell.seen c.rig) p moved keeps)
            (storage_by (tell.seen n.rig) (parts n) moved keeps)) done-is
            (subst (λ (b : List ℕ). (moved keeps : Keeps) → ReadsAlike (storage_by (λ d. b) (parts f) moved keeps)
            (storage_by (tell.seen n.rig) (parts n) moved keeps)) disk alike);
      }

      -- ---- the former master couldn't be read

      pub stays-begun : parts n ≡ parts f → StaysBegun i (parts c) (parts n)
      stays-begun stays = record { k = k; begun = h.was; spare = spare; owes = owes; is = stays ∙ done-is }

      failed-for : IsFor m w event R.Failed Cause.Rig
      failed-for = let b = end-breaks i (tell.seen c.rig) (tell.leaves c.rig) (parts c) w fits h.low h.high k h.was in record {
        waits = refl;
        whom = tt;
        unused = tt;
        allowed = tt;
        names = refl;
        tells = tt;
        first = b.first;
        refuses = inl refl;
        passes = b.passes;
        says = λ never. absurd (cc);
        place = tt;
        left = Fails.stays refl refl;
      }

      pub fails-read : parts n ≡ parts f → tell.seen n.rig 0 ≡ tell.seen f.rig 0
          → Good (tell.seen n.rig) (tell.leaves n.rig) Pending.Idle (parts n) m
          → (w' : Core) × Serves {C = Complex G} tell stands_for (λ q. q.rig) (fits_by tell.seen tell.leaves) event failed c n w w'
      fails-read stays reads good = (
        passed w w.scene.waits event failed,
        record {
          turns = refused-turns (tell.seen c.rig) (tell.leaves c.rig) (parts c) w fits event R.Failed Cause.Rig failed-for;
          fits_then = subst (λ (p : Parts). Fits (tell.seen n.rig) (tell.leaves n.rig) p (passed w w.scene.waits event failed)) (sym stays)
              (read-fits i (tell.seen f.rig) (tell.seen n.rig) (tell.leaves f.rig) (tell.leaves n.rig) (parts f)
              (passed w w.scene.waits event failed) (fits-f failed refl) reads others_leave
              (left-most (bounds_after w.bounds event failed) (one-more failed))
              (subst (λ (p : Parts). Good (tell.seen n.rig) (tell.leaves n.rig) Pending.Idle p m) stays good));
          passes = passes m;
        },
      )

      -- ---- the put failed, and i fell

      module _ (reads : tell.seen n.rig 0 ≡ tell.seen f.rig 0)
          (is : parts n ≡ with_fallen i (parts n) (with_either i start (parts f)))
          (fallen : IsFallen i (with_either i start (parts f)) (parts n))
          (good_either : Good (tell.seen n.rig) (tell.leaves n.rig) Pending.Idle (with_either i start (parts f)) m)
          (good_fallen : Good (tell.seen n.rig) (tell.leaves n.rig) Pending.Idle (parts n) (fall i m))
          (alike : (moved keeps : Keeps) → ReadsAlike (storage_by (tell.seen f.rig) (parts f) moved keeps)
          (storage_by (tell.seen n.rig) (with_either i start (parts f)) moved keeps)) where
        else-f : IsElsewhere i (parts c) (with_either i start (parts f))
        else-f = subst (λ (p : Parts). IsElsewhere i (parts c) (with_either i start p)) (sym done-is) (record {
          logs = λ j ne. item-kept no_log mid.logs i (forced (log_at mid i)) h.low j ne ∙ log-else j ne;
          txns = λ j ne. refl;
          waits = λ t. refl;
        })

        abbrev sums-f : Bounds
        sums-f = bounds_after w.bounds event failed

        pub fails-put : (w' : Core)
            × Serves {C = Complex G} tell stands_for (λ q. q.rig) (fits_by tell.seen tell.leaves) event failed c n w w'
        fails-put =
            let fit = fits-f failed refl in
            broken-serves-so tell c n n.rig (with_either i start (parts f)) i h.low h.high w fits good_either else-f
            (either-pages i check start (tell.seen f.rig) (tell.seen n.rig) (tell.leaves f.rig) (tell.leaves n.rig) (parts f) m
            h.low h.high good-f fit.idle h.reads may others_leave sums-f (left-most sums-f (one-more failed)) reads alike
            w.pages (parts n) fit.pages good_either is fallen)
            (either-doubts i check start (tell.seen f.rig) (tell.seen n.rig) (tell.leaves f.rig) (tell.leaves n.rig) (parts f) m
            h.low h.high good-f fit.idle h.reads may others_leave sums-f (left-most sums-f (one-more failed)) reads alike fit.doubts)
            refl is fallen good_fallen time-n span-n event
            (end-breaks i (tell.seen c.rig) (tell.leaves c.rig) (parts c) w fits h.low h.high k h.was)
            (either-bounds i check start (tell.seen f.rig) (tell.seen n.rig) (tell.leaves f.rig) (tell.leaves n.rig) (parts f) m
            h.low h.high good-f fit.idle h.reads may others_leave sums-f (left-most sums-f (one-more failed)) reads alike fit.bounds)

        pub fell-putting : IsStartFor (low_of k) (log_at (parts f) i).groups (log_at (parts f) i).gate start
            → FellPutting i (parts c) (parts n)
        fell-putting place = record {
          k = k;
          begun = h.was;
          spare = spare;
          owes = owes;
          start = start;
          place = subst (λ (p : Parts). IsStartFor (low_of k) (log_at p i).groups (log_at p i).gate start) done-is place;
          fell = record {
            is = is ∙ ap (λ (p : Parts). with_fallen i (parts n) (with_either i start p)) done-is;
            fallen = subst (λ (p : Parts). IsFallen i (with_either i start p) (parts n)) done-is fallen;
          };
        }
