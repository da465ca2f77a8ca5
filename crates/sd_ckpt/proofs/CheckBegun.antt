-- A checkpoint that an instance has begun: the complex is good and fits the world on, and the event is served. For `check_begin`.
use Rattle.std.proofs.Common.{◌≡◌, ⊎_elim, ℕ, ◌+◌, ◌<◌, ◌≤◌, zero, suc, Bool, true, false, cond, List, [], ◌∷◌, ◌++◌, length, map, refl, sym, ap, ◌∙◌, subst, arith, eq-eqb, ne_eqb}
use Rattle.std.specs.Prelude.{Contains, Option, None, Some, eqb, get_or, is_some}
use Rattle.std.proofs.lemmas.Bool.{cases_eq}
use Rattle.sd_base.specs.declared.ids.TxnId.{TxnId}
use Rattle.sd_log.specs.Logs.{LogState, last_lsn, scanned, with_record}
use Rattle.sd_logrec.specs.Spelling.{Changed, Span, spelling}
use Rattle.sd_logrec.specs.View.{Rec, flat}
use Rattle.sd_logrec.specs.declared.record.Record.{Record}
use Rattle.sd_logrec.specs.declared.record.Record.TheVariants as records
use Rattle.sd_logrec.proofs.Lengths.{length-spelling}
use Rattle.sd_model.specs.Applies.{MayServe}
use Rattle.sd_model.specs.State.{State}
use Rattle.sd_model.specs.declared.event.Event.TheVariants.{CheckBegin}
use Rattle.sd_model.specs.declared.event.Reply.TheVariants as reply
use Rattle.sd_pagelock.specs.Directory.{rec_lsn_at}
use Rattle.sd_rig.specs.Devices as rig
use Rattle.sd_txn.specs.Transactions.{span_at}
use Rattle.sd_chain.specs.Checks.{reserve}
use Rattle.sd_chain.specs.Logs.{Outcomes, all_at, next_lsn}
use Rattle.sd_chain.specs.Records.{IsOpen, home}
use Rattle.sd_chain.proofs.Appends.{appended-log}
use Rattle.sd_chain.proofs.Owing.{plain-owes}
use Rattle.sd_state.specs.Good.{Good, TakesCheck}
use Rattle.sd_state.specs.Parts.{Begun, Parts, check_at, is_loose, least_of, log_at, low_of, no_log, status_at, txns_at, up_as}
use Rattle.sd_state.specs.Values.{Pending}
use Rattle.sd_state.proofs.Items.{item-kept, item-set}
use Rattle.sd_state.proofs.Lasts.{last-more}
use Rattle.sd_update.specs.Sealing.{with_more}
use Rattle.sd_update.proofs.ChangedRows.{open-more}
use Rattle.sd_update.proofs.SealedCalls.{settled-up}
use Rattle.sd_world.specs.Bounds.{Bounds, bounds_after}
use Rattle.sd_world.specs.Pages.{begins}
use Rattle.sd_world.specs.Serving.{Core, Turns}
use Rattle.sd_world.proofs.Sums.{works-four}
use Rattle.sd_fits.specs.Fits.{Fits, FitsBounds, FitsPages}
use Rattle.sd_fits.proofs.Sealing.{AreMore, sealed-bounds, sealed-doubts, sealed-pages}
use Rattle.sd_fits.proofs.Served.{none-ended}
use Rattle.sd_ckpt.specs.Beginnings.{HasTables, MayBeginCheck, with_check}
use Rattle.sd_ckpt.proofs.BegunGood.{begun-good}

-- ---- the low of a checkpoint is at most each LSN of its tables

least-rest : (n : ℕ) (xs ys : List ℕ) → least_of n (xs ++ ys) ≤ least_of n ys
least-rest n [] ys = omega arith
least-rest n (x ∷ xs) ys = let ih = least-rest n xs ys in omega (arith, ih)

least-at : {A : Type 0} (f : A → ℕ) (n : ℕ) (xs : List A) (ys : List ℕ) (k : ℕ) (x : A) → k < length xs → get_or xs k x ≡ x
    → least_of n (map f xs ++ ys) ≤ f x
least-at f n [] ys k x lt e = absurd (omega (arith, lt))
least-at f n (z ∷ xs) ys zero x lt e = let same = ap f e in omega (arith, same)
least-at f n (z ∷ xs) ys (suc k) x lt e = let ih = least-at f n xs ys k x (omega (arith, lt)) e in omega (arith, ih)

least-end : {A : Type 0} (f : A → ℕ) (n : ℕ) (xs : List A) (k : ℕ) (x : A) → k < length xs → get_or xs k x ≡ x
    → least_of n (map f xs) ≤ f x
least-end f n [] k x lt e = absurd (omega (arith, lt))
least-end f n (z ∷ xs) zero x lt e = let same = ap f e in omega (arith, same)
least-end f n (z ∷ xs) (suc k) x lt e = let ih = least-end f n xs k x (omega (arith, lt)) e in omega (arith, ih)

pub low-span : (k : Begun) (s : Span) → Contains k.spans s → low_of k ≤ s.1
unfolding low_of
low-span k s has = least-at (λ (x : Span). x.1) k.begin k.spans (map (λ (r : Changed). r.1) k.recs) has.0 s has.1 has.2

pub low-rec : (k : Begun) (r : Changed) → Contains k.recs r → low_of k ≤ r.1
unfolding low_of
low-rec k r has =
    let front = least-rest k.begin (map (λ (x : Span). x.1) k.spans) (map (λ (x : Changed). x.1) k.recs) in
    let here = least-end (λ (x : Changed). x.1) k.begin k.recs has.0 r has.1 has.2 in
    omega (arith, front, here)

-- ---- a BeginCheck takes few bytes, and reserves none

begin-takes : (log : List Rec) (lsn : ℕ)
    → reserve (log ++ flat (records.BeginCheck lsn) ∷ []) + length (spelling (records.BeginCheck lsn)) + 5 ≤ reserve log + 900
begin-takes log lsn =
    let same = (plain-owes log (flat (records.BeginCheck lsn)) refl).0 in
    let len = length-spelling (records.BeginCheck lsn) in
    omega (arith, same, len)

-- the sums after a begin that is done
begin-more : (b : Bounds) (i : ℕ) → AreMore i 900 b (bounds_after b (CheckBegin i) reply.Did)
begin-more b i = record {
  slots = λ p. refl;
  least = λ p. refl;
  here = let own = ap {B = ℕ} (λ (e : Bool). cond e 900 0 + b.reach i) (eq-eqb i i refl) in omega (arith, own);
  reach = λ j. more (cond (eqb i j) 900 0) (b.reach j);
  lsns = let four = works-four b (CheckBegin i) reply.Did refl in omega (arith, four);
  masters = λ j. alike (b.masters j);
}
  where
    alike : (x : ℕ) → x ≤ x
    alike x = omega arith

    more : (x y : ℕ) → y ≤ x + y
    more x y = omega arith

-- the world in which i has begun a checkpoint
abbrev pub begun_core : ℕ → Core → Core
begun_core i w = record {
  scene = w.scene;
  pages = begins i true w.pages;
  bounds = bounds_after w.bounds (CheckBegin i) reply.Did;
}

-- ---- the complex with the record and the checkpoint

module _ (i spare : ℕ) (k : Begun) (seen : rig.DeviceImages) (leaves : Outcomes) (c : Parts) (w : Core) (f : Fits seen leaves c w)
    (low : 1 ≤ i) (high : i ≤ 8) (takes : TakesCheck (status_at c i)) where
  abbrev m : State
  m = w.scene.state

  abbrev y : Record
  y = records.BeginCheck k.begin

  abbrev mid : Parts
  mid = with_more i y spare c

  abbrev new : Parts
  new = with_check i k mid

  settled : is_loose c i ≡ false
  settled = settled-up seen leaves Pending.Idle c m i low high f.good f.idle
      (⊎_elim (λ e. ap up_as e) (λ e. ap up_as e) takes)

  here : log_at mid i ≡ with_record y spare (log_at c i)
  here = item-set no_log c.logs i (with_record y spare (log_at c i)) low high f.good.shape.logs

  -- whoever was open is
  stays-open : (t : TxnId) → IsOpen t (all_at (log_at c (home t))) → IsOpen t (all_at (log_at mid (home t)))
  stays-open t opens = ⊎_elim
      (λ e. subst (λ (j : ℕ). IsOpen t (all_at (log_at mid j))) (sym e)
      (subst (IsOpen t) (sym (ap all_at here ∙ appended-log (log_at c i) y spare))
      (open-more t (all_at (log_at c i)) (flat y) refl (subst (λ (j : ℕ). IsOpen t (all_at (log_at c j))) e opens))))
      (λ ne. subst (λ (l : LogState). IsOpen t (all_at l))
      (sym (item-kept no_log c.logs i (with_record y spare (log_at c i)) low (home t) ne)) opens)
      (cases_eq (home t) i)

  module _ (begin : k.begin ≡ next_lsn (log_at c i) 0) (reads : leaves i (seen i))
      (tables : HasTables (span_at (txns_at c i)) (rec_lsn_at c.directory) k) (g : Good seen leaves Pending.Idle mid m) where
    may : MayBeginCheck i k mid
    may = record {
      low = low;
      high = high;
      takes = takes;
      settled = settled;
      firsts = λ t s is. low-span k (t, s.0, s.1) ((tables.spans t s).1 is);
      recs = λ p l is. low-rec k (p, l) ((tables.recs p l).1 is);
      spelled = tables.spelled;
      begun = let is = ap (λ (l : LogState). last_lsn (scanned l)) here ∙ last-more (log_at c i) y spare in omega (arith, is);
    }

    pub begun-then : Good seen leaves Pending.Idle new m
    begun-then = begun-good leaves i k seen mid m g reads may

    pages : FitsPages seen leaves new (begins i true w.pages)
    pages =
        let p = sealed-pages i spare 900 y c.txns c.epochs seen leaves Pending.Idle c m f.good low high settled refl begin
        (begin-takes (all_at (log_at c i)) k.begin) (λ j lo hi. omega arith) w.pages f.pages in
        record {
          frames = p.frames;
          entry = p.entry;
          asks = p.asks;
          number = p.number;
          begun = begun-by;
        }
      where
        begun-by : (j : ℕ) → cond (eqb i j) true (w.pages.begun j) ≡ is_some (check_at new j)
        begun-by j = ⊎_elim
            (λ e. ap (λ (b : Bool). cond b true (w.pages.begun j)) (eq-eqb i j (sym e))
            ∙ sym (ap is_some (subst (λ (n : ℕ). check_at new n ≡ Some k) (sym e)
            (item-set {A = Option Begun} None c.checks i (Some k) low high f.good.shape.checks))))
            (λ ne. ap (λ (b : Bool). cond b true (w.pages.begun j)) (ne_eqb i j (λ e. ne (sym e)))
            ∙ f.pages.begun j
            ∙ sym (ap is_some (item-kept {A = Option Begun} None c.checks i (Some k) low j ne)))
            (cases_eq j i)

    bounds : FitsBounds seen leaves new (bounds_after w.bounds (CheckBegin i) reply.Did)
    bounds =
        let b = sealed-bounds i spare 900 y c.txns c.epochs seen leaves Pending.Idle c m f.good low high settled refl begin
        (begin-takes (all_at (log_at c i)) k.begin) (λ j lo hi. omega arith) w.bounds
        (bounds_after w.bounds (CheckBegin i) reply.Did) (begin-more w.bounds i) f.bounds in
        record {
          slots = b.slots;
          least = b.least;
          reach = b.reach;
          lsns = b.lsns;
          masters = b.masters;
          left_masters = b.left_masters;
        }

    pub begun-fits : Fits seen leaves new (begun_core i w)
    begun-fits = record {
      good = begun-then;
      idle = f.idle;
      rolling = λ t rolls. stays-open t (f.rolling t rolls);
      waits = f.waits;
      waiting = f.waiting;
      put = f.put;
      pages = pages;
      bounds = bounds;
      doubts = sealed-doubts i spare 900 y c.txns c.epochs seen leaves Pending.Idle c m f.good low high settled refl begin
          (begin-takes (all_at (log_at c i)) k.begin) (λ j lo hi. omega arith) m (λ u doubt. refl) f.doubts;
    }

-- ---- the event

pub begun-turns : (i : ℕ) (seen : rig.DeviceImages) (leaves : Outcomes) (c : Parts) (w : Core) → Fits seen leaves c w → 1 ≤ i → i ≤ 8
    → TakesCheck (status_at c i) → Turns w (CheckBegin i) reply.Did (begun_core i w)
begun-turns i seen leaves c w f low high takes = record {
  wanted = None;
  near = tt;
  plays = record {
    step = ((f.good.not_closed, (stands, (tt, (tt, tt)))), refl);
    waits = λ t. sym (none-ended seen leaves c w f t);
  };
  exact = tt;
  unused = tt;
  moves = ((tt, (tt, (tt, (tt, tt)))), refl);
  within = tt;
  sums = refl;
}
  where
    stands : (MayServe w.scene.state (CheckBegin i) → ⊥) → ⊥
    stands none = none (subst TakesCheck (f.good.instances i low high).status takes)
