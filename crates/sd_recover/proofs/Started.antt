-- The Start of an instance's epoch comes to its log, and is forced or not: how the complex fits the world then. For `join` of
-- src/joining.rt.
use Rattle.std.proofs.Common.{◌≡◌, ◌≢◌, ⊎_elim, ℕ, ◌+◌, ◌≤◌, Bool, false, cond, List, [], ◌∷◌, ◌++◌, refl, sym, ap, ◌∙◌, true, subst, arith, eq-eqb}
use Rattle.std.specs.Prelude.{None, eqb, length, max}
use Rattle.std.proofs.lemmas.Bool.{cases_eq}
use Rattle.sd_base.specs.declared.ids.TxnId.{TxnId}
use Rattle.sd_base.specs.declared.place.Status.{Status}
use Rattle.sd_base.specs.declared.place.Status.TheVariants as S
use Rattle.sd_log.specs.Logs.{LogState, forced, with_record}
use Rattle.sd_logrec.specs.Spelling.{spelling}
use Rattle.sd_logrec.specs.View.{Rec, flat}
use Rattle.sd_logrec.specs.declared.record.Record.{Record}
use Rattle.sd_logrec.specs.declared.record.Record.TheVariants as records
use Rattle.sd_logrec.proofs.Lengths.{length-spelling}
use Rattle.sd_model.specs.Listed.{IsAtWork}
use Rattle.sd_model.specs.Lives.{MayRun, SuitsStatus}
use Rattle.sd_model.specs.State.{State, joined}
use Rattle.sd_model.specs.declared.act.Life.{Life}
use Rattle.sd_model.specs.declared.event.Event.TheVariants.{Join}
use Rattle.sd_model.specs.declared.event.Reply.{Reply}
use Rattle.sd_rig.specs.Devices as rig
use Rattle.sd_txn.specs.Owing.{owed_of}
use Rattle.sd_chain.specs.Checks.{owed, reserve}
use Rattle.sd_chain.specs.Records.{IsOpen, home}
use Rattle.sd_chain.specs.Logs.{Outcomes, all_at, base_at, next_lsn}
use Rattle.sd_chain.proofs.Kept.{forced-base}
use Rattle.sd_chain.proofs.Owing.{plain-owes}
use Rattle.sd_state.specs.Forcing.{KeepMasters, with_failed, with_forced}
use Rattle.sd_state.specs.Good.{Good}
use Rattle.sd_state.specs.Joining.{with_joined}
use Rattle.sd_state.specs.Parts.{Parts, is_loose, log_at, no_log, owed_at, status_at, txns_at, up_as}
use Rattle.sd_update.specs.Sealing.{with_start}
use Rattle.sd_state.specs.Sums.{great_of, owed_in_all, owes_most}
use Rattle.sd_state.specs.Tables.{tells_log}
use Rattle.sd_state.specs.Values.{Pending}
use Rattle.sd_state.proofs.Items.{item-kept, item-set}
use Rattle.sd_update.proofs.SealedCalls.{settled-up}
use Rattle.sd_world.specs.Bounds.{Bounds, bounds_after, is_wait}
use Rattle.sd_world.specs.Serving.{Core}
use Rattle.sd_world.proofs.Sums.{works-four}
use Rattle.sd_moves.proofs.FallBounds.{sum-less}
use Rattle.sd_fits.specs.Fits.{Fits, FitsBounds, FitsDoubts, FitsPages}
use Rattle.sd_fits.proofs.Forcing.{failed-bounds, failed-doubts, failed-pages, forced-bounds, forced-doubts, forced-pages, no-more}
use Rattle.sd_fits.proofs.Sealing.{AreMore, sealed-bounds, sealed-doubts, sealed-pages}
use Rattle.sd_recover.specs.Joining.{MayStart}

-- nobody of it is at work
rests-at : (life : Life) (s : Status) → MayStart s → SuitsStatus life s → (IsAtWork life → ⊥) × ((life ≡ Life.Rolling None) → ⊥)
rests-at Life.Gone s may h = (λ w. w, λ e. cc)
rests-at Life.Running s may h = let never : ⊥ = ⊎_elim (λ e. subst MayRun e h) (λ e. subst MayRun e h) may in
    (λ w. never, λ e. never)
rests-at Life.Retained s may h = (λ w. w, λ e. cc)
rests-at (Life.Rolling to) s may h = let never : ⊥ = ⊎_elim (λ e. subst MayRun e h) (λ e. subst MayRun e h) may in
    (λ w. never, λ e. never)
rests-at (Life.Doubt cut) s may h = (λ w. w, λ e. cc)

-- a Start takes 18 bytes with a group's head, and reserves none
start-takes : (log : List Rec) (lsn epoch : ℕ)
    → reserve (log ++ flat (records.Start lsn epoch) ∷ []) + length (spelling (records.Start lsn epoch)) + 5 ≤ reserve log + 900
start-takes log lsn epoch =
    let same = (plain-owes log (flat (records.Start lsn epoch)) refl).0 in
    let len = length-spelling (records.Start lsn epoch) in
    omega (arith, same, len)

-- the sums after a join, whatever it answers but a wait
join-more : (b : Bounds) (i : ℕ) (r : Reply) → is_wait r ≡ false → AreMore i 900 b (bounds_after b (Join i) r)
join-more b i r works = record {
  slots = λ p. refl;
  least = λ p. refl;
  here = let own = ap {B = ℕ} (λ (e : Bool). cond e 900 0 + b.reach i) (eq-eqb i i refl) in omega (arith, own);
  reach = λ j. more (cond (eqb i j) 900 0) (b.reach j);
  lsns = let four = works-four b (Join i) r works in omega (arith, four);
  masters = λ j. alike (b.masters j);
}
  where
    alike : (x : ℕ) → x ≤ x
    alike x = omega arith

    more : (x y : ℕ) → y ≤ x + y
    more x y = omega arith

-- the world in which instance i is up in this epoch, with these sums
abbrev pub joined_core : ℕ → ℕ → Bounds → Core → Core
joined_core i epoch sums w = record {
  scene = record { state = joined i epoch w.scene.state; waits = w.scene.waits };
  pages = w.pages;
  bounds = sums;
}

-- ---- the Start is in the log

module _ (i lsn epoch spare : ℕ) (seen : rig.DeviceImages) (leaves : Outcomes) (c : Parts) (w : Core) (f : Fits seen leaves c w)
    (low : 1 ≤ i) (high : i ≤ 8) (waits : MayStart (status_at c i)) (next : lsn ≡ next_lsn (log_at c i) 0) (r : Reply)
    (works : is_wait r ≡ false) where
  abbrev m : State
  m = w.scene.state

  abbrev mid : Parts
  mid = with_start i lsn epoch spare c

  abbrev start : Record
  start = records.Start lsn epoch

  abbrev sums : Bounds
  sums = bounds_after w.bounds (Join i) r

  pub settled : is_loose c i ≡ false
  settled = settled-up seen leaves Pending.Idle c m i low high f.good f.idle (⊎_elim (λ e. ap up_as e) (λ e. ap up_as e) waits)

  pub tells : tells_log (status_at c i) ≡ true
  tells = ⊎_elim (λ e. ap tells_log e) (λ e. ap tells_log e) waits

  pub mid-pages : FitsPages seen leaves mid w.pages
  mid-pages = sealed-pages i spare 900 start c.txns mid.epochs seen leaves Pending.Idle c m f.good low high settled refl next
      (start-takes (all_at (log_at c i)) lsn epoch) (λ j lo hi. omega arith) w.pages f.pages

  pub mid-bounds : FitsBounds seen leaves mid sums
  mid-bounds = sealed-bounds i spare 900 start c.txns mid.epochs seen leaves Pending.Idle c m f.good low high settled refl next
      (start-takes (all_at (log_at c i)) lsn epoch) (λ j lo hi. omega arith) w.bounds sums (join-more w.bounds i r works) f.bounds

  pub mid-doubts : FitsDoubts seen mid m
  mid-doubts = sealed-doubts i spare 900 start c.txns mid.epochs seen leaves Pending.Idle c m f.good low high settled refl next
      (start-takes (all_at (log_at c i)) lsn epoch) (λ j lo hi. omega arith) m (λ u doubt. refl) f.doubts

  -- ---- and is forced

  module _ (seen' : rig.DeviceImages) (leaves' : Outcomes) (disk : seen' 0 ≡ seen 0)
      (kept : KeepMasters leaves leaves') (g : Good seen leaves (Pending.Starts i) mid m) where
    -- its force failed
    pub failed-pages-fit : (a : ℕ) → FitsPages seen' leaves' (with_failed a i mid) w.pages
    failed-pages-fit a = failed-pages a i seen seen' leaves leaves'
        (Pending.Starts i) mid m g low high settled disk w.pages mid-pages

    pub failed-bounds-fit : (a : ℕ) → FitsBounds seen' leaves' (with_failed a i mid) sums
    failed-bounds-fit a = failed-bounds a i seen seen' leaves leaves'
        (Pending.Starts i) mid m g low high settled disk kept sums mid-bounds

    pub failed-doubts-fit : (a : ℕ) → FitsDoubts seen' (with_failed a i mid) m
    failed-doubts-fit a = failed-doubts a i seen seen' leaves leaves'
        (Pending.Starts i) mid m g low high settled disk m mid-doubts

    -- the log has it
    module _ (owes : ℕ) (g' : Good seen' leaves' (Pending.Starts i) (with_forced i (forced (log_at mid i)) owes mid) m) where
      abbrev done : Parts
      done = with_forced i (forced (log_at mid i)) owes mid

      abbrev new : Parts
      new = with_joined i done

      owes-is : owes ≡ owed (all_at (log_at mid i))
      owes-is =
          sym (item-set 0 mid.owed i owes low high g.shape.owed)
          ∙ g'.owed i low high settled
          ∙ ap (λ (l : LogState). owed (base_at l)) (item-set no_log mid.logs i (forced (log_at mid i)) low high g.shape.logs)
          ∙ ap owed (forced-base (log_at mid i))

      done-pages : FitsPages seen' leaves' done w.pages
      done-pages = forced-pages i owes seen seen' leaves leaves'
          (Pending.Starts i) mid m g low high settled disk owes-is w.pages mid-pages

      done-bounds : FitsBounds seen' leaves' done sums
      done-bounds = forced-bounds i owes seen seen' leaves leaves'
          (Pending.Starts i) mid m g low high settled disk owes-is kept sums mid-bounds

      done-doubts : FitsDoubts seen' done m
      done-doubts = forced-doubts i owes seen seen' leaves leaves'
          (Pending.Starts i) mid m g low high settled disk owes-is m mid-doubts

      -- what a log owes at most hangs on whether a table tells of it, not on the status
      status-tells : (j : ℕ) → tells_log (status_at new j) ≡ tells_log (status_at c j)
      status-tells j = ⊎_elim
          (λ e. subst (λ (k : ℕ). tells_log (status_at new k) ≡ tells_log (status_at c k)) (sym e)
          (ap tells_log (item-set S.Closed c.statuses i S.Up low high f.good.shape.statuses) ∙ sym tells))
          (λ ne. ap tells_log (item-kept S.Closed c.statuses i S.Up low j ne))
          (cases_eq j i)

      owes-same : (j : ℕ) → owes_most new j ≡ owes_most done j
      owes-same j = ap (λ (told : Bool). cond (is_loose c j) (owed_at done j)
          (cond told (max (owed_at done j) (owed_of (txns_at c j))) (owed_at done j))) (status-tells j)

      joined-bounds : FitsBounds seen' leaves' new sums
      joined-bounds = let b = done-bounds in
          record {
            slots = b.slots;
            least = b.least;
            reach = b.reach;
            lsns = no-more (great_of done) (owed_in_all new) (owed_in_all done) sums.lsns
                (sum-less (owes_most new) (owes_most done) 8 (λ j lo hi. let same = owes-same j in omega (arith, same))) b.lsns;
            masters = b.masters;
            left_masters = b.left_masters;
          }

      rests : (t : TxnId) → home t ≡ i → (IsAtWork (m.part t).life → ⊥) × (((m.part t).life ≡ Life.Rolling None) → ⊥)
      rests t own = rests-at (m.part t).life (m.inst i).status
          (subst MayStart (f.good.instances i low high).status waits)
          (subst (λ (k : ℕ). SuitsStatus (m.part t).life (m.inst k).status) own (f.good.placed.stands t))

      log-else : (j : ℕ) → j ≢ i → log_at new j ≡ log_at c j
      log-else j ne = item-kept no_log mid.logs i (forced (log_at mid i)) low j ne
          ∙ item-kept no_log c.logs i (with_record start spare (log_at c i)) low j ne

      pub joined-fits : Good seen' leaves' Pending.Idle new (joined i epoch m)
          → Fits seen' leaves' new (joined_core i epoch sums w)
      joined-fits good = record {
        good = good;
        idle = f.idle;
        rolling = λ t rolls. ⊎_elim
            (λ own. absurd ((rests t own).1 rolls))
            (λ ne. subst (λ (l : LogState). IsOpen t (all_at l)) (sym (log-else (home t) ne)) (f.rolling t rolls))
            (cases_eq (home t) i);
        waits = f.waits;
        waiting = f.waiting;
        put = f.put;
        pages = let p = done-pages in
            record { frames = p.frames; entry = p.entry; asks = p.asks; number = p.number; begun = p.begun };
        bounds = joined-bounds;
        doubts = done-doubts;
      }
