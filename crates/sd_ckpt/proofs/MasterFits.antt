-- A master that was put, or may have been: how what is left of the complex fits the world on. For `check_end`.
use Rattle.std.proofs.Common.{◌≡◌, ◌≢◌, inl, ⊎_elim, ℕ, ◌+◌, ◌-◌, ◌≤◌, Bool, true, false, ◌&&◌, cond, List, [], ◌++◌, map, max, sum_by, refl, sym, ap, ◌∙◌, subst, arith, append-nil, eq-eqb, ne_eqb}
use Rattle.std.specs.Prelude.{Option, None, Some, eqb, is_some, slice_set}
use Rattle.std.specs.List.{list_any}
use Rattle.std.specs.Option.{option_map_or}
use Rattle.std.proofs.lemmas.Bool.{cases_eq}
use mathlib.Core.Path.{fun_ext}
use Rattle.sd_base.specs.Ids.{same_txn}
use Rattle.sd_base.specs.Values.{size}
use Rattle.sd_base.specs.declared.ids.TxnId.{TxnId}
use Rattle.sd_log.specs.Logs.{LogState, begun_at, forced, last_lsn, scanned}
use Rattle.sd_logrec.specs.Kept.{master}
use Rattle.sd_logrec.specs.View.{flat}
use Rattle.sd_logrec.specs.declared.record.Record.{Record}
use Rattle.sd_model.specs.Acts.{live}
use Rattle.sd_model.specs.Lives.{IsFallen, SuitsStatus}
use Rattle.sd_model.specs.State.{State}
use Rattle.sd_page.specs.Page.{Page}
use Rattle.sd_rig.specs.Devices as rig
use Rattle.sd_rig.specs.Devices.{LeavesSame}
use Rattle.sd_chain.specs.Bytes.{disk_page}
use Rattle.sd_chain.specs.Checks.{reserve}
use Rattle.sd_chain.specs.Fates.{commits}
use Rattle.sd_chain.specs.Images.{Keeps, all_kept}
use Rattle.sd_chain.specs.Logs.{Outcomes, all_at, base_at, tail_at, tails_of}
use Rattle.sd_chain.specs.Named.{version_of}
use Rattle.sd_chain.specs.Records.{IsOpen, ends, home}
use Rattle.sd_chain.specs.Soundly.{IsReady}
use Rattle.sd_chain.specs.Starts.{IsClosed}
use Rattle.sd_chain.proofs.Kept.{forced-idle}
use Rattle.sd_chain.proofs.Lists.{Each-back}
use Rattle.sd_chain.proofs.Starts.{total-later}
use Rattle.sd_moves.specs.Falling.{IsFallen as HasFallen, with_fallen}
use Rattle.sd_state.specs.Good.{Good}
use Rattle.sd_state.specs.Images.{log_by}
use Rattle.sd_state.specs.Parts.{Begun, Parts, actor, check_at, count_at, log_at, no_log, other_at}
use Rattle.sd_state.specs.Sums.{great_of, owed_in_all}
use Rattle.sd_state.specs.Values.{Pending, is_doubt}
use Rattle.sd_state.proofs.Items.{item-kept, item-set}
use Rattle.sd_state.proofs.Standing.{one-place}
use Rattle.sd_world.specs.Bounds.{Bounds}
use Rattle.sd_world.specs.Pages.{Pages, begins, fell}
use Rattle.sd_world.specs.Serving.{Core}
use Rattle.sd_fits.specs.Fits.{AreAtLeast, AreWithin, Fits, FitsBounds, FitsDoubts, FitsPages, HaveSlots, ReachesAtMost, capacities}
use Rattle.sd_fits.proofs.Falling.{fallen-pages, numbers_of}
use Rattle.sd_fits.proofs.Forcing.{failed-bounds, most-same}
use Rattle.sd_ckpt.specs.Laws.{MayBegin, with_either}
use Rattle.sd_ckpt.specs.Masters.{MayPutMaster, with_master}
use Rattle.sd_ckpt.specs.Readings.{ReadsAlike, storage_by}
use Rattle.sd_ckpt.proofs.EitherGood as either
use Rattle.sd_ckpt.proofs.LaterHalf.{records-base}
use Rattle.sd_ckpt.proofs.Later.{gone, later-log, may-begin}
use Rattle.sd_ckpt.proofs.PutStands.{was-ready}
use Rattle.sd_ckpt.proofs.Reached.{doubt-fell, last-left}

module _ (i check start : ℕ) (seen seen' : rig.DeviceImages) (leaves leaves' : Outcomes) (c : Parts) (m : State) (low : 1 ≤ i)
    (high : i ≤ 8) (g : Good seen leaves Pending.Idle c m) (idle : c.due ≡ None)
    (reads : (d : ℕ) → d ≤ 8 → leaves d (seen d)) (may : MayPutMaster i check start c) where
  abbrev log : LogState
  log = log_at c i

  abbrev later : LogState
  later = later-log i check start seen leaves c m low high g may

  abbrev front : List Record
  front = gone i check start seen leaves c m low high g may

  begin : MayBegin i start front later c
  begin = may-begin i check start seen leaves c m low high g may

  one : other_at c i ≡ None
  one = (g.settled i low high may.settled).one_place

  -- ---- the log from its later place

  closed : (t : TxnId) → IsClosed (map flat front) (base_at later) t
  closed = either.closed leaves leaves i start front later seen seen c m g reads idle begin
      (record { reads = λ d ne. refl; left = λ d ne bytes. (λ l. l, λ l. l) })
      (λ bytes left. let is = ((g.settled i low high may.settled).only bytes).0 left in
      inl (
        ap master is,
        subst (λ (b : List ℕ). IsReady i b log) (sym is)
            (was-ready i seen leaves c m low high g (reads i high) may.settled),
      ))
      (λ j. true)

  whole : base_at log ≡ map flat front ++ base_at later
  whole = records-base front log later begin.records

  all-later : all_at later ≡ base_at later
  all-later = ap (λ (t : List Record). base_at later ++ map flat t) begin.tail ∙ append-nil (base_at later)

  all-log : all_at log ≡ base_at log
  all-log = ap (λ (t : List Record). base_at log ++ map flat t) may.bare ∙ append-nil (base_at log)

  reserves-same : reserve (base_at log) ≡ reserve (base_at later)
  reserves-same = ap reserve whole
      ∙ total-later (λ s. 31 + sum_by (λ x. 47 + size x.before) s) (map flat front) (base_at later) closed

  later-reach : (n : ℕ) → ReachesAtMost n log → ReachesAtMost n later
  later-reach n r =
      let most = r.0 in
      let gate = begin.gate in
      let same = reserves-same in
      let all = ap reserve all-later in
      let ends_at : (forced later).gate ≡ later.gate = ap (λ (l : LogState). l.gate) (forced-idle later begin.tail) in
      (omega (arith, most, gate, same), omega (arith, most, gate, same, all, ends_at))

  last-same : last_lsn (scanned later) ≡ last_lsn (scanned log)
  last-same = last-left front log later begin.records begin.bare begin.tail (last_lsn (scanned log)) begin.last_kept

  -- ---- who is in doubt is of another instance

  sure : (t : TxnId) → is_doubt (m.part t).life ≡ true → home t ≢ i
  sure t doubt own = begin.stands (subst IsFallen (sym (g.instances i low high).status)
      (doubt-fell (m.part t).life (m.inst i).status doubt
      (subst (λ (j : ℕ). SuitsStatus (m.part t).life (m.inst j).status) own (g.placed.stands t))))

  -- so it has its slots, where the readings are alike
  doubts-on : (c' : Parts) → ((moved : Keeps) (j : ℕ) → j ≢ i → log_by c' moved j ≡ log_by c moved j)
      → ((moved keeps : Keeps) → ReadsAlike (storage_by seen c moved keeps) (storage_by seen' c' moved keeps))
      → FitsDoubts seen c m → FitsDoubts seen' c' m
  doubts-on c' else alike d moved keeps t doubt has = subst (λ (v : ℕ → Page). HaveSlots v (live (m.part t).acts))
      (fun_ext (λ p. (alike moved keeps).pages p))
      (d moved keeps t doubt
      (ap (λ (l : LogState). list_any (commits t) (base_at l ++ cond (keeps (home t)) (tail_at l) []))
      (sym (else moved (home t) (sure t doubt))) ∙ has))

  number-on : (c' : Parts) → ((moved keeps : Keeps) → ReadsAlike (storage_by seen c moved keeps) (storage_by seen' c' moved keeps))
      → (p : ℕ) → (version_of (tails_of (log_at c)) (disk_page (seen 0)) all_kept p).lsn
      ≡ (version_of (tails_of (log_at c')) (disk_page (seen' 0)) all_kept p).lsn
  number-on c' alike p = ap (λ (x : Page). x.lsn) ((alike (λ j. false) all_kept).pages p)

  -- a checkpoint of i is begun no more
  begun-by : (c' : Parts) → c'.checks ≡ slice_set {A = Option Begun} c.checks (i - 1) None → (w : Pages)
      → ((j : ℕ) → w.begun j ≡ is_some (check_at c j)) → (j : ℕ) → cond (eqb i j) false (w.begun j) ≡ is_some (check_at c' j)
  begun-by c' is w begun j = ⊎_elim
      (λ e. ap (λ (b : Bool). cond b false (w.begun j)) (eq-eqb i j (sym e))
      ∙ sym (ap is_some (subst (λ (n : ℕ). check_at c' n ≡ None) (sym e)
      (ap (λ (xs : List (Option Begun)). check_at (record c { checks = xs }) i) is
      ∙ item-set {A = Option Begun} None c.checks i None low high g.shape.checks))))
      (λ ne. ap (λ (b : Bool). cond b false (w.begun j)) (ne_eqb i j (λ e. ne (sym e)))
      ∙ begun j
      ∙ sym (ap is_some (ap (λ (xs : List (Option Begun)). check_at (record c { checks = xs }) j) is
      ∙ item-kept {A = Option Begun} None c.checks i None low j ne)))
      (cases_eq j i)

  module _ (others_leave : (d : ℕ) → d ≢ i → LeavesSame (leaves d) (leaves' d)) (sums : Bounds)
      (left_most : (bytes : List ℕ) → leaves' i bytes → (master bytes).count ≤ sums.masters i) where
    left-masters : FitsBounds seen leaves c sums → (j : ℕ) → 1 ≤ j → j ≤ 8 → (bytes : List ℕ) → leaves' j bytes
        → (master bytes).count ≤ sums.masters j
    left-masters f j lo hi bytes l = ⊎_elim
        (λ e. subst (λ (n : ℕ). (master bytes).count ≤ sums.masters n) (sym e)
        (left_most bytes (subst (λ (n : ℕ). leaves' n bytes) e l)))
        (λ ne. f.left_masters j lo hi bytes ((others_leave j ne bytes).0 l))
        (cases_eq j i)

    -- ---- the put is done

    module _ (count : ℕ) (most : count ≤ sums.masters i)
        (alike : (moved keeps : Keeps) → ReadsAlike (storage_by seen c moved keeps) (storage_by seen' (with_master i start count c) moved keeps)) where
      abbrev new : Parts
      new = with_master i start count c

      new-here : log_at new i ≡ later
      new-here = item-set no_log c.logs i later low high g.shape.logs

      new-else : (j : ℕ) → j ≢ i → log_at new j ≡ log_at c j
      new-else j ne = item-kept no_log c.logs i later low j ne

      by-else : (moved : Keeps) (j : ℕ) → j ≢ i → log_by new moved j ≡ log_by c moved j
      by-else moved j ne = ap (λ (l : LogState). cond (moved j) (option_map_or (λ p. begun_at p l) (other_at c j) l) l) (new-else j ne)

      last-by : (j : ℕ) → last_lsn (scanned (log_at new j)) ≡ last_lsn (scanned (log_at c j))
      last-by j = ⊎_elim
          (λ e. subst (λ (k : ℕ). last_lsn (scanned (log_at new k)) ≡ last_lsn (scanned (log_at c k))) (sym e)
          (ap (λ (l : LogState). last_lsn (scanned l)) new-here ∙ last-same))
          (λ ne. ap (λ (l : LogState). last_lsn (scanned l)) (new-else j ne))
          (cases_eq j i)

      great-same : great_of new ≡ great_of c
      great-same = ap (λ (n : ℕ). max c.disk_lsn n) (most-same (λ j. last_lsn (scanned (log_at new j)))
          (λ j. last_lsn (scanned (log_at c j))) 8 (λ j lo hi. last-by j))

      open-still : (t : TxnId) → IsOpen t (all_at (log_at c (home t))) → IsOpen t (all_at (log_at new (home t)))
      open-still t opens = ⊎_elim
          (λ e. subst (λ (j : ℕ). IsOpen t (all_at (log_at new j))) (sym e)
          (subst (λ (l : LogState). IsOpen t (all_at l)) (sym new-here)
          (subst (IsOpen t) (sym all-later)
          (Each-back (λ x. (ends x.kind && same_txn x.txn t) ≡ false) (map flat front) (base_at later)
          (subst (IsOpen t) (all-log ∙ whole) (subst (λ (j : ℕ). IsOpen t (all_at (log_at c j))) e opens))))))
          (λ ne. subst (λ (l : LogState). IsOpen t (all_at l)) (sym (new-else (home t) ne)) opens)
          (cases_eq (home t) i)

      pub put-pages : (w : Pages) → FitsPages seen leaves c w → FitsPages seen' leaves' new (begins i false w)
      put-pages w f = record {
        frames = f.frames;
        entry = f.entry;
        asks = f.asks;
        number = λ p there. f.number p there ∙ number-on new alike p;
        begun = begun-by new refl w f.begun;
      }

      pub put-bounds : FitsBounds seen leaves c sums → FitsBounds seen' leaves' new sums
      put-bounds f = record {
        slots = λ moved keeps p. subst (λ (x : Page). AreWithin (capacities x) (sums.slots p)) ((alike moved keeps).pages p)
            (f.slots moved keeps p);
        least = λ moved keeps p. subst (λ (x : Page). AreAtLeast (capacities x) (sums.least p)) ((alike moved keeps).pages p)
            (f.least moved keeps p);
        reach = λ moved j lo hi. ⊎_elim
            (λ e. subst (λ (k : ℕ). ReachesAtMost (sums.reach k) (log_by new moved k)) (sym e)
            (subst (ReachesAtMost (sums.reach i)) (sym (one-place new moved i one ∙ new-here))
            (later-reach (sums.reach i) (subst (ReachesAtMost (sums.reach i)) (one-place c moved i one)
            (f.reach moved i low high)))))
            (λ ne. subst (ReachesAtMost (sums.reach j)) (sym (by-else moved j ne)) (f.reach moved j lo hi))
            (cases_eq j i);
        lsns = subst (λ (n : ℕ). n + owed_in_all c ≤ sums.lsns) (sym great-same) f.lsns;
        masters = λ j lo hi. ⊎_elim
            (λ e. subst (λ (k : ℕ). count_at new k ≤ sums.masters k) (sym e)
            (subst (λ (n : ℕ). n ≤ sums.masters i) (sym (item-set 0 c.masters i count low high g.shape.masters)) most))
            (λ ne. subst (λ (n : ℕ). n ≤ sums.masters j) (sym (item-kept 0 c.masters i count low j ne)) (f.masters j lo hi))
            (cases_eq j i);
        left_masters = left-masters f;
      }

      -- the complex fits the world without the checkpoint, with the same sums
      pub put-fits : (w : Core) → w.scene.state ≡ m → w.bounds ≡ sums → Fits seen leaves c w → Good seen' leaves' Pending.Idle new m
          → Fits seen' leaves' new (record w { pages = begins i false w.pages })
      put-fits w state bounds f good = record {
        good = subst (Good seen' leaves' Pending.Idle new) (sym state) good;
        idle = f.idle;
        rolling = λ t rolls. open-still t (f.rolling t rolls);
        waits = f.waits;
        waiting = f.waiting;
        put = f.put;
        pages = put-pages w.pages f.pages;
        bounds = subst (FitsBounds seen' leaves' new) (sym bounds) (put-bounds (subst (FitsBounds seen leaves c) bounds f.bounds));
        doubts = subst (FitsDoubts seen' new) (sym state)
            (doubts-on new by-else alike (subst (FitsDoubts seen c) state f.doubts));
      }

    -- ---- the put failed

    module _ (disk : seen' 0 ≡ seen 0)
        (alike : (moved keeps : Keeps) → ReadsAlike (storage_by seen c moved keeps) (storage_by seen' (with_either i start c) moved keeps)) where
      abbrev mid : Parts
      mid = with_either i start c

      other-here : other_at mid i ≡ Some start
      other-here = item-set {A = Option ℕ} None c.others i (Some start) low high g.shape.others

      other-else : (j : ℕ) → j ≢ i → other_at mid j ≡ other_at c j
      other-else j ne = item-kept {A = Option ℕ} None c.others i (Some start) low j ne

      mid-else : (moved : Keeps) (j : ℕ) → j ≢ i → log_by mid moved j ≡ log_by c moved j
      mid-else moved j ne = ap (λ (o : Option ℕ). cond {A = LogState} (moved j)
          (option_map_or (λ p. begun_at p (log_at c j)) o (log_at c j)) (log_at c j)) (other-else j ne)

      mid-here : (moved : Keeps) → log_by mid moved i ≡ cond {A = LogState} (moved i) later log
      mid-here moved = ap (λ (o : Option ℕ). cond {A = LogState} (moved i) (option_map_or (λ p. begun_at p log) o log) log) other-here

      either-reach : (n : ℕ) (b : Bool) → ReachesAtMost n log → ReachesAtMost n (cond {A = LogState} b later log)
      either-reach n true r = later-reach n r
      either-reach n false r = r

      pub either-bounds : FitsBounds seen leaves c sums → FitsBounds seen' leaves' mid sums
      either-bounds f = record {
        slots = λ moved keeps p. subst (λ (x : Page). AreWithin (capacities x) (sums.slots p)) ((alike moved keeps).pages p)
            (f.slots moved keeps p);
        least = λ moved keeps p. subst (λ (x : Page). AreAtLeast (capacities x) (sums.least p)) ((alike moved keeps).pages p)
            (f.least moved keeps p);
        reach = λ moved j lo hi. ⊎_elim
            (λ e. subst (λ (k : ℕ). ReachesAtMost (sums.reach k) (log_by mid moved k)) (sym e)
            (subst (ReachesAtMost (sums.reach i)) (sym (mid-here moved))
            (either-reach (sums.reach i) (moved i) (subst (ReachesAtMost (sums.reach i)) (one-place c moved i one)
            (f.reach moved i low high)))))
            (λ ne. subst (ReachesAtMost (sums.reach j)) (sym (mid-else moved j ne)) (f.reach moved j lo hi))
            (cases_eq j i);
        lsns = (failed-bounds (actor c i) i seen seen leaves leaves Pending.Idle c m g low high may.settled refl
            (λ j lo bytes l. (bytes, l, refl)) sums f).lsns;
        masters = f.masters;
        left_masters = left-masters f;
      }

      pub either-doubts : FitsDoubts seen c m → FitsDoubts seen' mid m
      either-doubts = doubts-on mid mid-else alike

      mid-pages : (w : Pages) → FitsPages seen leaves c w → FitsPages seen' leaves' mid (begins i false w)
      mid-pages w f = record {
        frames = f.frames;
        entry = f.entry;
        asks = f.asks;
        number = λ p there. f.number p there ∙ number-on mid alike p;
        begun = begun-by mid refl w f.begun;
      }

      -- pages once i has fallen
      pub either-pages : (w : Pages) (new : Parts) → FitsPages seen leaves c w → Good seen' leaves' Pending.Idle mid m
          → new ≡ with_fallen i new mid → HasFallen i mid new
          → FitsPages seen' leaves' new (fell i (numbers_of seen' leaves' new) w)
      either-pages w new f good is fallen =
          let p = fallen-pages i seen' leaves' Pending.Idle mid new m low high good is fallen (begins i false w) (mid-pages w f) in
          record {
            frames = p.frames;
            entry = p.entry;
            asks = p.asks;
            number = p.number;
            begun = λ j. twice (eqb i j) (w.begun j) ∙ p.begun j;
          }
        where
          twice : (b x : Bool) → cond b false x ≡ cond b false (cond b false x)
          twice true x = refl
          twice false x = refl

-- The former master couldn't be read: all is as it was, and the complex fits the world on.
pub read-fits : (i : ℕ) (seen seen' : rig.DeviceImages) (leaves leaves' : Outcomes) (c : Parts) (w : Core) → Fits seen leaves c w
    → seen' 0 ≡ seen 0 → ((d : ℕ) → d ≢ i → LeavesSame (leaves d) (leaves' d))
    → ((bytes : List ℕ) → leaves' i bytes → (master bytes).count ≤ w.bounds.masters i)
    → Good seen' leaves' Pending.Idle c w.scene.state → Fits seen' leaves' c w
read-fits i seen seen' leaves leaves' c w f disk others_leave left_most good = record {
  good = good;
  idle = f.idle;
  rolling = f.rolling;
  waits = f.waits;
  waiting = f.waiting;
  put = f.put;
  pages = record {
    frames = f.pages.frames;
    entry = f.pages.entry;
    asks = f.pages.asks;
    number = λ p there. f.pages.number p there
        ∙ ap (λ (bytes : List ℕ). (version_of (tails_of (log_at c)) (disk_page bytes) all_kept p).lsn) (sym disk);
    begun = f.pages.begun;
  };
  bounds = record {
    slots = λ moved keeps p. subst (λ (bytes : List ℕ). AreWithin (capacities (version_of (tails_of (log_by c moved)) (disk_page bytes) keeps p))
        (w.bounds.slots p)) (sym disk) (f.bounds.slots moved keeps p);
    least = λ moved keeps p. subst (λ (bytes : List ℕ). AreAtLeast (capacities (version_of (tails_of (log_by c moved)) (disk_page bytes) keeps p))
        (w.bounds.least p)) (sym disk) (f.bounds.least moved keeps p);
    reach = f.bounds.reach;
    lsns = f.bounds.lsns;
    masters = f.bounds.masters;
    left_masters = λ j lo hi bytes l. ⊎_elim
        (λ e. subst (λ (n : ℕ). (master bytes).count ≤ w.bounds.masters n) (sym e)
        (left_most bytes (subst (λ (n : ℕ). leaves' n bytes) e l)))
        (λ ne. f.bounds.left_masters j lo hi bytes ((others_leave j ne bytes).0 l))
        (cases_eq j i);
  };
  doubts = λ moved keeps t doubt has. subst (λ (bytes : List ℕ). HaveSlots (version_of (tails_of (log_by c moved)) (disk_page bytes) keeps)
      (live (w.scene.state.part t).acts)) (sym disk) (f.doubts moved keeps t doubt has);
}
