-- A complex one of whose masters may have been put, or not: its log begins at the one place or the other. For a put that failed.
use Rattle.std.proofs.Common.{◌≡◌, ◌≢◌, ◌⊎◌, inl, inr, ⊎_elim, ℕ, ◌+◌, ◌-◌, ◌≤◌, ◌<◌, Bool, true, false, cond, List, [], ◌++◌, map, length, refl, sym, ap, ◌∙◌, subst, arith, append-nil}
use Rattle.std.specs.Prelude.{Option, None, Some, IfSome, slice_set, option_map}
use Rattle.std.specs.List.{list_any}
use Rattle.std.specs.Option.{option_map_or}
use Rattle.std.proofs.lemmas.Bool.{cases_eq}
use Rattle.std.proofs.lemmas.List.{length-set, get_or-set_same}
use Rattle.sd_base.specs.Twin.{chosen_body, number_of}
use Rattle.sd_base.specs.declared.ids.TxnId.{TxnId}
use Rattle.sd_base.specs.declared.place.Status.{Status}
use Rattle.sd_logrec.specs.declared.record.Record.{Record}
use Rattle.sd_logrec.specs.Kept.{master}
use Rattle.sd_logrec.specs.View.{Rec, flat}
use Rattle.sd_log.specs.Forces.{StandsEither, forced_at, forced_len}
use Rattle.sd_log.specs.Logs.{LogState, StandsOn, forced, last_lsn, scanned}
use Rattle.sd_model.specs.Lives.{IsFallen, SuitsStatus}
use Rattle.sd_model.specs.State.{State}
use Rattle.sd_model.specs.declared.act.Life.{Life}
use Rattle.sd_rig.specs.Devices as rig
use Rattle.sd_rig.specs.Devices.{AgreesOutside, LeavesOnly, LeavesSame}
use Rattle.sd_txn.specs.Transactions.{Transaction, state_at, txn_at}
use Rattle.sd_txn.specs.declared.state.TxnState.{TxnState}
use Rattle.sd_chain.specs.Checks.{owed}
use Rattle.sd_chain.specs.Fates.{fate}
use Rattle.sd_chain.specs.Images.{Keeps, Shortened}
use Rattle.sd_chain.specs.Order.{of_txn}
use Rattle.sd_chain.specs.Records.{Each, IsOpen, home, of_page}
use Rattle.sd_chain.proofs.Lists.{Each-front}
use Rattle.sd_chain.specs.Checkpoints.{BeginsLater}
use Rattle.sd_chain.proofs.Checkpoints.{may-shorten}
use Rattle.sd_chain.specs.Logs.{LessElsewhere, Outcomes, ReplacesLog, all_at, base_at, may_of, past_at, records_at, tail_at, tails_of}
use Rattle.sd_chain.specs.Soundly.{IsReady, IsSoundly}
use Rattle.sd_chain.specs.Starts.{IsClosed, IsLater, IsShorter, only_if}
use Rattle.sd_chain.proofs.Ready.{bare-ready}
use Rattle.sd_chain.proofs.Starts.{later-epoch, later-keeps, later-log-sound, total-later}
use Rattle.sd_state.specs.Forcing.{IsHalfForced, with_failed}
use Rattle.sd_state.specs.Good.{Good, Half, IsKnownLsn, IsSettledAt, NoneIsFound, OwesAtMost, base_of, dir_of, reaches}
use Rattle.sd_state.specs.Images.{IsEpochOf, leaves_by, log_by}
use Rattle.sd_log.specs.Logs.{begun_at}
use Rattle.sd_state.specs.Parts.{low_of, Begun, Parts, actor, check_at, count_at, is_loose, log_at, other_at, owed_at, status_at, txns_at}
use Rattle.sd_state.specs.Tables.{IsInDoubt, NamesLife, StandsAs}
use Rattle.sd_state.specs.Values.{Pending, is_doubt}
use Rattle.sd_state.proofs.Failed.{failed-good}
use Rattle.sd_state.proofs.Items.{item-kept, item-set}
use Rattle.sd_state.proofs.Standing.{no-place, one-place}
use Rattle.sd_ckpt.proofs.LaterHalf.{alike-later, half-later, records-base}
use Rattle.sd_ckpt.proofs.Reached.{doubt-fell, reached-later}
use Rattle.sd_ckpt.specs.Laws.{EitherIsGood, EitherReadsAlike, HasEither, MayBegin, ElsewhereSame, with_either}
use Rattle.sd_ckpt.specs.Readings.{ReadsAlike, storage_by}

is-doubt : (l : Life) → IsInDoubt l → is_doubt l ≡ true
is-doubt Life.Gone h = absurd h
is-doubt Life.Running h = absurd h
is-doubt Life.Retained h = absurd h
is-doubt (Life.Rolling to) h = absurd h
is-doubt (Life.Doubt cut) h = refl

module _ (leaves leaves' : Outcomes) (i place : ℕ) (gone : List Record) (l' : LogState) (seen seen' : rig.DeviceImages)
    (c : Parts) (m : State)
    (g : Good seen leaves Pending.Idle c m) (reads : (d : ℕ) → d ≤ 8 → leaves d (seen d)) (idle : c.due ≡ None)
    (may : MayBegin i place gone l' c)
    (stay : ElsewhereSame i seen seen' leaves leaves')
    (outcome : (bytes : List ℕ) → leaves' i bytes → HasEither i (seen i) (log_at c i) l' bytes) where
  low : 1 ≤ i
  low = may.low

  high : i ≤ 8
  high = may.high

  at-i : IsSettledAt seen leaves c i
  at-i = g.settled i low high may.settled

  one : other_at c i ≡ None
  one = at-i.one_place

  abbrev mid : Parts
  mid = with_failed (actor c i) i c

  half-forced : IsHalfForced i (log_at c i) seen seen leaves leaves
  half-forced = record {
    outside = λ bytes left. subst (AgreesOutside (forced_at (log_at c i)) (forced_len (log_at c i)) (seen i))
        (sym ((at-i.only bytes).0 left))
        (record { size = refl; before = refl; behind = refl });
    either = λ bytes left. subst (StandsEither (log_at c i)) (sym ((at-i.only bytes).0 left)) (inl at-i.stands);
    others = λ d ne. refl;
    others_leave = λ d ne bytes. (λ l. l, λ l. l);
  }

  gm : Good seen leaves Pending.Idle mid m
  gm = failed-good i seen seen leaves leaves Pending.Idle c m low high g (inl idle) may.settled reads half-forced

  abbrev new : Parts
  new = with_either i place c

  other-here : other_at new i ≡ Some place
  other-here = item-set {A = Option ℕ} None c.others i (Some place) low high g.shape.others

  other-else : (j : ℕ) → j ≢ i → other_at new j ≡ other_at c j
  other-else = item-kept {A = Option ℕ} None c.others i (Some place) low

  abbrev log_of_place : Bool → LogState
  log_of_place b = cond {A = LogState} b l' (log_at c i)

  abbrev gone_of : Bool → List Record
  gone_of b = cond {A = List Record} b gone []

  abbrev front : Bool → List Rec
  front b = map flat (gone_of b)

  by-here : (moved : Keeps) → log_by new moved i ≡ log_of_place (moved i)
  by-here moved =
      ap (λ (o : Option ℕ). cond {A = LogState} (moved i) (option_map_or (λ p. begun_at p (log_at c i)) o (log_at c i))
      (log_at c i)) other-here
      ∙ ap (λ (l : LogState). cond {A = LogState} (moved i) l (log_at c i)) may.begins

  was-here : (moved : Keeps) → log_by mid moved i ≡ log_at c i
  was-here moved = one-place mid moved i one

  by-else : (moved : Keeps) (j : ℕ) → j ≢ i → log_by new moved j ≡ log_by mid moved j
  by-else moved j ne =
      ap (λ (o : Option ℕ). cond {A = LogState} (moved j) (option_map_or (λ p. begun_at p (log_at c j)) o (log_at c j))
      (log_at c j)) (other-else j ne)

  records-of : (b : Bool) → records_at (log_at c i) ≡ gone_of b ++ records_at (log_of_place b)
  records-of true = may.records
  records-of false = refl

  gate-of : (b : Bool) → (log_of_place b).gate ≤ (log_at c i).gate
  gate-of true = may.gate
  gate-of false = omega arith

  tail-of : (b : Bool) → (log_of_place b).tail ≡ []
  tail-of true = may.tail
  tail-of false = may.bare

  below-of : (n : ℕ) → Each (λ x. x.lsn < n) (map flat gone) → (b : Bool) → Each (λ x. x.lsn < n) (front b)
  below-of n below true = below
  below-of n below false = tt

  front-none : gone ≡ [] → (b : Bool) → front b ≡ []
  front-none none true = ap (map flat) none
  front-none none false = refl

  whole : (b : Bool) → base_at (log_at c i) ≡ front b ++ base_at (log_of_place b)
  whole b = records-base (gone_of b) (log_at c i) (log_of_place b) (records-of b)

  -- ---- the log from either place

  begins-later : (n : ℕ) → Each (λ x. x.lsn < n) (map flat gone) → (moved : Keeps)
      → BeginsLater n i (front (moved i)) (tails_of (log_by mid moved)) (tails_of (log_by new moved))
  begins-later n below moved = record {
    inside = omega (arith, high);
    here = ap base_at (was-here moved) ∙ whole (moved i)
        ∙ ap (λ (l : LogState). front (moved i) ++ base_at l) (sym (by-here moved));
    no_tail = ap tail_at (was-here moved) ∙ ap (map flat) may.bare;
    below = below-of n below (moved i);
    tails = λ j. ⊎_elim
        (λ e. subst (λ (n : ℕ). tail_at (log_by new moved n) ≡ tail_at (log_by mid moved n)) (sym e)
        (ap tail_at (by-here moved) ∙ ap (map flat) (tail-of (moved i))
        ∙ sym (ap tail_at (was-here moved) ∙ ap (map flat) may.bare)))
        (λ ne. ap tail_at (by-else moved j ne)) (cases_eq j i);
    others = λ j ne. ap base_at (by-else moved j ne);
  }

  shortened : (moved : Keeps)
      → Shortened i (front (moved i)) (tails_of (log_by mid moved)) (tails_of (log_by new moved))
      (may_of (leaves_by mid moved leaves))
  shortened moved = ⊎_elim
      (λ none. let first = begins-later 0 (subst (Each (λ x. x.lsn < 0)) (sym (ap (map flat) none)) tt) moved in record {
        inside = first.inside;
        here = first.here;
        no_tail = first.no_tail;
        tails = first.tails;
        others = first.others;
        on_disk = λ disk all. subst (Each (λ x. (p : ℕ) → of_page p x ≡ true → x.lsn ≤ (disk p).lsn))
            (sym (front-none none (moved i))) tt;
        closed = λ t. inl (subst (Each (λ x. of_txn t x ≡ false)) (sym (front-none none (moved i))) tt);
      })
      (λ f. let h = gm.half moved in let k = f.0 in let had = h.checks i k f.1 in
      may-shorten (may_of (leaves_by mid moved leaves)) (low_of k) i (front (moved i))
      (base_of seen (leaves_by mid moved leaves) (log_by mid moved) mid) (dir_of mid)
      (tails_of (log_by new moved)) h.coherent had.0 had.1 (begins-later (low_of k) f.2 moved))
      may.forgets

  pub closed : (moved : Keeps) (t : TxnId) → IsClosed (front (moved i)) (base_at (log_of_place (moved i))) t
  closed moved t = subst (λ (xs : List Rec). Each (λ x. of_txn t x ≡ false) (front (moved i))
      ⊎ ((IsOpen t (base_at (log_of_place (moved i))) → ⊥)
      ⊎ ((IsOpen t xs → ⊥) × Each (λ x. of_txn t x ≡ false) (base_at (log_of_place (moved i)))))) (whole (moved i))
      (subst (λ (l : LogState). Each (λ x. of_txn t x ≡ false) (front (moved i))
      ⊎ ((IsOpen t (base_at (log_of_place (moved i))) → ⊥)
      ⊎ ((IsOpen t (base_at l) → ⊥) × Each (λ x. of_txn t x ≡ false) (base_at (log_of_place (moved i)))))) (was-here moved)
      (subst (λ (l : LogState). Each (λ x. of_txn t x ≡ false) (front (moved i))
      ⊎ ((IsOpen t (base_at l) → ⊥)
      ⊎ ((IsOpen t (base_at (log_by mid moved i)) → ⊥) × Each (λ x. of_txn t x ≡ false) (base_at l)))) (by-here moved)
      ((shortened moved).closed t)))

  short : (moved : Keeps) → IsShorter (gone_of (moved i)) (log_at c i) (log_of_place (moved i))
  short moved = record {
    records = records-of (moved i);
    gate = gate-of (moved i);
    tail = may.bare;
    tail' = tail-of
        (moved i);
    closed = closed moved;
  }

  short-by : (moved : Keeps) → IsShorter (gone_of (moved i)) (log_by mid moved i) (log_by new moved i)
  short-by moved = subst (λ (l : LogState). IsShorter (gone_of (moved i)) l (log_by new moved i)) (sym (was-here moved))
      (subst (IsShorter (gone_of (moved i)) (log_at c i)) (sym (by-here moved)) (short moved))

  short-later : IsShorter gone (log_at c i) l'
  short-later = short (λ j. true)

  -- ---- what a crash may leave

  less : (moved : Keeps) → LessElsewhere i (leaves_by mid moved leaves) (leaves_by new moved leaves')
  less moved d ne bytes now = (
    (stay.left d ne bytes).0 now.0,
    subst (λ (o : Option ℕ). IfSome o (λ p. (master bytes).start ≡ cond (moved d) p (log_at c d).start)) (other-else d ne) now.1,
  )

  replaces : (moved : Keeps) → ReplacesLog i (log_by new moved i) (log_by mid moved) (log_by new moved)
  replaces moved = record { low = low; high = high; here = refl; others = by-else moved }

  was-left : (moved : Keeps) → leaves_by mid moved leaves i (seen i)
  was-left moved = (
    reads i high,
    no-place (other_at c i)
        (λ p. (master (seen i)).start ≡ cond (moved i) p (log_at c i).start) one,
  )

  old-ready : IsReady i (seen i) (log_at c i)
  old-ready = subst (IsReady i (seen i)) (was-here (λ j. true))
      ((gm.half (λ j. true)).soundly.ready i low high (seen i) (was-left (λ j. true)))

  -- where the master of these bytes has the log begin
  begins-at : (moved : Keeps) (bytes : List ℕ) → leaves_by new moved leaves' i bytes
      → (master bytes).start ≡ cond (moved i) place (log_at c i).start
  begins-at moved bytes now = subst
      (λ (o : Option ℕ). IfSome o (λ p. (master bytes).start ≡ cond (moved i) p (log_at c i).start)) other-here now.1

  ready-later : (bytes : List ℕ) → IsLater (seen i) (log_at c i) l' bytes → IsReady i bytes l'
  ready-later bytes w = bare-ready i bytes l' may.tail w.start w.stands w.slots
      (later-log-sound i (seen i) bytes gone (log_at c i) l' short-later w old-ready.sound)

  ready-at : (b : Bool) (bytes : List ℕ) → leaves' i bytes → (master bytes).start ≡ cond b place (log_at c i).start
      → IsReady i bytes (log_of_place b)
  ready-at true bytes now at = ⊎_elim
      (λ old. subst (IsReady i bytes) (sym (may.same (sym at ∙ old.1.start))) old.1)
      (λ w. ready-later bytes w) (outcome bytes now)
  ready-at false bytes now at = ⊎_elim
      (λ old. old.1)
      (λ w. subst (IsReady i bytes) (may.same (sym may.start ∙ sym (w.start) ∙ at)) (ready-later bytes w)) (outcome bytes now)

  epoch-at : (b : Bool) (bytes : List ℕ) → leaves' i bytes → (master bytes).start ≡ cond b place (log_at c i).start
      → (past_at (master bytes) (log_of_place b)).epoch ≡ (past_at (master (seen i)) (log_at c i)).epoch
  epoch-at true bytes now at = ⊎_elim
      (λ old. ap (λ (l : LogState). (past_at (master bytes) l).epoch) (may.same (sym at ∙ old.1.start))
      ∙ ap (λ x. (past_at x (log_at c i)).epoch) old.0)
      (λ w. later-epoch (seen i) bytes gone (log_at c i) l' short-later w) (outcome bytes now)
  epoch-at false bytes now at = ⊎_elim
      (λ old. ap (λ x. (past_at x (log_at c i)).epoch) old.0)
      (λ w. ap (λ (l : LogState). (past_at (master bytes) l).epoch) (sym (may.same (sym may.start ∙ sym (w.start) ∙ at)))
      ∙ later-epoch (seen i) bytes gone (log_at c i) l' short-later w) (outcome bytes now)

  -- what is sound where log i is left with a later master alone
  only-later : (moved : Keeps)
      → IsSoundly (only_if i (IsLater (seen i) (log_at c i) (log_of_place (moved i))) (leaves_by new moved leaves'))
      (log_by new moved)
  only-later moved = later-keeps (leaves_by mid moved leaves)
      (only_if i (IsLater (seen i) (log_at c i) (log_of_place (moved i))) (leaves_by new moved leaves'))
      i (gone_of (moved i)) (log_by mid moved) (log_by new moved) (seen i) (was-left moved) (gm.half moved).soundly
      (λ d ne bytes now. less moved d ne bytes now.0) (replaces moved) (short-by moved)
      (λ bytes now. subst (λ (l : LogState). IsLater (seen i) l (log_by new moved i) bytes) (sym (was-here moved))
      (subst (λ (l : LogState). IsLater (seen i) (log_at c i) l bytes) (sym (by-here moved)) (now.1 refl)))

  soundly : (moved : Keeps) → IsSoundly (leaves_by new moved leaves') (log_by new moved)
  soundly moved = let s = only-later moved in record {
    ready = λ j lo hi bytes now. ⊎_elim
        (λ e. subst (λ (n : ℕ). IsReady n bytes (log_by new moved n)) (sym e)
        (let here = subst (λ (n : ℕ). leaves_by new moved leaves' n bytes) e now in
        subst (IsReady i bytes) (sym (by-here moved)) (ready-at (moved i) bytes here.0 (begins-at moved bytes here))))
        (λ ne. s.ready j lo hi bytes (now, λ e. absurd (ne e)))
        (cases_eq j i);
    twins = λ p lt bytes now. s.twins p lt bytes (now, λ e. absurd (omega (arith, e, low)));
    lsns = λ keeps. let fits = s.lsns keeps in record {
      logs = fits.logs;
      pages = λ p x may. fits.pages p x (may.0, (may.1, λ e. absurd (omega (arith, e, low))), may.2);
    };
  }

  never : (t : TxnId) → home t ≡ i → is_doubt (m.part t).life ≡ true → ⊥
  never t own doubt = stands (m.inst i).status (sym (g.instances i low high).status)
      (doubt-fell (m.part t).life (m.inst i).status doubt
      (subst (λ (j : ℕ). SuitsStatus (m.part t).life (m.inst j).status) own (g.placed.stands t)))
    where
      stands : (s : Status) → s ≡ status_at c i → IsFallen s → ⊥
      stands s e fell = may.stands (subst IsFallen e fell)

  checks-less : (j : ℕ) (b : Begun) → check_at new j ≡ Some b → (j ≢ i) × (check_at c j ≡ Some b)
  checks-less j b is = ⊎_elim
      (λ e. let clash : None ≡ Some b = sym (item-set {A = Option Begun} None c.checks i None low high g.shape.checks)
      ∙ ap (check_at new) (sym e) ∙ is in absurd (cc))
      (λ ne. (ne, sym (item-kept {A = Option Begun} None c.checks i None low j ne) ∙ is))
      (cases_eq j i)

  now-reads : leaves' 0 (seen' 0)
  now-reads = let zero-else : 0 ≢ i = (λ e. omega (arith, e, low)) in
      subst (leaves' 0) (sym (stay.reads 0 zero-else)) ((stay.left 0 zero-else (seen 0)).1 (reads 0 (omega arith)))

  epoch-later : (moved : Keeps) (bytes : List ℕ) → leaves_by new moved leaves' i bytes
      → IsEpochOf m Pending.Idle i (past_at (master bytes) (log_by new moved i)).epoch
  epoch-later moved bytes now = subst (IsEpochOf m Pending.Idle i)
      (sym (ap (λ (l : LogState). (past_at (master bytes) l).epoch) (by-here moved)
      ∙ epoch-at (moved i) bytes now.0 (begins-at moved bytes now)))
      (subst (λ (l : LogState). IsEpochOf m Pending.Idle i (past_at (master (seen i)) l).epoch) (was-here moved)
      ((gm.half moved).epochs i low high (seen i) (was-left moved)).0)

  half : (moved : Keeps) → Half seen' (leaves_by new moved leaves') (log_by new moved) Pending.Idle new m
  half moved = half-later i (gone_of (moved i)) seen (leaves_by mid moved leaves) (leaves_by new moved leaves') (log_by mid moved)
      (log_by new moved) mid m
      low high (gm.half moved) seen' (stay.reads 0 (λ e. omega (arith, e, low))) (less moved) (now-reads, tt) (replaces moved)
      (short-by moved)
      (shortened moved)
      (soundly moved) (λ t doubt own. never t own doubt) (epoch-later moved)
      c.logs c.masters (slice_set {A = Option Begun} c.checks (i - 1) None)
      (slice_set {A = Option ℕ} c.others (i - 1) (Some place))
      (λ j b is. let was = checks-less j b is in (inl was.0, was.1))

  -- it reads as before, from either place
  alike : (moved keeps : Keeps) → ReadsAlike (storage_by seen c moved keeps) (storage_by seen' new moved keeps)
  alike moved = alike-later i (gone_of (moved i)) seen (leaves_by mid moved leaves) (leaves_by new moved leaves') (log_by mid moved)
      (log_by new moved) mid m
      low high (gm.half moved) seen' (stay.reads 0 (λ e. omega (arith, e, low))) (less moved) (now-reads, tt) (replaces moved)
      (short-by moved)
      (shortened moved)
      (soundly moved) (λ t doubt own. never t own doubt) (epoch-later moved)
      c.logs c.masters (slice_set {A = Option Begun} c.checks (i - 1) None)
      (slice_set {A = Option ℕ} c.others (i - 1) (Some place))
      (λ j b is. let was = checks-less j b is in (inl was.0, was.1))

  -- ---- the rest of the law

  none-found : (t : TxnId) → home t ≡ i → state_at (txns_at c i) t ≢ Some TxnState.Committed
  none-found t own is = by (txn_at (txns_at c i) t) is ((g.instances i low high).names t own)
    where
      by : (o : Option Transaction) → option_map (λ (x : Transaction). x.state) o ≡ Some TxnState.Committed
          → NamesLife o (m.part t).life (fate t (base_at (log_at c i))) (fate t (all_at (log_at c i))) → ⊥
      by None e n = absurd (cc)
      by (Some x) e n = let state : x.state ≡ TxnState.Committed = cc in
          never t own (is-doubt (m.part t).life
          (subst (λ (s : TxnState). StandsAs s (m.part t).life (fate t (base_at (log_at c i)))
          (fate t (all_at (log_at c i)))) state n).0)

  others-there : (j p : ℕ) → 1 ≤ j → j ≤ 8 → other_at new j ≡ Some p → NoneIsFound new j
  others-there j p lo hi is = ⊎_elim
      (λ e. subst (NoneIsFound c) (sym e) none-found)
      (λ ne. g.others j p lo hi (sym (other-else j ne) ∙ is))
      (cases_eq j i)

  places-there : (j p : ℕ) → other_at new j ≡ Some p → (bytes : List ℕ) → leaves' j bytes
      → ((master bytes).start ≡ p) ⊎ ((master bytes).start ≡ (log_at c j).start)
  places-there j p is bytes now = ⊎_elim
      (λ e. subst (λ (n : ℕ). ((master bytes).start ≡ p) ⊎ ((master bytes).start ≡ (log_at c n).start)) (sym e)
      (let there : Some place ≡ Some p = sym other-here ∙ ap (other_at new) (sym e) ∙ is in
      let at : place ≡ p = cc in
      ⊎_elim (λ old. inr (old.1.start)) (λ w. inl (w.start ∙ may.start ∙ at))
      (outcome bytes (subst (λ (n : ℕ). leaves' n bytes) e now))))
      (λ ne. g.places j p (sym (other-else j ne) ∙ is) bytes ((stay.left j ne bytes).0 now))
      (cases_eq j i)

  not-here : (j : ℕ) → is_loose mid j ≡ false → j ≢ i
  not-here j e z = let clash : true ≡ false = sym (get_or-set_same c.loose i true true (omega (arith, high, g.shape.loose)))
      ∙ ap (is_loose mid) (sym z) ∙ e in absurd (cc)

  settled-there : (j : ℕ) → 1 ≤ j → j ≤ 8 → is_loose mid j ≡ false → IsSettledAt seen' leaves' new j
  settled-there j lo hi e = let ne = not-here j e in let old = gm.settled j lo hi e in record {
    only = subst (λ (b : List ℕ). LeavesOnly b (leaves' j)) (sym (stay.reads j ne))
        (λ bytes. (
          λ now. (old.only bytes).0 ((stay.left j ne bytes).0 now),
          λ is. (stay.left j ne bytes).1
              ((old.only bytes).1 is),
        ));
    stands = subst (StandsOn (log_at c j)) (sym (stay.reads j ne)) old.stands;
    one_place = other-else j ne ∙ old.one_place;
    counted = subst (λ (b : List ℕ). IfSome (chosen_body 0 64 b) (λ body. number_of body ≡ count_at c j))
        (sym (stay.reads j ne)) old.counted;
    epoch = ap (λ (b : List ℕ). (past_at (master b) (forced (log_at c j))).epoch) (stay.reads j ne) ∙ old.epoch;
  }

  reached : (b : Bool) (lsn : ℕ) → list_any (reaches lsn) (base_at (log_at c i)) ≡ true
      → list_any (reaches lsn) (base_at (log_of_place b)) ≡ true
  reached true lsn e = reached-later (last_lsn (scanned (log_at c i))) lsn (base_at (log_at c i))
      (base_at l') base-last may.last_kept e
    where
      base-last : Each (λ x. x.lsn ≤ last_lsn (scanned (log_at c i))) (base_at (log_at c i))
      base-last = Each-front (λ x. x.lsn ≤ last_lsn (scanned (log_at c i))) (base_at (log_at c i)) (tail_at (log_at c i))
          (g.last i low high)
  reached false lsn e = e

  known : (moved : Keeps) (lsn : ℕ) → IsKnownLsn mid (log_by mid moved) lsn → IsKnownLsn new (log_by new moved) lsn
  known moved lsn = ⊎_elim (λ le. inl le)
      (λ at. inr (
        at.0,
        at.1,
        at.2,
        ⊎_elim
            (λ e. subst (λ (n : ℕ). list_any (reaches lsn) (base_at (log_by new moved n)) ≡ true) (sym e)
            (ap (λ (l : LogState). list_any (reaches lsn) (base_at l)) (by-here moved)
            ∙ reached (moved i) lsn (ap (λ (l : LogState). list_any (reaches lsn) (base_at l)) (sym (was-here moved))
            ∙ subst (λ (n : ℕ). list_any (reaches lsn) (base_at (log_by mid moved n)) ≡ true) e at.3)))
            (λ ne. ap (λ (l : LogState). list_any (reaches lsn) (base_at l)) (by-else moved at.0 ne) ∙ at.3)
            (cases_eq at.0 i),
      ))

  owes-of : (b : Bool) → ((t : TxnId) → IsClosed (front b) (base_at (log_of_place b)) t) → OwesAtMost (owed_at mid i) (log_at c i)
      → OwesAtMost (owed_at mid i) (log_of_place b)
  owes-of true shut old =
      let all : all_at l' ≡ base_at l' = ap (λ (t : List Record). base_at l' ++ map flat t) may.tail ∙ append-nil (base_at l') in
      let same_sum : owed (base_at (log_at c i)) ≡ owed (base_at l') = ap owed (whole true)
      ∙ total-later (λ s. 1 + length s) (front true) (base_at l') shut in
      let same_all = ap owed all in let most = old.0 in
      (omega (arith, same_sum, most), omega (arith, same_sum, same_all, most))
  owes-of false shut old = old

  owed-there : (moved : Keeps) (j : ℕ) → 1 ≤ j → j ≤ 8 → is_loose mid j ≡ true → OwesAtMost (owed_at mid j) (log_by new moved j)
  owed-there moved j lo hi e = ⊎_elim
      (λ z. subst (λ (n : ℕ). OwesAtMost (owed_at mid n) (log_by new moved n)) (sym z)
      (subst (OwesAtMost (owed_at mid i)) (sym (by-here moved))
      (owes-of (moved i) (closed moved)
      (subst (OwesAtMost (owed_at mid i)) (was-here moved)
      (subst (λ (n : ℕ). OwesAtMost (owed_at mid n) (log_by mid moved n)) z (gm.owed_loose moved j lo hi e))))))
      (λ ne. subst (OwesAtMost (owed_at mid j)) (sym (by-else moved j ne)) (gm.owed_loose moved j lo hi e))
      (cases_eq j i)

  then-good : Good seen' leaves' Pending.Idle new m
  then-good = record {
    shape = record {
      logs = gm.shape.logs;
      pools = gm.shape.pools;
      txns = gm.shape.txns;
      statuses = gm.shape.statuses;
      epochs = gm.shape.epochs;
      masters = gm.shape.masters;
      checks = length-set {A = Option Begun} c.checks (i - 1) None ∙ g.shape.checks;
      others = length-set {A = Option ℕ} c.others (i - 1) (Some place) ∙ g.shape.others;
      owed = gm.shape.owed;
      loose = gm.shape.loose;
      own_log = gm.shape.own_log;
      own_txns = gm.shape.own_txns;
    };
    half = half;
    places = places-there;
    others = others-there;
    settled = settled-there;
    disk_settled = λ e. let zero-else : 0 ≢ i = (λ z. omega (arith, z, low)) in
        subst (λ (b : List ℕ). LeavesOnly b (leaves' 0)) (sym (stay.reads 0 zero-else))
        (λ bytes. (
          λ now. (gm.disk_settled e bytes).0 ((stay.left 0 zero-else bytes).0 now),
          λ is. (stay.left 0 zero-else bytes).1
              ((gm.disk_settled e bytes).1 is),
        ));
    disk_lsns = λ moved p x may. known moved x.lsn
        (gm.disk_lsns moved p x (may.0, (stay.left 0 (λ z. omega (arith, z, low)) may.0).0 may.1, may.2));
    last = gm.last;
    owed = gm.owed;
    owed_loose = owed-there;
    kept = g.kept;
    placed = g.placed;
    listed = g.listed;
    marked = g.marked;
    named = g.named;
    numbered = g.numbered;
    recoverers = g.recoverers;
    not_closed = g.not_closed;
    instances = λ j lo hi. let old = gm.instances j lo hi in
        record {
          status = old.status;
          epoch = old.epoch;
          first = old.first;
          table = old.table;
          begins = old.begins;
          own = old.own;
          names = old.names;
        };
    told = λ j lo hi tells e. let old = gm.told j lo hi tells e in
        record { rows = old.rows; owes = old.owes; reserves = old.reserves; spare = old.spare };
    at_rest = gm.at_rest;
    begun = gm.begun;
    at_work = gm.at_work;
    going = gm.going;
    pending = tt;
    gone = g.gone;
    locks = g.locks;
    asks = gm.asks;
    checking = λ j b is. let was = checks-less j b is in let old = gm.checking j b was.1 in
        record { takes = old.takes; spelled = old.spelled; begun = old.begun };
  }

pub either-good : (leaves leaves' : Outcomes) → EitherIsGood leaves leaves'
either-good = then-good

pub either-alike : (leaves leaves' : Outcomes) → EitherReadsAlike leaves leaves'
either-alike = alike
