-- A force that failed: what held of the complex holds of it then, and the instance that acted is to fall.
use Rattle.std.proofs.Common.{◌≡◌, ◌≢◌, ◌⊎◌, inl, inr, ℕ, ◌-◌, ◌≤◌, Bool, true, false, cond, List, length, refl, sym, ap, ◌∙◌, subst, arith, ⊎_elim, eq-eqb, ne_eqb}
use Rattle.std.specs.Prelude.{Some, IfSome}
use Rattle.std.proofs.lemmas.Bool.{cases_eq}
use Rattle.std.proofs.lemmas.List.{get_or-set_other, get_or-set_same, length-set}
use Rattle.sd_base.specs.Twin.{chosen_body, number_of}
use Rattle.sd_base.specs.declared.place.Status.{Status}
use Rattle.sd_base.specs.declared.place.Status.TheVariants as S
use Rattle.sd_logrec.specs.Kept.{Master, master}
use Rattle.sd_log.specs.Logs.{LogState, StandsOn, forced}
use Rattle.sd_log.specs.Forces.{forced_at, forced_len}
use Rattle.sd_page.specs.Page.{Page}
use Rattle.sd_model.specs.State.{State}
use Rattle.sd_rig.specs.Devices as rig
use Rattle.sd_chain.specs.Bytes.{disk_page}
use Rattle.sd_chain.specs.Images.{Keeps}
use Rattle.sd_chain.specs.AppendedRecords as changes_law
use Rattle.sd_chain.specs.Laws.{May}
use Rattle.sd_pagelock.specs.Places.{PageEntry}
use Rattle.sd_pagelock.specs.Rows.{dirtied}
use Rattle.sd_pagelock.proofs.Members.{not_both}
use Rattle.sd_pagelock.proofs.Uses
use Rattle.sd_chain.specs.Coherent.{Coherent, Quiet}
use Rattle.sd_chain.specs.Forces.{failing}
use Rattle.sd_chain.specs.Named.{IsNamed}
use Rattle.sd_chain.specs.World.{Base, Dir, put_at}
use Rattle.sd_chain.proofs.Cases.{by_seat, the_same}
use Rattle.sd_chain.proofs.Changes.{rest-keeps}
use Rattle.sd_chain.proofs.Checkpoints.{cover-stays}
use Rattle.sd_chain.proofs.LogsSettled as forces
use Rattle.sd_chain.proofs.Named.{may_be-named}
use Rattle.sd_chain.specs.Logs.{LessElsewhere, Logs, Outcomes, may_of, past_at, tails_of}
use Rattle.sd_chain.proofs.Changed.{may-less}
use Rattle.sd_chain.proofs.Forces.{failed-keeps}
use Rattle.sd_chain.proofs.Kept.{master-same}
use Rattle.sd_chain.proofs.Outcomes.{less-same}
use Rattle.sd_state.specs.Values.{Pending}
use Rattle.sd_state.specs.Forcing.{ForcesNow, IsHalfForced, owed_either, with_failed}
use Rattle.sd_state.specs.Good.{IsUnderWay, Good, Half, IsSettledAt, OwesAtMost, base_of, dir_of}
use Rattle.sd_state.specs.Images.{IsEpochOf, leaves_by, log_by}
use Rattle.sd_state.specs.Parts.{Parts, acting, actor, count_at, is_loose, log_at, other_at, owed_at, status_at, up_as, low_of}
use Rattle.sd_base.specs.Standing.{active_as}
use Rattle.sd_state.proofs.Items.{item-kept, item-set}
use Rattle.sd_state.proofs.Owed.{owed-forced}
use Rattle.sd_state.proofs.Standing.{no-place, one-place}

-- who acts for an instance is itself, or the instance is neither active nor up
acts : (i : ℕ) (s : Status) → (acting i s ≡ i) ⊎ ((active_as i s ≡ false) × (up_as s ≡ false))
acts i S.Up = inl refl
acts i S.Down = inl refl
acts i (S.Recovering by) = ⊎_elim (λ e. inl e) (λ ne. inr (ne_eqb by i ne, refl)) (cases_eq by i)
acts i S.Clean = inl refl
acts i S.Restarting = inl refl
acts i S.Closed = inl refl

-- An instance that is to fall by a log, which it was to force, doesn't get it forced.
due-fails : (may : May) (a i : ℕ) (b : Base may) (d : Dir) → Coherent b d → b.due ≡ Some (a, i) → b.loose i ≡ false
    → (a ≡ i) ⊎ (b.active i ≡ false) → b.up i ≡ false → Coherent (failing a i true b) d
due-fails may a i b d c due settled whose not_up = forces.fail-keeps may a i true b d c (inr due) (inr not_up) at
  where
    at : (p : ℕ) → Quiet p (b.tails.tail i) ⊎ (d.entry p ≡ dirtied a)
    at p = ⊎_elim (λ q. inl q)
        (by_seat b (d.entry p) i (Quiet p (b.tails.tail i) ⊎ (d.entry p ≡ dirtied a))
        (λ mark is. ⊎_elim (λ e. inr (is ∙ ap (λ (k : ℕ). PageEntry.Excl k true) (sym e)))
        (λ off. not_both (c.live i p (Uses.excl-uses i true (d.entry p) is)) off) whose)
        (λ loose lost. not_both loose settled)
        (λ z is_due is. inr (is ∙ ap (λ (k : ℕ). PageEntry.Excl k true) (ap (λ (x : ℕ × ℕ). x.0) (the_same is_due due)))))
        (c.unforced i p)

-- What a crash may leave, with logs that begin somewhere.
module _ (i : ℕ) (seen seen' : rig.DeviceImages) (leaves leaves' : Outcomes) (logs : Logs) (pend : Pending) (c : Parts) (m : State)
    (low : 1 ≤ i) (high : i ≤ 8) (h : Half seen leaves logs pend c m)
    (failed : Coherent (failing (actor c i) i true (base_of seen leaves logs c)) (dir_of c)) (marks : length c.loose ≡ 9)
    (reads_disk : leaves 0 (seen 0)) (reads_log : leaves i (seen i)) (f : IsHalfForced i (logs i) seen seen' leaves leaves') where
  abbrev new : Parts
  new = with_failed (actor c i) i c

  less : LessElsewhere i leaves leaves'
  less = less-same i leaves leaves' f.others_leave

  may_less : (p : ℕ) (x : Page) → may_of leaves' p x → may_of leaves p x
  may_less = may-less i leaves leaves' low less

  disk-same : seen' 0 ≡ seen 0
  disk-same = f.others 0 (λ e. omega (arith, low, e))

  allowed : (p : ℕ) → may_of leaves' p (disk_page (seen' 0) p)
  allowed p = (seen' 0, subst (leaves' 0) (sym disk-same) ((f.others_leave 0 (λ e. omega (arith, low, e)) (seen 0)).1 reads_disk), refl)

  abbrev old_base : Base (may_of leaves)
  old_base = base_of seen leaves logs c

  named : IsNamed (may_of leaves') (tails_of logs) (disk_page (seen' 0)) old_base.version
  named = may_be-named (may_of leaves) (may_of leaves') (tails_of logs) old_base.version (disk_page (seen' 0)) h.coherent.safe may_less allowed

  loose-there : (j : ℕ) → is_loose new j ≡ put_at i true (is_loose c) j
  loose-there j = ⊎_elim
      (λ e. subst (λ (k : ℕ). is_loose new k ≡ put_at i true (is_loose c) k) (sym e)
      (get_or-set_same c.loose i true true (omega (arith, high, marks)) ∙ sym (ap (λ (b : Bool). cond b true (is_loose c i)) (eq-eqb i i refl))))
      (λ ne. get_or-set_other c.loose i j true true ne ∙ sym (ap (λ (b : Bool). cond b true (is_loose c j)) (ne_eqb j i ne)))
      (cases_eq j i)

  rests : changes_law.Rests (failing (actor c i) i true old_base) (base_of seen' leaves' logs new)
  rests = record {
    bases = λ j. refl;
    tails = λ j. refl;
    version = named.same;
    safe = named.safe;
    reads = allowed;
    rec_lsn = λ p. refl;
    stays = record {
      less = may_less;
      disk = λ p. ap (λ (bytes : List ℕ). disk_page bytes p) disk-same;
      loose = λ j lo. loose-there j;
      loose_disk = get_or-set_other c.loose i 0 true true (λ e. omega (arith, low, e));
      active = λ j. refl;
      up = λ j. refl;
      due = refl;
    };
  }

  epochs : (j : ℕ) → 1 ≤ j → j ≤ 8 → (bytes : List ℕ) → leaves' j bytes
      → IsEpochOf m pend j (past_at (master bytes) (logs j)).epoch × IsEpochOf m pend j (past_at (master bytes) (forced (logs j))).epoch
  epochs j lo hi bytes left = ⊎_elim
      (λ e. subst (λ (k : ℕ). IsEpochOf m pend k (past_at (master bytes) (logs k)).epoch × IsEpochOf m pend k (past_at (master bytes) (forced (logs k))).epoch) (sym e)
      (subst (λ (k : Master). IsEpochOf m pend i (past_at k (logs i)).epoch × IsEpochOf m pend i (past_at k (forced (logs i))).epoch)
      (sym (master-same (forced_at (logs i)) (forced_len (logs i)) (seen i) bytes (omega arith) (f.outside bytes (subst (λ (k : ℕ). leaves' k bytes) e left))))
      (h.epochs i low high (seen i) reads_log)))
      (λ ne. h.epochs j lo hi bytes (less j ne bytes left))
      (cases_eq j i)

  pub half-failed : Half seen' leaves' logs pend new m
  half-failed = record {
    coherent = rest-keeps (may_of leaves) (may_of leaves') (failing (actor c i) i true old_base) (base_of seen' leaves' logs new) (dir_of c) failed rests;
    soundly = failed-keeps leaves leaves' i logs (seen i) low high reads_log h.soundly less (λ bytes left. (f.outside bytes left, f.either bytes left));
    gives = λ disk all keeps p s. h.gives disk (λ q. may_less q (disk q) (all q)) keeps p s;
    claimed = h.claimed;
    held = h.held;
    epochs = epochs;
    checks = λ k b is. let old = h.checks k b is in (
      cover-stays (may_of leaves) (may_of leaves') (low_of b) k old_base (base_of seen' leaves' logs new) refl may_less old.0,
      old.1,
    );
  }

module _ (i : ℕ) (seen seen' : rig.DeviceImages) (leaves leaves' : Outcomes) (pend : Pending) (c : Parts) (m : State)
    (low : 1 ≤ i) (high : i ≤ 8) (g : Good seen leaves pend c m) (now : ForcesNow i c) (settled : is_loose c i ≡ false)
    (reads : (d : ℕ) → d ≤ 8 → leaves d (seen d)) (f : IsHalfForced i (log_at c i) seen seen' leaves leaves') where
  abbrev failed_parts : Parts
  failed_parts = with_failed (actor c i) i c

  at-i : IsSettledAt seen leaves c i
  at-i = g.settled i low high settled

  -- a device that is settled now is another, and was
  was-settled : (j : ℕ) → is_loose failed_parts j ≡ false → (j ≢ i) × (is_loose c j ≡ false)
  was-settled j e = ⊎_elim
      (λ same. let clash = sym (get_or-set_same c.loose i true true (omega (arith, high, g.shape.loose)))
      ∙ ap (is_loose failed_parts) (sym same) ∙ e in absurd (cc))
      (λ ne. (ne, sym (get_or-set_other c.loose i j true true ne) ∙ e))
      (cases_eq j i)

  -- ---- wherever logs begin

  module _ (moved : Keeps) where
    one : log_by c moved i ≡ log_at c i
    one = one-place c moved i at-i.one_place

    fails : Coherent (failing (actor c i) i true (base_of seen (leaves_by c moved leaves) (log_by c moved) c)) (dir_of c)
    fails = let old = (g.half moved).coherent in let b = base_of seen (leaves_by c moved leaves) (log_by c moved) c in
        let may = may_of (leaves_by c moved leaves) in ⊎_elim
        (λ idle. forces.settled_fail-keeps may (actor c i) i b (dir_of c) old idle settled (acts i (status_at c i)))
        (λ by. let is : actor c i ≡ by.0 = ap (acting i) by.1 in
        due-fails may (actor c i) i b (dir_of c) old (by.2 ∙ ap (λ (a : ℕ). Some (a, i)) (sym is)) settled
        (⊎_elim (λ e. inl e) (λ off. inr off.0) (acts i (status_at c i))) (ap up_as by.1))
        now

    half-failed-there : IsHalfForced i (log_by c moved i) seen seen' (leaves_by c moved leaves) (leaves_by failed_parts moved leaves')
    half-failed-there = subst (λ (l : LogState). IsHalfForced i l seen seen' (leaves_by c moved leaves) (leaves_by failed_parts moved leaves')) (sym one) (record {
      outside = λ bytes l. f.outside bytes l.0;
      either = λ bytes l. f.either bytes l.0;
      others = f.others;
      others_leave = λ d ne bytes. (λ l. ((f.others_leave d ne bytes).0 l.0, l.1), λ l. ((f.others_leave d ne bytes).1 l.0, l.1));
    })

    half-there : Half seen' (leaves_by failed_parts moved leaves') (log_by failed_parts moved) pend failed_parts m
    half-there = half-failed i seen seen' (leaves_by c moved leaves) (leaves_by failed_parts moved leaves') (log_by c moved) pend c m
        low high (g.half moved) fails g.shape.loose (reads 0 (omega arith), tt) (reads i high, no-place (other_at c i) _ at-i.one_place) half-failed-there

  settled-there : (j : ℕ) → 1 ≤ j → j ≤ 8 → is_loose failed_parts j ≡ false → IsSettledAt seen' leaves' failed_parts j
  settled-there j lo hi e =
      let w = was-settled j e in
      let s = g.settled j lo hi w.1 in
      let ne = w.0 in
      record {
        only = λ bytes. (
          (λ l. ((s.only bytes).0 ((f.others_leave j ne bytes).0 l)) ∙ sym (f.others j ne)),
          (λ is. (f.others_leave j ne bytes).1 ((s.only bytes).1 (is ∙ f.others j ne))),
        );
        stands = subst (λ (bytes : List ℕ). StandsOn (log_at c j) bytes) (sym (f.others j ne)) s.stands;
        one_place = s.one_place;
        counted = subst (λ (bytes : List ℕ). IfSome (chosen_body 0 64 bytes) (λ body. number_of body ≡ count_at c j)) (sym (f.others j ne)) s.counted;
        epoch = ap (λ (bytes : List ℕ). (past_at (master bytes) (forced (log_at c j))).epoch) (f.others j ne) ∙ s.epoch;
      }

  places-there : (j place : ℕ) → other_at c j ≡ Some place → (bytes : List ℕ) → leaves' j bytes
      → ((master bytes).start ≡ place) ⊎ ((master bytes).start ≡ (log_at c j).start)
  places-there j place other bytes left = ⊎_elim
      (λ e. let clash = sym at-i.one_place ∙ ap (other_at c) (sym e) ∙ other in absurd (cc))
      (λ ne. g.places j place other bytes ((f.others_leave j ne bytes).0 left))
      (cases_eq j i)

  -- what log i owes either way
  owes-either : OwesAtMost (owed_either c i) (log_at c i)
  owes-either =
      let base = g.owed i low high settled in
      let all = owed-forced seen leaves pend c m i low high g (reads 0 (omega arith)) settled in
      (omega (arith, base), omega (arith, all))

  owed-loose : (moved : Keeps) (j : ℕ) → 1 ≤ j → j ≤ 8 → is_loose failed_parts j ≡ true
      → OwesAtMost (owed_at failed_parts j) (log_by failed_parts moved j)
  owed-loose moved j lo hi e = ⊎_elim
      (λ same. subst (λ (k : ℕ). OwesAtMost (owed_at failed_parts k) (log_by failed_parts moved k)) (sym same)
      (subst (λ (n : ℕ). OwesAtMost n (log_by failed_parts moved i)) (sym (item-set 0 c.owed i (owed_either c i) low high g.shape.owed))
      (subst (OwesAtMost (owed_either c i)) (sym (one moved)) owes-either)))
      (λ ne. subst (λ (n : ℕ). OwesAtMost n (log_by failed_parts moved j)) (sym (item-kept 0 c.owed i (owed_either c i) low j ne))
      (g.owed_loose moved j lo hi (sym (get_or-set_other c.loose i j true true ne) ∙ e)))
      (cases_eq j i)

  pub failed-good : Good seen' leaves' pend failed_parts m
  failed-good = record {
    shape = record {
      logs = g.shape.logs;
      pools = g.shape.pools;
      txns = g.shape.txns;
      statuses = g.shape.statuses;
      epochs = g.shape.epochs;
      masters = g.shape.masters;
      checks = g.shape.checks;
      others = g.shape.others;
      owed = length-set c.owed (i - 1) (owed_either c i) ∙ g.shape.owed;
      loose = length-set c.loose i true ∙ g.shape.loose;
      own_log = g.shape.own_log;
      own_txns = g.shape.own_txns;
    };
    half = half-there;
    places = places-there;
    others = g.others;
    settled = settled-there;
    disk_settled = λ e bytes. let w = was-settled 0 e in (
      (λ l. (g.disk_settled w.1 bytes).0 ((f.others_leave 0 w.0 bytes).0 l) ∙ sym (f.others 0 w.0)),
      (λ is. (f.others_leave 0 w.0 bytes).1 ((g.disk_settled w.1 bytes).1 (is ∙ f.others 0 w.0))),
    );
    disk_lsns = λ moved p x may. g.disk_lsns moved p x (may-less i leaves leaves' low (less-same i leaves leaves' f.others_leave) p x may);
    last = g.last;
    owed = λ j lo hi e. let w = was-settled j e in item-kept 0 c.owed i (owed_either c i) low j w.0 ∙ g.owed j lo hi w.1;
    owed_loose = owed-loose;
    kept = g.kept;
    placed = g.placed;
    listed = g.listed;
    marked = g.marked;
    named = g.named;
    numbered = g.numbered;
    recoverers = g.recoverers;
    not_closed = g.not_closed;
    instances = λ k lo hi. let old = g.instances k lo hi in
        record { status = old.status; epoch = old.epoch; first = old.first; own = old.own; table = old.table; begins = old.begins; names = old.names };
    told = λ k lo hi tells e. let old = g.told k lo hi tells (was-settled k e).1 in
        record { rows = old.rows; owes = old.owes; reserves = old.reserves; spare = old.spare };
    at_rest = λ k lo hi tells e. g.at_rest k lo hi tells (was-settled k e).1;
    begun = g.begun;
    at_work = g.at_work;
    going = g.going;
    pending = pending-there pend g.pending;
    locks = g.locks;
    gone = g.gone;
    asks = g.asks;
    checking = λ k b is. let old = g.checking k b is in record { takes = old.takes; spelled = old.spelled; begun = old.begun };
  }
    where
      pending-there : (q : Pending) → IsUnderWay c m q → IsUnderWay failed_parts m q
      pending-there Pending.Idle u = u
      pending-there (Pending.Commits t) u = record { runs = u.runs; up = u.up; committed = u.committed }
      pending-there (Pending.Starts k) u = record { waits = u.waits; above = u.above; older = u.older }
