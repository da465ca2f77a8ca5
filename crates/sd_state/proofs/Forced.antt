-- A log that is forced: what held of the complex holds of it then.
use Rattle.std.proofs.Common.{◌≡◌, ◌≢◌, ◌⊎◌, ◌↔◌, inl, inr, ℕ, ◌-◌, ◌≤◌, Bool, true, false, cond, List, [], ◌∷◌, ◌++◌, ◌||◌, ◌&&◌, get_or, map, refl, sym, ap, ap₂, ◌∙◌, subst, arith, ⊎_elim, append-nil, eq-eqb, ne_eqb}
use Rattle.std.specs.Prelude.{Option, None, Some, IfSome}
use Rattle.std.specs.Option.{option_map_or}
use Rattle.std.specs.List.{list_any}
use Rattle.std.proofs.lemmas.Bool.{cases_eq}
use Rattle.std.proofs.lemmas.List.{length-set}
use mathlib.Core.Path.{fun_ext}
use Rattle.sd_base.specs.declared.ids.TxnId.{TxnId}
use Rattle.sd_base.specs.Ids.{same_txn}
use Rattle.sd_base.specs.Twin.{chosen_body, number_of}
use Rattle.sd_logrec.specs.Kept.{Master, Whole, area, master, reading}
use Rattle.sd_logrec.specs.View.{Rec, flat}
use Rattle.sd_logrec.specs.declared.record.Record.{Record}
use Rattle.sd_log.specs.Logs.{LogState, StandsOn, begun_at, forced, forced_with, last_lsn, scanned}
use Rattle.sd_log.specs.Forces.{forced_at, forced_len}
use Rattle.sd_page.specs.Page.{Page}
use Rattle.sd_model.specs.State.{State}
use Rattle.sd_rig.specs.Devices as rig
use Rattle.sd_rig.specs.Devices.{LeavesOnly}
use Rattle.sd_chain.specs.Bytes.{disk_page}
use Rattle.sd_base.specs.declared.place.Status.{Status}
use Rattle.sd_base.specs.declared.place.Status.TheVariants as S
use Rattle.sd_pagelock.specs.Directory.{DirectoryState, entry_at, rec_lsn_at}
use Rattle.sd_pagelock.specs.Directory as directory
use Rattle.sd_pool.specs.Buffers.{Buffers}
use Rattle.sd_pool.specs.Buffers as buffers
use Rattle.sd_chain.specs.Cuts.{cut}
use Rattle.sd_chain.specs.Storage.{Recovered}
use Rattle.sd_chain.specs.Checks.{owed, reserve}
use Rattle.sd_chain.specs.Fates.{commits, fate}
use Rattle.sd_chain.specs.Images.{Gives, Keeps, Settled, kept_at, with_disk}
use Rattle.sd_chain.specs.Records.{Each, IsOpen, ends, home, stack}
use Rattle.sd_chain.proofs.Devices.{chosen_same, part_before}
use Rattle.sd_chain.proofs.Fates.{committed-stays}
use Rattle.sd_chain.proofs.Images as images
use Rattle.sd_chain.proofs.Lists.{Each-front}
use Rattle.sd_chain.specs.Coherent.{Coherent}
use Rattle.sd_chain.specs.Forces as forced_law
use Rattle.sd_chain.specs.World.{Base, Dir}
use Rattle.sd_chain.specs.Named.{IsNamed}
use Rattle.sd_chain.proofs.Named.{settle-named}
use Rattle.sd_chain.proofs.LogsSettled as forces
use Rattle.sd_chain.proofs.Checkpoints.{cover-settles}
use Rattle.sd_chain.proofs.Closed.{close-settles}
use Rattle.sd_chain.specs.Logs.{LessElsewhere, Logs, Outcomes, all_at, base_at, kept_logs, may_of, past_at, tail_at, tails_of}
use Rattle.sd_chain.proofs.Kept.{forced-base, forced-idle, forced-tail, master-same}
use Rattle.sd_chain.proofs.Forces.{forced-keeps}
use Rattle.sd_chain.proofs.Outcomes.{less-same}
use Rattle.sd_chain.proofs.Changed.{may-less}
use Rattle.sd_state.specs.Forcing.{ForcesNow, IsForced, with_settled}
use Rattle.sd_state.specs.Good.{IsOlder, Good, Half, IsInstance, IsKnownLsn, IsUnderWay, IsOfBegun, IsSettledAt, IsTold, OwesAtMost, base_of, dir_of, reaches}
use Rattle.sd_state.specs.Images.{IsClaimed, IsEpochOf, IsOpenIn, leaves_by, log_by}
use Rattle.sd_state.specs.Tables.{NamesLife, RowIsLive, RowIsLogged, StandsAs}
use Rattle.sd_txn.specs.declared.state.TxnState.{TxnState}
use Rattle.sd_txn.specs.Transactions.{Transaction, txn_at}
use Rattle.sd_model.specs.declared.act.Life.{Life}
use Rattle.sd_model.specs.declared.act.Claim.{Claim}
use Rattle.sd_state.specs.Parts.{Begun, Parts, among, count_at, is_loose, log_at, no_log, no_pool, other_at, owed_at, txns_at, up_as, epoch_at, low_of}
use Rattle.sd_base.specs.Standing.{active_as}
use Rattle.sd_state.proofs.Items.{item-kept, item-set}
use Rattle.sd_state.proofs.Standing.{no-place, one-place}
use Rattle.sd_state.proofs.Lasts.{last-forced}
use Rattle.sd_state.specs.Values.{Pending, rid_of, values}

-- What a crash may leave, with logs that begin somewhere, of which log i, which is settled, is forced. The parts that coherence
-- sees are the same.
module _ (i : ℕ) (seen seen' : rig.DeviceImages) (leaves leaves' : Outcomes) (logs logs' : Logs) (pend : Pending) (c c' : Parts) (m : State)
    (low : 1 ≤ i) (high : i ≤ 8) (h : Half seen leaves logs pend c m) (settled : is_loose c i ≡ false)
    (reads_disk : leaves 0 (seen 0)) (reads_log : leaves i (seen i)) (f : IsForced i (logs i) seen seen' leaves leaves')
    (here : logs' i ≡ forced (logs i)) (elsewhere : (j : ℕ) → j ≢ i → logs' j ≡ logs j)
    (placed : c'.directory ≡ c.directory) (pools : c'.pools ≡ c.pools) (statuses : c'.statuses ≡ c.statuses)
    (checks : c'.checks ≡ c.checks) (loose : c'.loose ≡ c.loose)
    (due : (c'.due ≡ c.due) ⊎ ((a : ℕ) × (c.due ≡ Some (a, i)) × (c'.due ≡ None))) where
  less : LessElsewhere i leaves leaves'
  less = less-same i leaves leaves' f.others_leave

  may_less : (p : ℕ) (x : Page) → may_of leaves' p x → may_of leaves p x
  may_less = may-less i leaves leaves' low less

  settles : Settled i true (tails_of logs) (tails_of logs')
  settles = record {
    inside = omega (arith, high);
    base = ap base_at here ∙ forced-base (logs i);
    tail = ap tail_at here ∙ ap (map flat) (forced-tail (logs i));
    other_bases = λ j ne. ap base_at (elsewhere j ne);
    other_tails = λ j ne. ap tail_at (elsewhere j ne);
  }

  disk-same : seen' 0 ≡ seen 0
  disk-same = f.others 0 (λ e. omega (arith, low, e))

  allowed : (p : ℕ) → may_of leaves' p (disk_page (seen' 0) p)
  allowed p = (seen' 0, subst (leaves' 0) (sym disk-same) ((f.others_leave 0 (λ e. omega (arith, low, e)) (seen 0)).1 reads_disk), refl)

  -- the logs with what is kept of their tails
  kept-same : (keeps : Keeps) (j : ℕ) → kept_logs (tails_of logs') keeps j ≡ kept_logs (tails_of logs) (kept_at i true keeps) j
  kept-same keeps j = ⊎_elim
      (λ e. subst (λ (k : ℕ). kept_logs (tails_of logs') keeps k ≡ kept_logs (tails_of logs) (kept_at i true keeps) k) (sym e) own)
      (λ ne. ap₂ (λ (b t : List Rec). b ++ cond (keeps j) t []) (settles.other_bases j ne) (settles.other_tails j ne)
      ∙ ap (λ (b : Bool). tails_base j ++ cond b (tail_at (logs j)) []) (sym (ap (λ (b : Bool). cond b true (keeps j)) (ne_eqb j i ne))))
      (cases_eq j i)
    where
      tails_base : ℕ → List Rec
      tails_base k = base_at (logs k)

      nothing : (b : Bool) (xs : List Rec) → xs ++ cond {A = List Rec} b [] [] ≡ xs
      nothing true xs = append-nil xs
      nothing false xs = append-nil xs

      own : kept_logs (tails_of logs') keeps i ≡ kept_logs (tails_of logs) (kept_at i true keeps) i
      own = ap₂ (λ (b t : List Rec). b ++ cond (keeps i) t []) settles.base settles.tail
          ∙ nothing (keeps i) (base_at (logs i) ++ tail_at (logs i))
          ∙ ap (λ (b : Bool). base_at (logs i) ++ cond b (tail_at (logs i)) []) (sym (ap (λ (b : Bool). cond b true (keeps i)) (eq-eqb i i refl)))

  values-same : (keeps : Keeps) (p s : ℕ) → values m pend (kept_logs (tails_of logs) (kept_at i true keeps)) p s
      ≡ values m pend (kept_logs (tails_of logs') keeps) p s
  values-same keeps p s = ap (λ (l : ℕ → List Rec). values m pend l p s) (sym (fun_ext (kept-same keeps)))

  abbrev old_base : Base (may_of leaves)
  old_base = base_of seen leaves logs c

  named : IsNamed (may_of leaves') (tails_of logs') (disk_page (seen' 0)) (λ keeps. old_base.version (kept_at i true keeps))
  named = settle-named (may_of leaves) (may_of leaves') i true old_base (dir_of c) (tails_of logs') (disk_page (seen' 0)) h.coherent settles may_less allowed

  is_settled : forced_law.Settles i true old_base (base_of seen' leaves' logs' c')
  is_settled = record {
    tails = settles;
    less = may_less;
    version = named.same;
    safe = named.safe;
    reads = allowed;
    disk = λ p. ap (λ (bytes : List ℕ). disk_page bytes p) disk-same;
    rec_lsn = λ p. ap (λ (d : DirectoryState Page). rec_lsn_at d p) placed;
    settled = ap (λ (marks : List Bool). get_or marks i true) loose ∙ settled;
    other_loose = λ j lo ne. ap (λ (marks : List Bool). get_or marks j true) loose;
    loose_disk = ap (λ (marks : List Bool). get_or marks 0 true) loose;
    active = λ j. ap (λ (l : List Status). active_as j (among S.Closed l j)) statuses;
    up = λ j. ap (λ (l : List Status). up_as (among S.Closed l j)) statuses;
    due = due;
  }

  dir-same : dir_of c' ≡ dir_of c
  dir-same = ap₂ (λ (d : DirectoryState Page) (p : List Buffers). made d p) placed pools
    where
      made : DirectoryState Page → List Buffers → Dir
      made d p = record {
        entry = entry_at d;
        pool = λ k q. buffers.image_at (among no_pool p k) q;
        moving = directory.moving_image_at d;
      }

  coherent : Coherent (base_of seen' leaves' logs' c') (dir_of c')
  coherent = subst (Coherent (base_of seen' leaves' logs' c')) (sym dir-same)
      (forces.settles-coherent i true old_base (base_of seen' leaves' logs' c') (dir_of c) h.coherent is_settled (inl refl))

  gives : Gives (tails_of logs') (may_of leaves') (λ keeps. values m pend (kept_logs (tails_of logs') keeps))
  gives disk all keeps p s = subst (Recovered (cut keeps (with_disk (tails_of logs') disk)) p s) (values-same keeps p s)
      (images.settled-gives i true (tails_of logs) (tails_of logs') settles (may_of leaves)
      (λ k. values m pend (kept_logs (tails_of logs) k)) h.gives disk (λ q. may_less q (disk q) (all q)) keeps p s)

  claimed : (keeps : Keeps) (t : TxnId) → IsOpenIn t (kept_logs (tails_of logs') keeps (home t))
      → IsClaimed m t (kept_logs (tails_of logs') keeps (home t))
  claimed keeps t is = subst (IsClaimed m t) (sym (kept-same keeps (home t)))
      (h.claimed (kept_at i true keeps) t (subst (IsOpenIn t) (kept-same keeps (home t)) is))

  -- what each log has, tail and all, is the same
  all-here : all_at (logs' i) ≡ all_at (logs i)
  all-here = ap₂ (λ (b t : List Rec). b ++ t) settles.base settles.tail ∙ append-nil (all_at (logs i))

  held : (t : TxnId) → IsOpen t (base_at (logs' (home t)))
      → Each (λ x. (m.part t).claims (rid_of x) ≡ Claim.Excl) (stack t (all_at (logs' (home t))))
  held t opens = ⊎_elim
      (λ e. subst (λ (k : ℕ). Each (λ x. (m.part t).claims (rid_of x) ≡ Claim.Excl) (stack t (all_at (logs' k)))) (sym e)
      (subst (λ (log : List Rec). Each (λ x. (m.part t).claims (rid_of x) ≡ Claim.Excl) (stack t log)) (sym all-here)
      (subst (λ (k : ℕ). Each (λ x. (m.part t).claims (rid_of x) ≡ Claim.Excl) (stack t (all_at (logs k)))) e
      (h.held t (subst (λ (k : ℕ). IsOpen t (base_at (logs k))) (sym e)
      (Each-front (λ x. (ends x.kind && same_txn x.txn t) ≡ false) (base_at (logs i)) (tail_at (logs i))
      (subst (IsOpen t) settles.base (subst (λ (k : ℕ). IsOpen t (base_at (logs' k))) e opens))))))))
      (λ ne. subst (λ (l : LogState). Each (λ x. (m.part t).claims (rid_of x) ≡ Claim.Excl) (stack t (all_at l))) (sym (elsewhere (home t) ne))
      (h.held t (subst (λ (l : LogState). IsOpen t (base_at l)) (elsewhere (home t) ne) opens)))
      (cases_eq (home t) i)

  master-stays : (bytes : List ℕ) → leaves' i bytes → master bytes ≡ master (seen i)
  master-stays bytes left = ap master ((f.durable bytes).0 left)
      ∙ master-same (forced_at (logs i)) (forced_len (logs i)) (seen i) (seen' i) (omega arith) f.outside

  epochs : (j : ℕ) → 1 ≤ j → j ≤ 8 → (bytes : List ℕ) → leaves' j bytes
      → IsEpochOf m pend j (past_at (master bytes) (logs' j)).epoch × IsEpochOf m pend j (past_at (master bytes) (forced (logs' j))).epoch
  epochs j lo hi bytes left = ⊎_elim
      (λ e.
      let is : IsEpochOf m pend i (past_at (master bytes) (forced (logs i))).epoch =
      subst (λ (k : Master). IsEpochOf m pend i (past_at k (forced (logs i))).epoch) (sym (master-stays bytes (subst (λ (k : ℕ). leaves' k bytes) e left)))
      (h.epochs i low high (seen i) reads_log).1 in
      let both : IsEpochOf m pend i (past_at (master bytes) (logs' i)).epoch × IsEpochOf m pend i (past_at (master bytes) (forced (logs' i))).epoch = (
        subst (λ (l : LogState). IsEpochOf m pend i (past_at (master bytes) l).epoch) (sym here) is,
        subst (λ (l : LogState). IsEpochOf m pend i (past_at (master bytes) l).epoch)
            (sym (ap forced here ∙ forced-idle (forced (logs i)) (forced-tail (logs i)))) is,
      ) in
      subst (λ (k : ℕ). IsEpochOf m pend k (past_at (master bytes) (logs' k)).epoch × IsEpochOf m pend k (past_at (master bytes) (forced (logs' k))).epoch) (sym e) both)
      (λ ne. subst (λ (l : LogState). IsEpochOf m pend j (past_at (master bytes) l).epoch × IsEpochOf m pend j (past_at (master bytes) (forced l)).epoch)
      (sym (elsewhere j ne)) (h.epochs j lo hi bytes (less j ne bytes left)))
      (cases_eq j i)

  pub half-forced : Half seen' leaves' logs' pend c' m
  half-forced = record {
    coherent = coherent;
    soundly = forced-keeps leaves leaves' i logs logs' (seen i) (seen' i) reads_log h.soundly less
        (record { low = low; high = high; here = here; others = elsewhere }) f.outside f.stands f.durable;
    gives = gives;
    claimed = claimed;
    held = held;
    epochs = epochs;
    checks = λ k b is.
        let old = h.checks k b (ap (λ (l : List (Option Begun)). among {A = Option Begun} None l k) (sym checks) ∙ is) in (
          cover-settles (may_of leaves) (may_of leaves') (low_of b) k i true old_base (base_of seen' leaves' logs' c') settles may_less old.0,
          close-settles (low_of b) k i true (tails_of logs) (tails_of logs') settles (λ e. refl) old.1,
        );
  }

-- ---- the whole

-- a record that reached this LSN is still there
pub still-reaches : (lsn : ℕ) (xs ys : List Rec) → list_any (reaches lsn) xs ≡ true → list_any (reaches lsn) (xs ++ ys) ≡ true
still-reaches lsn [] ys e = absurd (cc)
still-reaches lsn (x ∷ xs) ys e = or-still (reaches lsn x) (list_any (reaches lsn) xs) (list_any (reaches lsn) (xs ++ ys)) (still-reaches lsn xs ys) e
  where
    or-still : (b a a' : Bool) → (a ≡ true → a' ≡ true) → (b || a) ≡ true → (b || a') ≡ true
    or-still true a a' f e = refl
    or-still false a a' f e = f e

-- a force leaves the instance and what is to spare
pub forced-inst : (log : LogState) → (forced log).inst ≡ log.inst
forced-inst log = by log.tail
  where
    by : (tail : List Record) → (forced_with log tail).inst ≡ log.inst
    by [] = refl
    by (r ∷ rs) = refl

pub forced-spare : (log : LogState) → (forced log).spare ≡ log.spare
forced-spare log = by log.tail
  where
    by : (tail : List Record) → (forced_with log tail).spare ≡ log.spare
    by [] = refl
    by (r ∷ rs) = refl

-- who stands so by forced records and by all stands so once all are forced
pub stands-forced : (s : TxnState) (life : Life) (t : TxnId) (base tail : List Rec)
    → StandsAs s life (fate t base) (fate t (base ++ tail)) → StandsAs s life (fate t (base ++ tail)) (fate t (base ++ tail))
stands-forced TxnState.Running life t base tail h = h
stands-forced (TxnState.Rolling to) life t base tail h = h
stands-forced TxnState.Retained life t base tail h = ⊎_elim (λ r. inl r) (λ d. inr (d.0, d.2, d.2)) h
stands-forced TxnState.Doubt life t base tail h = h
stands-forced TxnState.Committed life t base tail h = (h.0, committed-stays t base tail h.1)

pub names-forced : (x : Option Transaction) (life : Life) (t : TxnId) (base tail : List Rec)
    → NamesLife x life (fate t base) (fate t (base ++ tail)) → NamesLife x life (fate t (base ++ tail)) (fate t (base ++ tail))
names-forced None life t base tail h = h
names-forced (Some x) life t base tail h = stands-forced x.state life t base tail h

module _ (i : ℕ) (seen seen' : rig.DeviceImages) (leaves leaves' : Outcomes) (pend : Pending) (c : Parts) (m : State) (log : LogState) (owes : ℕ)
    (low : 1 ≤ i) (high : i ≤ 8) (g : Good seen leaves pend c m) (now : ForcesNow i c) (settled : is_loose c i ≡ false)
    (reads : (d : ℕ) → d ≤ 8 → leaves d (seen d)) (is : log ≡ forced (log_at c i)) (f : IsForced i (log_at c i) seen seen' leaves leaves')
    (owed_is : owes ≡ owed (all_at (log_at c i))) where
  abbrev new : Parts
  new = with_settled i log owes c

  due-there : (new.due ≡ c.due) ⊎ ((a : ℕ) × (c.due ≡ Some (a, i)) × (new.due ≡ None))
  due-there = ⊎_elim (λ idle. inl (sym idle)) (λ by. inr (by.0, by.2, refl)) now

  at-i : IsSettledAt seen leaves c i
  at-i = g.settled i low high settled

  log-here : log_at new i ≡ forced (log_at c i)
  log-here = item-set no_log c.logs i log low high g.shape.logs ∙ is

  log-else : (j : ℕ) → j ≢ i → log_at new j ≡ log_at c j
  log-else = item-kept no_log c.logs i log low

  -- all records are what they were
  all-same : (j : ℕ) → all_at (log_at new j) ≡ all_at (log_at c j)
  all-same j = ⊎_elim
      (λ e. subst (λ (k : ℕ). all_at (log_at new k) ≡ all_at (log_at c k)) (sym e) (ap all_at log-here ∙ own))
      (λ ne. ap all_at (log-else j ne))
      (cases_eq j i)
    where
      own : all_at (forced (log_at c i)) ≡ all_at (log_at c i)
      own = ap₂ (λ (b t : List Rec). b ++ t) (forced-base (log_at c i)) (ap (map flat) (forced-tail (log_at c i))) ∙ append-nil (all_at (log_at c i))

  -- forced records are what they were, with the tail of log i
  base-here : base_at (log_at new i) ≡ base_at (log_at c i) ++ tail_at (log_at c i)
  base-here = ap base_at log-here ∙ forced-base (log_at c i)

  -- ---- wherever logs begin

  module _ (moved : Keeps) where
    one : log_by c moved i ≡ log_at c i
    one = one-place c moved i at-i.one_place

    start-else : (j : ℕ) → j ≢ i → (log_at new j).start ≡ (log_at c j).start
    start-else j ne = ap (λ (l : LogState). l.start) (log-else j ne)

    by-else : (j : ℕ) → j ≢ i → log_by new moved j ≡ log_by c moved j
    by-else j ne = ap (λ (l : LogState). cond (moved j) (option_map_or (λ place. begun_at place l) (other_at c j) l) l) (log-else j ne)

    left-else : (d : ℕ) → d ≢ i → (bytes : List ℕ) → leaves' d bytes ↔ leaves d bytes
        → leaves_by new moved leaves' d bytes ↔ leaves_by c moved leaves d bytes
    left-else d ne bytes same = (
      (λ l. (same.0 l.0, subst (λ (start : ℕ). IfSome (other_at c d) (λ place. (master bytes).start ≡ cond (moved d) place start)) (start-else d ne) l.1)),
      (λ l. (same.1 l.0, subst (λ (start : ℕ). IfSome (other_at c d) (λ place. (master bytes).start ≡ cond (moved d) place start)) (sym (start-else d ne)) l.1)),
    )

    forced-there : IsForced i (log_by c moved i) seen seen' (leaves_by c moved leaves) (leaves_by new moved leaves')
    forced-there = subst (λ (l : LogState). IsForced i l seen seen' (leaves_by c moved leaves) (leaves_by new moved leaves')) (sym one) (record {
      outside = f.outside;
      stands = f.stands;
      durable = λ bytes. (λ l. (f.durable bytes).0 l.0, λ e. ((f.durable bytes).1 e, no-place (other_at c i) _ at-i.one_place));
      others = f.others;
      others_leave = λ d ne bytes. left-else d ne bytes (f.others_leave d ne bytes);
    })

    half-there : Half seen' (leaves_by new moved leaves') (log_by new moved) pend new m
    half-there = half-forced i seen seen' (leaves_by c moved leaves) (leaves_by new moved leaves') (log_by c moved) (log_by new moved) pend c new m
        low high (g.half moved) settled (reads 0 (omega arith), tt) (reads i high, no-place (other_at c i) _ at-i.one_place) forced-there
        (one-place new moved i at-i.one_place ∙ log-here ∙ ap forced (sym one)) by-else refl refl refl refl refl due-there

  -- ---- devices

  settled-there : (j : ℕ) → 1 ≤ j → j ≤ 8 → is_loose c j ≡ false → IsSettledAt seen' leaves' new j
  settled-there j lo hi e = ⊎_elim
      (λ same. subst (IsSettledAt seen' leaves' new) (sym same) (record {
        only = f.durable;
        stands = subst (λ (l : LogState). StandsOn l (seen' i)) (sym log-here) f.stands;
        one_place = at-i.one_place;
        counted = subst (λ (o : Option (List ℕ)). IfSome o (λ body. number_of body ≡ count_at c i)) (sym chosen) at-i.counted;
        epoch = ap₂ (λ (k : Master) (l : LogState). (past_at k l).epoch)
            (master-same (forced_at (log_at c i)) (forced_len (log_at c i)) (seen i) (seen' i) (omega arith) f.outside)
            (ap forced log-here ∙ forced-idle (forced (log_at c i)) (forced-tail (log_at c i))) ∙ at-i.epoch;
      }))
      (λ ne. let s = g.settled j lo hi e in record {
        only = λ bytes. (
          (λ l. ((s.only bytes).0 ((f.others_leave j ne bytes).0 l)) ∙ sym (f.others j ne)),
          (λ e. (f.others_leave j ne bytes).1 ((s.only bytes).1 (e ∙ f.others j ne))),
        );
        stands = ap₂ (λ (l : LogState) (bytes : List ℕ). reading l.start (area bytes)) (log-else j ne) (f.others j ne) ∙ s.stands
            ∙ ap (λ (l : LogState). Whole l.groups l.gate) (sym (log-else j ne));
        one_place = s.one_place;
        counted = subst (λ (bytes : List ℕ). IfSome (chosen_body 0 64 bytes) (λ body. number_of body ≡ count_at c j)) (sym (f.others j ne)) s.counted;
        epoch = ap₂ (λ (l : LogState) (bytes : List ℕ). (past_at (master bytes) (forced l)).epoch) (log-else j ne) (f.others j ne) ∙ s.epoch;
      })
      (cases_eq j i)
    where
      chosen : chosen_body 0 64 (seen' i) ≡ chosen_body 0 64 (seen i)
      chosen = chosen_same 0 64 (seen i) (seen' i)
          (part_before (forced_at (log_at c i)) (forced_len (log_at c i)) 0 130 (seen i) (seen' i) f.outside (omega arith))

  known-there : (moved : Keeps) (p : ℕ) (x : Page) → may_of leaves' p x → IsKnownLsn new (log_by new moved) x.lsn
  known-there moved p x may = ⊎_elim (λ low. inl low)
      (λ r. inr (r.0, r.1, r.2, grown r.0 r.3))
      (g.disk_lsns moved p x (may-less i leaves leaves' low (less-same i leaves leaves' f.others_leave) p x may))
    where
      Reached : Parts → ℕ → Type 0
      Reached d j = list_any (reaches x.lsn) (base_at (log_by d moved j)) ≡ true

      was : Reached c i → list_any (reaches x.lsn) (base_at (log_at c i)) ≡ true
      was e = ap (λ (l : LogState). list_any (reaches x.lsn) (base_at l)) (sym (one-place c moved i at-i.one_place)) ∙ e

      grown : (j : ℕ) → Reached c j → Reached new j
      grown j e = ⊎_elim
          (λ same. subst (Reached new) (sym same)
          (ap (λ (l : LogState). list_any (reaches x.lsn) (base_at l)) (one-place new moved i at-i.one_place)
          ∙ ap (list_any (reaches x.lsn)) base-here
          ∙ still-reaches x.lsn (base_at (log_at c i)) (tail_at (log_at c i)) (was (subst (Reached c) same e))))
          (λ ne. ap (λ (l : LogState). list_any (reaches x.lsn) (base_at l)) (by-else moved j ne) ∙ e)
          (cases_eq j i)

  last-same : (j : ℕ) → last_lsn (scanned (log_at new j)) ≡ last_lsn (scanned (log_at c j))
  last-same j = ⊎_elim
      (λ e. subst (λ (k : ℕ). last_lsn (scanned (log_at new k)) ≡ last_lsn (scanned (log_at c k))) (sym e)
      (ap (λ (l : LogState). last_lsn (scanned l)) log-here ∙ last-forced (log_at c i)))
      (λ ne. ap (λ (l : LogState). last_lsn (scanned l)) (log-else j ne))
      (cases_eq j i)

  last-there : (j : ℕ) → 1 ≤ j → j ≤ 8 → Each (λ x. x.lsn ≤ last_lsn (scanned (log_at new j))) (all_at (log_at new j))
  last-there j lo hi = subst (λ (n : ℕ). Each (λ (x : Rec). x.lsn ≤ n) (all_at (log_at new j))) (sym (last-same j))
      (subst (Each (λ x. x.lsn ≤ last_lsn (scanned (log_at c j)))) (sym (all-same j)) (g.last j lo hi))

  -- an unsettled log is another
  owed-loose : (moved : Keeps) (j : ℕ) → 1 ≤ j → j ≤ 8 → is_loose c j ≡ true → OwesAtMost (owed_at new j) (log_by new moved j)
  owed-loose moved j lo hi e = ⊎_elim
      (λ same. let clash = sym settled ∙ ap (is_loose c) (sym same) ∙ e in absurd (cc))
      (λ ne. subst (λ (n : ℕ). OwesAtMost n (log_by new moved j)) (sym (item-kept 0 c.owed i owes low j ne))
      (subst (OwesAtMost (owed_at c j)) (sym (by-else moved j ne)) (g.owed_loose moved j lo hi e)))
      (cases_eq j i)

  owed-there : (j : ℕ) → 1 ≤ j → j ≤ 8 → is_loose c j ≡ false → owed_at new j ≡ owed (base_at (log_at new j))
  owed-there j lo hi e = ⊎_elim
      (λ same. subst (λ (k : ℕ). owed_at new k ≡ owed (base_at (log_at new k))) (sym same)
      (item-set 0 c.owed i owes low high g.shape.owed ∙ owed_is ∙ ap owed (sym base-here)))
      (λ ne. item-kept 0 c.owed i owes low j ne ∙ g.owed j lo hi e ∙ ap (λ (l : LogState). owed (base_at l)) (sym (log-else j ne)))
      (cases_eq j i)

  -- ---- instances

  instance-there : (k : ℕ) → 1 ≤ k → k ≤ 8 → IsInstance new m k
  instance-there k lo hi = let old = g.instances k lo hi in record {
    status = old.status;
    epoch = old.epoch;
    begins = old.begins;
    first = old.first;
    own = old.own;
    table = old.table;
    names = λ t own. ⊎_elim
        (λ same. subst (λ (j : ℕ). NamesLife (txn_at (txns_at c k) t) (m.part t).life (fate t (base_at (log_at new j))) (fate t (all_at (log_at new j)))) (sym same)
        (subst (λ (base : List Rec). NamesLife (txn_at (txns_at c k) t) (m.part t).life (fate t base) (fate t (all_at (log_at new i)))) (sym base-here)
        (subst (λ (whole : List Rec). NamesLife (txn_at (txns_at c k) t) (m.part t).life (fate t (all_at (log_at c i))) (fate t whole)) (sym (all-same i))
        (names-forced (txn_at (txns_at c k) t) (m.part t).life t (base_at (log_at c i)) (tail_at (log_at c i))
        (subst (λ (j : ℕ). NamesLife (txn_at (txns_at c k) t) (m.part t).life (fate t (base_at (log_at c j))) (fate t (all_at (log_at c j)))) same (old.names t own))))))
        (λ ne. subst (λ (l : LogState). NamesLife (txn_at (txns_at c k) t) (m.part t).life (fate t (base_at l)) (fate t (all_at l))) (sym (log-else k ne)) (old.names t own))
        (cases_eq k i);
  }

  spare-same : (j : ℕ) → (log_at new j).spare ≡ (log_at c j).spare
  spare-same j = ⊎_elim
      (λ e. subst (λ (k : ℕ). (log_at new k).spare ≡ (log_at c k).spare) (sym e) (ap (λ (l : LogState). l.spare) log-here ∙ forced-spare (log_at c i)))
      (λ ne. ap (λ (l : LogState). l.spare) (log-else j ne))
      (cases_eq j i)

  told-there : (k : ℕ) → IsTold c m k → IsTold new m k
  told-there k old = record {
    rows = λ t own. subst (RowIsLogged (txn_at (txns_at c k) t) t) (sym (all-same k)) (old.rows t own);
    owes = old.owes ∙ ap owed (sym (all-same k));
    reserves = old.reserves ∙ ap reserve (sym (all-same k));
    spare = λ up. subst (λ (n : ℕ). reserve (all_at (log_at new k)) ≤ n) (sym (spare-same k))
        (subst (λ (l : List Rec). reserve l ≤ (log_at c k).spare) (sym (all-same k)) (old.spare up));
  }

  tail-there : (k : ℕ) → (log_at c k).tail ≡ [] → (log_at new k).tail ≡ []
  tail-there k none = ⊎_elim
      (λ e. subst (λ (j : ℕ). (log_at new j).tail ≡ []) (sym e) (ap (λ (l : LogState). l.tail) log-here ∙ forced-tail (log_at c i)))
      (λ ne. ap (λ (l : LogState). l.tail) (log-else k ne) ∙ none)
      (cases_eq k i)

  pending-there : (q : Pending) → IsUnderWay c m q → IsUnderWay new m q
  pending-there Pending.Idle u = u
  pending-there (Pending.Commits t) u = record {
    runs = u.runs;
    up = u.up;
    committed = ap (list_any (commits t)) (all-same (home t)) ∙ u.committed;
  }
  pending-there (Pending.Starts k) u = record {
    waits = u.waits;
    above = u.above;
    older = subst (Each (IsOlder (epoch_at c k))) (sym (all-same k)) u.older;
  }

  places-there : (j place : ℕ) → other_at c j ≡ Some place → (bytes : List ℕ) → leaves' j bytes
      → ((master bytes).start ≡ place) ⊎ ((master bytes).start ≡ (log_at new j).start)
  places-there j place other bytes left = ⊎_elim
      (λ e. let clash = sym at-i.one_place ∙ ap (other_at c) (sym e) ∙ other in absurd (cc))
      (λ ne. subst (λ (l : LogState). ((master bytes).start ≡ place) ⊎ ((master bytes).start ≡ l.start)) (sym (log-else j ne))
      (g.places j place other bytes ((f.others_leave j ne bytes).0 left)))
      (cases_eq j i)

  pub forced-good : Good seen' leaves' pend new m
  forced-good = record {
    shape = record {
      logs = length-set c.logs (i - 1) log ∙ g.shape.logs;
      pools = g.shape.pools;
      txns = g.shape.txns;
      statuses = g.shape.statuses;
      epochs = g.shape.epochs;
      masters = g.shape.masters;
      checks = g.shape.checks;
      others = g.shape.others;
      owed = length-set c.owed (i - 1) owes ∙ g.shape.owed;
      loose = g.shape.loose;
      own_log = λ j lo hi. inst-same j ∙ g.shape.own_log j lo hi;
      own_txns = g.shape.own_txns;
    };
    half = half-there;
    places = places-there;
    others = g.others;
    settled = settled-there;
    disk_settled = λ e bytes. (
      (λ l. (g.disk_settled e bytes).0 ((f.others_leave 0 (λ z. omega (arith, low, z)) bytes).0 l) ∙ sym (f.others 0 (λ z. omega (arith, low, z)))),
      (λ is. (f.others_leave 0 (λ z. omega (arith, low, z)) bytes).1 ((g.disk_settled e bytes).1 (is ∙ f.others 0 (λ z. omega (arith, low, z))))),
    );
    disk_lsns = known-there;
    last = last-there;
    owed = owed-there;
    owed_loose = owed-loose;
    kept = g.kept;
    placed = g.placed;
    listed = g.listed;
    marked = g.marked;
    named = g.named;
    numbered = g.numbered;
    recoverers = g.recoverers;
    not_closed = g.not_closed;
    instances = instance-there;
    told = λ k lo hi tells e. told-there k (g.told k lo hi tells e);
    at_rest = λ k lo hi tells e. tail-there k (g.at_rest k lo hi tells e);
    begun = λ k lo hi up. subst (Each (IsOfBegun (m.inst k))) (sym (all-same k)) (g.begun k lo hi up);
    at_work = λ k lo hi up t own free.
        subst (RowIsLive (txn_at (txns_at c k) t) t (m.part t)) (sym (all-same k)) (g.at_work k lo hi up t own free);
    going = λ t lo hi goes. subst (IsOpen t) (sym (all-same (home t))) (g.going t lo hi goes);
    pending = pending-there pend g.pending;
    locks = g.locks;
    gone = g.gone;
    asks = g.asks;
    checking = λ k b is. let old = g.checking k b is in record {
      takes = old.takes;
      spelled = old.spelled;
      begun = subst (λ (n : ℕ). b.begin ≤ n) (sym (last-same k)) old.begun;
    };
  }
    where
      inst-same : (j : ℕ) → (log_at new j).inst ≡ (log_at c j).inst
      inst-same j = ⊎_elim
          (λ e. subst (λ (k : ℕ). (log_at new k).inst ≡ (log_at c k).inst) (sym e) (ap (λ (l : LogState). l.inst) log-here ∙ forced-inst (log_at c i)))
          (λ ne. ap (λ (l : LogState). l.inst) (log-else j ne))
          (cases_eq j i)
