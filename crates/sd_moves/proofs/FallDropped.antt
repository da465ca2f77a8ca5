-- The tail of a log is dropped that isn't on its device, of an instance that is down: the log is settled then. For `down`.
use Rattle.std.proofs.Common.{◌≡◌, ◌≢◌, inl, inr, ⊎_elim, ℕ, ◌+◌, ◌-◌, ◌^◌, ◌<◌, ◌≤◌, Bool, true, false, cond, List, [], ◌++◌, length, refl, sym, ap, ◌∙◌, subst, arith, append-nil, eq-eqb, ne_eqb}
use Rattle.std.specs.Prelude.{None, Option, Some, IfSome, sum_by}
use Rattle.std.specs.Option.{option_map_or}
use Rattle.std.specs.List.{list_any}
use Rattle.std.proofs.lemmas.Bool.{cases_Bool, cases_eq}
use Rattle.std.proofs.lemmas.List.{get_or-set_other, get_or-set_same, length-set}
use mathlib.Core.Path.{fun_ext}
use Rattle.sd_base.specs.Twin.{chosen_body, number_of}
use Rattle.sd_base.specs.declared.ids.TxnId.{TxnId}
use Rattle.sd_base.specs.declared.place.Status.{Status}
use Rattle.sd_base.specs.declared.place.Status.TheVariants as S
use Rattle.sd_logrec.specs.Kept.{master}
use Rattle.sd_logrec.specs.View.{Rec}
use Rattle.sd_log.specs.Logs.{LogState, StandsOn, begun_at, forced, last_lsn, scanned, without_tail}
use Rattle.sd_model.specs.Lives.{SuitsStatus}
use Rattle.sd_model.specs.State.{Part, State}
use Rattle.sd_model.specs.declared.act.Claim.{Claim}
use Rattle.sd_model.specs.declared.act.Life.{Life}
use Rattle.sd_rig.specs.Devices as rig
use Rattle.sd_rig.specs.Devices.{LeavesOnly}
use Rattle.sd_txn.specs.Transactions.{Transaction, txn_at}
use Rattle.sd_txn.specs.declared.state.TxnState.{TxnState}
use Rattle.sd_chain.specs.Bytes.{disk_page}
use Rattle.sd_chain.specs.Checks.{owed, reserve}
use Rattle.sd_chain.specs.Cuts.{cut}
use Rattle.sd_chain.specs.Fates.{Fate, fate}
use Rattle.sd_chain.specs.Storage.{Recovered}
use Rattle.sd_chain.specs.Images.{Gives, Keeps, Settled, kept_at, with_disk}
use Rattle.sd_chain.specs.Order.{of_txn}
use Rattle.sd_chain.specs.Records.{Each, IsOpen, home, stack}
use Rattle.sd_chain.proofs.Fates.{open-fate}
use Rattle.sd_chain.proofs.Images as images
use Rattle.sd_chain.proofs.Whose.{stack-none}
use Rattle.sd_chain.specs.Forces as forced_law
use Rattle.sd_chain.specs.Named.{IsNamed}
use Rattle.sd_chain.specs.World.{Base}
use Rattle.sd_chain.proofs.Checkpoints.{cover-settles}
use Rattle.sd_chain.proofs.Closed.{close-settles}
use Rattle.sd_chain.proofs.LogsSettled as forces
use Rattle.sd_chain.proofs.Named.{settle-named}
use Rattle.sd_chain.specs.Logs.{Logs, Outcomes, all_at, base_at, eight, kept_logs, may_of, past_at, tail_at, tails_of}
use Rattle.sd_chain.specs.Soundly.{IsReady, LogIsSound, LsnsFit}
use Rattle.sd_state.specs.Good.{Good, Half, IsInstance, IsOfBegun, IsSettledAt, IsTold, OwesAtMost, base_of, dir_of}
use Rattle.sd_state.specs.Images.{IsClaimed, IsEpochOf, IsOpenIn, leaves_by, log_by}
use Rattle.sd_state.specs.Parts.{Begun, Parts, check_at, count_at, epoch_at, is_active, is_loose, log_at, no_log, other_at, owed_at, status_at, txns_at, low_of}
use Rattle.sd_base.specs.Standing.{active_as}
use Rattle.sd_state.specs.Tables.{GoesOn, NamesLife, RowIsLive, RowIsLogged, StandsAs, tells_log}
use Rattle.sd_state.specs.Values.{Pending, rid_of, values}
use Rattle.sd_state.proofs.Items.{item-kept, item-set}
use Rattle.sd_state.proofs.Lasts.{last-sound}
use Rattle.sd_state.proofs.Standing.{no-place, one-place, bases-by, known-still}
use Rattle.sd_moves.specs.Falling.{with_dropped}

-- a log without its tail is as sound as with it
without-sound : (j : ℕ) (bytes : List ℕ) (l : LogState) → LogIsSound j bytes l → LogIsSound j bytes (without_tail l)
without-sound j bytes l s = record { ended = s.ended; follow = s.follow; room = s.room }

-- who is of an instance that is down has no further records
down-rests : (t : TxnId) (p : Part) → SuitsStatus p.life S.Down → GoesOn Pending.Idle t p → ⊥
down-rests t p stands goes = by p.life stands goes
  where
    by : (life : Life) → SuitsStatus life S.Down → GoesOn Pending.Idle t (record p { life = life }) → ⊥
    by Life.Gone stands goes = goes
    by Life.Running stands goes = stands
    by Life.Retained stands goes = goes
    by (Life.Rolling to) stands goes = stands
    by (Life.Doubt cut) stands goes = goes

-- a row names whom it named, once the log has no more than what is forced
names-forced : (o : Option Transaction) (life : Life) (f w : Fate) → NamesLife o life f w → NamesLife o life f f
names-forced None life f w n = n
names-forced (Some x) life f w n = by x.state n
  where
    by : (s : TxnState) → StandsAs s life f w → StandsAs s life f f
    by TxnState.Running h = h
    by (TxnState.Rolling to) h = h
    by TxnState.Retained h = ⊎_elim (λ e. inl e) (λ d. inr (d.0, d.1, d.1)) h
    by TxnState.Doubt h = h
    by TxnState.Committed h = h

-- What is kept of the logs' tails, where log i has none any more.
module _ (i : ℕ) (logs logs' : Logs) (here : logs' i ≡ without_tail (logs i)) (elsewhere : (j : ℕ) → j ≢ i → logs' j ≡ logs j) where
  nothing : (b : Bool) (xs : List Rec) → xs ++ cond {A = List Rec} b [] [] ≡ xs ++ []
  nothing true xs = refl
  nothing false xs = refl

  -- the logs with what is kept of their tails
  pub kept-same : (keeps : Keeps) (j : ℕ) → kept_logs (tails_of logs') keeps j ≡ kept_logs (tails_of logs) (kept_at i false keeps) j
  kept-same keeps j = ⊎_elim
      (λ e. subst (λ (k : ℕ). kept_logs (tails_of logs') keeps k ≡ kept_logs (tails_of logs) (kept_at i false keeps) k) (sym e)
      (ap (λ (l : LogState). base_at l ++ cond (keeps i) (tail_at l) []) here ∙ nothing (keeps i) (base_at (logs i))
      ∙ ap (λ (b : Bool). base_at (logs i) ++ cond b (tail_at (logs i)) []) (sym (ap (λ (b : Bool). cond b false (keeps i)) (eq-eqb i i refl)))))
      (λ ne. ap (λ (l : LogState). base_at l ++ cond (keeps j) (tail_at l) []) (elsewhere j ne)
      ∙ ap (λ (b : Bool). base_at (logs j) ++ cond b (tail_at (logs j)) []) (sym (ap (λ (b : Bool). cond b false (keeps j)) (ne_eqb j i ne))))
      (cases_eq j i)

  pub kept-all : (keeps : Keeps) → kept_logs (tails_of logs) (kept_at i false keeps) ≡ kept_logs (tails_of logs') keeps
  kept-all keeps = sym (fun_ext (kept-same keeps))

-- What a crash may leave, with logs that begin somewhere, of which log i has no tail any more.
module _ (i owes : ℕ) (seen : rig.DeviceImages) (leaves : Outcomes) (logs logs' : Logs) (c : Parts) (m : State)
    (low : 1 ≤ i) (high : i ≤ 8) (h : Half seen leaves logs Pending.Idle c m) (was_loose : is_loose c i ≡ true) (idle : c.due ≡ None)
    (marks : length c.loose ≡ 9) (stands : (bytes : List ℕ) → leaves i bytes → StandsOn (logs i) bytes)
    (here : logs' i ≡ without_tail (logs i)) (elsewhere : (j : ℕ) → j ≢ i → logs' j ≡ logs j)
    (unchecked : (b : Begun) → check_at c i ≡ Some b → ⊥) where
  abbrev new : Parts
  new = with_dropped i owes c

  settles : Settled i false (tails_of logs) (tails_of logs')
  settles = record {
    inside = omega (arith, high);
    base = ap base_at here ∙ sym (append-nil (base_at (logs i)));
    tail = ap tail_at here;
    other_bases = λ j ne. ap base_at (elsewhere j ne);
    other_tails = λ j ne. ap tail_at (elsewhere j ne);
  }

  abbrev old_base : Base (may_of leaves)
  old_base = base_of seen leaves logs c

  named : IsNamed (may_of leaves) (tails_of logs') (disk_page (seen 0)) (λ keeps. old_base.version (kept_at i false keeps))
  named = settle-named (may_of leaves) (may_of leaves) i false old_base (dir_of c) (tails_of logs') (disk_page (seen 0)) h.coherent settles
      (λ p x may. may) h.coherent.reads

  is_settled : forced_law.Settles i false old_base (base_of seen leaves logs' new)
  is_settled = record {
    tails = settles;
    less = λ p x may. may;
    version = named.same;
    safe = named.safe;
    reads = h.coherent.reads;
    disk = λ p. refl;
    rec_lsn = λ p. refl;
    settled = get_or-set_same c.loose i false true (omega (arith, high, marks));
    other_loose = λ j lo ne. get_or-set_other c.loose i j false true ne;
    loose_disk = get_or-set_other c.loose i 0 false true (λ e. omega (arith, low, e));
    active = λ j. refl;
    up = λ j. refl;
    due = inl refl;
  }

  lsns : (keeps : Keeps) → LsnsFit (tails_of logs') (may_of leaves) keeps
  lsns keeps = let old = h.soundly.lsns (kept_at i false keeps) in record {
    logs = λ j lo hi. subst (λ (f : ℕ → List Rec). Each (λ x. x.lsn + sum_by (λ k. owed (f k)) eight < 2 ^ 62) (f j)) (kept-all i logs logs' here elsewhere keeps)
        (old.logs j lo hi);
    pages = λ p x may. subst (λ (f : ℕ → List Rec). x.lsn + sum_by (λ k. owed (f k)) eight < 2 ^ 62) (kept-all i logs logs' here elsewhere keeps) (old.pages p x may);
  }

  ready : (j : ℕ) → 1 ≤ j → j ≤ 8 → (bytes : List ℕ) → leaves j bytes → IsReady j bytes (logs' j)
  ready j lo hi bytes left = let old = h.soundly.ready j lo hi bytes left in ⊎_elim
      (λ e. subst (λ (l : LogState). IsReady j bytes l) (sym (ap logs' e ∙ here ∙ ap (λ (k : ℕ). without_tail (logs k)) (sym e))) (record {
        start = old.start;
        either = inl (subst (λ (k : ℕ). StandsOn (logs k) bytes) (sym e) (stands bytes (subst (λ (k : ℕ). leaves k bytes) e left)));
        slots = old.slots;
        sound = without-sound j bytes (logs j) old.sound;
        sound_forced = without-sound j bytes (logs j) old.sound;
      }))
      (λ ne. subst (IsReady j bytes) (sym (elsewhere j ne)) old)
      (cases_eq j i)

  gives : Gives (tails_of logs') (may_of leaves) (λ keeps. values m Pending.Idle (kept_logs (tails_of logs') keeps))
  gives disk all keeps p s = subst (λ (f : ℕ → List Rec). Recovered (cut keeps (with_disk (tails_of logs') disk)) p s (values m Pending.Idle f p s))
      (kept-all i logs logs' here elsewhere keeps)
      (images.settled-gives i false (tails_of logs) (tails_of logs') settles (may_of leaves)
      (λ k. values m Pending.Idle (kept_logs (tails_of logs) k)) h.gives disk all keeps p s)

  claimed : (keeps : Keeps) (t : TxnId) → IsOpenIn t (kept_logs (tails_of logs') keeps (home t))
      → IsClaimed m t (kept_logs (tails_of logs') keeps (home t))
  claimed keeps t is = subst (IsClaimed m t) (sym (kept-same i logs logs' here elsewhere keeps (home t)))
      (h.claimed (kept_at i false keeps) t (subst (IsOpenIn t) (kept-same i logs logs' here elsewhere keeps (home t)) is))

  -- what one has open without the tail is claimed, too
  held-forced : (t : TxnId) → IsOpen t (base_at (logs (home t)))
      → Each (λ x. (m.part t).claims (rid_of x) ≡ Claim.Excl) (stack t (base_at (logs (home t))))
  held-forced t opens = let base : List Rec = base_at (logs (home t)) in ⊎_elim
      (λ has. subst (λ (log : List Rec). Each (λ x. (m.part t).claims (rid_of x) ≡ Claim.Excl) (stack t log)) (append-nil base)
      (h.claimed (λ j. false) t (subst (IsOpenIn t) (sym (append-nil base)) (open-fate t base opens has))).claims)
      (λ none. subst (Each (λ x. (m.part t).claims (rid_of x) ≡ Claim.Excl)) (sym (stack-none t base none)) tt)
      (cases_Bool (list_any (of_txn t) base))

  held : (t : TxnId) → IsOpen t (base_at (logs' (home t)))
      → Each (λ x. (m.part t).claims (rid_of x) ≡ Claim.Excl) (stack t (all_at (logs' (home t))))
  held t opens = ⊎_elim
      (λ e. let same : logs' (home t) ≡ without_tail (logs (home t)) = ap logs' e ∙ here ∙ ap (λ (k : ℕ). without_tail (logs k)) (sym e) in
      subst (λ (l : LogState). Each (λ x. (m.part t).claims (rid_of x) ≡ Claim.Excl) (stack t (all_at l))) (sym same)
      (subst (λ (log : List Rec). Each (λ x. (m.part t).claims (rid_of x) ≡ Claim.Excl) (stack t log)) (sym (append-nil (base_at (logs (home t)))))
      (held-forced t (subst (λ (l : LogState). IsOpen t (base_at l)) same opens))))
      (λ ne. subst (λ (l : LogState). Each (λ x. (m.part t).claims (rid_of x) ≡ Claim.Excl) (stack t (all_at l))) (sym (elsewhere (home t) ne))
      (h.held t (subst (λ (l : LogState). IsOpen t (base_at l)) (elsewhere (home t) ne) opens)))
      (cases_eq (home t) i)

  epochs : (j : ℕ) → 1 ≤ j → j ≤ 8 → (bytes : List ℕ) → leaves j bytes
      → IsEpochOf m Pending.Idle j (past_at (master bytes) (logs' j)).epoch
      × IsEpochOf m Pending.Idle j (past_at (master bytes) (forced (logs' j))).epoch
  epochs j lo hi bytes left = let old = h.epochs j lo hi bytes left in ⊎_elim
      (λ e. subst (λ (l : LogState). IsEpochOf m Pending.Idle j (past_at (master bytes) l).epoch
      × IsEpochOf m Pending.Idle j (past_at (master bytes) (forced l)).epoch)
      (sym (ap logs' e ∙ here ∙ ap (λ (k : ℕ). without_tail (logs k)) (sym e))) (old.0, old.0))
      (λ ne. subst (λ (l : LogState). IsEpochOf m Pending.Idle j (past_at (master bytes) l).epoch
      × IsEpochOf m Pending.Idle j (past_at (master bytes) (forced l)).epoch) (sym (elsewhere j ne)) old)
      (cases_eq j i)

  pub half-dropped : Half seen leaves logs' Pending.Idle new m
  half-dropped = record {
    coherent = forces.settles-coherent i false old_base (base_of seen leaves logs' new) (dir_of c) h.coherent is_settled (inr (was_loose, idle));
    soundly = record { ready = ready; twins = h.soundly.twins; lsns = lsns };
    gives = gives;
    claimed = claimed;
    held = held;
    epochs = epochs;
    checks = λ k b is. let old = h.checks k b is in (
      cover-settles (may_of leaves) (may_of leaves) (low_of b) k i false old_base (base_of seen leaves logs' new) settles (λ p x may. may) old.0,
      close-settles (low_of b) k i false (tails_of logs) (tails_of logs') settles
          (λ e. absurd (unchecked b (subst (λ (n : ℕ). check_at c n ≡ Some b) e is))) old.1,
    );
  }

module _ (i owes : ℕ) (seen : rig.DeviceImages) (leaves : Outcomes) (c : Parts) (m : State) (low : 1 ≤ i) (high : i ≤ 8)
    (g : Good seen leaves Pending.Idle c m) (down : status_at c i ≡ S.Down) (was_loose : is_loose c i ≡ true) (idle : c.due ≡ None)
    (only : LeavesOnly (seen i) (leaves i)) (stands : StandsOn (log_at c i) (seen i)) (one : other_at c i ≡ None)
    (counted : IfSome (chosen_body 0 64 (seen i)) (λ body. number_of body ≡ count_at c i))
    (epoch : (past_at (master (seen i)) (log_at c i)).epoch ≡ epoch_at c i) (owes_base : owes ≡ owed (base_at (log_at c i))) where
  abbrev dropped : Parts
  dropped = with_dropped i owes c

  log-here : log_at dropped i ≡ without_tail (log_at c i)
  log-here = item-set no_log c.logs i (without_tail (log_at c i)) low high g.shape.logs

  log-else : (j : ℕ) → j ≢ i → log_at dropped j ≡ log_at c j
  log-else = item-kept no_log c.logs i (without_tail (log_at c i)) low

  -- what is forced of each log stays, and so does where it begins
  forced-same : {A : Type 0} (f : LogState → A) → f (without_tail (log_at c i)) ≡ f (log_at c i) → (j : ℕ) → f (log_at dropped j) ≡ f (log_at c j)
  forced-same f same j = ⊎_elim
      (λ e. subst (λ (k : ℕ). f (log_at dropped k) ≡ f (log_at c k)) (sym e) (ap f log-here ∙ same))
      (λ ne. ap f (log-else j ne))
      (cases_eq j i)

  -- a log that is settled, where it isn't i's, was
  was-settled : (j : ℕ) → j ≢ i → is_loose dropped j ≡ false → is_loose c j ≡ false
  was-settled j ne e = sym (get_or-set_other c.loose i j false true ne) ∙ e

  other-loose : (j : ℕ) → is_loose dropped j ≡ true → j ≢ i
  other-loose j e same = let clash : false ≡ true = sym (get_or-set_same c.loose i false true (omega (arith, high, g.shape.loose)))
      ∙ ap (is_loose dropped) (sym same) ∙ e in absurd (cc)

  -- nobody but i is down so
  not-here : (j : ℕ) (P : Status → Type 0) → (P S.Down → ⊥) → P (status_at c j) → j ≢ i
  not-here j P never p same = never (subst P (ap (status_at c) same ∙ down) p)

  up-other : (j : ℕ) → status_at c j ≡ S.Up → j ≢ i
  up-other j up = not-here j (λ s. s ≡ S.Up) (λ e. let clash : S.Down ≡ S.Up = e in absurd (cc)) up

  telling-other : (j : ℕ) → tells_log (status_at c j) ≡ true → j ≢ i
  telling-other j tells = not-here j (λ s. tells_log s ≡ true) (λ e. let clash : false ≡ true = e in absurd (cc)) tells

  active-other : (j : ℕ) → is_active c j ≡ true → j ≢ i
  active-other j active = not-here j (λ s. active_as j s ≡ true) (λ e. let clash : false ≡ true = e in absurd (cc)) active

  by-here : (moved : Keeps) → log_by dropped moved i ≡ without_tail (log_by c moved i)
  by-here moved = one-place dropped moved i one ∙ log-here ∙ sym (ap without_tail (one-place c moved i one))

  by-else : (moved : Keeps) (j : ℕ) → j ≢ i → log_by dropped moved j ≡ log_by c moved j
  by-else moved j ne = ap (λ (l : LogState). cond (moved j) (option_map_or (λ place. begun_at place l) (other_at c j) l) l) (log-else j ne)

  half-there : (moved : Keeps) → Half seen (leaves_by dropped moved leaves) (log_by dropped moved) Pending.Idle dropped m
  half-there moved = subst (λ (f : Outcomes). Half seen f (log_by dropped moved) Pending.Idle dropped m) leaves-same
      (half-dropped i owes seen (leaves_by c moved leaves) (log_by c moved) (log_by dropped moved) c m low high (g.half moved) was_loose idle
      g.shape.loose
      (λ bytes left. subst (λ (l : LogState). StandsOn l bytes) (sym (one-place c moved i one))
      (subst (StandsOn (log_at c i)) (sym ((only bytes).0 left.0)) stands))
      (by-here moved) (by-else moved)
      (λ b is. ⊎_elim (λ up. let clash = sym down ∙ up in absurd (cc)) (λ re. let clash = sym down ∙ re in absurd (cc)) (g.checking i b is).takes))
    where
      leaves-same : leaves_by c moved leaves ≡ leaves_by dropped moved leaves
      leaves-same = ap (λ (starts : ℕ → ℕ). λ (d : ℕ) (bytes : List ℕ). leaves d bytes × IfSome (other_at c d)
          (λ place. (master bytes).start ≡ cond (moved d) place (starts d)))
          (fun_ext (λ (d : ℕ). sym (forced-same (λ l. l.start) refl d)))

  settled-there : (j : ℕ) → 1 ≤ j → j ≤ 8 → is_loose dropped j ≡ false → IsSettledAt seen leaves dropped j
  settled-there j lo hi e = ⊎_elim
      (λ same. subst (IsSettledAt seen leaves dropped) (sym same) (record {
        only = only;
        stands = subst (λ (l : LogState). StandsOn l (seen i)) (sym log-here) stands;
        one_place = one;
        counted = counted;
        epoch = ap (λ (l : LogState). (past_at (master (seen i)) (forced l)).epoch) log-here ∙ epoch;
      }))
      (λ ne. let old = g.settled j lo hi (was-settled j ne e) in record {
        only = old.only;
        stands = subst (λ (l : LogState). StandsOn l (seen j)) (sym (log-else j ne)) old.stands;
        one_place = old.one_place;
        counted = old.counted;
        epoch = ap (λ (l : LogState). (past_at (master (seen j)) (forced l)).epoch) (log-else j ne) ∙ old.epoch;
      })
      (cases_eq j i)

  last-there : (j : ℕ) → 1 ≤ j → j ≤ 8 → Each (λ x. x.lsn ≤ last_lsn (scanned (log_at dropped j))) (all_at (log_at dropped j))
  last-there j lo hi = ⊎_elim
      (λ same. subst (λ (k : ℕ). Each (λ x. x.lsn ≤ last_lsn (scanned (log_at dropped k))) (all_at (log_at dropped k))) (sym same)
      (subst (λ (l : LogState). Each (λ x. x.lsn ≤ last_lsn (scanned l)) (all_at l)) (sym log-here)
      (last-sound i (seen i) (without_tail (log_at c i)) sound)))
      (λ ne. subst (λ (l : LogState). Each (λ x. x.lsn ≤ last_lsn (scanned l)) (all_at l)) (sym (log-else j ne)) (g.last j lo hi))
      (cases_eq j i)
    where
      once : Keeps
      once j = false

      left : leaves i (seen i) × IfSome (other_at c i) (λ place. (master (seen i)).start ≡ (log_at c i).start)
      left = ((only (seen i)).1 refl, no-place (other_at c i) (λ place. (master (seen i)).start ≡ (log_at c i).start) one)

      sound : LogIsSound i (seen i) (without_tail (log_at c i))
      sound = without-sound i (seen i) (log_at c i) ((g.half once).soundly.ready i low high (seen i) left).sound

  instance-there : (k : ℕ) → 1 ≤ k → k ≤ 8 → IsInstance dropped m k
  instance-there k lo hi = let old = g.instances k lo hi in record {
    status = old.status;
    epoch = old.epoch;
    first = old.first;
    table = old.table;
    begins = old.begins;
    own = old.own;
    names = λ t is. ⊎_elim
        (λ e. subst (λ (l : LogState). NamesLife (txn_at (txns_at c k) t) (m.part t).life (fate t (base_at l)) (fate t (all_at l)))
        (sym (ap (log_at dropped) e ∙ log-here ∙ ap (λ (z : ℕ). without_tail (log_at c z)) (sym e)))
        (subst (λ (log : List Rec). NamesLife (txn_at (txns_at c k) t) (m.part t).life (fate t (base_at (log_at c k))) (fate t log))
        (sym (append-nil (base_at (log_at c k))))
        (names-forced (txn_at (txns_at c k) t) (m.part t).life (fate t (base_at (log_at c k))) (fate t (all_at (log_at c k))) (old.names t is))))
        (λ ne. subst (λ (l : LogState). NamesLife (txn_at (txns_at c k) t) (m.part t).life (fate t (base_at l)) (fate t (all_at l)))
        (sym (log-else k ne)) (old.names t is))
        (cases_eq k i);
  }

  told-there : (k : ℕ) → 1 ≤ k → k ≤ 8 → tells_log (status_at dropped k) ≡ true → is_loose dropped k ≡ false → IsTold dropped m k
  told-there k lo hi tells e =
      let ne = telling-other k tells in
      let old = g.told k lo hi tells (was-settled k ne e) in
      let same = log-else k ne in
      record {
        rows = λ t is. subst (λ (l : LogState). RowIsLogged (txn_at (txns_at c k) t) t (all_at l)) (sym same) (old.rows t is);
        owes = old.owes ∙ sym (ap (λ (l : LogState). owed (all_at l)) same);
        reserves = old.reserves ∙ sym (ap (λ (l : LogState). reserve (all_at l)) same);
        spare = λ up. subst (λ (l : LogState). reserve (all_at l) ≤ l.spare) (sym same) (old.spare up);
      }

  going-there : (t : TxnId) → 1 ≤ home t → home t ≤ 8 → GoesOn Pending.Idle t (m.part t) → IsOpen t (all_at (log_at dropped (home t)))
  going-there t lo hi goes = ⊎_elim
      (λ e. absurd (down-rests t (m.part t) (subst (SuitsStatus (m.part t).life)
      (sym (g.instances (home t) lo hi).status ∙ ap (status_at c) e ∙ down) (g.placed.stands t)) goes))
      (λ ne. subst (λ (l : LogState). IsOpen t (all_at l)) (sym (log-else (home t) ne)) (g.going t lo hi goes))
      (cases_eq (home t) i)

  pub dropped-good : Good seen leaves Pending.Idle dropped m
  dropped-good = record {
    shape = record {
      logs = length-set c.logs (i - 1) (without_tail (log_at c i)) ∙ g.shape.logs;
      pools = g.shape.pools;
      txns = g.shape.txns;
      statuses = g.shape.statuses;
      epochs = g.shape.epochs;
      masters = g.shape.masters;
      checks = g.shape.checks;
      others = g.shape.others;
      owed = length-set c.owed (i - 1) owes ∙ g.shape.owed;
      loose = length-set c.loose i false ∙ g.shape.loose;
      own_log = λ j lo hi. forced-same (λ l. l.inst) refl j ∙ g.shape.own_log j lo hi;
      own_txns = g.shape.own_txns;
    };
    half = half-there;
    places = λ j place other bytes left. ⊎_elim (λ e. inl e) (λ e. inr (e ∙ sym (forced-same (λ l. l.start) refl j)))
        (g.places j place other bytes left);
    others = g.others;
    settled = settled-there;
    disk_settled = λ e. g.disk_settled (was-settled 0 (λ z. omega (arith, low, z)) e);
    disk_lsns = λ moved p x may. known-still c dropped (log_by c moved) (log_by dropped moved) x.lsn refl
        (bases-by c dropped i one (λ j. refl) (forced-same base_at refl i) log-else moved) (g.disk_lsns moved p x may);
    last = last-there;
    owed = λ j lo hi e. ⊎_elim
        (λ same. subst (λ (k : ℕ). owed_at dropped k ≡ owed (base_at (log_at dropped k))) (sym same)
        (item-set 0 c.owed i owes low high g.shape.owed ∙ owes_base ∙ sym (ap (λ (l : LogState). owed (base_at l)) log-here)))
        (λ ne. item-kept 0 c.owed i owes low j ne ∙ g.owed j lo hi (was-settled j ne e) ∙ sym (ap (λ (l : LogState). owed (base_at l)) (log-else j ne)))
        (cases_eq j i);
    owed_loose = λ moved j lo hi e. let ne = other-loose j e in
        subst (λ (n : ℕ). OwesAtMost n (log_by dropped moved j)) (sym (item-kept 0 c.owed i owes low j ne))
        (subst (OwesAtMost (owed_at c j)) (sym (by-else moved j ne))
        (g.owed_loose moved j lo hi (sym (get_or-set_other c.loose i j false true ne) ∙ e)));
    kept = g.kept;
    placed = g.placed;
    listed = g.listed;
    marked = g.marked;
    named = g.named;
    numbered = g.numbered;
    recoverers = g.recoverers;
    not_closed = g.not_closed;
    instances = instance-there;
    told = told-there;
    at_rest = λ k lo hi tells e. ⊎_elim
        (λ same. ap (λ (z : ℕ). (log_at dropped z).tail) same ∙ ap (λ (l : LogState). l.tail) log-here)
        (λ ne. ap (λ (l : LogState). l.tail) (log-else k ne) ∙ g.at_rest k lo hi tells (was-settled k ne e))
        (cases_eq k i);
    begun = λ k lo hi up. subst (λ (l : LogState). Each (IsOfBegun (m.inst k)) (all_at l)) (sym (log-else k (up-other k up))) (g.begun k lo hi up);
    at_work = λ k lo hi up t is free. subst (λ (l : LogState). RowIsLive (txn_at (txns_at c k) t) t (m.part t) (all_at l))
        (sym (log-else k (up-other k up))) (g.at_work k lo hi up t is free);
    going = going-there;
    pending = tt;
    gone = g.gone;
    locks = g.locks;
    asks = g.asks;
    checking = λ k b is. let old = g.checking k b is in record {
      takes = old.takes;
      spelled = old.spelled;
      begun = subst (λ (l : LogState). b.begin ≤ last_lsn (scanned l)) (sym (log-else k (⊎_elim (λ up. up-other k up)
          (λ re e. let clash = sym down ∙ ap (status_at c) (sym e) ∙ re in absurd (cc)) old.takes))) old.begun;
    };
  }
