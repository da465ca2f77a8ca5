-- A change of a record: what held of the complex holds of it then, with the put in the serial table.
use Rattle.std.proofs.Common.{◌≡◌, ◌≢◌, ◌⊎◌, inl, inr, ℕ, ◌+◌, ◌≤◌, ◌<◌, Bool, true, false, cond, List, [], ◌∷◌, ◌++◌, ◌&&◌, length, max, refl, sym, ap, ap₂, ◌∙◌, subst, arith, ⊎_elim}
use Rattle.std.specs.Prelude.{Option, Some, IfSome, filter, if◌then◌else◌, ◌==◌, None}
use Rattle.std.specs.Option.{option_map_or}
use Rattle.std.specs.List.{list_any}
use Rattle.std.proofs.lemmas.Bool.{cases_Bool, cases_eq}
use Rattle.std.proofs.lemmas.List.{map-append}
use mathlib.Core.Path.{fun_ext}
use Rattle.sd_base.specs.Ids.{same_txn}
use Rattle.sd_base.proofs.SameIds.{cases_txn, each_txn, eq-same}
use Rattle.sd_base.specs.declared.ids.TxnId.{TxnId}
use Rattle.sd_base.specs.declared.place.Status.TheVariants as S
use Rattle.sd_logrec.specs.Kept.{master}
use Rattle.sd_logrec.specs.View.{Rec, flat}
use Rattle.sd_log.specs.Logs.{LogState, StandsOn, begun_at, forced, last_lsn, needed, scanned, with_record}
use Rattle.sd_logrec.specs.Spelling.{spelling}
use Rattle.sd_page.specs.Page.{Page}
use Rattle.sd_model.specs.Acts.{after, live}
use Rattle.sd_model.specs.Claims.{Claims, Holds, Owns}
use Rattle.sd_model.specs.State.{Part, State, took_part}
use Rattle.sd_model.specs.declared.act.Act.{Act}
use Rattle.sd_model.specs.declared.act.Claim.{Claim}
use Rattle.sd_model.specs.declared.act.Done.{Done}
use Rattle.sd_model.specs.declared.act.Life.{Life}
use Rattle.sd_model.specs.Kept.{Kept}
use Rattle.sd_model.specs.Listed.{Listed}
use Rattle.sd_model.specs.Marks.{Marked}
use Rattle.sd_model.specs.Lives.{IsDoubt}
use Rattle.sd_model.specs.Listed as listed
use Rattle.sd_model.proofs.Acts.{live_from-append}
use Rattle.sd_model.proofs.Changes.{took-kept}
use Rattle.sd_model.proofs.Claims.{claim-here, each_claim}
use Rattle.sd_model.proofs.Marks.{put-marked, sized-more}
use Rattle.sd_model.proofs.Placed.{put-placed}
use Rattle.sd_pagelock.specs.Directory.{DirectoryState}
use Rattle.sd_pool.specs.Buffers as buffers
use Rattle.sd_pool.specs.Buffers.{Buffers}
use Rattle.sd_rig.specs.Devices as rig
use Rattle.sd_txn.specs.Owing.{owed_of, reserve_of}
use Rattle.sd_txn.specs.Transactions.{Transaction, Transactions, begins_in, txn_at}
use Rattle.sd_txn.specs.declared.state.TxnState.{TxnState}
use Rattle.sd_chain.specs.Bytes.{disk_page}
use Rattle.sd_chain.specs.Checks.{owed, reserve}
use Rattle.sd_chain.specs.Cuts.{cut}
use Rattle.sd_chain.specs.Fates.{commits, fate}
use Rattle.sd_chain.specs.Storage.{Recovered}
use Rattle.sd_chain.specs.Images.{Gives, Grows, Keeps, MayChange, with_disk}
use Rattle.sd_chain.specs.Laws as chain_laws
use Rattle.sd_chain.specs.Order.{MayFollow, of_txn}
use Rattle.sd_chain.specs.Records.{Each, IsOpen, at, ends, home, stack}
use Rattle.sd_chain.proofs.Fates.{fate-open, fate-others, open-fate}
use Rattle.sd_chain.proofs.Images as images
use Rattle.sd_chain.proofs.Stacks.{stack-push, step-other, step-own}
use Rattle.sd_chain.proofs.Whose.{other_of, stack-none}
use Rattle.sd_chain.specs.AppendedRecords.{Changes}
use Rattle.sd_chain.specs.Checkpoints.{Closed, Covered}
use Rattle.sd_chain.specs.Named.{IsRedone}
use Rattle.sd_chain.specs.World.{Base, newest_version}
use Rattle.sd_chain.proofs.Changes as changes
use Rattle.sd_chain.proofs.Checkpoints.{cover-grows, cover-stays}
use Rattle.sd_chain.proofs.Closed.{close-grows, close-stays}
use Rattle.sd_chain.proofs.Named.{change-named}
use Rattle.sd_chain.specs.Appends.{IsTested}
use Rattle.sd_chain.specs.Logs.{Logs, Outcomes, all_at, base_at, kept_logs, may_of, most_owed, next_lsn, past_at, tail_at, tails_of}
use Rattle.sd_chain.specs.Soundly.{IsSoundly}
use Rattle.sd_chain.proofs.Appends.{appended-log}
use Rattle.sd_chain.proofs.Next.{epoch-others}
use Rattle.sd_chain.proofs.Reserved.{tested-keeps}
use Rattle.sd_update.specs.Changing.{Change, ChangeKeepsGood, HasRoom, IsChanged, MayAppend, MayWrite, changed_log, changed_row, flat_of, putting, update, with_changed}
use Rattle.sd_state.specs.Good.{Good, Half, IsChecking, IsInstance, IsOfBegun, IsSettledAt, IsTold, OwesAtMost, RowsAreLive, base_of, dir_of}
use Rattle.sd_state.specs.Images.{IsClaimed, IsEpochOf, IsOpenIn, leaves_by, log_by}
use Rattle.sd_state.specs.Parts.{Begun, Parts, check_at, is_active, is_loose, log_at, no_log, no_pool, no_txns, other_at, owed_at, pool_at, status_at, txns_at, up_as, low_of}
use Rattle.sd_state.specs.Sums.{owed_in_all, owes_most}
use Rattle.sd_state.specs.Tables.{GoesOn, IsLive, IsLogged, NamedOnce, NamesLife, RowIsLive, RowIsLogged, StandsAs, goes_on_as, lock_of, tells_log}
use Rattle.sd_state.specs.Values.{Pending, as_done, is_doubt, rid_of, values}
use Rattle.sd_state.proofs.ChangedLists.{asks-left, kept-either, none-there, decided-same, each-by, lock-excl, lock-none, each-front, no-commit, span-last}
use Rattle.sd_update.proofs.ChangedRows.{live-other, live-then, logged-open, logged-then, open-more, shape-changed, owes-then, reserves-then, row-other, stands-running}
use Rattle.sd_update.proofs.ChangeLsns.{image-low, known-low}
use Rattle.sd_state.proofs.Items.{item-kept, item-set}
use Rattle.sd_state.proofs.Lasts.{last-grows, last-more}
use Rattle.sd_state.proofs.Owing.{most-in-all, owes-at-most, settled-owes}
use Rattle.sd_state.proofs.Begun.{began-there, begun-more}
use Rattle.sd_state.proofs.Standing.{no-place, one-place, bases-by, known-still, others-still}
use Rattle.sd_state.proofs.Lows.{low-begin}

-- ---- what a crash may leave, with logs that begin somewhere: outcomes and logs stand for any that have the record

module _ (i : ℕ) (k : Change) (x : Transaction) (image : Page) (spare great : ℕ) (table : Transactions) (pool : Buffers)
    (places : DirectoryState Page) (seen : rig.DeviceImages) (leaves : Outcomes) (c : Parts) (m : State)
    (g : Good seen leaves Pending.Idle c m) (w : MayWrite i k x image c) (a : MayAppend i k x image c)
    (ch : IsChanged i k x image table pool places c)
    (room : HasRoom i k spare great table (with_changed i (changed_log i k spare c) table pool places c) c) where
  abbrev y : Rec
  y = flat_of k

  abbrev log : LogState
  log = changed_log i k spare c

  abbrev new : Parts
  new = with_changed i log table pool places c

  abbrev part : Part
  part = took_part k.rid Claim.Excl (Act.Put k.rid k.after ∷ []) (m.part k.txn)

  abbrev m' : State
  m' = putting k.txn k.rid k.after m

  abbrev still : Keeps
  still j = false

  settled : is_loose c i ≡ false
  settled = ⊎_elim (λ e. e) (λ due. let e = sym w.idle ∙ due in absurd (cc)) ((g.half still).coherent.ready i w.low
      (ap up_as w.up))

  at-i : IsSettledAt seen leaves c i
  at-i = g.settled i w.low w.high settled

  told-i : IsTold c m i
  told-i = g.told i w.low w.high (ap tells_log w.up) settled

  log-here : log_at new i ≡ log
  log-here = item-set no_log c.logs i log w.low w.high g.shape.logs

  log-else : (j : ℕ) → j ≢ i → log_at new j ≡ log_at c j
  log-else = item-kept no_log c.logs i log w.low

  table-here : txns_at new i ≡ table
  table-here = item-set no_txns c.txns i table w.low w.high g.shape.txns

  table-else : (j : ℕ) → j ≢ i → txns_at new j ≡ txns_at c j
  table-else = item-kept no_txns c.txns i table w.low

  pool-here : pool_at new i ≡ pool
  pool-here = item-set no_pool c.pools i pool w.low w.high g.shape.pools

  pool-else : (j : ℕ) → j ≢ i → pool_at new j ≡ pool_at c j
  pool-else = item-kept no_pool c.pools i pool w.low

  -- what is the same of each log
  each-log : {A : Type 0} (f : LogState → A) → f log ≡ f (log_at c i) → (j : ℕ) → f (log_at new j) ≡ f (log_at c j)
  each-log f own j = ⊎_elim
      (λ e. ap (λ (n : ℕ). f (log_at new n)) e ∙ ap f log-here ∙ own ∙ ap (λ (n : ℕ). f (log_at c n)) (sym e))
      (λ ne. ap f (log-else j ne)) (cases_eq j i)

  base-same : (j : ℕ) → base_at (log_at new j) ≡ base_at (log_at c j)
  base-same = each-log base_at refl

  all-here : all_at (log_at new i) ≡ all_at (log_at c i) ++ y ∷ []
  all-here = ap all_at log-here ∙ appended-log (log_at c i) (update k) spare

  -- ---- the serial table

  runs : (m.part k.txn).life ≡ Life.Running
  runs = subst (λ (s : TxnState). StandsAs s (m.part k.txn).life (fate k.txn (base_at (log_at c i))) (fate k.txn (all_at
      (log_at c i)))) w.state
      (subst (λ (o : Option Transaction). NamesLife o (m.part k.txn).life (fate k.txn (base_at (log_at c i))) (fate k.txn
      (all_at (log_at c i))))
      ch.row.was ((g.instances i w.low w.high).names k.txn w.home))

  claim : (m.part k.txn).claims k.rid ≡ Claim.Excl
  claim = lock-excl ((m.part k.txn).claims k.rid) (sym (g.locks k.txn k.rid) ∙ w.lock)

  alone : (u : TxnId) → k.txn ≢ u → (m.part u).claims k.rid ≡ Claim.Free
  alone u ne = lock-none ((m.part u).claims k.rid) (sym (g.locks u k.rid) ∙ w.alone u ne)

  lives : (u : TxnId) → (m'.part u).life ≡ (m.part u).life
  lives = each_txn k.txn (λ u (p : Part). p.life ≡ (m.part u).life) part m.part refl (λ u ne. refl)

  claims-same : (u : TxnId) → (m'.part u).claims ≡ (m.part u).claims
  claims-same = each_txn k.txn (λ u (p : Part). p.claims ≡ (m.part u).claims) part m.part
      (fun_ext (each_claim (λ q (d : Claim). d ≡ (m.part k.txn).claims q) k.rid Claim.Excl (m.part k.txn).claims (sym claim)
      (λ q. refl))) (λ u ne. refl)

  doubted : (u : TxnId) → is_doubt (m.part u).life ≡ true → as_done m' u ≡ as_done m u
  doubted = each_txn k.txn (λ u (p : Part). is_doubt (m.part u).life ≡ true → done u p ≡ done u (m.part u)) part m.part
      (λ d. let e = sym (ap is_doubt runs) ∙ d in absurd (cc)) (λ u ne d. refl)
    where
      done : TxnId → Part → Done
      done u p = record { txn = u; acts = p.acts }

  begun : k.txn.epoch ≤ (m.inst i).epoch
  begun = subst (λ (n : ℕ). k.txn.epoch ≤ (m.inst n).epoch) w.home
      (⊎_elim (λ lt. omega (arith, lt)) (λ same. let e = same.0 in omega (arith, e))
      (began-there m k.txn g.listed (λ e. let f = sym runs ∙ e in absurd (cc))))

  -- it runs, so its log has no end of it
  alive : IsOpen k.txn (all_at (log_at c i))
  alive = subst (λ (n : ℕ). IsOpen k.txn (all_at (log_at c n))) w.home
      (g.going k.txn (subst (λ (n : ℕ). 1 ≤ n) (sym w.home) w.low) (subst (λ (n : ℕ). n ≤ 8) (sym w.home) w.high)
      (subst (λ (life : Life). goes_on_as life (Pending.Idle ≡ Pending.Commits k.txn → ⊥) (live (m.part k.txn).acts ≢ [])) (sym runs)
      (λ e. absurd (cc))))

  logged : IsLogged x k.txn (all_at (log_at c i))
  logged = logged-open x k.txn (all_at (log_at c i)) alive
      (subst (λ (o : Option Transaction). RowIsLogged o k.txn (all_at (log_at c i))) ch.row.was (told-i.rows k.txn w.home))

  follows : MayFollow (all_at (log_at c i)) y
  follows = record {
    alive = alive;
    prev = a.prev ∙ ap (λ (o : Option (ℕ × ℕ)). option_map_or (λ (span : ℕ × ℕ). span.1) o 0) logged.span
        ∙ span-last k.txn (all_at (log_at c i));
    done = λ e. absurd (cc);
    undo = λ e. absurd (cc);
  }

  reserves : reserve (all_at (log_at c i) ++ y ∷ []) ≡ reserve_of table
  reserves = reserves-then k x (txns_at c i) table (all_at
      (log_at c i)) ch.bytes ch.records alive logged told-i.owes told-i.reserves

  owes : owed (all_at (log_at c i) ++ y ∷ []) ≡ owed_of table
  owes = owes-then k x (txns_at c i) table (all_at (log_at c i)) ch.bytes ch.records alive logged told-i.owes told-i.reserves

  rises : image.lsn < k.lsn
  rises = let e = a.lsn in omega (arith, e)

  -- a begun checkpoint's low is below the record
  begun-low : (b : Begun) → check_at c i ≡ Some b → (low_of b) ≤ k.lsn
  begun-low b is = let ck = g.checking i b is in let low = low-begin b in let begin = ck.begun in let lsn = a.lsn in
      omega (arith, low, begin, lsn)

  -- ---- wherever logs begin

  module _ (moved : Keeps) where
    abbrev left : Outcomes
    left = leaves_by c moved leaves

    abbrev old_logs : Logs
    old_logs = log_by c moved

    abbrev new_logs : Logs
    new_logs = log_by new moved

    h : Half seen left old_logs Pending.Idle c m
    h = g.half moved

    one : old_logs i ≡ log_at c i
    one = one-place c moved i at-i.one_place

    here : new_logs i ≡ with_record (update k) spare (old_logs i)
    here = one-place new moved i at-i.one_place ∙ log-here ∙ ap (with_record (update k) spare) (sym one)

    elsewhere : (j : ℕ) → j ≢ i → new_logs j ≡ old_logs j
    elsewhere j ne = ap (λ (l : LogState). cond (moved j) (option_map_or
        (λ place. begun_at place l) (other_at c j) l) l) (log-else j ne)

    grows : Grows i y (tails_of old_logs) (tails_of new_logs)
    grows = record {
      inside = let hi = w.high in omega (arith, hi);
      here = ap tail_at here ∙ map-append flat (old_logs i).tail (update k ∷ []);
      others = λ j ne. ap tail_at (elsewhere j ne);
      base = λ j. ⊎_elim
          (λ e. ap (λ (n : ℕ). base_at (new_logs n)) e ∙ ap base_at here ∙ ap (λ (n : ℕ). base_at (old_logs n)) (sym e))
          (λ ne. ap base_at (elsewhere j ne))
          (cases_eq j i);
    }

    appends : chain_laws.Appends i y (tails_of old_logs) (tails_of new_logs)
    appends = record { grows = grows; own = λ spoken. w.home }

    abbrev old_base : Base (may_of left)
    old_base = base_of seen left old_logs c

    abbrev new_base : Base (may_of left)
    new_base = base_of seen left new_logs new

    follows-there : MayFollow (all_at (old_logs (home k.txn))) y
    follows-there = subst (λ (l : LogState). MayFollow (all_at l) y) (sym (ap old_logs w.home ∙ one)) follows

    free : (u : TxnId) → u ≢ k.txn → IsOpen u (base_at (old_logs (home u)))
        → filter (at k.rid.page k.rid.slot) (stack u (all_at (old_logs (home u)))) ≡ []
    free u ne o = none-there (m.part u).claims k.rid (stack u (all_at (old_logs (home u)))) (alone u (λ e. ne (sym e)))
        (h.held u o)

    can : MayChange i (tails_of old_logs) (newest_version old_base) y
    can = changes.change-may_come (may_of left) i i image y old_base (dir_of c) h.coherent w.owns (inl
        (refl, settled, w.idle)) w.copy refl
        follows-there rises w.fits free

    redone : IsRedone (may_of left) i y (tails_of new_logs) (disk_page (seen 0)) old_base.version
    redone = change-named (may_of left) (may_of left) i y old_base (dir_of c) (tails_of new_logs) (disk_page
        (seen 0)) h.coherent appends can (λ p z may. may) h.coherent.reads

    changed : Changes i i image y old_base new_base (dir_of c) (dir_of new)
    changed = record {
      held = w.owns;
      copy = w.copy;
      rises = rises;
      acts = inl (refl, settled, w.idle);
      low = w.low;
      grows = grows;
      redone = redone.redone;
      safe = redone.safe;
      reads = h.coherent.reads;
      entry = ch.entry;
      redone_copy = record {
        here = ap (λ (b : Buffers). buffers.image_at b k.rid.page) pool-here ∙ ch.page;
        others = λ j ne. ap (λ (b : Buffers). buffers.image_at b k.rid.page) (pool-else j ne);
      };
      moving = ch.moving k.rid.page;
      others = record {
        entries = ch.other_entries;
        pools = λ j q ne. ⊎_elim
            (λ e. subst (λ (n : ℕ). buffers.image_at (pool_at new n) q ≡ buffers.image_at (pool_at c n) q) (sym e)
            (ap (λ (b : Buffers). buffers.image_at b q) pool-here ∙ ch.other_pages q ne))
            (λ nj. ap (λ (b : Buffers). buffers.image_at b q) (pool-else j nj)) (cases_eq j i);
        moving = λ q ne. ch.moving q;
      };
      rec_lsn = ch.rec_lsn;
      other_rec = ch.other_rec_lsns;
      stays = record {
        less = λ p z may. may;
        disk = λ p. refl;
        loose = λ j lo. refl;
        loose_disk = refl;
        active = λ j. refl;
        up = λ j. refl;
        due = refl;
      };
    }

    -- ---- what the logs have

    values-same : (keeps : Keeps) (p s : ℕ) → values m Pending.Idle (kept_logs (tails_of old_logs) keeps) p s
        ≡ values m' Pending.Idle (kept_logs (tails_of new_logs) keeps) p s
    values-same keeps p s = ap (λ (d : List Done). after m.start (m.done ++ d) (record { page = p; slot = s }))
        (sym (decided-same m m' (kept_logs (tails_of old_logs) keeps) (kept_logs (tails_of new_logs) keeps) refl lives doubted
        (λ u. ⊎_elim (λ e. ap (list_any (commits u)) e)
        (λ e. ap (list_any (commits u)) e ∙ no-commit u (kept_logs (tails_of old_logs) keeps (home u)) y refl)
        (kept-either i y (tails_of old_logs) (tails_of new_logs) grows keeps (home u)))))

    gives : Gives (tails_of new_logs) (may_of left) (λ keeps. values m' Pending.Idle (kept_logs (tails_of new_logs) keeps))
    gives disk all keeps p s = subst (Recovered (cut keeps (with_disk (tails_of new_logs) disk)) p s) (values-same keeps p s)
        (images.change-gives i y (tails_of old_logs) (tails_of new_logs) grows appends.own
        (may_of left) old_base.version new_base.version
        h.coherent.safe can redone.redone (λ ks. values m Pending.Idle (kept_logs
        (tails_of old_logs) ks)) h.gives disk all keeps p s)

    claimed-there : (u : TxnId) (l : List Rec) → IsClaimed m u l → IsClaimed m' u l
    claimed-there u l old = record {
      there = λ e. old.there (sym (lives u) ∙ e);
      claims = subst (λ (f : Claims). Each (λ r. f (rid_of r) ≡ Claim.Excl) (stack u l)) (sym (claims-same u)) old.claims;
    }

    -- with the record, of the transaction itself and of another
    claimed-own : (l : List Rec) → (IsOpenIn k.txn l → IsClaimed m k.txn l) → IsOpenIn k.txn (l ++ y ∷ [])
        → IsClaimed m' k.txn (l ++ y ∷ [])
    claimed-own l old is = record {
      there = λ e. let f = sym runs ∙ sym (lives k.txn) ∙ e in absurd (cc);
      claims = subst (λ (f : Claims). Each (λ r. f (rid_of r) ≡ Claim.Excl) (stack k.txn (l ++ y ∷ []))) (sym (claims-same k.txn))
          (subst (Each (λ r. (m.part k.txn).claims (rid_of r) ≡ Claim.Excl)) (sym (stack-push k.txn l y
          ∙ step-own k.txn (stack k.txn l) y refl)) (claim, below (cases_Bool (list_any (of_txn k.txn) l))));
    }
      where
        below : ((list_any (of_txn k.txn) l ≡ true) ⊎ (list_any (of_txn k.txn) l ≡ false))
            → Each (λ r. (m.part k.txn).claims (rid_of r) ≡ Claim.Excl) (stack k.txn l)
        below (inl there) = (old (open-fate k.txn l
            (each-front (λ r. (ends r.kind && same_txn r.txn k.txn) ≡ false) l (y ∷ []) (fate-open k.txn
            (l ++ y ∷ []) is).0) there)).claims
        below (inr none) = subst (Each (λ r. (m.part k.txn).claims (rid_of r) ≡ Claim.Excl)) (sym (stack-none k.txn l none)) tt

    claimed-other : (u : TxnId) → u ≢ k.txn → (l : List Rec) → (IsOpenIn u l → IsClaimed m u l) → IsOpenIn u (l ++ y ∷ [])
        → IsClaimed m' u (l ++ y ∷ [])
    claimed-other u ne l old is =
        let was = claimed-there u l (old (sym (fate-others u l (y ∷ []) (other_of u y (λ e. ne (sym e)), tt)) ∙ is)) in
        record {
          there = was.there;
          claims = subst (Each (λ r. (m'.part u).claims (rid_of r) ≡ Claim.Excl))
              (sym (stack-push u l y ∙ step-other u (stack u l) y (λ e. ne (sym e)))) was.claims;
        }

    claimed : (keeps : Keeps) (u : TxnId) → IsOpenIn u (kept_logs (tails_of new_logs) keeps (home u))
        → IsClaimed m' u (kept_logs (tails_of new_logs) keeps (home u))
    claimed keeps u = ⊎_elim
        (λ e. subst (λ (l : List Rec). IsOpenIn u l → IsClaimed m' u l) (sym e) (λ is. claimed-there u (was u)
        (h.claimed keeps u is))) (λ e. subst (λ (l : List Rec). IsOpenIn u l → IsClaimed m' u l) (sym e)
        (⊎_elim
        (λ same. subst (λ (v : TxnId). IsOpenIn v (was u ++ y ∷ []) → IsClaimed m' v (was u ++ y ∷ [])) (sym same)
        (claimed-own (was u) (subst (λ (v : TxnId). IsOpenIn v (was u) → IsClaimed m v (was u)) same (h.claimed keeps u))))
        (λ ne. claimed-other u ne (was u) (h.claimed keeps u))
        (cases_txn u k.txn)))
        (kept-either i y (tails_of old_logs) (tails_of new_logs) grows keeps (home u))
      where
        was : TxnId → List Rec
        was v = kept_logs (tails_of old_logs) keeps (home v)

    all-more : all_at (new_logs i) ≡ all_at (old_logs i) ++ y ∷ []
    all-more = ap all_at here ∙ appended-log (old_logs i) (update k) spare

    held-own : Each (λ z. (m'.part k.txn).claims (rid_of z) ≡ Claim.Excl) (stack k.txn (all_at (old_logs i)))
        → Each (λ z. (m'.part k.txn).claims (rid_of z) ≡ Claim.Excl) (stack k.txn (all_at (new_logs i)))
    held-own old = subst (λ (l : List Rec). Each (λ z. (m'.part k.txn).claims (rid_of z) ≡ Claim.Excl) (stack k.txn l)) (sym all-more)
        (subst (Each (λ z. (m'.part k.txn).claims (rid_of z) ≡ Claim.Excl)) (sym (stack-push k.txn (all_at (old_logs i)) y
        ∙ step-own k.txn (stack k.txn (all_at (old_logs i))) y refl))
        (ap (λ (f : Claims). f k.rid) (claims-same k.txn) ∙ claim, old))

    held-else : (u : TxnId) → u ≢ k.txn → stack u (all_at (new_logs (home u))) ≡ stack u (all_at (old_logs (home u)))
    held-else u ne = ⊎_elim
        (λ e. subst (λ (n : ℕ). stack u (all_at (new_logs n)) ≡ stack u (all_at (old_logs n))) (sym e)
        (ap (stack u) all-more ∙ stack-push u (all_at (old_logs i)) y
        ∙ step-other u (stack u (all_at (old_logs i))) y (λ same. ne (sym same))))
        (λ far. ap (λ (l : LogState). stack u (all_at l)) (elsewhere (home u) far)) (cases_eq (home u) i)

    held : (u : TxnId) → IsOpen u (base_at (new_logs (home u)))
        → Each (λ z. (m'.part u).claims (rid_of z) ≡ Claim.Excl) (stack u (all_at (new_logs (home u))))
    held u o =
        let was : Each (λ z. (m'.part u).claims (rid_of z) ≡ Claim.Excl) (stack u (all_at (old_logs (home u)))) =
        subst (λ (f : Claims). Each (λ z. f (rid_of z) ≡ Claim.Excl) (stack u (all_at (old_logs (home u))))) (sym (claims-same u))
        (h.held u (subst (IsOpen u) (grows.base (home u)) o)) in
        ⊎_elim
        (λ same. subst (λ (v : TxnId). Each (λ z. (m'.part v).claims (rid_of z) ≡ Claim.Excl) (stack v (all_at (new_logs (home v))))) (sym same)
        (subst (λ (n : ℕ). Each (λ z. (m'.part k.txn).claims (rid_of z) ≡ Claim.Excl) (stack k.txn (all_at (new_logs n)))) (sym w.home)
        (held-own (subst (λ (n : ℕ). Each (λ z. (m'.part k.txn).claims (rid_of z) ≡ Claim.Excl) (stack k.txn (all_at (old_logs n)))) w.home
        (subst (λ (v : TxnId). Each (λ z. (m'.part v).claims (rid_of z) ≡ Claim.Excl) (stack v (all_at (old_logs (home v))))) same was)))))
        (λ ne. subst (Each (λ z. (m'.part u).claims (rid_of z) ≡ Claim.Excl)) (sym (held-else u ne)) was) (cases_txn u k.txn)

    -- ---- what is owed

    owes-each : (j : ℕ) → 1 ≤ j → j ≤ 8 → OwesAtMost (owes_most new j) (new_logs j)
    owes-each j lo hi = ⊎_elim
        (λ e. subst (λ (n : ℕ). OwesAtMost (owes_most new n) (new_logs n)) (sym e)
        (settled-owes new i (new_logs i) settled
        (g.owed i w.low w.high settled ∙ ap owed (sym (grows.base i ∙ ap base_at one)))
        (λ tells. ap owed_of table-here ∙ sym owes ∙ ap owed (sym (all-more ∙ ap (λ (l : LogState). all_at l ++ y ∷ []) one)))
        (λ silent. let up = sym (ap tells_log w.up) ∙ silent in absurd (cc))))
        (λ ne. subst (OwesAtMost (owes_most new j)) (sym (elsewhere j ne))
        (subst (λ (z : Transactions). OwesAtMost (cond (is_loose c j) (owed_at c j) (cond (tells_log (status_at c j))
        (max (owed_at c j) (owed_of z)) (owed_at c j))) (old_logs j)) (sym (table-else j ne))
        (owes-at-most seen leaves Pending.Idle c m g moved j lo hi)))
        (cases_eq j i)

    owes-all : most_owed (tails_of new_logs) ≤ owed_in_all new
    owes-all = most-in-all new new_logs owes-each

    -- ---- soundness, epochs and checkpoints

    known-great : (p : ℕ) (z : Page) → may_of left p z → z.lsn ≤ great
    known-great = known-low seen leaves Pending.Idle c m g moved great room.disk room.logs

    great-there : (j : ℕ) → 1 ≤ j → j ≤ 8 → Each (λ q. q.lsn ≤ great) (all_at (old_logs j))
    great-there j lo hi = each-by (λ q. q.lsn ≤ great) c moved j (room.logs j lo hi)

    page-great : image.lsn ≤ great
    page-great = image-low seen leaves Pending.Idle c m g moved great room.disk room.logs i k.rid.page image w.copy

    epoch-low : (bytes : List ℕ) → left i bytes → k.txn.epoch ≤ (past_at (master bytes) (forced (old_logs i))).epoch
    epoch-low bytes l = let e = (h.epochs i w.low w.high bytes l).1.low in omega (arith, e, begun)

    tested : IsTested i (update k) image.lsn left old_logs new_logs
    tested = record {
      lsn = a.lsn ∙ ap (λ (l : LogState). next_lsn l image.lsn) (sym one);
      own = λ bytes l. (w.home, epoch-low bytes l);
      epoch = λ bytes l. tt;
      reserved = reserve_of table;
      within = let e = ap (λ (l : LogState). reserve (all_at l ++ y ∷ [])) one ∙ reserves in omega (arith, e);
      room = subst (λ (l : LogState). needed l (length (spelling (update k))) (reserve_of table) ≤ 1048576) (sym one) room.room;
      great = great;
      logs = great-there;
      pages = known-great;
      page = page-great;
      fits = let most = owes-all in let fits = room.fits in omega (arith, most, fits);
    }

    soundly : IsSoundly left new_logs
    soundly = tested-keeps left i (update k) image.lsn old_logs new_logs h.soundly (record {
      spare = spare;
      log = record { low = w.low; high = w.high; here = here; others = elsewhere };
      settled = λ bytes l. subst (λ (q : LogState). StandsOn q bytes) (sym one) (subst (StandsOn (log_at c i)) (sym
          ((at-i.only bytes).0 l.0)) at-i.stands);
      could = (seen i, ((at-i.only (seen i)).1 refl, no-place (other_at c i) _ at-i.one_place));
    }) tested

    epoch-of : (j e e' : ℕ) → e' ≡ e → IsEpochOf m Pending.Idle j e → IsEpochOf m' Pending.Idle j e'
    epoch-of j e e' same old = record {
      low = subst (λ (n : ℕ). (m.inst j).epoch ≤ n) (sym same) old.low;
      high = subst (λ (n : ℕ). n ≤ (m.inst j).epoch + (m.inst j).failed + 0) (sym same) old.high;
    }

    epochs : (j : ℕ) → 1 ≤ j → j ≤ 8 → (bytes : List ℕ) → left j bytes
        → IsEpochOf m' Pending.Idle j (past_at (master bytes) (new_logs j)).epoch × IsEpochOf m' Pending.Idle j (past_at
        (master bytes) (forced (new_logs j))).epoch
    epochs j lo hi bytes l = let old = h.epochs j lo hi bytes l in (
      epoch-of j (past_at (master bytes) (old_logs j)).epoch (past_at (master bytes) (new_logs j)).epoch
          (each (λ q. (past_at (master bytes) q).epoch) refl) old.0,
      epoch-of j (past_at (master bytes) (forced (old_logs j))).epoch (past_at (master bytes) (forced (new_logs j))).epoch
          (each (λ q. (past_at (master bytes) (forced q)).epoch) (epoch-others (master bytes) (old_logs i)
          (update k) spare refl)) old.1,
    )
      where
        each : (f : LogState → ℕ) → f (with_record (update k) spare (old_logs i)) ≡ f (old_logs i)
            → f (new_logs j) ≡ f (old_logs j)
        each f own = ⊎_elim
            (λ e. ap (λ (n : ℕ). f (new_logs n)) e ∙ ap f here ∙ own ∙ ap (λ (n : ℕ). f (old_logs n)) (sym e))
            (λ ne. ap f (elsewhere j ne)) (cases_eq j i)

    checks : (q : ℕ) (b : Begun) → check_at c q ≡ Some b → Covered (low_of b) q new_base × Closed (low_of b) q (tails_of new_logs)
    checks q b is = let old = h.checks q b is in ⊎_elim
        (λ e.
        let le = begun-low b (ap (check_at c) (sym e) ∙ is) in
        let was : Covered (low_of b) i old_base × Closed (low_of b) i (tails_of old_logs) =
        subst (λ (n : ℕ). Covered (low_of b) n old_base × Closed (low_of b) n (tails_of old_logs)) e old in
        let both : Covered (low_of b) i new_base × Closed (low_of b) i (tails_of new_logs) = (
          cover-grows (may_of left) (may_of left) (low_of b) i y old_base new_base grows (λ p z may. may) le was.0,
          close-grows (low_of b) i y (tails_of old_logs) (tails_of new_logs) grows le was.1,
        ) in
        subst (λ (n : ℕ). Covered (low_of b) n new_base × Closed (low_of b) n (tails_of new_logs)) (sym e) both)
        (λ ne. (
          cover-stays (may_of left) (may_of left) (low_of b) q old_base new_base (ap all_at (elsewhere q ne)) (λ p z may. may) old.0,
          close-stays (low_of b) q (tails_of old_logs) (tails_of new_logs) (ap base_at (elsewhere q ne)) (ap tail_at
              (elsewhere q ne)) old.1,
        ))
        (cases_eq q i)

    half-left : Half seen left new_logs Pending.Idle new m'
    half-left = record {
      coherent = changes.change-keeps (may_of left) (may_of left) i i image y old_base new_base (dir_of c)
          (dir_of new) h.coherent changed;
      soundly = soundly;
      gives = gives;
      claimed = claimed;
      held = held;
      epochs = epochs;
      checks = checks;
    }

    half-there : Half seen (leaves_by new moved leaves) new_logs Pending.Idle new m'
    half-there = subst (λ (starts : ℕ → ℕ). Half seen (by starts) new_logs Pending.Idle new m')
        (fun_ext (λ j. sym (each-log (λ l. l.start) refl j))) half-left
      where
        by : (ℕ → ℕ) → Outcomes
        by starts d bytes = leaves d bytes × IfSome (other_at c d) (λ place. (master bytes).start
            ≡ cond (moved d) place (starts d))

  -- ---- devices

  settled-there : (j : ℕ) → 1 ≤ j → j ≤ 8 → is_loose c j ≡ false → IsSettledAt seen leaves new j
  settled-there j lo hi e = let s = g.settled j lo hi e in record {
    only = s.only;
    stands = ⊎_elim
        (λ same. subst (λ (n : ℕ). StandsOn (log_at new n) (seen n)) (sym same) (subst
        (λ (l : LogState). StandsOn l (seen i)) (sym log-here) at-i.stands))
        (λ ne. subst (λ (l : LogState). StandsOn l (seen j)) (sym (log-else j ne)) s.stands) (cases_eq j i);
    one_place = s.one_place;
    counted = s.counted;
    epoch = each-log (λ q. (past_at (master (seen j)) (forced q)).epoch)
        (epoch-others (master (seen j)) (log_at c i) (update k) spare refl) j ∙ s.epoch;
  }

  -- ---- the serial table

  part-else : (u : TxnId) → u ≢ k.txn → m'.part u ≡ m.part u
  part-else = each_txn k.txn (λ u (p : Part). u ≢ k.txn → p ≡ m.part u) part m.part (λ ne. absurd (ne refl)) (λ u ne _. refl)

  part-here : m'.part k.txn ≡ part
  part-here = ap (λ (b : Bool). cond b part (m.part k.txn)) (eq-same k.txn k.txn refl)

  kept-there : Kept m'
  kept-there = took-kept m k.txn k.rid Claim.Excl (Act.Put k.rid k.after ∷ [])
      (λ u ne clash. subst Holds (alone u ne) clash) tt tt
      (λ puts o. (subst Owns (sym (claim-here k.rid Claim.Excl (m.part k.txn).claims)) tt, o)) g.kept

  marked-there : Marked m'
  marked-there = put-marked m k.txn part
      (let acts = (m.part k.txn).acts ++ Act.Put k.rid k.after ∷ [] in
      let grown = ap length (live_from-append [] (m.part k.txn).acts (Act.Put k.rid k.after ∷ [])) in
      let s = sized-more (m.part k.txn) acts (omega (arith, grown)) (g.marked.sized k.txn) in
      record { marks = s.marks; target = s.target }) g.marked

  listed-there : Listed m'
  listed-there = record {
    bounds = g.listed.bounds;
    there = λ u ne. g.listed.there u (λ e. ne (lives u ∙ e));
    once = g.listed.once;
    doubts = λ u d. g.listed.doubts u (subst IsDoubt (lives u) d);
    cut_once = g.listed.cut_once;
    cut_begun = g.listed.cut_begun;
    cut_rests = λ u is work. g.listed.cut_rests u is (subst listed.IsAtWork (lives u) work);
  }

  -- ---- instances

  each-table : {A : Type 0} (f : Transactions → A) → f table ≡ f (txns_at c i) → (j : ℕ) → f (txns_at new j) ≡ f (txns_at c j)
  each-table f own j = ⊎_elim
      (λ e. ap (λ (n : ℕ). f (txns_at new n)) e ∙ ap f table-here ∙ own ∙ ap (λ (n : ℕ). f (txns_at c n)) (sym e))
      (λ ne. ap f (table-else j ne)) (cases_eq j i)

  other : (u : TxnId) → u ≢ k.txn → of_txn u y ≡ false
  other u ne = other_of u y (λ e. ne (sym e))

  stack-else : (u : TxnId) → u ≢ k.txn → stack u (all_at (log_at c i) ++ y ∷ []) ≡ stack u (all_at (log_at c i))
  stack-else u ne = stack-push u (all_at (log_at c i)) y ∙ step-other u (stack u (all_at (log_at c i))) y (λ e. ne (sym e))

  names-i : (u : TxnId) → home u ≡ i
      → NamesLife (txn_at table u) (m.part u).life (fate u (base_at (log_at c i))) (fate u (all_at (log_at c i) ++ y ∷ []))
  names-i u own = let old = (g.instances i w.low w.high).names u own in ⊎_elim
      (λ same. subst (λ (v : TxnId). NamesLife (txn_at table v) (m.part v).life (fate v (base_at (log_at c i))) (fate v (all_at
      (log_at c i) ++ y ∷ []))) (sym same)
      (subst (λ (o : Option Transaction). NamesLife o (m.part k.txn).life (fate k.txn (base_at (log_at c i))) (fate k.txn
      (all_at (log_at c i) ++ y ∷ []))) (sym ch.row.now)
      (stands-running x.state (m.part k.txn).life (fate k.txn (base_at (log_at c i))) (fate k.txn (all_at (log_at c i)))
      (fate k.txn (base_at (log_at c i))) (fate k.txn (all_at (log_at c i) ++ y ∷ [])) runs
      (subst (λ (o : Option Transaction). NamesLife o (m.part k.txn).life (fate k.txn (base_at (log_at c i))) (fate k.txn
      (all_at (log_at c i)))) ch.row.was
      ((g.instances i w.low w.high).names k.txn w.home)))))
      (λ ne. subst (λ (o : Option Transaction). NamesLife o (m.part u).life (fate u (base_at (log_at c i))) (fate u (all_at
      (log_at c i) ++ y ∷ []))) (sym (ch.row.others u ne))
      (subst (NamesLife (txn_at (txns_at c i) u) (m.part u).life (fate u (base_at (log_at c i))))
      (sym (fate-others u (all_at (log_at c i)) (y ∷ []) (other u ne, tt))) old)) (cases_txn u k.txn)

  instance-there : (q : ℕ) → 1 ≤ q → q ≤ 8 → IsInstance new m' q
  instance-there q lo hi = let old = g.instances q lo hi in record {
    status = old.status;
    epoch = old.epoch;
    begins = λ up. each-table (λ (z : Transactions). begins_in z (m.inst q).epoch)
        (ap₂ (λ (e b : ℕ). if e == (m.inst q).epoch then b else 0) ch.row.order.same_epoch ch.row.order.same_begins) q
        ∙ old.begins up;
    first = old.first;
    own = λ u ne. ⊎_elim
        (λ same. subst (λ (n : ℕ). txn_at (txns_at new n) u ≡ None) (sym same) (ap (λ (z : Transactions). txn_at z u) table-here
        ∙ ch.row.others u (λ e. ne (ap home e ∙ w.home ∙ sym same)) ∙ (g.instances i w.low w.high).own u (λ e. ne (e ∙ sym same))))
        (λ off. ap (λ (z : Transactions). txn_at z u) (table-else q off) ∙ old.own u ne)
        (cases_eq q i);
    table = let e = each-table (λ (z : Transactions). z.epoch) ch.row.order.same_epoch q in let o = old.table in omega (arith, e, o);
    names = λ u own. subst (λ (life : Life). NamesLife (txn_at (txns_at new q) u) life (fate u (base_at (log_at new q))) (fate u
        (all_at (log_at new q)))) (sym (lives u))
        (⊎_elim
        (λ same. subst (λ (n : ℕ). NamesLife (txn_at (txns_at new n) u) (m.part u).life (fate u (base_at (log_at new n)))
        (fate u (all_at (log_at new n)))) (sym same)
        (subst (λ (z : Transactions). NamesLife (txn_at z u) (m.part u).life (fate u (base_at (log_at new i))) (fate u (all_at
        (log_at new i)))) (sym table-here)
        (subst (λ (b : List Rec). NamesLife (txn_at table u) (m.part u).life (fate u b) (fate u (all_at (log_at new i))))
        (sym (base-same i))
        (subst (λ (b : List Rec). NamesLife (txn_at table u) (m.part u).life (fate u (base_at (log_at c i))) (fate u b))
        (sym all-here) (names-i u (own ∙ same))))))
        (λ ne. subst (λ (z : Transactions). NamesLife (txn_at z u) (m.part u).life (fate u (base_at (log_at new q))) (fate u
        (all_at (log_at new q)))) (sym (table-else q ne))
        (subst (λ (l : LogState). NamesLife (txn_at (txns_at c q) u) (m.part u).life (fate u (base_at l)) (fate u (all_at l)))
        (sym (log-else q ne)) (old.names u own))) (cases_eq q i));
  }

  rows-i : (u : TxnId) → home u ≡ i → RowIsLogged (txn_at table u) u (all_at (log_at c i) ++ y ∷ [])
  rows-i u own = ⊎_elim
      (λ same. subst (λ (v : TxnId). RowIsLogged (txn_at table v) v (all_at (log_at c i) ++ y ∷ [])) (sym same)
      (subst (λ (o : Option Transaction). RowIsLogged o k.txn (all_at (log_at c i) ++ y ∷ [])) (sym ch.row.now)
      (inl (logged-then k x (txns_at c i) table (all_at (log_at c i)) ch.bytes ch.records alive logged told-i.owes
      told-i.reserves))))
      (λ ne. subst (λ (o : Option Transaction). RowIsLogged o u (all_at (log_at c i) ++ y ∷ [])) (sym (ch.row.others u ne))
      (row-other (txn_at (txns_at c i) u) u (all_at (log_at c i)) y (other u ne) (stack-else u ne) (told-i.rows u own)))
      (cases_txn u k.txn)

  told-here : IsTold new m' i
  told-here = record {
    rows = λ u own. subst (λ (z : Transactions). RowIsLogged (txn_at z u) u (all_at (log_at new i))) (sym table-here)
        (subst (RowIsLogged (txn_at table u) u) (sym all-here) (rows-i u own));
    owes = ap owed_of table-here ∙ sym owes ∙ ap owed (sym all-here);
    reserves = ap reserve_of table-here ∙ sym reserves ∙ ap reserve (sym all-here);
    spare = λ up. let e = ap reserve all-here ∙ reserves in let s = ap (λ (l : LogState). l.spare) log-here in
        let enough = room.memory in omega (arith, e, s, enough);
  }

  told-there : (q : ℕ) → 1 ≤ q → q ≤ 8 → tells_log (status_at c q) ≡ true → is_loose c q ≡ false → IsTold new m' q
  told-there q lo hi tells e = ⊎_elim
      (λ same. subst (IsTold new m') (sym same) told-here)
      (λ ne. let old = g.told q lo hi tells e in record {
        rows = λ u own. subst (λ (z : Transactions). RowIsLogged (txn_at z u) u (all_at (log_at new q))) (sym (table-else q ne))
            (subst (λ (l : LogState). RowIsLogged (txn_at (txns_at c q) u) u (all_at l)) (sym (log-else q ne)) (old.rows u own));
        owes = ap owed_of (table-else q ne) ∙ old.owes ∙ ap (λ (l : LogState). owed (all_at l)) (sym (log-else q ne));
        reserves = ap reserve_of (table-else q ne) ∙ old.reserves ∙ ap (λ (l : LogState). reserve (all_at l)) (sym
            (log-else q ne));
        spare = λ up. subst (λ (l : LogState). reserve (all_at l) ≤ l.spare) (sym (log-else q ne)) (old.spare up);
      })
      (cases_eq q i)

  rest-there : (q : ℕ) → tells_log (status_at c q) ≡ false → (log_at c q).tail ≡ [] → (log_at new q).tail ≡ []
  rest-there q rests none = ⊎_elim
      (λ same. let up = sym (ap tells_log (ap (status_at c) same ∙ w.up)) ∙ rests in absurd (cc))
      (λ ne. ap (λ (l : LogState). l.tail) (log-else q ne) ∙ none) (cases_eq q i)

  -- whom instance i has at work
  live-own : RowIsLive (txn_at (txns_at c i) k.txn) k.txn (m.part k.txn) (all_at (log_at c i))
      → RowIsLive (txn_at table k.txn) k.txn (m'.part k.txn) (all_at (log_at c i) ++ y ∷ [])
  live-own row =
      let old : IsLive x k.txn (m.part k.txn) (all_at (log_at c i)) =
      subst (λ (o : Option Transaction). RowIsLive o k.txn (m.part k.txn) (all_at (log_at c i))) ch.row.was row in
      let now = live-then k x (m.part k.txn) (all_at (log_at c i)) old in
      subst (λ (o : Option Transaction). RowIsLive o k.txn (m'.part k.txn) (all_at (log_at c i) ++ y ∷ [])) (sym ch.row.now)
      (subst (λ (p : Part). IsLive (changed_row k x) k.txn p (all_at (log_at c i) ++ y ∷ [])) (sym part-here) now)

  live-i : (u : TxnId) → home u ≡ i → RowIsLive (txn_at table u) u (m'.part u) (all_at (log_at c i) ++ y ∷ [])
  live-i u own = let old = g.at_work i w.low w.high w.up in ⊎_elim
      (λ same. subst (λ (v : TxnId). RowIsLive (txn_at table v) v (m'.part v) (all_at (log_at c i) ++ y ∷ []))
      (sym same) (live-own (old k.txn w.home (λ e. absurd (cc)))))
      (λ ne. subst (λ (o : Option Transaction). RowIsLive o u (m'.part u) (all_at (log_at c i) ++ y ∷ []))
      (sym (ch.row.others u ne))
      (subst (λ (p : Part). RowIsLive (txn_at (txns_at c i) u) u p (all_at (log_at c i) ++ y ∷ [])) (sym (part-else u ne))
      (live-other (txn_at (txns_at c i) u) u (m.part u) (all_at (log_at c i)) (all_at (log_at c i) ++ y ∷ []) (stack-else u ne)
      (old u own (λ e. absurd (cc)))))) (cases_txn u k.txn)

  work-there : (q : ℕ) → 1 ≤ q → q ≤ 8 → status_at c q ≡ S.Up → RowsAreLive Pending.Idle new m' q
  work-there q lo hi up u own free = ⊎_elim
      (λ same. subst (λ (n : ℕ). RowIsLive (txn_at (txns_at new n) u) u (m'.part u) (all_at (log_at new n))) (sym same)
      (subst (λ (z : Transactions). RowIsLive (txn_at z u) u (m'.part u) (all_at (log_at new i))) (sym table-here)
      (subst (RowIsLive (txn_at table u) u (m'.part u)) (sym all-here) (live-i u (own ∙ same)))))
      (λ ne. subst (λ (z : Transactions). RowIsLive (txn_at z u) u (m'.part u) (all_at (log_at new q))) (sym (table-else q ne))
      (subst (λ (l : LogState). RowIsLive (txn_at (txns_at c q) u) u (m'.part u) (all_at l)) (sym (log-else q ne))
      (subst (λ (p : Part). RowIsLive (txn_at (txns_at c q) u) u p (all_at (log_at c q)))
      (sym (part-else u (λ e. ne (sym own ∙ ap home e ∙ w.home)))) (g.at_work q lo hi up u own free)))) (cases_eq q i)

  -- each record is of one that has begun
  begun-then : (q : ℕ) → 1 ≤ q → q ≤ 8 → status_at c q ≡ S.Up → Each (IsOfBegun (m.inst q)) (all_at (log_at new q))
  begun-then q lo hi up = ⊎_elim
      (λ same. subst (λ (n : ℕ). Each (IsOfBegun (m.inst n)) (all_at (log_at new n))) (sym same)
      (subst (Each (IsOfBegun (m.inst i))) (sym all-here)
      (begun-more m i y (all_at (log_at c i)) (sym (g.instances i w.low w.high).status ∙ w.up) (λ spoken. w.home)
      (λ spoken. began-there m k.txn g.listed (λ e. let f = sym runs ∙ e in absurd (cc))) (g.begun i w.low w.high w.up))))
      (λ ne. subst (λ (l : LogState). Each (IsOfBegun (m.inst q)) (all_at l)) (sym (log-else q ne)) (g.begun q lo hi up))
      (cases_eq q i)

  -- ---- LSNs, and who may have further records

  last-there : (j : ℕ) → 1 ≤ j → j ≤ 8 → Each (λ z. z.lsn ≤ last_lsn (scanned (log_at new j))) (all_at (log_at new j))
  last-there j lo hi = ⊎_elim
      (λ e. subst (λ (n : ℕ). Each (λ z. z.lsn ≤ last_lsn (scanned (log_at new n))) (all_at (log_at new n))) (sym e)
      (subst (λ (l : LogState). Each (λ z. z.lsn ≤ last_lsn (scanned l)) (all_at l)) (sym log-here)
      (subst (Each (λ z. z.lsn ≤ last_lsn (scanned log))) (sym (appended-log (log_at c i) (update k) spare))
      (last-grows (log_at c i) (update k) spare image.lsn (all_at (log_at c i)) (g.last i w.low w.high) a.lsn))))
      (λ ne. subst (λ (l : LogState). Each (λ z. z.lsn ≤ last_lsn (scanned l)) (all_at l)) (sym (log-else j ne)) (g.last j lo hi))
      (cases_eq j i)

  owed-loose-there : (moved : Keeps) (j : ℕ) → 1 ≤ j → j ≤ 8 → is_loose c j ≡ true → OwesAtMost (owed_at c j) (log_by new moved j)
  owed-loose-there moved j lo hi e = ⊎_elim
      (λ same. let s = settled in let f = sym (ap (is_loose c) same ∙ settled) ∙ e in absurd (cc))
      (λ ne. subst (OwesAtMost (owed_at c j)) (sym (elsewhere moved j ne)) (g.owed_loose moved j lo hi e)) (cases_eq j i)

  checking-there : (q : ℕ) (b : Begun) → check_at c q ≡ Some b → IsChecking new q b
  checking-there q b is = let old = g.checking q b is in record {
    takes = old.takes;
    spelled = old.spelled;
    begun = ⊎_elim
        (λ e. let own = subst (λ (n : ℕ). b.begin ≤ last_lsn (scanned (log_at c n))) e old.begun in
        let last = last-more (log_at c i) (update k) spare in let lsn = a.lsn in
        subst (λ (n : ℕ). b.begin ≤ last_lsn (scanned (log_at new n))) (sym e)
        (subst (λ (l : LogState). b.begin ≤ last_lsn (scanned l)) (sym log-here) (omega (arith, own, last, lsn))))
        (λ ne. subst (λ (l : LogState). b.begin ≤ last_lsn (scanned l)) (sym (log-else q ne)) old.begun) (cases_eq q i);
  }

  open-there : (u : TxnId) → (ends y.kind && same_txn y.txn u) ≡ false → IsOpen u (all_at (log_at c (home u)))
      → IsOpen u (all_at (log_at new (home u)))
  open-there u off o = ⊎_elim
      (λ e. subst (λ (n : ℕ). IsOpen u (all_at (log_at new n))) (sym e) (subst (IsOpen u) (sym all-here)
      (open-more u (all_at (log_at c i)) y off (subst (λ (n : ℕ). IsOpen u (all_at (log_at c n))) e o))))
      (λ ne. subst (λ (l : LogState). IsOpen u (all_at l)) (sym (log-else (home u) ne)) o) (cases_eq (home u) i)

  going-there : (u : TxnId) → 1 ≤ home u → home u ≤ 8 → GoesOn Pending.Idle u (m'.part u) → IsOpen u (all_at (log_at new (home u)))
  going-there u lo hi go = open-there u refl (⊎_elim
      (λ same. subst (λ (v : TxnId). IsOpen v (all_at (log_at c (home v)))) (sym same)
      (subst (λ (n : ℕ). IsOpen k.txn (all_at (log_at c n))) (sym w.home) alive))
      (λ ne. g.going u lo hi (subst (GoesOn Pending.Idle u) (part-else u ne) go)) (cases_txn u k.txn))

  -- ---- the whole

  pub changed-good : Good seen leaves Pending.Idle new m'
  changed-good = record {
    shape = shape-changed i log table pool places c w.low w.high refl ch.row.order.same_inst g.shape;
    half = half-there;
    places = λ j place is bytes left. subst (λ (n : ℕ). ((master bytes).start ≡ place) ⊎ ((master bytes).start ≡ n))
        (sym (each-log (λ l. l.start) refl j)) (g.places j place is bytes left);
    others = others-still seen leaves Pending.Idle c m g new i settled table-else;
    settled = settled-there;
    disk_settled = g.disk_settled;
    disk_lsns = λ moved p z may. known-still c new (log_by c moved) (log_by new moved) z.lsn refl
        (bases-by c new i at-i.one_place (λ j. refl) (base-same i) log-else moved) (g.disk_lsns moved p z may);
    last = last-there;
    owed = λ j lo hi e. g.owed j lo hi e ∙ ap owed (sym (base-same j));
    owed_loose = owed-loose-there;
    kept = kept-there;
    placed = put-placed m k.txn part (inl refl) g.placed;
    listed = listed-there;
    marked = marked-there;
    numbered = λ u there. g.numbered u (λ e. there (lives u ∙ e));
    named = each_txn k.txn (λ u (p : Part). NamedOnce p.marks) part m.part (g.named k.txn) (λ u ne. g.named u);
    recoverers = record { each = g.recoverers.each };
    not_closed = g.not_closed;
    instances = instance-there;
    told = told-there;
    at_rest = λ q lo hi rests e. rest-there q rests (g.at_rest q lo hi rests e);
    begun = begun-then;
    at_work = work-there;
    going = going-there;
    pending = tt;
    locks = λ u r. g.locks u r ∙ ap (λ (f : Claims). lock_of (f r)) (sym (claims-same u));
    gone = λ u e r. ap (λ (f : Claims). f r) (claims-same u) ∙ g.gone u (sym (lives u) ∙ e) r;
    asks = asks-left i k.rid.page c.directory places (is_active c) ch.entry ch.asks ch.other_entries ch.other_asks g.asks;
    checking = checking-there;
  }

pub change-keeps_good : (leaves : Outcomes) → ChangeKeepsGood leaves
change-keeps_good leaves i k x image spare great table pool places seen c m g w a ch room =
    changed-good i k x image spare great table pool places seen leaves c m g w a ch room
