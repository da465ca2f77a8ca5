-- What a crash may leave once a transaction's last open record is undone: for the law `undo`.
use Rattle.std.proofs.Common.{◌≡◌, ◌≢◌, ◌⊎◌, inl, inr, ⊎_elim, ℕ, ◌<◌, ◌≤◌, Bool, true, false, List, [], ◌∷◌, ◌++◌, ◌||◌, filter, length, map, refl, sym, ap, ap₂, ◌∙◌, subst, arith}
use Rattle.std.specs.Prelude.{Option, Some}
use Rattle.std.specs.List.{list_any}
use Rattle.std.proofs.lemmas.Bool.{cases_Bool, cases_eq}
use Rattle.std.proofs.lemmas.List.{map_push}
use Rattle.std.proofs.lemmas.List.Folds.{list_any-append}
use mathlib.Core.Path.{fun_ext}
use Rattle.sd_base.specs.declared.ids.TxnId.{TxnId}
use Rattle.sd_base.proofs.SameIds.{cases_txn, each_txn}
use Rattle.sd_logrec.specs.Kept.{master}
use Rattle.sd_logrec.specs.View.{Rec, flat}
use Rattle.sd_logrec.specs.declared.record.Record.{Record}
use Rattle.sd_log.specs.Logs.{LogState, StandsOn, forced, last_lsn, scanned, with_record}
use Rattle.sd_model.specs.Claims.{Claims}
use Rattle.sd_model.specs.Changes.{undid, undid_part}
use Rattle.sd_model.specs.Acts.{after}
use Rattle.sd_model.specs.State.{Part, State}
use Rattle.sd_model.specs.declared.act.Claim.{Claim}
use Rattle.sd_model.specs.declared.act.Done.{Done}
use Rattle.sd_page.specs.Page.{Page}
use Rattle.sd_pagelock.specs.Directory.{DirectoryState}
use Rattle.sd_pool.specs.Buffers as buffers
use Rattle.sd_pool.specs.Buffers.{Buffers}
use Rattle.sd_rig.specs.Devices as rig
use Rattle.sd_txn.specs.Transactions.{Transaction, Transactions}
use Rattle.sd_txn.specs.declared.state.OpenRec.{OpenRec}
use Rattle.sd_chain.specs.Bytes.{disk_page}
use Rattle.sd_chain.specs.Cuts.{cut}
use Rattle.sd_chain.specs.Fates.{Fate, commits, fate}
use Rattle.sd_chain.specs.Storage.{Recovered}
use Rattle.sd_chain.specs.Images.{Gives, Grows, Keeps, log, with_disk}
use Rattle.sd_chain.specs.Images as images
use Rattle.sd_chain.specs.Records.{Each, IsOpen, home, rest, stack}
use Rattle.sd_chain.proofs.Cuts.{newest-cut}
use Rattle.sd_chain.proofs.Fates.{fate-others, open-fate}
use Rattle.sd_chain.proofs.Images as gives-proofs
use Rattle.sd_chain.proofs.Lists.{Each-append, Each-filter, Each-all}
use Rattle.sd_chain.proofs.Stacks.{stack-push, step-other, step-own}
use Rattle.sd_chain.proofs.Whose.{other_of}
use Rattle.sd_chain.specs.AppendedRecords.{Acts, IsUndo}
use Rattle.sd_chain.specs.Checkpoints.{Closed, Covered}
use Rattle.sd_chain.specs.Coherent.{Coherent}
use Rattle.sd_chain.specs.Named.{IsRedone}
use Rattle.sd_chain.specs.World.{Base, newest_version}
use Rattle.sd_chain.proofs.Changes.{change-keeps, held-now, lone, undo-may_come}
use Rattle.sd_chain.proofs.Checkpoints.{cover-grows, cover-stays}
use Rattle.sd_chain.proofs.Closed.{close-grows, close-stays}
use Rattle.sd_chain.proofs.Named.{undo-named}
use Rattle.sd_chain.specs.Appends as sound
use Rattle.sd_chain.specs.Logs.{Logs, Outcomes, ReplacesLog, all_at, base_at, kept_logs, may_of, next_lsn, past_at, tail_at, tails_of}
use Rattle.sd_chain.specs.Soundly.{IsSoundly}
use Rattle.sd_chain.proofs.Appends.{appended-log, kept-elsewhere, kept-old, kept-with, kept-without}
use Rattle.sd_chain.proofs.Next.{epoch-others}
use Rattle.sd_chain.proofs.Owing.{stack-there}
use Rattle.sd_chain.proofs.Reserved.{undo-keeps}
use Rattle.sd_state.specs.Good.{Half, base_of, dir_of}
use Rattle.sd_state.specs.Images.{IsClaimed, IsEpochOf, IsOpenIn}
use Rattle.sd_state.specs.Parts.{Begun, Parts, check_at, is_loose, log_at, no_pool, pool_at, low_of}
use Rattle.sd_update.specs.Undoing.{HasTop, IsUndone, clr_at, with_undone_by}
use Rattle.sd_state.specs.Values.{Pending, as_done, decided, is_committed, is_doubt, rid_of, values}
use Rattle.sd_state.proofs.Items.{item-kept, item-set}

-- ---- the serial table

-- nobody stands elsewhere
pub life-same : (t : TxnId) (m : State) (u : TxnId) → ((undid t m).part u).life ≡ (m.part u).life
life-same t m = each_txn t (λ u (p : Part). p.life ≡ (m.part u).life) (undid_part (m.part t)) m.part refl (λ u ne. refl)

-- or claims other records
pub claims-same : (t : TxnId) (m : State) (u : TxnId) → ((undid t m).part u).claims ≡ (m.part u).claims
claims-same t m = each_txn t (λ u (p : Part). p.claims ≡ (m.part u).claims) (undid_part (m.part t)) m.part refl (λ u ne. refl)

-- and another is as before
pub other-part : (t : TxnId) (m : State) (u : TxnId) → u ≢ t → (undid t m).part u ≡ m.part u
other-part t m = each_txn t (λ u (p : Part). u ≢ t → p ≡ m.part u) (undid_part (m.part t)) m.part (λ ne. absurd (ne refl))
    (λ u ne same. refl)

map-same : {A B : Type 0} (f g : A → B) (xs : List A) → Each (λ x. f x ≡ g x) xs → map f xs ≡ map g xs
map-same {B = B} f g [] each = refl
map-same {B = B} f g (x ∷ xs) each = ap₂ (λ (b : B) (bs : List B). b ∷ bs) each.0 (map-same f g xs each.1)

-- The table is the same where the logs have the same commits: one that rolls back isn't in doubt.
pub values-same : (t : TxnId) (m : State) (one other : ℕ → List Rec) → is_doubt (m.part t).life ≡ false
    → ((u : TxnId) → is_committed one u ≡ is_committed other u) → (p s : ℕ)
    → values (undid t m) Pending.Idle one p s ≡ values m Pending.Idle other p s
values-same t m one other rolls same p s =
    ap (λ (done : List Done). after m.start (m.done ++ done) (record { page = p; slot = s })) all
  where
    doubt_by : (TxnId → Bool) → (TxnId → Bool) → List TxnId
    doubt_by doubt committed = filter committed (filter doubt m.cuts ++ [])

    old_doubt : TxnId → Bool
    old_doubt u = is_doubt (m.part u).life

    done-same : (u : TxnId) → old_doubt u ≡ true → as_done (undid t m) u ≡ as_done m u
    done-same u doubt = ap (λ (q : Part). record { txn = u; acts = q.acts })
        (other-part t m u (λ e. let c = sym doubt ∙ ap old_doubt e ∙ rolls in absurd (cc)))

    all : decided (undid t m) Pending.Idle one ≡ decided m Pending.Idle other
    all = ap₂ (λ (doubt committed : TxnId → Bool). map (as_done (undid t m)) (doubt_by doubt committed))
        (fun_ext (λ u. ap is_doubt (life-same t m u))) (fun_ext same)
        ∙ map-same (as_done (undid t m)) (as_done m) (doubt_by old_doubt (is_committed other))
        (Each-filter (λ u. as_done (undid t m) u ≡ as_done m u) (is_committed other) (filter old_doubt m.cuts ++ [])
        (Each-append (λ u. is_committed other u ≡ true → as_done (undid t m) u ≡ as_done m u) (filter old_doubt m.cuts) []
        (Each-filter (λ u. is_committed other u ≡ true → as_done (undid t m) u ≡ as_done m u) old_doubt m.cuts
        (Each-all (λ u. old_doubt u ≡ true → is_committed other u ≡ true → as_done (undid t m) u ≡ as_done m u)
        (λ u doubt is. done-same u doubt) m.cuts)) tt))

or-false : (b : Bool) → (b || false) ≡ b
or-false true = refl
or-false false = refl

-- a record that fails a test lets it find what it found
pub any-push : (test : Rec → Bool) (xs : List Rec) (y : Rec) → test y ≡ false → list_any test (xs ++ y ∷ []) ≡ list_any test xs
any-push test xs y off = list_any-append test xs (y ∷ []) ∙ ap (λ (b : Bool). list_any test xs || (b || false)) off
    ∙ or-false (list_any test xs)

-- ---- the devices

-- the devices as coherence sees them while the log is settled, and this fall is due
abbrev pub acting_base : rig.DeviceImages → (leaves : Outcomes) → Logs → Parts → (ℕ → Bool) → Option (ℕ × ℕ) → Base (may_of leaves)
acting_base seen leaves logs c marks due = record (base_of seen leaves logs c) { loose = marks; due = due }

-- Instance a undoes the record, and no life or claim of the serial table changes.
module _ (a : ℕ) (t : TxnId) (x : Transaction) (o : OpenRec) (image : Page) (log : LogState) (pool : Buffers) (table : Transactions)
    (places : DirectoryState Page) (due : Option (ℕ × ℕ)) (seen : rig.DeviceImages) (leaves : Outcomes) (logs logs' : Logs) (c : Parts)
    (m : State) (part' : TxnId → Part) (top : Rec) (below : List Rec) (a_low : 1 ≤ a) (a_high : a ≤ 8)
    (w : HasTop a t x o image c) (d : IsUndone a t x o image log pool table places c) (pools : length c.pools ≡ 8)
    (lives : (u : TxnId) → (part' u).life ≡ (m.part u).life) (claims_stay : (u : TxnId) → (part' u).claims ≡ (m.part u).claims)
    (tables : (one other : ℕ → List Rec) → ((u : TxnId) → is_committed one u ≡ is_committed other u) → (p s : ℕ)
    → values (record m { part = part' }) Pending.Idle one p s ≡ values m Pending.Idle other p s)
    (h : Half seen leaves logs Pending.Idle c m) (marks : ℕ → Bool) (marks_are : (j : ℕ) → 1 ≤ j → is_loose c j ≡ marks j)
    (acting : Coherent (acting_base seen leaves logs c marks due) (dir_of c))
    (acts : Acts (acting_base seen leaves logs c marks due) a (home t)) (reads : leaves (home t) (seen (home t)))
    (stands : (bytes : List ℕ) → leaves (home t) bytes → StandsOn (logs (home t)) bytes)
    (one : logs (home t) ≡ log_at c (home t)) (here : logs' (home t) ≡ log) (elsewhere : (j : ℕ) → j ≢ home t → logs' j ≡ logs j)
    (undo_there : IsUndo (flat (clr_at t x o image c)) top below (all_at (log_at c (home t))))
    (lows : (k : Begun) → check_at c (home t) ≡ Some k → (low_of k) ≤ last_lsn (scanned (log_at c (home t)))) where
  abbrev i : ℕ
  i = home t

  abbrev new : Parts
  new = with_undone_by a i log pool table places due c

  abbrev then_m : State
  then_m = record m { part = part' }

  abbrev r : Record
  r = clr_at t x o image c

  abbrev y : Rec
  y = flat r

  abbrev b : Base (may_of leaves)
  b = base_of seen leaves logs c

  abbrev b' : Base (may_of leaves)
  b' = base_of seen leaves logs' new

  abbrev b0 : Base (may_of leaves)
  b0 = acting_base seen leaves logs c marks due

  undo : IsUndo y top below (all_at (logs i))
  undo = subst (λ (l : LogState). IsUndo y top below (all_at l)) (sym one) undo_there

  appended : logs' i ≡ with_record r d.spare (logs i)
  appended = here ∙ d.grown ∙ ap (with_record r d.spare) (sym one)

  at : ReplacesLog i (with_record r d.spare (logs i)) logs logs'
  at = record { low = w.low; high = w.high; here = appended; others = elsewhere }

  bases : (j : ℕ) → base_at (logs' j) ≡ base_at (logs j)
  bases j = ⊎_elim
      (λ e. subst (λ (k : ℕ). base_at (logs' k) ≡ base_at (logs k)) (sym e) (ap base_at appended))
      (λ ne. ap base_at (elsewhere j ne))
      (cases_eq j i)

  grows : Grows i y (tails_of logs) (tails_of logs')
  grows = let high = w.high in record {
    inside = omega (arith, high);
    here = ap tail_at appended ∙ map_push flat (logs i).tail r;
    others = λ j ne. ap tail_at (elsewhere j ne);
    base = bases;
  }

  rises : image.lsn < y.lsn
  rises = omega arith

  may_undo : images.MayUndo i (tails_of logs) (newest_version b) y top below
  may_undo = undo-may_come (may_of leaves) a i image y top below b0 (dir_of c) acting w.held acts w.copy rises undo

  named : IsRedone (may_of leaves) i y (tails_of logs') (disk_page (seen 0)) b.version
  named = undo-named (may_of leaves) (may_of leaves) i y top below b (dir_of c) (tails_of logs') (disk_page (seen 0)) h.coherent
      (record { grows = grows; own = λ e. refl }) may_undo (λ p v l. l) h.coherent.reads

  pool-here : pool_at new a ≡ pool
  pool-here = item-set no_pool c.pools a pool a_low a_high pools

  pool-else : (k : ℕ) → k ≢ a → pool_at new k ≡ pool_at c k
  pool-else = item-kept no_pool c.pools a pool a_low

  coherent : Coherent b' (dir_of new)
  coherent = change-keeps (may_of leaves) (may_of leaves) a i image y b0 b' (dir_of c) (dir_of new) acting (record {
    held = w.held;
    copy = w.copy;
    rises = rises;
    acts = acts;
    low = w.low;
    grows = grows;
    redone = named.redone;
    safe = named.safe;
    reads = h.coherent.reads;
    entry = d.entry;
    redone_copy = record {
      here = ap (λ (p : Buffers). buffers.image_at p o.rid.page) pool-here ∙ d.page;
      others = λ k ne. ap (λ (p : Buffers). buffers.image_at p o.rid.page) (pool-else k ne);
    };
    moving = d.images o.rid.page;
    others = record {
      entries = d.other_entries;
      pools = λ k q ne. ⊎_elim
          (λ e. subst (λ (j : ℕ). buffers.image_at (pool_at new j) q ≡ buffers.image_at (pool_at c j) q) (sym e)
          (ap (λ (p : Buffers). buffers.image_at p q) pool-here ∙ d.other_pages q ne))
          (λ nk. ap (λ (p : Buffers). buffers.image_at p q) (pool-else k nk))
          (cases_eq k a);
      moving = λ q ne. d.images q;
    };
    rec_lsn = d.rec_lsn;
    other_rec = d.other_rec_lsns;
    stays = record {
      less = λ p v l. l;
      disk = λ p. refl;
      loose = marks_are;
      loose_disk = refl;
      active = λ j. refl;
      up = λ j. refl;
      due = refl;
    };
  })

  -- the image is the newest version wherever log i has its tail: no other tail has a record of the page
  newest : sound.IsNewestAt i b.version o.rid.page image
  newest keeps kept = newest-cut keeps i o.rid.page (with_disk (tails_of logs) (disk_page (seen 0))) kept
      (lone (may_of leaves) a i o.rid.page b0 (dir_of c) acting w.held acts)
      ∙ sym (held-now a o.rid.page image b (dir_of c) h.coherent w.copy)

  soundly : IsSoundly leaves logs'
  soundly = undo-keeps leaves i r logs logs' b.version image h.soundly
      (record { spare = d.spare; log = at; settled = stands; could = (seen i, reads) })
      (record { kind = undo.kind; follows = undo.follows; top = top; below = below; stack = undo.stack })
      (ap (λ (l : LogState). next_lsn l image.lsn) (sym one)) h.coherent.safe
      (ap₂ (λ (xs ys : List Rec). xs ++ ys) h.coherent.eight.0 h.coherent.eight.1)
      (let read = h.coherent.reads 0 in (read.0, read.1)) newest

  -- ---- the logs with the tails that are kept

  abbrev all : List Rec
  all = all_at (logs i)

  abbrev whole : List Rec
  whole = all ++ y ∷ []

  abbrev old_kept : Keeps → ℕ → List Rec
  old_kept = kept_logs (tails_of logs)

  abbrev new_kept : Keeps → ℕ → List Rec
  new_kept = kept_logs (tails_of logs')

  -- log i has all its records, and now the new one
  pub record HasMore (keeps : Keeps) (j : ℕ) : Type 0 where
    pub is_i : j ≡ i
    pub was : old_kept keeps j ≡ all
    pub is : new_kept keeps j ≡ whole

  either-kept : (keeps : Keeps) (j : ℕ) → (new_kept keeps j ≡ old_kept keeps j) ⊎ HasMore keeps j
  either-kept keeps j = ⊎_elim
      (λ e. ⊎_elim
      (λ kept. inr (record {
        is_i = e;
        was = ap (old_kept keeps) e ∙ kept-old i logs logs' r d.spare at keeps kept;
        is = ap (new_kept keeps) e ∙ kept-with i logs logs' r d.spare at keeps kept;
      }))
      (λ dropped. inl (kept-without i logs logs' r d.spare at keeps dropped j))
      (cases_Bool (keeps i)))
      (λ ne. inl (kept-elsewhere i logs logs' r d.spare at keeps j ne))
      (cases_eq j i)

  -- a test that the new record fails finds what it found
  any-kept : (test : Rec → Bool) → test y ≡ false → (keeps : Keeps) (j : ℕ)
      → list_any test (new_kept keeps j) ≡ list_any test (old_kept keeps j)
  any-kept test off keeps j = ⊎_elim (λ same. ap (list_any test) same)
      (λ more. ap (list_any test) more.is ∙ any-push test all y off ∙ ap (list_any test) (sym more.was))
      (either-kept keeps j)

  table-same : (keeps : Keeps) (p s : ℕ) → values then_m Pending.Idle (new_kept keeps) p s ≡ values m Pending.Idle
      (old_kept keeps) p s
  table-same keeps = tables (new_kept keeps) (old_kept keeps) (λ u. any-kept (commits u) refl keeps (home u))

  gives : Gives (tails_of logs') (may_of leaves) (λ keeps. values then_m Pending.Idle (new_kept keeps))
  gives disk allowed keeps p s = subst (Recovered (cut keeps (with_disk (tails_of logs') disk)) p s) (sym (table-same keeps p s))
      (gives-proofs.undo-gives i y (tails_of logs) (tails_of logs') grows (λ e. refl)
      (may_of leaves) b.version b'.version h.coherent.safe
      top below may_undo named.redone (λ k. values m Pending.Idle (old_kept k)) h.gives disk allowed keeps p s)

  -- ---- claims

  -- the open records of the transaction, and of others
  pub own-stack : stack t whole ≡ below
  own-stack = stack-push t all y ∙ step-own t (stack t all) y refl ∙ ap (λ (xs : List Rec). rest xs) undo.stack

  pub other-stack : (u : TxnId) → u ≢ t → stack u whole ≡ stack u all
  other-stack u ne = stack-push u all y ∙ step-other u (stack u all) y (λ e. ne (sym e))

  pub other-fate : (u : TxnId) → u ≢ t → fate u whole ≡ fate u all
  other-fate u ne = fate-others u all (y ∷ []) (other_of u y (λ e. ne (sym e)), tt)

  -- what is claimed by m is claimed by the new table
  claimed-then : (u : TxnId) (xs : List Rec) → IsClaimed m u xs → IsClaimed then_m u xs
  claimed-then u xs k = record {
    there = λ gone. k.there (sym (lives u) ∙ gone);
    claims = subst (λ (held : Claims). Each (λ z. held (rid_of z) ≡ Claim.Excl) (stack u xs)) (sym (claims_stay u)) k.claims;
  }

  claimed-own : IsClaimed m t all → IsClaimed m t whole
  claimed-own k = record {
    there = k.there;
    claims = subst (Each (λ z. (m.part t).claims (rid_of z) ≡ Claim.Excl)) (sym own-stack)
        (subst (Each (λ z. (m.part t).claims (rid_of z) ≡ Claim.Excl)) undo.stack k.claims).1;
  }

  claimed-other : (u : TxnId) → u ≢ t → IsClaimed m u all → IsClaimed m u whole
  claimed-other u ne k = record {
    there = k.there;
    claims = subst (Each (λ z. (m.part u).claims (rid_of z) ≡ Claim.Excl)) (sym (other-stack u ne)) k.claims;
  }

  open-there : fate t all ≡ Fate.Open
  open-there = open-fate t all undo.follows.alive (stack-there t all below top undo.stack)

  claimed : (keeps : Keeps) (u : TxnId) → IsOpenIn u (new_kept keeps (home u)) → IsClaimed then_m u (new_kept keeps (home u))
  claimed keeps u opens = claimed-then u (new_kept keeps (home u)) (⊎_elim
      (λ same. subst (IsClaimed m u) (sym same) (h.claimed keeps u (subst (IsOpenIn u) same opens)))
      (λ more.
      let was : IsOpenIn u all → IsClaimed m u all = λ o. subst (IsClaimed m u) more.was
      (h.claimed keeps u (subst (IsOpenIn u) (sym more.was) o)) in
      subst (IsClaimed m u) (sym more.is) (⊎_elim
      (λ e. subst (λ (v : TxnId). IsClaimed m v whole) (sym e)
      (claimed-own (subst (λ (v : TxnId). IsClaimed m v all) e (was (subst (λ (v : TxnId). IsOpenIn v all) (sym e) open-there)))))
      (λ ne. claimed-other u ne (was (sym (other-fate u ne) ∙ subst (IsOpenIn u) more.is opens)))
      (cases_txn u t)))
      (either-kept keeps (home u)))

  whole-is : all_at (logs' i) ≡ whole
  whole-is = ap all_at appended ∙ appended-log (logs i) r d.spare

  -- what is open of u in a log is claimed
  abbrev AreClaimed : TxnId → List Rec → Type 0
  AreClaimed u xs = Each (λ z. (m.part u).claims (rid_of z) ≡ Claim.Excl) (stack u xs)

  held-more : (u : TxnId) → AreClaimed u all → AreClaimed u whole
  held-more u was = ⊎_elim
      (λ e. subst (λ (v : TxnId). AreClaimed v whole) (sym e)
      (subst (Each (λ z. (m.part t).claims (rid_of z) ≡ Claim.Excl)) (sym own-stack)
      (subst (Each (λ z. (m.part t).claims (rid_of z) ≡ Claim.Excl)) undo.stack
      (subst (λ (v : TxnId). AreClaimed v all) e was)).1))
      (λ ne. subst (Each (λ z. (m.part u).claims (rid_of z) ≡ Claim.Excl)) (sym (other-stack u ne)) was)
      (cases_txn u t)

  held : (u : TxnId) → IsOpen u (base_at (logs' (home u)))
      → Each (λ z. (then_m.part u).claims (rid_of z) ≡ Claim.Excl) (stack u (all_at (logs' (home u))))
  held u opens =
      let was : AreClaimed u (all_at (logs (home u))) = h.held u (subst (IsOpen u) (bases (home u)) opens) in
      subst (λ (claims : Claims). Each (λ z. claims (rid_of z) ≡ Claim.Excl) (stack u (all_at (logs' (home u)))))
      (sym (claims_stay u)) (⊎_elim
      (λ e. subst (λ (j : ℕ). AreClaimed u (all_at (logs' j))) (sym e) (subst (AreClaimed u) (sym whole-is)
      (held-more u (subst (λ (j : ℕ). AreClaimed u (all_at (logs j))) e was))))
      (λ ne. subst (λ (l : LogState). AreClaimed u (all_at l)) (sym (elsewhere (home u) ne)) was)
      (cases_eq (home u) i))

  -- ---- epochs and checkpoints

  epoch-then : (j epoch : ℕ) → IsEpochOf m Pending.Idle j epoch → IsEpochOf then_m Pending.Idle j epoch
  epoch-then j epoch k = record { low = k.low; high = k.high }

  epochs : (j : ℕ) → 1 ≤ j → j ≤ 8 → (bytes : List ℕ) → leaves j bytes
      → IsEpochOf then_m Pending.Idle j (past_at (master bytes) (logs' j)).epoch
      × IsEpochOf then_m Pending.Idle j (past_at (master bytes) (forced (logs' j))).epoch
  epochs j lo hi bytes left =
      let old = h.epochs j lo hi bytes left in
      let same : ((past_at (master bytes) (logs' j)).epoch ≡ (past_at (master bytes) (logs j)).epoch)
      × ((past_at (master bytes) (forced (logs' j))).epoch ≡ (past_at (master bytes) (forced (logs j))).epoch) = ⊎_elim
      (λ e. subst (λ (k : ℕ). ((past_at (master bytes) (logs' k)).epoch ≡ (past_at (master bytes) (logs k)).epoch)
      × ((past_at (master bytes) (forced (logs' k))).epoch ≡ (past_at (master bytes) (forced (logs k))).epoch)) (sym e) (
        ap (λ (l : LogState). (past_at (master bytes) l).epoch) appended,
        ap (λ (l : LogState). (past_at (master bytes) (forced l)).epoch) appended
            ∙ epoch-others (master bytes) (logs i) r d.spare refl,
      ))
      (λ ne. (
        ap (λ (l : LogState). (past_at (master bytes) l).epoch) (elsewhere j ne),
        ap (λ (l : LogState). (past_at (master bytes) (forced l)).epoch) (elsewhere j ne),
      ))
      (cases_eq j i) in (
        epoch-then j _ (subst (IsEpochOf m Pending.Idle j) (sym same.0) old.0),
        epoch-then j _ (subst (IsEpochOf m Pending.Idle j) (sym same.1) old.1),
      )

  log-else : (j : ℕ) → j ≢ i → images.log (tails_of logs') j ≡ images.log (tails_of logs) j
  log-else j ne = ap all_at (elsewhere j ne)

  lows-there : (g : Begun) → (low_of g) ≤ last_lsn (scanned (log_at c i)) → (low_of g) ≤ y.lsn
  lows-there g low = omega (arith, low)

  checks : (k : ℕ) (g : Begun) → check_at c k ≡ Some g → Covered (low_of g) k b' × Closed (low_of g) k (tails_of logs')
  checks k g is =
      let old = h.checks k g is in
      ⊎_elim
      (λ e.
      let low = lows-there g (lows g (ap (check_at c) (sym e) ∙ is)) in
      subst (λ (j : ℕ). Covered (low_of g) j b' × Closed (low_of g) j (tails_of logs')) (sym e) (
        cover-grows (may_of leaves) (may_of leaves) (low_of g) i y b b' grows (λ p v l. l) low
            (subst (λ (j : ℕ). Covered (low_of g) j b) e old.0),
        close-grows (low_of g) i y (tails_of logs) (tails_of logs') grows low
            (subst (λ (j : ℕ). Closed (low_of g) j (tails_of logs)) e old.1),
      ))
      (λ ne. (
        cover-stays (may_of leaves) (may_of leaves) (low_of g) k b b' (log-else k ne) (λ p v l. l) old.0,
        close-stays (low_of g) k (tails_of logs) (tails_of logs') (bases k) (ap tail_at (elsewhere k ne)) old.1,
      ))
      (cases_eq k i)

  pub half-undone : Half seen leaves logs' Pending.Idle new then_m
  half-undone = record {
    coherent = coherent;
    soundly = soundly;
    gives = gives;
    claimed = claimed;
    held = held;
    epochs = epochs;
    checks = checks;
  }
