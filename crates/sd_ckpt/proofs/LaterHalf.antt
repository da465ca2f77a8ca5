-- What a crash may leave once a log begins at a later place: it stands for the same.
use Rattle.std.proofs.Common.{◌≡◌, ◌≢◌, ◌⊎◌, inl, inr, ⊎_elim, ℕ, ◌≤◌, Bool, true, false, ◌&&◌, ◌||◌, cond, List, [], ◌∷◌, ◌++◌, map, filter, refl, sym, ap, ap₂, ◌∙◌, subst, arith, append-nil}
use Rattle.std.specs.Prelude.{◌↔◌, Option, Some}
use Rattle.std.specs.List.{list_any}
use Rattle.std.proofs.lemmas.Bool.{cases_Bool, cases_eq}
use Rattle.std.proofs.lemmas.List.Folds.{list_any-append}
use Rattle.sd_base.specs.declared.ids.TxnId.{TxnId}
use Rattle.sd_base.specs.Ids.{same_txn}
use Rattle.sd_logrec.specs.Kept.{Whole, master}
use Rattle.sd_chain.specs.Checks.{placed_of}
use Rattle.std.proofs.lemmas.List.{map-append}
use Rattle.sd_logrec.specs.declared.record.Record.{Record}
use Rattle.sd_logrec.specs.View.{Rec, flat}
use Rattle.sd_log.specs.Logs.{LogState, forced}
use Rattle.sd_page.specs.Page.{Page}
use Rattle.sd_model.specs.Acts.{after}
use Rattle.sd_model.specs.State.{State}
use Rattle.sd_model.specs.declared.act.Done.{Done}
use Rattle.sd_model.specs.declared.act.Claim.{Claim}
use Rattle.sd_rig.specs.Devices as rig
use Rattle.sd_chain.specs.Bytes.{disk_page}
use Rattle.sd_chain.specs.Cuts.{cut}
use Rattle.sd_chain.specs.Fates.{Fate, commits, fate}
use Rattle.sd_chain.specs.Storage.{Recovered, Storage}
use Rattle.sd_chain.specs.Images.{Allowed, Gives, Keeps, Shortened, with_disk}
use Rattle.sd_chain.specs.Order.{of_txn}
use Rattle.sd_chain.specs.Records.{Each, IsOpen, Val, ends, home, stack, stack_from}
use Rattle.sd_chain.proofs.Apart.{Recovered-one}
use Rattle.sd_chain.proofs.Fates.{fate-open, open-fate}
use Rattle.sd_chain.proofs.Images as images
use Rattle.sd_chain.proofs.Lists.{Each-append, Each-back, Each-weaker, filter-cons, filter-skip}
use Rattle.sd_chain.proofs.Narrowed.{narrowed-gives}
use Rattle.sd_chain.proofs.Stacks.{stack_from-append}
use Rattle.sd_chain.proofs.StartMoved.{stack_from-none}
use Rattle.sd_chain.proofs.Whose.{ends-off, none_of, stack-none}
use Rattle.sd_chain.specs.Coherent.{Coherent}
use Rattle.sd_chain.specs.Checkpoints.{with_tails}
use Rattle.sd_chain.specs.Named.{IsNamed}
use Rattle.sd_chain.specs.World.{Base}
use Rattle.sd_chain.proofs.Changes.{rest-keeps}
use Rattle.sd_chain.proofs.Checkpoints.{cover-stays, shorten-keeps}
use Rattle.sd_chain.proofs.Closed.{close-stays}
use Rattle.sd_chain.proofs.Named.{may_be-named}
use Rattle.sd_chain.specs.Logs.{LessElsewhere, Logs, Outcomes, ReplacesLog, all_at, base_at, kept_logs, may_of, past_at, records_at, tail_at, tails_of}
use Rattle.sd_chain.specs.Soundly.{IsSoundly}
use Rattle.sd_chain.specs.Starts.{IsShorter}
use Rattle.sd_chain.proofs.Kept.{flat-records, forced-idle, no-tail}
use Rattle.sd_state.specs.Good.{Half, base_of, dir_of}
use Rattle.sd_state.specs.Images.{IsClaimed, IsEpochOf, IsOpenIn}
use Rattle.sd_state.specs.Parts.{low_of, Begun, Parts, check_at}
use Rattle.sd_state.specs.Values.{Pending, as_done, decided, is_committed, is_doubt, rid_of, undecided, values}
use Rattle.sd_ckpt.specs.Readings.{ReadsAlike}

-- ---- who is decided, where nobody in doubt is of the log that changes

filter-head : {A : Type 0} (D P Q : A → Bool) (x : A) (xs : List A) → P x ≡ Q x → filter P (filter D xs) ≡ filter Q (filter D xs)
    → (P x ≡ true) ⊎ (P x ≡ false) → filter P (x ∷ filter D xs) ≡ filter Q (x ∷ filter D xs)
filter-head {A = A} D P Q x xs here rest (inl on) = filter-cons P x (filter D xs) on ∙ ap (λ (r : List A). x ∷ r) rest
    ∙ sym (filter-cons Q x (filter D xs) (sym here ∙ on))
filter-head {A = A} D P Q x xs here rest (inr off) = filter-skip P x (filter D xs) off ∙ rest
    ∙ sym (filter-skip Q x (filter D xs) (sym here ∙ off))

filter-agrees : {A : Type 0} (D P Q : A → Bool) → ((x : A) → D x ≡ true → P x ≡ Q x) → (xs : List A)
    → filter P (filter D xs) ≡ filter Q (filter D xs)
filter-agrees D P Q same [] = refl
filter-agrees D P Q same (x ∷ xs) = let rest = filter-agrees D P Q same xs in ⊎_elim
    (λ is. ap (filter P) (filter-cons D x xs is) ∙ filter-head D P Q x xs (same x is) rest (cases_Bool (P x))
    ∙ sym (ap (filter Q) (filter-cons D x xs is)))
    (λ off. ap (filter P) (filter-skip D x xs off) ∙ rest ∙ sym (ap (filter Q) (filter-skip D x xs off)))
    (cases_Bool (D x))

-- the forced records of a log that has these in front of another's
pub records-base : (gone : List Record) (l l' : LogState) → records_at l ≡ gone ++ records_at l'
    → base_at l ≡ map flat gone ++ base_at l'
records-base gone l l' e = sym (flat-records (placed_of (Whole l.groups l.gate))) ∙ ap (map flat) e
    ∙ map-append flat gone (records_at l')
    ∙ ap (λ (x : List Rec). map flat gone ++ x) (flat-records (placed_of (Whole l'.groups l'.gate)))

-- ---- wherever logs begin: log i begins elsewhere

module _ (i : ℕ) (gone : List Record) (seen : rig.DeviceImages) (leaves leaves' : Outcomes) (logs logs' : Logs) (c : Parts)
    (m : State)
    (low : 1 ≤ i) (high : i ≤ 8) (h : Half seen leaves logs Pending.Idle c m)
    (seen' : rig.DeviceImages) (same_disk : seen' 0 ≡ seen 0)
    (less : LessElsewhere i leaves leaves') (reads : leaves' 0 (seen' 0))
    (at : ReplacesLog i (logs' i) logs logs') (short : IsShorter gone (logs i) (logs' i))
    (s : Shortened i (map flat gone) (tails_of logs) (tails_of logs') (may_of leaves))
    (soundly : IsSoundly leaves' logs')
    (sure : (t : TxnId) → is_doubt (m.part t).life ≡ true → home t ≢ i)
    (epoch : (bytes : List ℕ) → leaves' i bytes → IsEpochOf m Pending.Idle i (past_at (master bytes) (logs' i)).epoch)
    (logs_then : List LogState) (masters_then : List ℕ) (checks_then : List (Option Begun)) (others_then : List (Option ℕ))
    -- a checkpoint of another instance stays begun; so does one of i where no record is gone
    (checks_less : (j : ℕ) (k : Begun)
    → check_at (record c { logs = logs_then; masters = masters_then; checks = checks_then; others = others_then }) j ≡ Some k
    → ((j ≢ i) ⊎ (gone ≡ [])) × (check_at c j ≡ Some k)) where
  abbrev new : Parts
  new = record c { logs = logs_then; masters = masters_then; checks = checks_then; others = others_then }

  may-less : (p : ℕ) (x : Page) → may_of leaves' p x → may_of leaves p x
  may-less p x may = (may.0, less 0 (λ e. omega (arith, e, low)) may.0 may.1, may.2)

  allowed : Allowed (may_of leaves') (disk_page (seen' 0))
  allowed p = (seen' 0, reads, refl)

  abbrev old_base : Base (may_of leaves)
  old_base = base_of seen leaves logs c

  abbrev later_base : Base (may_of leaves)
  later_base = with_tails (tails_of logs') old_base

  abbrev new_base : Base (may_of leaves')
  new_base = base_of seen' leaves' logs' new

  later : Coherent later_base (dir_of c)
  later = shorten-keeps (may_of leaves) i (map flat gone) old_base (dir_of c) (tails_of logs') h.coherent s

  is-named : IsNamed (may_of leaves') (tails_of logs') (disk_page (seen' 0)) old_base.version
  is-named = may_be-named (may_of leaves) (may_of leaves') (tails_of logs') old_base.version
      (disk_page (seen' 0)) later.safe may-less allowed

  coherent : Coherent new_base (dir_of new)
  coherent = rest-keeps (may_of leaves) (may_of leaves') later_base new_base (dir_of c) later (record {
    bases = λ j. refl;
    tails = λ j. refl;
    version = is-named.same;
    safe = is-named.safe;
    reads = allowed;
    rec_lsn = λ p. refl;
    stays = record {
      less = may-less;
      disk = λ p. ap (λ (bytes : List ℕ). disk_page bytes p) same_disk;
      loose = λ j lo. refl;
      loose_disk = refl;
      active = λ j. refl;
      up = λ j. refl;
      due = refl;
    };
  })

  elsewhere : (keeps : Keeps) (j : ℕ) → j ≢ i → kept_logs (tails_of logs') keeps j ≡ kept_logs (tails_of logs) keeps j
  elsewhere keeps j ne = ap (λ (l : LogState). base_at l ++ cond (keeps j) (tail_at l) []) (at.others j ne)

  abbrev is_kept : Logs → Keeps → TxnId → Bool
  is_kept ls keeps t = is_committed (kept_logs (tails_of ls) keeps) t

  kept-same : (keeps : Keeps) (t : TxnId) → is_doubt (m.part t).life ≡ true → is_kept logs' keeps t ≡ is_kept logs keeps t
  kept-same keeps t doubt = ap (list_any (commits t)) (elsewhere keeps (home t) (sure t doubt))

  decided-same : (keeps : Keeps)
      → decided m Pending.Idle (kept_logs (tails_of logs') keeps) ≡ decided m Pending.Idle (kept_logs (tails_of logs) keeps)
  decided-same keeps =
      let doubts : List TxnId = filter (λ t. is_doubt (m.part t).life) m.cuts in
      let bare : undecided m Pending.Idle ≡ doubts = append-nil doubts in
      ap (map (as_done m))
      (ap (filter (is_kept logs' keeps)) bare
      ∙ filter-agrees (λ t. is_doubt (m.part t).life) (is_kept logs' keeps) (is_kept logs keeps) (kept-same keeps) m.cuts
      ∙ sym (ap (filter (is_kept logs keeps)) bare))

  values-same : (keeps : Keeps) (p q : ℕ)
      → values m Pending.Idle (kept_logs (tails_of logs) keeps) p q ≡ values m Pending.Idle (kept_logs (tails_of logs') keeps) p q
  values-same keeps p q = ap (λ (d : List Done). after m.start (m.done ++ d) (record { page = p; slot = q }))
      (sym (decided-same keeps))

  gives : Gives (tails_of logs') (may_of leaves') (λ keeps. values m Pending.Idle (kept_logs (tails_of logs') keeps))
  gives = narrowed-gives (may_of leaves) (may_of leaves') may-less (tails_of logs') _
      (λ disk all keeps p q. subst (Recovered (cut keeps (with_disk (tails_of logs') disk)) p q) (values-same keeps p q)
      (images.shortened-gives i (map flat gone) (tails_of logs) (tails_of logs') (may_of leaves) s
      (λ k. values m Pending.Idle (kept_logs (tails_of logs) k)) h.gives disk all keeps p q))

  -- ---- log i itself
  abbrev front : List Rec
  front = map flat gone

  abbrev left : List Rec
  left = base_at (logs' i)

  pub whole : base_at (logs i) ≡ front ++ left
  whole = records-base gone (logs i) (logs' i) short.records

  bare : (keeps : Keeps) → kept_logs (tails_of logs') keeps i ≡ left
  bare keeps = ap (λ (t : List Record). base_at (logs' i) ++ cond (keeps i) (map flat t) []) short.tail' ∙ no-tail (keeps i) left

  bare-old : (keeps : Keeps) → kept_logs (tails_of logs) keeps i ≡ front ++ left
  bare-old keeps = ap (λ (t : List Record). base_at (logs i) ++ cond (keeps i) (map flat t) []) short.tail
      ∙ no-tail (keeps i) (base_at (logs i)) ∙ whole

  -- who is open in what is left has nothing in front
  none-gone : (t : TxnId) → IsOpen t left → list_any (of_txn t) left ≡ true → Each (λ x. of_txn t x ≡ false) front
  none-gone t opens_still there = ⊎_elim (λ none. none)
      (λ r. ⊎_elim (λ shut. absurd (shut opens_still))
      (λ both. let off = none_of (of_txn t) left both.1 in let on = there in absurd (cc)) r)
      (short.closed t)

  still-open : (t : TxnId) → IsOpen t left → Each (λ x. of_txn t x ≡ false) front → IsOpen t (front ++ left)
  still-open t opens_still none = Each-append (λ x. (ends x.kind && same_txn x.txn t) ≡ false) front left
      (Each-weaker (λ x. of_txn t x ≡ false) (λ x. (ends x.kind && same_txn x.txn t) ≡ false)
      (λ x e. ends-off t x e) front none) opens_still

  same-stack : (t : TxnId) → Each (λ x. of_txn t x ≡ false) front → stack t (front ++ left) ≡ stack t left
  same-stack t none = stack_from-append t [] front left
      ∙ ap (λ (k : List Rec). stack_from t k left) (stack_from-none t [] front none)

  -- what is open from the later place is open from the old one, with the same stack
  pub opens-same : (t : TxnId) → fate t left ≡ Fate.Open
      → (fate t (front ++ left) ≡ Fate.Open) × (stack t (front ++ left) ≡ stack t left)
  opens-same t is =
      let o = fate-open t left is in
      let none = none-gone t o.0 o.1 in (
        open-fate t (front ++ left) (still-open t o.0 none)
            (list_any-append (of_txn t) front left
            ∙ ap (λ (b : Bool). b || list_any (of_txn t) left) (none_of (of_txn t) front none) ∙ o.1),
        same-stack t none,
      )

  -- and the other way
  pub opens-back : (t : TxnId) → fate t (front ++ left) ≡ Fate.Open → fate t left ≡ Fate.Open
  opens-back t is =
      let o = fate-open t (front ++ left) is in
      let opens_still = Each-back (λ x. (ends x.kind && same_txn x.txn t) ≡ false) front left o.0 in
      ⊎_elim
      (λ none. open-fate t left opens_still
      (sym (list_any-append (of_txn t) front left
      ∙ ap (λ (b : Bool). b || list_any (of_txn t) left) (none_of (of_txn t) front none)) ∙ o.1))
      (λ r. ⊎_elim (λ shut. absurd (shut opens_still)) (λ both. absurd (both.0 o.0)) r)
      (short.closed t)

  abbrev are-claimed : TxnId → List Rec → Type 0
  are-claimed t log = Each (λ x. (m.part t).claims (rid_of x) ≡ Claim.Excl) (stack t log)

  claimed-here : (t : TxnId) → home t ≡ i → IsOpenIn t left → IsClaimed m t left
  claimed-here t own is =
      let same = opens-same t is in
      let none : Keeps = λ j. false in
      let old : kept_logs (tails_of logs) none (home t) ≡ front ++ left = ap (kept_logs (tails_of logs) none) own
      ∙ bare-old none in
      let was = subst (IsClaimed m t) old (h.claimed none t (subst (IsOpenIn t) (sym old) same.0)) in
      record {
        there = was.there;
        claims = subst (Each (λ x. (m.part t).claims (rid_of x) ≡ Claim.Excl)) same.1 was.claims;
      }

  claimed : (keeps : Keeps) (t : TxnId) → IsOpenIn t (kept_logs (tails_of logs') keeps (home t))
      → IsClaimed m t (kept_logs (tails_of logs') keeps (home t))
  claimed keeps t is = ⊎_elim
      (λ own. let now : kept_logs (tails_of logs') keeps (home t) ≡ left = ap (kept_logs (tails_of logs') keeps) own
      ∙ bare keeps in
      subst (IsClaimed m t) (sym now) (claimed-here t own (subst (IsOpenIn t) now is)))
      (λ ne. subst (IsClaimed m t) (sym (elsewhere keeps (home t) ne))
      (h.claimed keeps t (subst (IsOpenIn t) (elsewhere keeps (home t) ne) is)))
      (cases_eq (home t) i)

  held-left : (t : TxnId) → home t ≡ i → IsOpen t left → are-claimed t left
  held-left t own opens_still = ⊎_elim
      (λ has. (claimed-here t own (open-fate t left opens_still has)).claims)
      (λ none. subst (Each (λ x. (m.part t).claims (rid_of x) ≡ Claim.Excl)) (sym (stack-none t left none)) tt)
      (cases_Bool (list_any (of_txn t) left))

  all-left : all_at (logs' i) ≡ left
  all-left = ap (λ (t : List Record). left ++ map flat t) short.tail' ∙ append-nil left

  held : (t : TxnId) → IsOpen t (base_at (logs' (home t))) → are-claimed t (all_at (logs' (home t)))
  held t opens = ⊎_elim
      (λ own. subst (are-claimed t) (sym (ap (λ (k : ℕ). all_at (logs' k)) own ∙ all-left))
      (held-left t own (subst (λ (k : ℕ). IsOpen t (base_at (logs' k))) own opens)))
      (λ ne. subst (λ (l : LogState). are-claimed t (all_at l)) (sym (at.others (home t) ne))
      (h.held t (subst (λ (l : LogState). IsOpen t (base_at l)) (at.others (home t) ne) opens)))
      (cases_eq (home t) i)

  abbrev are-epochs : ℕ → List ℕ → LogState → Type 0
  are-epochs j bytes l = IsEpochOf m Pending.Idle j (past_at (master bytes) l).epoch
      × IsEpochOf m Pending.Idle j (past_at (master bytes) (forced l)).epoch

  epochs : (j : ℕ) → 1 ≤ j → j ≤ 8 → (bytes : List ℕ) → leaves' j bytes → are-epochs j bytes (logs' j)
  epochs j lo hi bytes now = ⊎_elim
      (λ e. subst (λ (k : ℕ). are-epochs k bytes (logs' k)) (sym e)
      (let here = epoch bytes (subst (λ (k : ℕ). leaves' k bytes) e now) in (
        here,
        subst (λ (l : LogState). IsEpochOf m Pending.Idle i (past_at (master bytes) l).epoch)
            (sym (forced-idle (logs' i) short.tail')) here,
      )))
      (λ ne. subst (are-epochs j bytes) (sym (at.others j ne)) (h.epochs j lo hi bytes (less j ne bytes now)))
      (cases_eq j i)

  -- the records of a log with a begun checkpoint
  as-before : (k : ℕ) → (k ≢ i) ⊎ (gone ≡ []) → (base_at (logs' k) ≡ base_at (logs k)) × (tail_at (logs' k) ≡ tail_at (logs k))
  as-before k where_ = ⊎_elim
      (λ ne. (ap base_at (at.others k ne), ap tail_at (at.others k ne)))
      (λ none. ⊎_elim
      (λ e. subst (λ (n : ℕ). (base_at (logs' n) ≡ base_at (logs n)) × (tail_at (logs' n) ≡ tail_at (logs n))) (sym e) (
        sym (whole ∙ ap (λ (g : List Record). map flat g ++ left) none),
        ap (map flat) short.tail' ∙ sym (ap (map flat) short.tail),
      ))
      (λ ne. (ap base_at (at.others k ne), ap tail_at (at.others k ne)))
      (cases_eq k i))
      where_

  pub half-later : Half seen' leaves' logs' Pending.Idle new m
  half-later = record {
    coherent = coherent;
    soundly = soundly;
    gives = gives;
    claimed = claimed;
    held = held;
    epochs = epochs;
    checks = λ k b is. let was = checks_less k b is in let old = h.checks k b was.1 in let same = as-before k was.0 in (
      cover-stays (may_of leaves) (may_of leaves') (low_of b) k old_base new_base
          (ap₂ (λ (x y : List Rec). x ++ y) same.0 same.1) may-less old.0,
      close-stays (low_of b) k (tails_of logs) (tails_of logs') same.0 same.1 old.1,
    );
  }

  -- ---- what is read from the later place

  abbrev reading_old : Keeps → Storage
  reading_old keeps = cut keeps (with_disk (tails_of logs) (disk_page (seen 0)))

  abbrev reading_new : Keeps → Storage
  reading_new keeps = cut keeps (with_disk (tails_of logs') (disk_page (seen' 0)))

  -- what is kept of the log of t, where that is log i and where it isn't
  by-home : (keeps : Keeps) (t : TxnId) (P : List Rec → List Rec → Type 0) → P (front ++ left) left
      → ((log : List Rec) → P log log) → P ((reading_old keeps).logs (home t)) ((reading_new keeps).logs (home t))
  by-home keeps t P here else = ⊎_elim
      (λ own. subst (λ (j : ℕ). P (kept_logs (tails_of logs) keeps j) (kept_logs (tails_of logs') keeps j)) (sym own)
      (subst (λ (x : List Rec). P x (kept_logs (tails_of logs') keeps i)) (sym (bare-old keeps))
      (subst (P (front ++ left)) (sym (bare keeps)) here)))
      (λ ne. subst (P (kept_logs (tails_of logs) keeps (home t))) (sym (elsewhere keeps (home t) ne))
      (else (kept_logs (tails_of logs) keeps (home t))))
      (cases_eq (home t) i)

  -- recovery gives the table, and no other value, from either place
  old-is : (keeps : Keeps) (p s : ℕ) (v : Val) → Recovered (reading_old keeps) p s v
      ↔ (v ≡ values m Pending.Idle (kept_logs (tails_of logs) keeps) p s)
  old-is keeps p s v =
      let there = h.gives (disk_page (seen 0)) h.coherent.reads keeps p s in (
        (λ r. Recovered-one (reading_old keeps) (h.coherent.safe.sound (disk_page (seen 0)) h.coherent.reads keeps) p s v _ r there),
        (λ e. subst (Recovered (reading_old keeps) p s) (sym e) there),
      )

  new-is : (keeps : Keeps) (p s : ℕ) (v : Val) → Recovered (reading_new keeps) p s v
      ↔ (v ≡ values m Pending.Idle (kept_logs (tails_of logs') keeps) p s)
  new-is keeps p s v =
      let there = gives (disk_page (seen' 0)) coherent.reads keeps p s in (
        (λ r. Recovered-one (reading_new keeps) (coherent.safe.sound (disk_page (seen' 0)) coherent.reads keeps) p s v _ r there),
        (λ e. subst (Recovered (reading_new keeps) p s) (sym e) there),
      )

  pub alike-later : (keeps : Keeps) → ReadsAlike (reading_old keeps) (reading_new keeps)
  alike-later keeps = record {
    opened = λ t. by-home keeps t (λ a b. (fate t a ≡ Fate.Open) ↔ (fate t b ≡ Fate.Open))
        ((λ e. opens-back t e), (λ e. (opens-same t e).0)) (λ log. ((λ e. e), (λ e. e)));
    stacks = λ t. by-home keeps t (λ a b. fate t a ≡ Fate.Open → stack t a ≡ stack t b)
        (λ e. (opens-same t (opens-back t e)).1) (λ log e. refl);
    pages = λ p. sym (is-named.same keeps p);
    table = λ p s v. (
      (λ r. (new-is keeps p s v).1 ((old-is keeps p s v).0 r ∙ values-same keeps p s)),
      (λ r. (old-is keeps p s v).1 ((new-is keeps p s v).0 r ∙ sym (values-same keeps p s))),
    );
  }
