-- A record of no page comes to a log: how pages and sums go on fitting. For the calls that put a Commit, an End, a Start or a
-- record of a checkpoint.
use Rattle.std.proofs.Common.{◌≡◌, ◌≢◌, ⊎_elim, ℕ, zero, suc, eqb, ◌+◌, ◌-◌, ◌≤◌, Bool, true, false, cond, ◌&&◌, ◌||◌, List, [], ◌∷◌, ◌++◌, length, max, slice_set, append-nil, refl, sym, ap, ◌∙◌, subst, arith}
use Rattle.std.specs.Prelude.{None, filter, map}
use Rattle.std.specs.List.{list_any}
use Rattle.std.specs.Option.{option_map_or}
use Rattle.std.proofs.lemmas.Bool.{cases_Bool, cases_eq}
use Rattle.std.proofs.lemmas.List.{length-append, map-append}
use Rattle.std.proofs.lemmas.List.Elements.{filter-append}
use Rattle.std.proofs.lemmas.List.Folds.{list_any-append}
use Rattle.sd_log.specs.Logs.{LogState, begun_at, forced, forced_with, last_lsn, scanned, tail_len, with_record}
use Rattle.sd_log.proofs.Parted.{spelled-more}
use Rattle.sd_logrec.specs.Kept.{spelled}
use Rattle.sd_logrec.specs.Spelling.{spelling}
use Rattle.sd_logrec.specs.View.{Rec, flat}
use Rattle.sd_logrec.specs.declared.record.Record.{Record}
use Rattle.sd_page.specs.Page.{Page}
use Rattle.sd_base.specs.declared.ids.TxnId.{TxnId}
use Rattle.sd_base.proofs.SameIds.{cases_txn}
use Rattle.sd_model.specs.Acts.{live}
use Rattle.sd_model.specs.State.{Part, State}
use Rattle.sd_model.specs.declared.act.Life.{Life}
use Rattle.sd_model.proofs.Moves.{doubted, in_doubt}
use Rattle.sd_model.proofs.Views.{part-elsewhere, part-here}
use Rattle.sd_rig.specs.Devices as rig
use Rattle.sd_txn.specs.Owing.{owed_of}
use Rattle.sd_txn.specs.Transactions.{Transactions}
use Rattle.sd_chain.specs.Bytes.{disk_page}
use Rattle.sd_chain.specs.Checks.{reserve}
use Rattle.sd_chain.specs.Cuts.{cut}
use Rattle.sd_chain.specs.Fates.{commits}
use Rattle.sd_chain.specs.Images.{Keeps, all_kept, with_disk}
use Rattle.sd_chain.specs.Records.{IsOpen, changes, home, of_page, stack}
use Rattle.sd_chain.proofs.Cuts.{newest-by_page}
use Rattle.sd_chain.proofs.Fates.{open-endless}
use Rattle.sd_chain.proofs.Lists.{filter-skip}
use Rattle.sd_chain.specs.Named.{version_of}
use Rattle.sd_chain.specs.Logs.{Logs, Outcomes, all_at, base_at, kept_logs, next_lsn, tail_at, tails_of}
use Rattle.sd_chain.proofs.Appends.{appended-log}
use Rattle.sd_chain.proofs.Kept.{forced-gate}
use Rattle.sd_state.specs.Good.{Good}
use Rattle.sd_state.specs.Images.{log_by}
use Rattle.sd_state.specs.Parts.{Parts, among, is_loose, log_at, no_log, no_txns, other_at, owed_at, status_at, txns_at}
use Rattle.sd_state.specs.Sums.{great_of, most_to, owed_in_all, owes_most}
use Rattle.sd_state.specs.Tables.{tells_log}
use Rattle.sd_state.specs.Values.{Pending, is_committed, is_doubt, put_of}
use Rattle.sd_state.proofs.Items.{item-kept, item-set}
use Rattle.sd_state.proofs.Lasts.{last-more}
use Rattle.sd_state.proofs.Standing.{one-place}
use Rattle.sd_world.specs.Bounds.{Bounds}
use Rattle.sd_world.specs.Pages.{Pages}
use Rattle.sd_fits.specs.Fits.{AreAtLeast, AreWithin, FitsBounds, FitsDoubts, FitsPages, HaveSlots, ReachesAtMost, capacities}
use Rattle.sd_fits.proofs.Doubts.{commits-more, doubts-on, placed-slots, same-doubts, slots-kept}
use Rattle.sd_moves.proofs.FallBounds.{sum-less}

-- ---- one record more in a tail

-- of a page it has what it had
none-more : (p : ℕ) (base tail : List Rec) (x : Rec) → of_page p x ≡ false → (kept : Bool)
    → filter (of_page p) (base ++ cond kept (tail ++ x ∷ []) []) ≡ filter (of_page p) (base ++ cond kept tail [])
none-more p base tail x none false = refl
none-more p base tail x none true =
    filter-append (of_page p) base (tail ++ x ∷ [])
    ∙ ap (λ (l : List Rec). filter (of_page p) base ++ l)
    (filter-append (of_page p) tail (x ∷ []) ∙ ap (λ (l : List Rec). filter (of_page p) tail ++ l) (filter-skip (of_page p) x [] none)
    ∙ append-nil (filter (of_page p) tail))
    ∙ sym (filter-append (of_page p) base tail)

-- the next gate is further by no more than the record and a group's head
pub gate-more : (l : LogState) (y : Record) (spare : ℕ) → (forced (with_record y spare l)).gate ≤ (forced l).gate + 5 + length (spelling y)
gate-more l y spare =
    let more : tail_len (with_record y spare l) ≡ tail_len l + length (spelling y) =
    ap length (spelled-more l.tail y) ∙ length-append (spelled l.tail) (spelling y) in
    let gate = pushed l.tail in
    let own = forced-gate l in
    omega (arith, more, gate, own)
  where
    pushed : (tail : List Record) → (forced_with (with_record y spare l) (tail ++ y ∷ [])).gate ≡ l.gate + 5 + tail_len (with_record y spare l)
    pushed [] = refl
    pushed (r ∷ rs) = refl

-- what a log owes at most doesn't grow with its table
pub owes-less : (loose tells : Bool) (was told told' : ℕ) → told' ≤ told
    → cond loose was (cond tells (max was told') was) ≤ cond loose was (cond tells (max was told) was)
owes-less true tells was told told' less = omega arith
owes-less false true was told told' less = omega arith
owes-less false false was told told' less = omega arith

-- ---- the complex with it

-- Sums to which log i's may grow by so many bytes, and LSNs by one.
pub record AreMore (i extra : ℕ) (b b' : Bounds) : Type 0 where
  pub slots : (p : ℕ) → b'.slots p ≡ b.slots p
  pub least : (p : ℕ) → b'.least p ≡ b.least p
  pub here : b.reach i + extra ≤ b'.reach i
  pub reach : (j : ℕ) → b.reach j ≤ b'.reach j
  pub lsns : b.lsns + 1 ≤ b'.lsns
  pub masters : (j : ℕ) → b.masters j ≤ b'.masters j

pub up-to : (a b c : ℕ) → a ≤ b → b ≤ c → a ≤ c
up-to a b c f g = omega arith

most-more : (f g : ℕ → ℕ) (n : ℕ) → ((j : ℕ) → 1 ≤ j → j ≤ n → f j ≤ g j + 1) → most_to f n ≤ most_to g n + 1
most-more f g zero more = omega arith
most-more f g (suc n) more =
    let ih = most-more f g n (λ j low high. more j low (omega (arith, high))) in
    let last = more (suc n) (omega arith) (omega arith) in
    omega (arith, ih, last)

-- Log i, which is settled, has the record of the next LSN and of no page; no table owes more; and the ends that are owed take
-- no more bytes with the record than without it, but for the extra ones.
module _ (i spare extra : ℕ) (y : Record) (txns : List Transactions) (epochs : List ℕ) (seen : rig.DeviceImages) (leaves : Outcomes) (pend : Pending)
    (c : Parts) (m : State) (g : Good seen leaves pend c m) (low : 1 ≤ i) (high : i ≤ 8) (settled : is_loose c i ≡ false)
    (quiet : changes (flat y).kind ≡ false) (next : (flat y).lsn ≡ next_lsn (log_at c i) 0)
    (takes : reserve (all_at (log_at c i) ++ flat y ∷ []) + length (spelling y) + 5 ≤ reserve (all_at (log_at c i)) + extra)
    (owes : (j : ℕ) → 1 ≤ j → j ≤ 8 → owed_of (among no_txns txns j) ≤ owed_of (txns_at c j)) where
  abbrev log : LogState
  log = log_at c i

  abbrev new : Parts
  new = record c { logs = slice_set c.logs (i - 1) (with_record y spare log); txns = txns; epochs = epochs }

  here : log_at new i ≡ with_record y spare log
  here = item-set no_log c.logs i (with_record y spare log) low high g.shape.logs

  elsewhere : (j : ℕ) → j ≢ i → log_at new j ≡ log_at c j
  elsewhere j ne = item-kept no_log c.logs i (with_record y spare log) low j ne

  begins-once : other_at c i ≡ None
  begins-once = (g.settled i low high settled).one_place

  here-by : (moved : Keeps) → log_by new moved i ≡ with_record y spare (log_by c moved i)
  here-by moved = one-place new moved i begins-once ∙ here ∙ sym (ap (with_record y spare) (one-place c moved i begins-once))

  else-by : (moved : Keeps) (j : ℕ) → j ≢ i → log_by new moved j ≡ log_by c moved j
  else-by moved j ne = ap (λ (l : LogState). cond (moved j) (option_map_or (λ place. begun_at place l) (other_at c j) l) l) (elsewhere j ne)

  -- the versions of pages don't see the record
  version-same : (logs logs' : Logs) → logs' i ≡ with_record y spare (logs i) → ((j : ℕ) → j ≢ i → logs' j ≡ logs j)
      → (disk : ℕ → Page) (keeps : Keeps) (p : ℕ) → version_of (tails_of logs') disk keeps p ≡ version_of (tails_of logs) disk keeps p
  version-same logs logs' own others disk keeps p =
      newest-by_page p (cut keeps (with_disk (tails_of logs) disk)) (cut keeps (with_disk (tails_of logs') disk))
      (λ j. ⊎_elim
      (λ e. subst (λ (k : ℕ). filter (of_page p) (kept_logs (tails_of logs') keeps k) ≡ filter (of_page p) (kept_logs (tails_of logs) keeps k)) (sym e)
      (ap (λ (l : LogState). filter (of_page p) (base_at l ++ cond (keeps i) (tail_at l) [])) own
      ∙ ap (λ (t : List Rec). filter (of_page p) (base_at (logs i) ++ cond (keeps i) t [])) (map-append flat (logs i).tail (y ∷ []))
      ∙ none-more p (base_at (logs i)) (tail_at (logs i)) (flat y) (ap (λ (b : Bool). b && eqb (flat y).page p) quiet) (keeps i)))
      (λ ne. ap (λ (l : LogState). filter (of_page p) (base_at l ++ cond (keeps j) (tail_at l) [])) (others j ne))
      (cases_eq j i))
      refl

  pub sealed-pages : (w : Pages) → FitsPages seen leaves c w → FitsPages seen leaves new w
  sealed-pages w f = record {
    frames = f.frames;
    entry = f.entry;
    asks = f.asks;
    number = λ p there. f.number p there
        ∙ sym (ap (λ (x : Page). x.lsn) (version-same (log_at c) (log_at new) here elsewhere (disk_page (seen 0)) all_kept p));
    begun = f.begun;
  }

  reach-here : (n n' : ℕ) → n + extra ≤ n' → ReachesAtMost n log → ReachesAtMost n' (with_record y spare log)
  reach-here n n' more r =
      let r0 = r.0 in
      let r1 = r.1 in
      let gate = gate-more log y spare in
      let whole : reserve (all_at (with_record y spare log)) ≡ reserve (all_at log ++ flat y ∷ []) = ap reserve (appended-log log y spare) in (
        omega (arith, r0, more),
        omega (arith, r1, more, gate, whole, takes),
      )

  reaches : (b b' : Bounds) → AreMore i extra b b' → (moved : Keeps) (j : ℕ) → ReachesAtMost (b.reach j) (log_by c moved j)
      → ReachesAtMost (b'.reach j) (log_by new moved j)
  reaches b b' a moved j r = ⊎_elim
      (λ e. subst (λ (k : ℕ). ReachesAtMost (b'.reach k) (log_by new moved k)) (sym e)
      (subst (ReachesAtMost (b'.reach i)) (sym (one-place new moved i begins-once ∙ here))
      (reach-here (b.reach i) (b'.reach i) a.here (subst (ReachesAtMost (b.reach i)) (one-place c moved i begins-once)
      (subst (λ (k : ℕ). ReachesAtMost (b.reach k) (log_by c moved k)) e r)))))
      (λ ne. subst (ReachesAtMost (b'.reach j)) (sym (else-by moved j ne))
      (up-to _ _ _ r.0 (a.reach j), up-to _ _ _ r.1 (a.reach j)))
      (cases_eq j i)

  last-next : (j : ℕ) → last_lsn (scanned (log_at new j)) ≤ last_lsn (scanned (log_at c j)) + 1
  last-next j = ⊎_elim
      (λ e. subst (λ (k : ℕ). last_lsn (scanned (log_at new k)) ≤ last_lsn (scanned (log_at c k)) + 1) (sym e)
      (let is = ap (λ (l : LogState). last_lsn (scanned l)) here ∙ last-more log y spare ∙ next in omega (arith, is)))
      (λ ne. let same = ap (λ (l : LogState). last_lsn (scanned l)) (elsewhere j ne) in omega (arith, same))
      (cases_eq j i)

  great-next : great_of new ≤ great_of c + 1
  great-next =
      let more = most-more (λ j. last_lsn (scanned (log_at new j))) (λ j. last_lsn (scanned (log_at c j))) 8 (λ j lo hi. last-next j) in
      greatest c.disk_lsn _ _ more
    where
      greatest : (d x z : ℕ) → x ≤ z + 1 → max d x ≤ max d z + 1
      greatest d x z more = omega arith

  pub sealed-bounds : (b b' : Bounds) → AreMore i extra b b' → FitsBounds seen leaves c b → FitsBounds seen leaves new b'
  sealed-bounds b b' a f = record {
    slots = λ moved keeps p. subst (AreWithin _) (sym (a.slots p))
        (subst (λ (x : Page). AreWithin (capacities x) (b.slots p))
        (sym (version-same (log_by c moved) (log_by new moved) (here-by moved) (else-by moved) (disk_page (seen 0)) keeps p))
        (f.slots moved keeps p));
    least = λ moved keeps p. subst (AreAtLeast _) (sym (a.least p))
        (subst (λ (x : Page). AreAtLeast (capacities x) (b.least p))
        (sym (version-same (log_by c moved) (log_by new moved) (here-by moved) (else-by moved) (disk_page (seen 0)) keeps p))
        (f.least moved keeps p));
    reach = λ moved j lo hi. reaches b b' a moved j (f.reach moved j lo hi);
    lsns = let was = f.lsns in let more = a.lsns in let great = great-next in
        let owed = sum-less (owes_most new) (owes_most c) 8
        (λ j lo hi. owes-less (is_loose c j) (tells_log (status_at c j)) (owed_at c j) (owed_of (txns_at c j)) (owed_of (among no_txns txns j)) (owes j lo hi)) in
        all-more (great_of new) (great_of c) (owed_in_all new) (owed_in_all c) b.lsns b'.lsns great owed was more;
    masters = λ j lo hi. up-to _ _ _ (f.masters j lo hi) (a.masters j);
    left_masters = λ j lo hi bytes left. up-to _ _ _ (f.left_masters j lo hi bytes left) (a.masters j);
  }
    where
      all-more : (x g o p n k : ℕ) → x ≤ g + 1 → o ≤ p → g + p ≤ n → n + 1 ≤ k → x + o ≤ k
      all-more x g o p n k great owed was more = omega arith

  -- ---- those in doubt

  -- whoever the record doesn't commit was committed before
  commits-was : (moved keeps : Keeps) (u : TxnId) → commits u (flat y) ≡ false
      → is_committed (kept_logs (tails_of (log_by new moved)) keeps) u ≡ is_committed
      (kept_logs (tails_of (log_by c moved)) keeps) u
  commits-was moved keeps u none = ⊎_elim
      (λ e. subst (λ (j : ℕ). list_any (commits u) (kept_logs (tails_of (log_by new moved)) keeps j)
      ≡ list_any (commits u) (kept_logs (tails_of (log_by c moved)) keeps j)) (sym e)
      (ap (λ (l : LogState). list_any (commits u) (base_at l ++ cond (keeps i) (tail_at l) [])) (here-by moved)
      ∙ ap (λ (t : List Rec). list_any (commits u) (base_at (log_by c moved i) ++ cond (keeps i) t []))
      (map-append flat (log_by c moved i).tail (y ∷ []))
      ∙ commits-more u (base_at (log_by c moved i)) (tail_at (log_by c moved i)) (flat y) (keeps i) none))
      (λ ne. ap (λ (l : LogState). list_any (commits u) (base_at l ++ cond (keeps (home u)) (tail_at l) []))
      (else-by moved (home u) ne))
      (cases_eq (home u) i)

  version-by : (moved keeps : Keeps) (p : ℕ) → version_of (tails_of (log_by new moved)) (disk_page (seen 0)) keeps p
      ≡ version_of (tails_of (log_by c moved)) (disk_page (seen 0)) keeps p
  version-by moved keeps p = version-same (log_by c moved) (log_by new moved) (here-by moved) (else-by moved)
      (disk_page (seen 0)) keeps p

  slots-by : (moved keeps : Keeps) (p : ℕ) → length (version_of (tails_of (log_by c moved)) (disk_page (seen 0)) keeps p).slots
      ≤ length (version_of (tails_of (log_by new moved)) (disk_page (seen 0)) keeps p).slots
  slots-by moved keeps p = let same = ap (λ (x : Page). length x.slots) (version-by moved keeps p) in omega (arith, same)

  pub sealed-doubts : (s : State) → ((u : TxnId) → is_doubt (s.part u).life ≡ true → commits u (flat y) ≡ false)
      → FitsDoubts seen c s
      → FitsDoubts seen new s
  sealed-doubts s none d = doubts-on seen seen c new s s d (same-doubts s) (λ moved keeps u doubt has p. record {
    keeps = keeps;
    commits = sym (commits-was moved keeps u (none u doubt)) ∙ has;
    slots = slots-by moved keeps p;
  })

  -- The record is the Commit of t, which is cut: what t put is at slots of its pages.
  module _ (t : TxnId) (own : home t ≡ i) (runs : (m.part t).life ≡ Life.Running) (alive : IsOpen t (all_at log))
      (puts : live (m.part t).acts ≡ map put_of (stack t (all_at log)))
      (others : (u : TxnId) → u ≢ t → commits u (flat y) ≡ false) where
    -- without its tail the log has no Commit of t
    not-dropped : (moved keeps : Keeps) → keeps i ≡ false
        → list_any (commits t) (kept_logs (tails_of (log_by new moved)) keeps (home t)) ≡ true → ⊥
    not-dropped moved keeps off has =
        let front : list_any (commits t) (base_at log) ≡ false = first (list_any (commits t) (base_at log))
        (list_any (commits t) (tail_at log))
        (sym (list_any-append (commits t) (base_at log) (tail_at log)) ∙ (open-endless t (all_at log) alive).0) in
        let is : list_any (commits t) (kept_logs (tails_of (log_by new moved)) keeps (home t)) ≡ list_any (commits t)
        (base_at log) =
        ap (λ (j : ℕ). list_any (commits t) (kept_logs (tails_of (log_by new moved)) keeps j)) own
        ∙ ap (λ (l : LogState). list_any (commits t) (base_at l ++ cond (keeps i) (tail_at l) []))
        (one-place new moved i begins-once ∙ here)
        ∙ ap (λ (b : Bool). list_any (commits t) (base_at log ++ cond b (tail_at (with_record y spare log)) [])) off
        ∙ ap (list_any (commits t)) (append-nil (base_at log)) in
        let clash : true ≡ false = sym has ∙ is ∙ front in absurd (cc)
      where
        first : (a b : Bool) → (a || b) ≡ false → a ≡ false
        first true b e = absurd (cc)
        first false b e = refl

    -- with it t had places before its Commit
    kept-places : (moved keeps : Keeps) → keeps i ≡ true
        → HaveSlots (version_of (tails_of (log_by c moved)) (disk_page (seen 0)) keeps) (live (m.part t).acts)
    kept-places moved keeps on =
        let h = g.half moved in
        let whole : kept_logs (tails_of (log_by c moved)) keeps (home t) ≡ all_at log =
        ap (kept_logs (tails_of (log_by c moved)) keeps) own
        ∙ ap (λ (l : LogState). base_at l ++ cond (keeps i) (tail_at l) []) (one-place c moved i begins-once)
        ∙ ap (λ (b : Bool). base_at log ++ cond b (tail_at log) []) on in
        let places = ((h.coherent.safe.sound (disk_page (seen 0)) h.coherent.reads keeps).stacks t
        (subst (IsOpen t) (sym whole) alive)).places in
        subst (HaveSlots (version_of (tails_of (log_by c moved)) (disk_page (seen 0)) keeps))
        (ap (λ (xs : List Rec). map put_of (stack t xs)) whole ∙ sym puts)
        (placed-slots (version_of (tails_of (log_by c moved)) (disk_page (seen 0)) keeps)
        (stack t (kept_logs (tails_of (log_by c moved)) keeps (home t))) places)

    else : (v : TxnId) → v ≢ t → (doubted t m).part v ≡ m.part v
    else v ne = part-elsewhere (record m { cuts = m.cuts ++ t ∷ [] }) t v (in_doubt (m.part t)) (λ e. ne (sym e))

    others-doubt : (v : TxnId) → is_doubt (m.part v).life ≡ true → commits v (flat y) ≡ false
    others-doubt v is = others v (λ e. let clash = sym is ∙ ap (λ (x : TxnId). is_doubt (m.part x).life) e ∙ ap is_doubt runs in
        absurd (cc))

    module _ (moved keeps : Keeps) where
      abbrev now : ℕ → Page
      now = version_of (tails_of (log_by new moved)) (disk_page (seen 0)) keeps

      abbrev committed_now : TxnId → Type 0
      committed_now v = is_committed (kept_logs (tails_of (log_by new moved)) keeps) v ≡ true

      own-puts : committed_now t → HaveSlots now (live ((doubted t m).part t).acts)
      own-puts is = subst (λ (p : Part). HaveSlots now (live p.acts))
          (sym (part-here (record m { cuts = m.cuts ++ t ∷ [] }) t (in_doubt (m.part t))))
          (⊎_elim
          (λ on. slots-kept (version_of (tails_of (log_by c moved)) (disk_page (seen 0)) keeps) now (slots-by moved keeps)
          (live (m.part t).acts) (kept-places moved keeps on))
          (λ off. absurd (not-dropped moved keeps off is))
          (cases_Bool (keeps i)))

      cut-puts : FitsDoubts seen c m → (u : TxnId) → is_doubt ((doubted t m).part u).life ≡ true → committed_now u
          → HaveSlots now (live ((doubted t m).part u).acts)
      cut-puts d u doubt has = ⊎_elim
          (λ e. subst (λ (v : TxnId). HaveSlots now (live ((doubted t m).part v).acts)) (sym e)
          (own-puts (subst committed_now e has)))
          (λ ne. subst (λ (p : Part). HaveSlots now (live p.acts)) (sym (else u ne))
          (sealed-doubts m others-doubt d moved keeps u (ap (λ (p : Part). is_doubt p.life) (sym (else u ne)) ∙ doubt) has))
          (cases_txn u t)

    pub cut-doubts : FitsDoubts seen c m → FitsDoubts seen new (doubted t m)
    cut-doubts d moved keeps u doubt has = cut-puts moved keeps d u doubt has
