-- A record that changes a page comes to the log of the instance that has the page alone: how pages and sums go on fitting. For
-- changes of records and their undo.
use Rattle.std.proofs.Common.{◌≡◌, ◌≢◌, ◌⊎◌, inl, inr, ⊎_elim, ℕ, zero, suc, ◌+◌, ◌≤◌, Bool, true, false, cond, eq-eqb, ◌&&◌, ◌||◌, List, [], ◌∷◌, ◌++◌, append-nil, length, filter, max, refl, sym, ap, ◌∙◌, subst, arith}
use Rattle.std.specs.Prelude.{None, Some}
use Rattle.std.specs.List.{list_any}
use Rattle.std.specs.Option.{option_map_or}
use Rattle.std.proofs.lemmas.Bool.{cases_Bool, cases_eq, ne_eqb}
use Rattle.std.proofs.lemmas.List.{map-append}
use Rattle.std.proofs.lemmas.List.Folds.{list_any-append}
use Rattle.sd_base.specs.Ids.{same_txn}
use Rattle.sd_base.specs.declared.ids.TxnId.{TxnId}
use Rattle.sd_base.specs.declared.place.Status.TheVariants as S
use Rattle.sd_logrec.specs.View.{Rec, flat}
use Rattle.sd_logrec.specs.declared.record.Record.{Record}
use Rattle.sd_log.specs.Logs.{LogState, begun_at, last_lsn, scanned, with_record}
use Rattle.sd_model.specs.State.{State}
use Rattle.sd_page.specs.Page.{Page}
use Rattle.sd_pagelock.specs.Asks.{open_asks}
use Rattle.sd_pagelock.specs.Directory.{DirectoryState, asks_at, entry_at}
use Rattle.sd_pagelock.specs.Places.{PageEntry, is_lost}
use Rattle.sd_pagelock.specs.Rows.{dirtied}
use Rattle.sd_pool.specs.Buffers.{Buffers, image_at}
use Rattle.sd_rig.specs.Devices.{DeviceImages}
use Rattle.sd_txn.specs.Transactions.{OthersStay, Transactions, txn_at}
use Rattle.sd_chain.specs.Bytes.{disk_page}
use Rattle.sd_chain.specs.Cuts.{cut}
use Rattle.sd_chain.specs.Fates.{commits}
use Rattle.sd_chain.specs.Images.{Keeps, Tails, all_kept, with_disk}
use Rattle.sd_chain.specs.Pages.{redo}
use Rattle.sd_chain.specs.Records.{IsOpen, ends, home, of_page}
use Rattle.sd_chain.proofs.Cuts.{newest-by_page}
use Rattle.sd_chain.proofs.Lists.{Each-weaker}
use Rattle.sd_chain.proofs.Newest.{newest-other}
use Rattle.sd_chain.proofs.Slots.{length-write}
use Rattle.sd_chain.specs.Coherent.{Quiet}
use Rattle.sd_chain.specs.Named.{version_of}
use Rattle.sd_chain.proofs.Cases.{by_seat, none_some}
use Rattle.sd_chain.proofs.Changes.{held-now}
use Rattle.sd_chain.proofs.OneUpdater.{tails-agree}
use Rattle.sd_chain.specs.Logs.{Outcomes, all_at, base_at, kept_logs, may_of, next_lsn, tail_at, tails_of}
use Rattle.sd_chain.proofs.Appends.{appended-log}
use Rattle.sd_world.specs.Bounds.{Bounds}
use Rattle.sd_world.specs.Pages.{Pages, numbered, page_placed, put}
use Rattle.sd_world.specs.Serving.{Core}
use Rattle.sd_update.specs.Changing.{with_changed}
use Rattle.sd_state.specs.Good.{Good, Half, base_of, dir_of}
use Rattle.sd_state.specs.Images.{leaves_by, log_by}
use Rattle.sd_state.specs.Laws.{newest_of}
use Rattle.sd_state.specs.Parts.{Parts, is_loose, log_at, no_log, no_pool, no_txns, other_at, pool_at, status_at, txns_at, up_as}
use Rattle.sd_state.specs.Sums.{great_of, most_to, owed_in_all}
use Rattle.sd_state.specs.Values.{Pending, is_committed}
use Rattle.sd_state.proofs.Summed.{most-at}
use Rattle.sd_update.proofs.ChangedRows.{open-more}
use Rattle.sd_update.proofs.ChangeLsns.{image-low}
use Rattle.sd_state.proofs.Items.{item-kept, item-set}
use Rattle.sd_state.proofs.Lasts.{last-more}
use Rattle.sd_state.proofs.Standing.{one-place}
use Rattle.sd_fits.specs.Fits.{AreAtLeast, AreWithin, Fits, FitsBounds, FitsDoubts, FitsPages, ReachesAtMost, capacities}
use Rattle.sd_fits.proofs.Doubts.{DoubtsStay, HadCommit, commits-more, doubts-on}

-- who is committed without a tail is it with it
front-commits : (u : TxnId) (base tail : List Rec) (kept : Bool) → list_any (commits u) (base ++ cond kept tail []) ≡ true
    → list_any (commits u) (base ++ tail) ≡ true
front-commits u base tail true has = has
front-commits u base tail false has = list_any-append (commits u) base tail
    ∙ front (list_any (commits u) base) (list_any (commits u) tail) (ap (list_any (commits u)) (sym (append-nil base)) ∙ has)
  where
    front : (a b : Bool) → a ≡ true → (a || b) ≡ true
    front true b e = refl
    front false b e = absurd (cc)

pub most-within : (f : ℕ → ℕ) (n top : ℕ) → ((j : ℕ) → 1 ≤ j → j ≤ n → f j ≤ top) → most_to f n ≤ top
most-within f zero top le = omega arith
most-within f (suc n) top le =
    let ih = most-within f n top (λ j low high. le j low (omega (arith, high))) in
    let last = le (suc n) (omega arith) (omega arith) in
    omega (arith, ih, last)

-- What is known of it: instance i, which is up, has the record at the end of its log; its pool has the page of the record redone, of
-- which it had this copy; and the directory has the page as changed. The record ends nobody. Of the table nothing is said.
pub record Records (i : ℕ) (rec : Record) (image : Page) (pool : Buffers) (places : DirectoryState Page) (c : Parts) : Type 0 where
  pub low : 1 ≤ i
  pub high : i ≤ 8
  pub idle : c.due ≡ None
  pub up : status_at c i ≡ S.Up
  pub lsn : (flat rec).lsn ≡ next_lsn (log_at c i) image.lsn
  pub endless : ends (flat rec).kind ≡ false
  pub commits : (u : TxnId) → commits u (flat rec) ≡ false
  pub copy : image_at (pool_at c i) (flat rec).page ≡ Some image
  pub page : image_at pool (flat rec).page ≡ Some (redo image (flat rec))
  pub frames : pool.frames ≡ (pool_at c i).frames
  pub entry : entry_at places (flat rec).page ≡ dirtied i
  pub asks : asks_at places (flat rec).page ≡ open_asks (dirtied i) (asks_at c.directory (flat rec).page)
  pub other_entries : (q : ℕ) → q ≢ (flat rec).page → entry_at places q ≡ entry_at c.directory q
  pub other_asks : (q : ℕ) → q ≢ (flat rec).page → asks_at places q ≡ asks_at c.directory q

module _ (i : ℕ) (rec : Record) (spare : ℕ) (image : Page) (table : Transactions) (pool : Buffers) (places : DirectoryState Page) (seen : DeviceImages)
    (leaves : Outcomes) (c : Parts) (m' : State) (w : Core) (f : Fits seen leaves c w) (r : Records i rec image pool places c) where
  abbrev y : Rec
  y = flat rec

  abbrev p : ℕ
  p = y.page

  abbrev log : LogState
  log = with_record rec spare (log_at c i)

  abbrev new : Parts
  new = with_changed i log table pool places c

  pub settled : is_loose c i ≡ false
  settled = ⊎_elim (λ e. e) (λ due. let e = sym r.idle ∙ due in absurd (cc))
      ((f.good.half (λ j. false)).coherent.ready i r.low (ap up_as r.up))

  pub begins-once : other_at c i ≡ None
  begins-once = (f.good.settled i r.low r.high settled).one_place

  pub log-here : log_at new i ≡ log
  log-here = item-set no_log c.logs i log r.low r.high f.good.shape.logs

  log-else : (j : ℕ) → j ≢ i → log_at new j ≡ log_at c j
  log-else = item-kept no_log c.logs i log r.low

  pub table-here : txns_at new i ≡ table
  table-here = item-set no_txns c.txns i table r.low r.high f.good.shape.txns

  pub table-else : (j : ℕ) → j ≢ i → txns_at new j ≡ txns_at c j
  table-else = item-kept no_txns c.txns i table r.low

  pool-here : pool_at new i ≡ pool
  pool-here = item-set no_pool c.pools i pool r.low r.high f.good.shape.pools

  pool-else : (j : ℕ) → j ≢ i → pool_at new j ≡ pool_at c j
  pool-else = item-kept no_pool c.pools i pool r.low

  here-by : (moved : Keeps) → log_by new moved i ≡ with_record rec spare (log_by c moved i)
  here-by moved = one-place new moved i begins-once ∙ log-here ∙ ap (with_record rec spare) (sym (one-place c moved i begins-once))

  else-by : (moved : Keeps) (j : ℕ) → j ≢ i → log_by new moved j ≡ log_by c moved j
  else-by moved j ne = ap (λ (l : LogState). cond (moved j) (option_map_or (λ place. begun_at place l) (other_at c j) l) l) (log-else j ne)

  module _ (good : Good seen leaves Pending.Idle new m') where
    -- ---- versions of pages

    module _ (moved : Keeps) where
      abbrev left : Outcomes
      left = leaves_by c moved leaves

      abbrev left_then : Outcomes
      left_then = leaves_by new moved leaves

      abbrev was : Tails
      was = tails_of (log_by c moved)

      abbrev is : Tails
      is = tails_of (log_by new moved)

      abbrev disk : ℕ → Page
      disk = disk_page (seen 0)

      h : Half seen left_then (log_by new moved) Pending.Idle new m'
      h = good.half moved

      kept-without : (keeps : Keeps) → keeps i ≡ false → (j : ℕ) → kept_logs is keeps j ≡ kept_logs was keeps j
      kept-without keeps off j = ⊎_elim
          (λ e. subst (λ (n : ℕ). kept_logs is keeps n ≡ kept_logs was keeps n) (sym e)
          (ap (λ (b : Bool). base_at (log_by new moved i) ++ cond b (tail_at (log_by new moved i)) []) off
          ∙ ap (λ (l : LogState). base_at l ++ []) (here-by moved)
          ∙ sym (ap (λ (b : Bool). base_at (log_by c moved i) ++ cond b (tail_at (log_by c moved i)) []) off)))
          (λ ne. ap (λ (l : LogState). base_at l ++ cond (keeps j) (tail_at l) []) (else-by moved j ne))
          (cases_eq j i)

      version-without : (keeps : Keeps) → keeps i ≡ false → (q : ℕ) → version_of is disk keeps q ≡ version_of was disk keeps q
      version-without keeps off q = newest-by_page q (cut keeps (with_disk was disk)) (cut keeps (with_disk is disk))
          (λ j. ap (filter (of_page q)) (kept-without keeps off j)) refl

      kept-with : (keeps : Keeps) → keeps i ≡ true → kept_logs is keeps i ≡ kept_logs was keeps i ++ y ∷ []
      kept-with keeps on = ap (λ (b : Bool). base_at (log_by new moved i) ++ cond b (tail_at (log_by new moved i)) []) on
          ∙ ap all_at (here-by moved) ∙ appended-log (log_by c moved i) rec spare
          ∙ sym (ap (λ (b : Bool). (base_at (log_by c moved i) ++ cond b (tail_at (log_by c moved i)) []) ++ y ∷ []) on)

      version-else : (keeps : Keeps) → keeps i ≡ true → (q : ℕ) → q ≢ p → version_of is disk keeps q ≡ version_of was disk keeps q
      version-else keeps on q ne = newest-other i y (cut keeps (with_disk was disk)) (cut keeps (with_disk is disk)) (record {
        inside = let high = r.high in omega (arith, high);
        here = kept-with keeps on;
        others = λ j off. ap (λ (l : LogState). base_at l ++ cond (keeps j) (tail_at l) []) (else-by moved j off);
        disk = λ q. refl;
      }) q ne

      -- the copy is the newest version, before it and after it
      pub image-is : image ≡ version_of was disk all_kept p
      image-is = held-now i p image (base_of seen left (log_by c moved) c) (dir_of c) (f.good.half moved).coherent r.copy

      redone-is : redo image y ≡ version_of is disk all_kept p
      redone-is = held-now i p (redo image y) (base_of seen left_then (log_by new moved) new) (dir_of new) h.coherent
          (ap (λ (b : Buffers). image_at b p) pool-here ∙ r.page)

      lone : (keeps : Keeps) → keeps i ≡ true → (j : ℕ) → (keeps j ≡ all_kept j) ⊎ Quiet p (is.tail j)
      lone keeps on j = ⊎_elim
          (λ e. inl (ap keeps e ∙ on))
          (λ ne. inr (⊎_elim (λ q. q)
          (by_seat (base_of seen left_then (log_by new moved) new) (entry_at places p) j (Quiet p (is.tail j))
          (λ own at. let e = sym r.entry ∙ at in absurd (ne (excl-same j e)))
          (λ loose lost. let e = sym r.entry ∙ lost in absurd (cc))
          (λ a due at. none_some r.idle due))
          (h.coherent.unforced j p)))
          (cases_eq j i)
        where
          excl-same : (n : ℕ) → PageEntry.Excl i true ≡ PageEntry.Excl n true → n ≡ i
          excl-same n e = cc

      version-redone : (keeps : Keeps) → keeps i ≡ true → version_of is disk keeps p ≡ redo image y
      version-redone keeps on = tails-agree (may_of left_then) (base_of seen left_then (log_by new moved) new) (dir_of new) h.coherent keeps all_kept p
          (lone keeps on) ∙ sym redone-is

      -- ---- those in doubt

      -- the record commits nobody
      commits-was : (keeps : Keeps) (u : TxnId) → is_committed (kept_logs is keeps) u ≡ is_committed (kept_logs was keeps) u
      commits-was keeps u = ⊎_elim
          (λ e. subst (λ (j : ℕ). list_any (commits u) (kept_logs is keeps j) ≡ list_any (commits u) (kept_logs was keeps j))
          (sym e)
          (ap (λ (l : LogState). list_any (commits u) (base_at l ++ cond (keeps i) (tail_at l) [])) (here-by moved)
          ∙ ap (λ (t : List Rec). list_any (commits u) (base_at (log_by c moved i) ++ cond (keeps i) t []))
          (map-append flat (log_by c moved i).tail (rec ∷ []))
          ∙ commits-more u (base_at (log_by c moved i)) (tail_at (log_by c moved i)) y (keeps i) (r.commits u)))
          (λ ne. ap (λ (l : LogState). list_any (commits u) (base_at l ++ cond (keeps (home u)) (tail_at l) []))
          (else-by moved (home u) ne))
          (cases_eq (home u) i)

      -- who is committed where some tails are dropped is it with all of them
      all-commits : (keeps : Keeps) (u : TxnId) → is_committed (kept_logs was keeps) u ≡ true
          → is_committed (kept_logs was all_kept) u ≡ true
      all-commits keeps u = front-commits u (base_at (log_by c moved (home u))) (tail_at (log_by c moved (home u)))
          (keeps (home u))

      had-commit : (keeps : Keeps) (u : TxnId) → is_committed (kept_logs is keeps) u ≡ true → (q : ℕ)
          → HadCommit seen c moved u q (length (version_of is disk keeps q).slots)
      had-commit keeps u has q = ⊎_elim
          (λ on. ⊎_elim
          (λ same. record {
            keeps = all_kept;
            commits = all-commits keeps u (sym (commits-was keeps u) ∙ has);
            slots =
                let longer = (length-write image.slots y.slot y.cap y.after).0 in
                let old = ap (λ (z : Page). length z.slots) image-is
                ∙ ap (λ (n : ℕ). length (version_of was disk all_kept n).slots) (sym same) in
                let new_is = ap (λ (n : ℕ). length (version_of is disk keeps n).slots) same
                ∙ ap (λ (z : Page). length z.slots) (version-redone keeps on) in
                omega (arith, longer, old, new_is);
          })
          (λ ne. record {
            keeps = keeps;
            commits = sym (commits-was keeps u) ∙ has;
            slots = let same = ap (λ (z : Page). length z.slots) (version-else keeps on q ne) in omega (arith, same);
          })
          (cases_eq q p))
          (λ off. record {
            keeps = keeps;
            commits = sym (commits-was keeps u) ∙ has;
            slots = let same = ap (λ (z : Page). length z.slots) (version-without keeps off q) in omega (arith, same);
          })
          (cases_Bool (keeps i))

    pub doubts-fit : DoubtsStay w.scene.state m' → FitsDoubts seen new m'
    doubts-fit stay = doubts-on seen seen c new w.scene.state m' f.doubts stay (λ moved keeps u doubt has q. had-commit moved keeps u has q)

    -- ---- pages

    abbrev pub pages_then : Pages
    pages_then = numbered p y.lsn (page_placed p (dirtied i) w.pages)

    put-here : {X : Type 0} (v : X) (g : ℕ → X) (q : ℕ) → q ≡ p → put p v g q ≡ v
    put-here {X} v g q e = ap (λ (b : Bool). cond {A = X} b v (g q)) (eq-eqb p q (sym e))

    put-else : {X : Type 0} (v : X) (g : ℕ → X) (q : ℕ) → q ≢ p → put p v g q ≡ g q
    put-else {X} v g q ne = ap (λ (b : Bool). cond {A = X} b v (g q)) (ne_eqb p q (λ e. ne (sym e)))

    abbrev still : Keeps
    still j = false

    frames-then : (j : ℕ) → 1 ≤ j → j ≤ 8 → (pool_at new j).frames ≡ w.pages.frames
    frames-then j low high = ⊎_elim
        (λ e. subst (λ (n : ℕ). (pool_at new n).frames ≡ w.pages.frames) (sym e)
        (ap (λ (b : Buffers). b.frames) pool-here ∙ r.frames ∙ f.pages.frames i r.low r.high))
        (λ ne. ap (λ (b : Buffers). b.frames) (pool-else j ne) ∙ f.pages.frames j low high)
        (cases_eq j i)

    entry-then : (q : ℕ) → pages_then.entry q ≡ entry_at places q
    entry-then q = ⊎_elim
        (λ e. put-here (dirtied i) w.pages.entry q e ∙ sym (ap (entry_at places) e ∙ r.entry))
        (λ ne. put-else (dirtied i) w.pages.entry q ne ∙ f.pages.entry q ∙ sym (r.other_entries q ne))
        (cases_eq q p)

    asks-then : (q : ℕ) → pages_then.asks q ≡ asks_at places q
    asks-then q = ⊎_elim
        (λ e. put-here (open_asks (dirtied i) (w.pages.asks p)) w.pages.asks q e ∙ ap (open_asks (dirtied i)) (f.pages.asks p)
        ∙ sym (ap (asks_at places) e ∙ r.asks))
        (λ ne. put-else (open_asks (dirtied i) (w.pages.asks p)) w.pages.asks q ne ∙ f.pages.asks q ∙ sym (r.other_asks q ne))
        (cases_eq q p)

    number-then : (q : ℕ) → is_lost (pages_then.entry q) ≡ false → pages_then.number q ≡ (newest_of seen leaves new q).lsn
    number-then q there = ⊎_elim
        (λ e. put-here y.lsn w.pages.number q e ∙ ap (λ (z : Page). z.lsn) (redone-is still)
        ∙ sym (ap (λ (n : ℕ). (newest_of seen leaves new n).lsn) e))
        (λ ne. put-else y.lsn w.pages.number q ne
        ∙ f.pages.number q (sym (ap is_lost (put-else (dirtied i) w.pages.entry q ne)) ∙ there)
        ∙ sym (ap (λ (z : Page). z.lsn) (version-else still all_kept refl q ne)))
        (cases_eq q p)

    pub pages-fit : FitsPages seen leaves new pages_then
    pages-fit = record {
      frames = frames-then;
      entry = entry-then;
      asks = asks-then;
      number = number-then;
      begun = f.pages.begun;
    }

    -- ---- sums

    -- the capacities of a version of each page are so bounded, where those of the page that is redone are
    slots-then : (Bound : List ℕ → List ℕ → Type 0) (slots : ℕ → List ℕ)
        → ((moved keeps : Keeps) (q : ℕ) → Bound (capacities (version_of (was moved) (disk_page (seen 0)) keeps q)) (slots q))
        → Bound (capacities (redo image y)) (slots p) → (moved keeps : Keeps) (q : ℕ)
        → Bound (capacities (version_of (is moved) (disk_page (seen 0)) keeps q)) (slots q)
    slots-then Bound slots old grown moved keeps q = ⊎_elim
        (λ on. ⊎_elim
        (λ same. subst (λ (n : ℕ). Bound (capacities (version_of (is moved) (disk_page (seen 0)) keeps n)) (slots n)) (sym same)
        (subst (λ (z : Page). Bound (capacities z) (slots p)) (sym (version-redone moved keeps on)) grown))
        (λ ne. subst (λ (z : Page). Bound (capacities z) (slots q)) (sym (version-else moved keeps on q ne)) (old moved keeps q))
        (cases_eq q p))
        (λ off. subst (λ (z : Page). Bound (capacities z) (slots q)) (sym (version-without moved keeps off q)) (old moved keeps q))
        (cases_Bool (keeps i))

    reach-then : (reach : ℕ → ℕ) → ((moved : Keeps) (j : ℕ) → 1 ≤ j → j ≤ 8 → ReachesAtMost (reach j) (log_by c moved j))
        → ReachesAtMost (reach i) log → (moved : Keeps) (j : ℕ) → 1 ≤ j → j ≤ 8 → ReachesAtMost (reach j) (log_by new moved j)
    reach-then reach old here moved j low high = ⊎_elim
        (λ same. subst (λ (n : ℕ). ReachesAtMost (reach n) (log_by new moved n)) (sym same)
        (subst (ReachesAtMost (reach i)) (sym (one-place new moved i begins-once ∙ log-here)) here))
        (λ ne. subst (ReachesAtMost (reach j)) (sym (else-by moved j ne)) (old moved j low high))
        (cases_eq j i)

    last-low : (j : ℕ) → 1 ≤ j → j ≤ 8 → last_lsn (scanned (log_at c j)) ≤ great_of c
    last-low j lo hi = let le = most-at (λ n. last_lsn (scanned (log_at c n))) 8 j lo hi in omega (arith, le)

    image-below : image.lsn ≤ great_of c
    image-below = image-low seen leaves Pending.Idle c w.scene.state f.good still (great_of c) (omega arith)
        (λ j lo hi. let top = last-low j lo hi in Each-weaker _ _ (λ z le. omega (arith, le, top)) _ (f.good.last j lo hi)) i p image r.copy

    -- the greatest LSN is greater by one at most
    pub great-then : great_of new ≤ great_of c + 1
    great-then =
        let most = most-within (λ j. last_lsn (scanned (log_at new j))) 8 (great_of c + 1) each in
        both c.disk_lsn (most_to (λ j. last_lsn (scanned (log_at new j))) 8) (great_of c + 1) (omega arith) most
      where
        both : (d a top : ℕ) → d ≤ top → a ≤ top → max d a ≤ top
        both d a top one other = omega arith

        each : (j : ℕ) → 1 ≤ j → j ≤ 8 → last_lsn (scanned (log_at new j)) ≤ great_of c + 1
        each j lo hi = ⊎_elim
            (λ same.
            let is = ap (λ (n : ℕ). last_lsn (scanned (log_at new n))) same ∙ ap (λ (l : LogState). last_lsn (scanned l)) log-here
            ∙ last-more (log_at c i) rec spare in
            let next = r.lsn in
            let own = last-low i r.low r.high in
            let page = image-below in
            omega (arith, is, next, own, page))
            (λ ne. let is = ap (λ (l : LogState). last_lsn (scanned l)) (log-else j ne) in let low = last-low j lo hi in omega (arith, is, low))
            (cases_eq j i)

    -- sums that were above all before are, where they are above what the record adds
    pub bounds-fit : (b : Bounds) → FitsBounds seen leaves c b → AreWithin (capacities (redo image y)) (b.slots p)
        → AreAtLeast (capacities (redo image y)) (b.least p) → ReachesAtMost (b.reach i) log
        → great_of new + owed_in_all new ≤ b.lsns → FitsBounds seen leaves new b
    bounds-fit b old slots least reach lsns = record {
      slots = slots-then AreWithin b.slots old.slots slots;
      least = slots-then AreAtLeast b.least old.least least;
      reach = reach-then b.reach old.reach reach;
      lsns = lsns;
      masters = old.masters;
      left_masters = old.left_masters;
    }

    -- ---- the others

    pub still-open : (u : TxnId) → IsOpen u (all_at (log_at c (home u))) → IsOpen u (all_at (log_at new (home u)))
    still-open u opens = ⊎_elim
        (λ same. subst (λ (n : ℕ). IsOpen u (all_at (log_at new n))) (sym same)
        (subst (λ (l : LogState). IsOpen u (all_at l)) (sym log-here)
        (subst (IsOpen u) (sym (appended-log (log_at c i) rec spare))
        (open-more u (all_at (log_at c i)) y (ap (λ (b : Bool). b && same_txn y.txn u) r.endless)
        (subst (λ (n : ℕ). IsOpen u (all_at (log_at c n))) same opens)))))
        (λ ne. subst (λ (l : LogState). IsOpen u (all_at l)) (sym (log-else (home u) ne)) opens)
        (cases_eq (home u) i)

    pub row-else : (t : TxnId) → OthersStay (txns_at c i) table t → (u : TxnId) → u ≢ t → txn_at (txns_at new (home u)) u ≡ txn_at (txns_at c (home u)) u
    row-else t others u ne = ⊎_elim
        (λ same. subst (λ (n : ℕ). txn_at (txns_at new n) u ≡ txn_at (txns_at c n) u) (sym same)
        (ap (λ (z : Transactions). txn_at z u) table-here ∙ others u ne))
        (λ off. ap (λ (z : Transactions). txn_at z u) (table-else (home u) off))
        (cases_eq (home u) i)
