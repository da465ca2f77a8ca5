-- A loser's last open record is undone by the instance that recovers: how the complex goes on fitting. For the goals of `undo_next`.
use Rattle.std.proofs.Common.{◌≡◌, ◌≢◌, ◌⊎◌, inl, inr, ⊎_elim, ℕ, suc, ◌+◌, ◌-◌, ◌≤◌, Bool, true, false, cond, eq-eqb, ◌||◌, List, [], ◌∷◌, ◌++◌, append-nil, length, filter, map, max, slice_set, refl, sym, ap, ap₂, ◌∙◌, subst, arith}
use Rattle.std.specs.Prelude.{None, Option, Some}
use Rattle.std.specs.List.{IsDistinct, list_any}
use Rattle.std.specs.Option.{option_map_or}
use Rattle.std.proofs.lemmas.Bool.{cases_Bool, cases_eq, ne_eqb}
use Rattle.std.proofs.lemmas.List.Folds.{list_any-append}
use Rattle.sd_base.specs.Ids.{same_txn}
use Rattle.sd_base.specs.declared.ids.TxnId.{TxnId}
use Rattle.sd_base.specs.declared.place.Status.TheVariants as S
use Rattle.sd_logrec.specs.Spelling.{spelling}
use Rattle.sd_logrec.specs.View.{Rec, flat}
use Rattle.sd_logrec.specs.declared.record.Record.{Record}
use Rattle.sd_log.specs.Logs.{LogState, begun_at, forced, last_lsn, scanned, with_record}
use Rattle.sd_model.specs.State.{State}
use Rattle.sd_page.specs.Page.{Page}
use Rattle.sd_pagelock.specs.Directory.{entry_at}
use Rattle.sd_pagelock.specs.Places.{PageEntry, owns}
use Rattle.sd_pool.specs.Buffers.{Buffers, image_at}
use Rattle.sd_rig.specs.Devices.{DeviceImages}
use Rattle.sd_txn.specs.Transactions.{ids}
use Rattle.sd_chain.specs.Bytes.{disk_page}
use Rattle.sd_chain.specs.Checks.{owed, reserve}
use Rattle.sd_chain.specs.Cuts.{cut}
use Rattle.sd_chain.specs.Fates.{commits}
use Rattle.sd_chain.specs.Images.{Keeps, Tails, all_kept, kept_at, with_disk}
use Rattle.sd_chain.specs.Pages.{redo}
use Rattle.sd_chain.specs.Records.{home, of_page}
use Rattle.sd_chain.proofs.Cuts.{newest-by_page}
use Rattle.sd_chain.proofs.Lists.{Each-weaker}
use Rattle.sd_chain.proofs.Newest.{newest-other}
use Rattle.sd_chain.proofs.Slots.{length-write}
use Rattle.sd_chain.specs.Coherent.{Quiet}
use Rattle.sd_chain.specs.Named.{version_of}
use Rattle.sd_chain.proofs.Cases.{by_seat}
use Rattle.sd_chain.proofs.Changes.{held-now}
use Rattle.sd_chain.proofs.OneUpdater.{tails-agree}
use Rattle.sd_chain.specs.Logs.{Outcomes, all_at, base_at, kept_logs, may_of, tail_at, tails_of}
use Rattle.sd_chain.proofs.Appends.{appended-log}
use Rattle.sd_chain.proofs.Kept.{forced-base, forced-idle, forced-tail, no-tail}
use Rattle.sd_world.specs.Bounds.{Bounds}
use Rattle.sd_world.specs.Serving.{Core}
use Rattle.sd_state.specs.Forcing.{KeepMasters}
use Rattle.sd_state.specs.Good.{Good, Half, base_of, dir_of}
use Rattle.sd_state.specs.Images.{leaves_by, log_by}
use Rattle.sd_state.specs.Parts.{Parts, is_loose, log_at, no_log, no_pool, other_at, pool_at, status_at, txns_at}
use Rattle.sd_state.specs.Sums.{great_of, most_to, owed_in_all, owes_most}
use Rattle.sd_state.specs.Tables.{tells_log}
use Rattle.sd_update.specs.Undoing.{HasTop, HasUndone, clr_at, clr_of}
use Rattle.sd_update.specs.UndoingFor.{own_forced}
use Rattle.sd_state.specs.Values.{Pending, is_committed}
use Rattle.sd_state.proofs.Summed.{most-at}
use Rattle.sd_update.proofs.ChangeLsns.{image-low}
use Rattle.sd_state.proofs.Items.{item-kept, item-set}
use Rattle.sd_state.proofs.Lasts.{last-forced, last-more}
use Rattle.sd_state.proofs.Standing.{one-place}
use Rattle.sd_update.proofs.UndoneTop.{clr-falls, finds-place}
use Rattle.sd_moves.proofs.FallBounds.{sum-less}
use Rattle.sd_fits.specs.Fits.{AreAtLeast, AreWithin, Fits, FitsBounds, FitsDoubts, ReachesAtMost, capacities}
use Rattle.sd_fits.proofs.Changing.{caps-set}
use Rattle.sd_fits.proofs.Doubts.{HadCommit, doubts-on, same-doubts}
use Rattle.sd_fits.proofs.Forcing.{forced-bounds, forced-doubts, masters-left, versions-same}
use Rattle.sd_fits.proofs.Recording.{most-within}
use Rattle.sd_fits.proofs.Sealing.{AreMore, gate-more, up-to}
use Rattle.sd_recover.proofs.Steps.{all-same, forced-whole, log-forced}

-- a forced log goes no further than the log
reach-forced : (n : ℕ) (l : LogState) → ReachesAtMost n l → ReachesAtMost n (forced l)
reach-forced n l r =
    let idle : forced (forced l) ≡ forced l = forced-idle (forced l) (forced-tail l) in (
      subst (λ (log : List Rec). (forced l).gate + reserve log ≤ n) (sym (forced-base l)) r.1,
      subst (λ (k : LogState). k.gate + reserve (all_at (forced l)) ≤ n) (sym idle)
          (subst (λ (log : List Rec). (forced l).gate + reserve log ≤ n) (sym (forced-whole l)) r.1),
    )

module _ (a : ℕ) (t : TxnId) (seen seen' : DeviceImages) (leaves leaves' : Outcomes) (c between : Parts) (w : Core) (f : Fits seen leaves c w)
    (low : 1 ≤ home t) (high : home t ≤ 8) (a_low : 1 ≤ a) (a_high : a ≤ 8) (recovers : status_at c (home t) ≡ S.Recovering a)
    (settled : is_loose c (home t) ≡ false) (own_settled : is_loose c a ≡ false) (owes : ℕ) (owes_is : owes ≡ owed (all_at (log_at c a)))
    (h : HasUndone a (Some (a, home t)) t (own_forced a owes c) between) (held : owns (entry_at c.directory h.o.rid.page) a ≡ true)
    (once : IsDistinct same_txn (ids (txns_at c (home t)))) (disk : seen' 0 ≡ seen 0) (kept : KeepMasters leaves leaves') where
  abbrev m : State
  m = w.scene.state

  abbrev i : ℕ
  i = home t

  abbrev e : Parts
  e = own_forced a owes c

  abbrev p : ℕ
  p = h.o.rid.page

  abbrev clr : Record
  clr = clr_at t h.x h.o h.image e

  abbrev y : Rec
  y = flat clr

  abbrev l : LogState
  l = log_at e i

  abbrev L : LogState
  L = with_record clr h.undone.spare l

  -- ---- its own log is forced

  e-bounds : (b : Bounds) → FitsBounds seen leaves c b → FitsBounds seen leaves e b
  e-bounds = forced-bounds a owes seen seen leaves leaves Pending.Idle c m f.good a_low a_high own_settled refl owes_is
      (λ j lo bytes left. (bytes, left, refl))

  e-doubts : FitsDoubts seen e m
  e-doubts = forced-doubts a owes seen seen leaves leaves Pending.Idle c m f.good a_low a_high own_settled refl owes_is m f.doubts

  e-here : log_at e a ≡ forced (log_at c a)
  e-here = log-forced i a owes c f.good.shape.logs a_low a_high

  e-else : (j : ℕ) → j ≢ a → log_at e j ≡ log_at c j
  e-else j ne = item-kept no_log c.logs a (forced (log_at c a)) a_low j ne

  e-all : (j : ℕ) → all_at (log_at e j) ≡ all_at (log_at c j)
  e-all = all-same i a owes c f.good.shape.logs a_low a_high

  e-last : (j : ℕ) → last_lsn (scanned (log_at e j)) ≡ last_lsn (scanned (log_at c j))
  e-last j = ⊎_elim
      (λ same. subst (λ (k : ℕ). last_lsn (scanned (log_at e k)) ≡ last_lsn (scanned (log_at c k))) (sym same)
      (ap (λ (x : LogState). last_lsn (scanned x)) e-here ∙ last-forced (log_at c a)))
      (λ ne. ap (λ (x : LogState). last_lsn (scanned x)) (e-else j ne))
      (cases_eq j a)

  -- ---- what the record takes was owed

  top-there : HasTop a t h.x h.o h.image c
  top-there = record {
    low = low;
    high = high;
    settled = settled;
    tells = ap tells_log recovers;
    row = h.row;
    last = h.last;
    held = held;
    copy = h.copy;
    once = once;
  }

  clr-same : clr_at t h.x h.o h.image c ≡ clr
  clr-same = ap (λ (n : ℕ). clr_of t h.x h.o (max n h.image.lsn + 1)) (sym (e-last i))

  falls : (reserve (all_at l ++ y ∷ []) + length (spelling clr) + 5 ≤ reserve (all_at l))
      × (suc (owed (all_at l ++ y ∷ [])) ≤ owed (all_at l))
  falls = subst (λ (log : List Rec). (reserve (log ++ y ∷ []) + length (spelling clr) + 5 ≤ reserve log) × (suc (owed (log ++ y ∷ [])) ≤ owed log))
      (sym (e-all i))
      (subst (λ (r : Record). (reserve (all_at (log_at c i) ++ flat r ∷ []) + length (spelling r) + 5 ≤ reserve (all_at (log_at c i)))
      × (suc (owed (all_at (log_at c i) ++ flat r ∷ [])) ≤ owed (all_at (log_at c i)))) clr-same
      (clr-falls a t h.x h.o h.image seen leaves c m f.good top-there))

  all-then : all_at L ≡ all_at l ++ y ∷ []
  all-then = appended-log l clr h.undone.spare

  -- it owes a record less with it
  pub owes-less : suc (owed (all_at L)) ≤ owed (all_at (log_at c i))
  owes-less = let less = falls.1 in let here = ap owed all-then in let was = ap owed (e-all i) in omega (arith, less, here, was)

  once-i : other_at c i ≡ None
  once-i = (f.good.settled i low high settled).one_place

  once-a : other_at c a ≡ None
  once-a = (f.good.settled a a_low a_high own_settled).one_place

  -- ---- the complex then: the log with the record, forced or not

  module _ (ls : List LogState) (os : List ℕ) (lo : List Bool) (d : Option (ℕ × ℕ)) where
    abbrev pub made : Parts
    made = record c {
      logs = ls;
      pools = slice_set c.pools (a - 1) (pool_at between a);
      txns = slice_set c.txns (i - 1) (txns_at between i);
      owed = os;
      loose = lo;
      directory = between.directory;
      due = d;
    }

    module _ (here : (log_at made i ≡ L) ⊎ (log_at made i ≡ forced L)) (else : (j : ℕ) → j ≢ i → log_at made j ≡ log_at e j)
        (due_i : (x j : ℕ) → d ≡ Some (x, j) → j ≡ i) (good : Good seen' leaves' Pending.Idle made m) where
      pool-here : pool_at made a ≡ pool_at between a
      pool-here = item-set no_pool c.pools a (pool_at between a) a_low a_high f.good.shape.pools

      here-by : (moved : Keeps) → (log_by made moved i ≡ with_record clr h.undone.spare (log_by e moved i))
          ⊎ (log_by made moved i ≡ forced (with_record clr h.undone.spare (log_by e moved i)))
      here-by moved =
          let own = one-place made moved i once-i in
          let was = ap (with_record clr h.undone.spare) (sym (one-place e moved i once-i)) in ⊎_elim
          (λ is. inl (own ∙ is ∙ was))
          (λ is. inr (own ∙ is ∙ ap forced was))
          here

      else-by : (moved : Keeps) (j : ℕ) → j ≢ i → log_by made moved j ≡ log_by e moved j
      else-by moved j ne = ap (λ (x : LogState). cond (moved j) (option_map_or (λ place. begun_at place x) (other_at c j) x) x) (else j ne)

      module _ (moved : Keeps) where
        abbrev was : Tails
        was = tails_of (log_by e moved)

        abbrev is : Tails
        is = tails_of (log_by made moved)

        abbrev pages : ℕ → Page
        pages = disk_page (seen 0)

        abbrev left_then : Outcomes
        left_then = leaves_by made moved leaves'

        half : Half seen' left_then (log_by made moved) Pending.Idle made m
        half = good.half moved

        -- what is kept with the record is what was kept of all of log i, and the record
        abbrev with_it : Keeps → Keeps
        with_it keeps = kept_at i true keeps

        kept-else : (keeps : Keeps) (j : ℕ) → j ≢ i → kept_logs is keeps j ≡ kept_logs was (with_it keeps) j
        kept-else keeps j ne = ap (λ (x : LogState). base_at x ++ cond (keeps j) (tail_at x) []) (else-by moved j ne)
            ∙ ap (λ (b : Bool). base_at (log_by e moved j) ++ cond b (tail_at (log_by e moved j)) [])
            (sym (ap (λ (b : Bool). cond b true (keeps j)) (ne_eqb j i ne)))

        all-kept_i : (keeps : Keeps) → kept_logs was (with_it keeps) i ≡ all_at (log_by e moved i)
        all-kept_i keeps = ap (λ (b : Bool). base_at (log_by e moved i) ++ cond b (tail_at (log_by e moved i)) [])
            (ap (λ (b : Bool). cond b true (keeps i)) (eq-eqb i i refl))

        -- it is kept where the log's tail is, or where the log is forced
        abbrev HasIt : Keeps → Type 0
        HasIt keeps = (keeps i ≡ true) ⊎ ((log_by made moved i).tail ≡ [])

        abbrev grown : LogState
        grown = with_record clr h.undone.spare (log_by e moved i)

        kept-forced : (keeps : Keeps) → log_by made moved i ≡ forced grown → kept_logs is keeps i ≡ all_at grown
        kept-forced keeps same = ap (λ (x : LogState). base_at x ++ cond (keeps i) (tail_at x) []) same
            ∙ ap₂ (λ (b : List Rec) (tl : List Record). b ++ cond (keeps i) (map flat tl) []) (forced-base grown) (forced-tail grown)
            ∙ no-tail (keeps i) (all_at grown)

        with-record : (keeps : Keeps) → HasIt keeps → kept_logs is keeps i ≡ kept_logs was (with_it keeps) i ++ y ∷ []
        with-record keeps on = has-all ∙ appended-log (log_by e moved i) clr h.undone.spare ∙ ap (λ (x : List Rec). x ++ y ∷ []) (sym (all-kept_i keeps))
          where
            unforced : log_by made moved i ≡ grown → kept_logs is keeps i ≡ all_at grown
            unforced same = ⊎_elim
                (λ at. ap (λ (x : LogState). base_at x ++ cond (keeps i) (tail_at x) []) same
                ∙ ap (λ (b : Bool). base_at grown ++ cond b (tail_at grown) []) at)
                (λ none. absurd (never (log_by e moved i).tail (sym (ap (λ (x : LogState). x.tail) same) ∙ none)))
                on
              where
                never : (tl : List Record) → tl ++ clr ∷ [] ≡ [] → ⊥
                never [] e = cc
                never (r ∷ rs) e = cc

            has-all : kept_logs is keeps i ≡ all_at grown
            has-all = ⊎_elim unforced (kept-forced keeps) (here-by moved)

        -- otherwise nothing of it is
        without-it : (keeps : Keeps) → keeps i ≡ false → log_by made moved i ≡ grown → (j : ℕ) → kept_logs is keeps j ≡ kept_logs was keeps j
        without-it keeps off same j = ⊎_elim
            (λ own. subst (λ (n : ℕ). kept_logs is keeps n ≡ kept_logs was keeps n) (sym own)
            (ap (λ (x : LogState). base_at x ++ cond (keeps i) (tail_at x) []) same
            ∙ ap (λ (b : Bool). base_at grown ++ cond b (tail_at grown) []) off
            ∙ sym (ap (λ (b : Bool). base_at (log_by e moved i) ++ cond b (tail_at (log_by e moved i)) []) off)))
            (λ ne. ap (λ (x : LogState). base_at x ++ cond (keeps j) (tail_at x) []) (else-by moved j ne))
            (cases_eq j i)

        -- one way or the other
        either : (keeps : Keeps) → HasIt keeps ⊎ ((j : ℕ) → kept_logs is keeps j ≡ kept_logs was keeps j)
        either keeps = ⊎_elim
            (λ on. inl (inl on))
            (λ off. ⊎_elim
            (λ same. inr (without-it keeps off same))
            (λ same. inl (inr (ap (λ (x : LogState). x.tail) same ∙ forced-tail grown)))
            (here-by moved))
            (cases_Bool (keeps i))

        -- ---- versions of pages

        by-disk : (keeps : Keeps) (q : ℕ) → version_of is (disk_page (seen' 0)) keeps q ≡ version_of is pages keeps q
        by-disk keeps q = ap (λ (bytes : List ℕ). version_of is (disk_page bytes) keeps q) disk

        version-without : (keeps : Keeps) → ((j : ℕ) → kept_logs is keeps j ≡ kept_logs was keeps j) → (q : ℕ)
            → version_of is (disk_page (seen' 0)) keeps q ≡ version_of was pages keeps q
        version-without keeps same q = by-disk keeps q ∙ newest-by_page q (cut keeps (with_disk was pages)) (cut keeps (with_disk is pages))
            (λ j. ap (filter (of_page q)) (same j)) refl

        version-else : (keeps : Keeps) → HasIt keeps → (q : ℕ) → q ≢ p
            → version_of is (disk_page (seen' 0)) keeps q ≡ version_of was pages (with_it keeps) q
        version-else keeps on q ne = by-disk keeps q ∙ newest-other i y (cut (with_it keeps) (with_disk was pages)) (cut keeps (with_disk is pages))
            (record {
              inside = omega (arith, high);
              here = with-record keeps on;
              others = λ j off. kept-else keeps j off;
              disk = λ q. refl;
            }) q ne

        -- the copy was the newest version
        image-is : h.image ≡ version_of was pages all_kept p
        image-is = held-now a p h.image (base_of seen (leaves_by c moved leaves) (log_by c moved) c) (dir_of c) (f.good.half moved).coherent h.copy
            ∙ sym (versions-same (tails_of (log_by c moved)) was pages pages all_kept all_kept p all-kept_j (λ q. refl))
          where
            all-kept_j : (j : ℕ) → kept_logs was all_kept j ≡ kept_logs (tails_of (log_by c moved)) all_kept j
            all-kept_j j = ⊎_elim
                (λ own. subst (λ (n : ℕ). kept_logs was all_kept n ≡ kept_logs (tails_of (log_by c moved)) all_kept n) (sym own)
                (ap all_at (one-place e moved a once-a ∙ e-here) ∙ forced-whole (log_at c a) ∙ sym (ap all_at (one-place c moved a once-a))))
                (λ ne. ap (λ (x : LogState). all_at (cond (moved j) (option_map_or (λ place. begun_at place x) (other_at c j) x) x)) (e-else j ne))
                (cases_eq j a)

        -- and it is, with the record
        redone-is : redo h.image y ≡ version_of is (disk_page (seen' 0)) all_kept p
        redone-is = held-now a p (redo h.image y) (base_of seen' left_then (log_by made moved) made) (dir_of made) half.coherent
            (ap (λ (b : Buffers). image_at b p) pool-here ∙ h.undone.page)

        -- of the others, and of its own log, nothing of the page is unforced
        own-tail : a ≢ i → (log_by made moved a).tail ≡ []
        own-tail ne = ap (λ (x : LogState). x.tail) (one-place made moved a once-a ∙ else a ne ∙ e-here) ∙ forced-tail (log_at c a)

        lone : (keeps : Keeps) → HasIt keeps → (j : ℕ) → (keeps j ≡ all_kept j) ⊎ Quiet p (is.tail j)
        lone keeps on j = ⊎_elim
            (λ own. ⊎_elim (λ at. inl (ap keeps own ∙ at))
            (λ none. inr (subst (λ (n : ℕ). Quiet p (is.tail n)) (sym own) (subst (λ (tl : List Record). Quiet p (map flat tl)) (sym none) tt)))
            on)
            (λ ne. inr (⊎_elim (λ q. q)
            (by_seat (base_of seen' left_then (log_by made moved) made) (entry_at between.directory p) j (Quiet p (is.tail j))
            (λ loose at. let own = excl-same j (sym h.undone.entry ∙ at) in
            subst (λ (n : ℕ). Quiet p (is.tail n)) (sym own)
            (subst (λ (tl : List Record). Quiet p (map flat tl)) (sym (own-tail (λ x. ne (own ∙ x)))) tt))
            (λ loose lost. let clash = sym h.undone.entry ∙ lost in absurd (cc))
            (λ x due at. absurd (ne (due_i x j due))))
            (half.coherent.unforced j p)))
            (cases_eq j i)
          where
            excl-same : (n : ℕ) → PageEntry.Excl a true ≡ PageEntry.Excl n true → n ≡ a
            excl-same n e = cc

        version-redone : (keeps : Keeps) → HasIt keeps → version_of is (disk_page (seen' 0)) keeps p ≡ redo h.image y
        version-redone keeps on = tails-agree (may_of left_then) (base_of seen' left_then (log_by made moved) made) (dir_of made) half.coherent
            keeps all_kept p (lone keeps on) ∙ sym redone-is

      -- ---- whoever is in doubt

      -- without its record it is committed where it was with it, by tails with which no page has more slots
      abbrev HadIt : Keeps → Keeps → TxnId → Keeps → Type 0
      HadIt moved keeps u to = (is_committed (kept_logs (was moved) to) u ≡ true)
          × ((q : ℕ) → length (version_of (was moved) (disk_page (seen 0)) to q).slots
          ≤ length (version_of (is moved) (disk_page (seen' 0)) keeps q).slots)

      or-none : (b : Bool) → (b || (false || false)) ≡ b
      or-none true = refl
      or-none false = refl

      none-more : (u : TxnId) (xs : List Rec) → list_any (commits u) (xs ++ y ∷ []) ≡ list_any (commits u) xs
      none-more u xs = list_any-append (commits u) xs (y ∷ []) ∙ or-none (list_any (commits u) xs)

      had-without : (moved keeps : Keeps) (u : TxnId) → is_committed (kept_logs (is moved) keeps) u ≡ true
          → ((j : ℕ) → kept_logs (is moved) keeps j ≡ kept_logs (was moved) keeps j) → HadIt moved keeps u keeps
      had-without moved keeps u has same = (
        ap (list_any (commits u)) (sym (same (home u))) ∙ has,
        λ q. let eq = ap (λ (z : Page). length z.slots) (version-without moved keeps same q) in omega (arith, eq),
      )

      with-commits : (moved keeps : Keeps) (u : TxnId) → is_committed (kept_logs (is moved) keeps) u ≡ true → HasIt moved keeps
          → is_committed (kept_logs (was moved) (with_it moved keeps)) u ≡ true
      with-commits moved keeps u has on = ⊎_elim
          (λ own. subst (λ (n : ℕ). list_any (commits u) (kept_logs (was moved) (with_it moved keeps) n) ≡ true) (sym own)
          (sym (none-more u (kept_logs (was moved) (with_it moved keeps) i)) ∙ ap (list_any (commits u)) (sym (with-record moved keeps on))
          ∙ subst (λ (n : ℕ). list_any (commits u) (kept_logs (is moved) keeps n) ≡ true) own has))
          (λ ne. ap (list_any (commits u)) (sym (kept-else moved keeps (home u) ne)) ∙ has)
          (cases_eq (home u) i)

      -- with all tails it is committed where it is with some
      all-commits : (moved keeps : Keeps) (u : TxnId) → is_committed (kept_logs (was moved) keeps) u ≡ true
          → is_committed (kept_logs (was moved) all_kept) u ≡ true
      all-commits moved keeps u has = front (base_at (log_by e moved (home u))) (tail_at (log_by e moved (home u))) (keeps (home u)) has
        where
          ahead : (x z : Bool) → x ≡ true → (x || z) ≡ true
          ahead true z eq = refl
          ahead false z eq = absurd (cc)

          front : (base tail : List Rec) (stays : Bool) → list_any (commits u) (base ++ cond stays tail []) ≡ true
              → list_any (commits u) (base ++ tail) ≡ true
          front base tail true is = is
          front base tail false is = list_any-append (commits u) base tail
              ∙ ahead (list_any (commits u) base) (list_any (commits u) tail) (ap (list_any (commits u)) (sym (append-nil base)) ∙ is)

      had-commit : (moved keeps : Keeps) (u : TxnId) → is_committed (kept_logs (is moved) keeps) u ≡ true → (q : ℕ)
          → HadCommit seen e moved u q (length (version_of (is moved) (disk_page (seen' 0)) keeps q).slots)
      had-commit moved keeps u has q = ⊎_elim
          (λ on. ⊎_elim
          (λ same. record {
            keeps = all_kept;
            commits = all-commits moved (with_it moved keeps) u (with-commits moved keeps u has on);
            slots =
                let longer = (length-write h.image.slots y.slot y.cap y.after).0 in
                let old = ap (λ (z : Page). length z.slots) (image-is moved)
                ∙ ap (λ (n : ℕ). length (version_of (was moved) (disk_page (seen 0)) all_kept n).slots) (sym same) in
                let new_is = ap (λ (n : ℕ). length (version_of (is moved) (disk_page (seen' 0)) keeps n).slots) same
                ∙ ap (λ (z : Page). length z.slots) (version-redone moved keeps on) in
                omega (arith, longer, old, new_is);
          })
          (λ ne. record {
            keeps = with_it moved keeps;
            commits = with-commits moved keeps u has on;
            slots = let same = ap (λ (z : Page). length z.slots) (version-else moved keeps on q ne) in omega (arith, same);
          })
          (cases_eq q p))
          (λ same. let k = had-without moved keeps u has same in record { keeps = keeps; commits = k.0; slots = k.1 q })
          (either moved keeps)

      pub undone-doubts : FitsDoubts seen' made m
      undone-doubts = doubts-on seen seen' e made m m e-doubts (same-doubts m)
          (λ moved keeps u doubt has q. had-commit moved keeps u has q)

      -- ---- sums

      -- what bounds the capacities of a version of each page bounds them then
      module _ (Bound : List ℕ → List ℕ → Type 0) (slots : ℕ → List ℕ)
          (old : (moved keeps : Keeps) (q : ℕ) → Bound (capacities (version_of (was moved) (disk_page (seen 0)) keeps q)) (slots q)) where
        slots-fit : Bound (capacities (redo h.image y)) (slots p)
        slots-fit = subst (λ (xs : List ℕ). Bound xs (slots p))
            (sym (caps-set h.image.slots h.o.rid.slot y.cap h.o.before
            (finds-place a t h.x h.o h.image seen leaves c m f.good top-there).slot.place))
            (subst (λ (z : Page). Bound (capacities z) (slots p)) (sym (image-is (λ j. false))) (old (λ j. false) all_kept p))

        slots-then : (moved keeps : Keeps) (q : ℕ) → Bound (capacities (version_of (is moved) (disk_page (seen' 0)) keeps q)) (slots q)
        slots-then moved keeps q = ⊎_elim
            (λ on. ⊎_elim
            (λ same. subst (λ (n : ℕ). Bound (capacities (version_of (is moved) (disk_page (seen' 0)) keeps n)) (slots n)) (sym same)
            (subst (λ (z : Page). Bound (capacities z) (slots p)) (sym (version-redone moved keeps on)) slots-fit))
            (λ ne. subst (λ (z : Page). Bound (capacities z) (slots q)) (sym (version-else moved keeps on q ne))
            (old moved (with_it moved keeps) q))
            (cases_eq q p))
            (λ same. subst (λ (z : Page). Bound (capacities z) (slots q)) (sym (version-without moved keeps same q))
            (old moved keeps q))
            (either moved keeps)

      reach-L : (n : ℕ) → ReachesAtMost n l → ReachesAtMost n L
      reach-L n r =
          let first = r.0 in
          let whole = r.1 in
          let gate = gate-more l clr h.undone.spare in
          let then = ap reserve all-then in
          let takes = falls.0 in (omega (arith, first), omega (arith, whole, gate, then, takes))

      reach-then : (b : Bounds) → FitsBounds seen leaves c b → (moved : Keeps) (j : ℕ) → 1 ≤ j → j ≤ 8
          → ReachesAtMost (b.reach j) (log_by made moved j)
      reach-then b old moved j lo hi = ⊎_elim
          (λ same. subst (λ (n : ℕ). ReachesAtMost (b.reach n) (log_by made moved n)) (sym same)
          (subst (ReachesAtMost (b.reach i)) (sym (one-place made moved i once-i))
          (let r = reach-L (b.reach i) (subst (ReachesAtMost (b.reach i)) (one-place e moved i once-i) ((e-bounds b old).reach moved i low high)) in
          ⊎_elim
          (λ is. subst (ReachesAtMost (b.reach i)) (sym is) r)
          (λ is. subst (ReachesAtMost (b.reach i)) (sym is) (reach-forced (b.reach i) L r))
          here)))
          (λ ne. subst (ReachesAtMost (b.reach j)) (sym (else-by moved j ne)) ((e-bounds b old).reach moved j lo hi))
          (cases_eq j i)

      last-low : (j : ℕ) → 1 ≤ j → j ≤ 8 → last_lsn (scanned (log_at e j)) ≤ great_of e
      last-low j lo hi = let le = most-at (λ n. last_lsn (scanned (log_at e n))) 8 j lo hi in omega (arith, le)

      image-below : h.image.lsn ≤ great_of e
      image-below = image-low seen leaves Pending.Idle c m f.good (λ j. false) (great_of e) (omega arith)
          (λ j lo hi. let top = last-low j lo hi in let same = e-last j in
          Each-weaker _ _ (λ z le. omega (arith, le, top, same)) _ (f.good.last j lo hi)) a p h.image h.copy

      last-here : last_lsn (scanned (log_at made i)) ≡ y.lsn
      last-here = ⊎_elim
          (λ is. ap (λ (x : LogState). last_lsn (scanned x)) is ∙ last-more l clr h.undone.spare)
          (λ is. ap (λ (x : LogState). last_lsn (scanned x)) is ∙ last-forced L ∙ last-more l clr h.undone.spare)
          here

      great-then : great_of made ≤ great_of e + 1
      great-then = both c.disk_lsn (most_to (λ j. last_lsn (scanned (log_at made j))) 8) (great_of e + 1) (omega arith)
          (most-within (λ j. last_lsn (scanned (log_at made j))) 8 (great_of e + 1) each)
        where
          both : (d a top : ℕ) → d ≤ top → a ≤ top → max d a ≤ top
          both d a top one other = omega arith

          next : (last img top : ℕ) → last ≤ top → img ≤ top → max last img + 1 ≤ top + 1
          next last img top one other = omega arith

          each : (j : ℕ) → 1 ≤ j → j ≤ 8 → last_lsn (scanned (log_at made j)) ≤ great_of e + 1
          each j lo hi = ⊎_elim
              (λ same.
              let is = ap (λ (n : ℕ). last_lsn (scanned (log_at made n))) same ∙ last-here in
              let le = next (last_lsn (scanned l)) h.image.lsn (great_of e) (last-low i low high) image-below in omega (arith, is, le))
              (λ ne. let is = ap (λ (x : LogState). last_lsn (scanned x)) (else j ne) in let le = last-low j lo hi in omega (arith, is, le))
              (cases_eq j i)

      -- where no log owes more, sums that are one LSN more are above it
      pub undone-bounds : (b b' : Bounds) → AreMore i 0 b b' → FitsBounds seen leaves c b
          → ((j : ℕ) → 1 ≤ j → j ≤ 8 → owes_most made j ≤ owes_most e j) → FitsBounds seen' leaves' made b'
      undone-bounds b b' more old owes = record {
        slots = λ moved keeps q. subst (AreWithin _) (sym (more.slots q)) (slots-then AreWithin b.slots (e-bounds b old).slots moved keeps q);
        least = λ moved keeps q. subst (AreAtLeast _) (sym (more.least q)) (slots-then AreAtLeast b.least (e-bounds b old).least moved keeps q);
        reach = λ moved j lo hi. let r = reach-then b old moved j lo hi in (up-to _ _ _ r.0 (more.reach j), up-to _ _ _ r.1 (more.reach j));
        lsns = sums (great_of made) (great_of e) (owed_in_all made) (owed_in_all e) b.lsns b'.lsns great-then
            (sum-less (owes_most made) (owes_most e) 8 owes) (e-bounds b old).lsns more.lsns;
        masters = λ j lo hi. up-to _ _ _ (old.masters j lo hi) (more.masters j);
        left_masters = λ j lo hi bytes left. up-to _ _ _ (masters-left leaves leaves' kept b.masters old.left_masters j lo hi bytes left) (more.masters j);
      }
        where
          sums : (g' g o' o n k : ℕ) → g' ≤ g + 1 → o' ≤ o → g + o ≤ n → n + 1 ≤ k → g' + o' ≤ k
          sums g' g o' o n k great owed was le = omega arith
