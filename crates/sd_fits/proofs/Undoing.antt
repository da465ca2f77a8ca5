-- A transaction's last open record is undone: how the complex goes on fitting. For the calls that roll back.
use Rattle.std.proofs.Common.{◌≡◌, ◌≢◌, ◌⊎◌, inl, inr, ⊎_elim, ℕ, suc, ◌+◌, ◌<◌, ◌≤◌, true, false, cond, List, [], ◌∷◌, ◌++◌, length, map, max, refl, sym, ap, ◌∙◌, subst, arith}
use Rattle.std.specs.Prelude.{Option, None, Some, IsSome, reverse}
use Rattle.std.specs.List.{IsDistinct}
use Rattle.std.specs.Option.{option_and_then}
use Rattle.std.proofs.lemmas.Bool.{cases_eq}
use Rattle.std.proofs.lemmas.List.{reverse-append}
use Rattle.sd_base.specs.declared.ids.TxnId.{TxnId}
use Rattle.sd_base.specs.declared.place.Status.TheVariants as S
use Rattle.sd_base.specs.Ids.{same_txn}
use Rattle.sd_base.proofs.SameIds.{cases_txn, each_txn}
use Rattle.sd_logrec.specs.Spelling.{spelling}
use Rattle.sd_logrec.specs.View.{Rec, flat}
use Rattle.sd_logrec.specs.declared.record.Record.{Record}
use Rattle.sd_log.specs.Logs.{LogState, with_record}
use Rattle.sd_model.specs.Acts.{Puts, live, live_from}
use Rattle.sd_model.specs.Applies.{HasPut}
use Rattle.sd_model.specs.Changes.{goal, undid, undid_part}
use Rattle.sd_model.specs.Listed.{IsAtWork}
use Rattle.sd_model.specs.Scenes.{is_running}
use Rattle.sd_model.specs.State.{Part, State}
use Rattle.sd_model.specs.declared.act.Act.{Act}
use Rattle.sd_model.specs.declared.act.Life.{Life}
use Rattle.sd_model.specs.declared.event.Event.TheVariants.{Undo}
use Rattle.sd_model.specs.declared.event.Reply.TheVariants as reply
use Rattle.sd_page.specs.Page.{Page}
use Rattle.sd_pagelock.specs.Directory.{entry_at}
use Rattle.sd_pagelock.specs.Places.{PageEntry, is_lost, owns}
use Rattle.sd_pagelock.specs.Rows.{dirtied}
use Rattle.sd_pool.specs.Buffers.{Buffers}
use Rattle.sd_rig.specs.Devices.{DeviceImages}
use Rattle.sd_txn.specs.Owing.{owed_of}
use Rattle.sd_txn.specs.Transactions.{Transaction, Transactions, ids, span_at, top, txn_at}
use Rattle.sd_txn.specs.declared.state.OpenRec.{OpenRec}
use Rattle.sd_txn.proofs.Stacks.{split-top}
use Rattle.sd_chain.specs.Bytes.{disk_page}
use Rattle.sd_chain.specs.Checks.{owed, reserve}
use Rattle.sd_chain.specs.Images.{Keeps, all_kept}
use Rattle.sd_chain.specs.Pages.{redo}
use Rattle.sd_chain.specs.Records.{IsOpen, home, stack}
use Rattle.sd_chain.specs.Named.{version_of}
use Rattle.sd_chain.specs.Logs.{Outcomes, all_at, tails_of}
use Rattle.sd_chain.proofs.Appends.{appended-log}
use Rattle.sd_world.specs.Bounds.{Bounds, bounds_after}
use Rattle.sd_world.specs.PageCauses.{last_page, undo_page}
use Rattle.sd_world.specs.Pages.{numbered, page_placed}
use Rattle.sd_world.specs.Serving.{Core}
use Rattle.sd_update.specs.Changing.{with_changed}
use Rattle.sd_state.specs.Good.{Good}
use Rattle.sd_state.specs.Images.{log_by}
use Rattle.sd_state.specs.Parts.{Parts, is_loose, log_at, owed_at, pool_at, status_at, txns_at}
use Rattle.sd_state.specs.Sums.{great_of, owed_in_all, owes_most}
use Rattle.sd_state.specs.Tables.{IsLive, IsLogged, RowIsLive, RowIsLogged, goes_on_as, tells_log}
use Rattle.sd_update.specs.Undoing.{HasTop, HasUndone, RollsTo, clr_at, with_undone_by}
use Rattle.sd_state.specs.Values.{Pending, is_doubt, put_of}
use Rattle.sd_state.proofs.Standing.{one-place}
use Rattle.sd_update.proofs.UndoneHalf.{life-same}
use Rattle.sd_update.proofs.UndoneRows.{IsTop, top-of}
use Rattle.sd_update.proofs.UndoneTop.{clr-falls, finds-place}
use Rattle.sd_state.proofs.WorkingGood.{working-settled}
use Rattle.sd_state.proofs.WorkingTurns.{as-many}
use Rattle.sd_moves.proofs.FallBounds.{sum-less}
use Rattle.sd_fits.specs.Fits.{AreAtLeast, AreWithin, Fits, FitsBounds, ReachesAtMost, capacities}
use Rattle.sd_fits.proofs.Changing.{caps-set}
use Rattle.sd_fits.proofs.Recording.{Records}
use Rattle.sd_fits.proofs.Recording as rec
use Rattle.sd_fits.proofs.Sealing.{gate-more, owes-less}
use Rattle.sd_fits.proofs.Served.{bounds-stay}
use Rattle.sd_fits.proofs.Taking.{GoesOnAs, on-stays, put-more}

-- ---- who rolls back

module _ (t : TxnId) (to : Option ℕ) (seen : DeviceImages) (leaves : Outcomes) (c : Parts) (w : Core) (f : Fits seen leaves c w)
    (rolls : (w.scene.state.part t).life ≡ Life.Rolling to) (low : 1 ≤ home t) (high : home t ≤ 8) (up : status_at c (home t) ≡ S.Up) where
  abbrev m : State
  m = w.scene.state

  abbrev i : ℕ
  i = home t

  abbrev all : List Rec
  all = all_at (log_at c i)

  -- no end of it is in its log
  pub rolling-open : IsOpen t all
  rolling-open = by to rolls
    where
      by : (to : Option ℕ) → (m.part t).life ≡ Life.Rolling to → IsOpen t all
      by None rolls = f.rolling t rolls
      by (Some n) rolls = f.good.going t low high
          (subst (λ (life : Life). goes_on_as life (Pending.Idle ≡ Pending.Commits t → ⊥) (live (m.part t).acts ≢ [])) (sym rolls) tt)

  pub settled : is_loose c i ≡ false
  settled = working-settled seen leaves Pending.Idle c m i f.good f.idle low up

  module _ (x : Transaction) (row : txn_at (txns_at c i) t ≡ Some x) where
    pub logged : IsLogged x t all
    logged = ⊎_elim (λ l. l) (λ s. absurd (s.ended rolling-open))
        (subst (λ (o : Option Transaction). RowIsLogged o t all) row ((f.good.told i low high (ap tells_log up) settled).rows t refl))

    pub lively : IsLive x t (m.part t) all
    lively = subst (λ (o : Option Transaction). RowIsLive o t (m.part t) all) row
        (f.good.at_work i low high up t refl (λ e. let clash = e in absurd (cc)))

    -- it has as many open records as live puts
    pub deep : length x.stack ≡ length (live (m.part t).acts)
    deep = as-many x t (m.part t) all logged lively

    module _ (o : OpenRec) (last : top x ≡ Some o) where
      split : (front : List OpenRec) × (x.stack ≡ front ++ o ∷ [])
      split = split-top x.stack o last

      the-top : IsTop o (reverse split.0) (stack t all)
      the-top = top-of o (reverse split.0) (stack t all)
          (sym logged.open_ones ∙ ap reverse split.1 ∙ reverse-append split.0 (o ∷ []))

      -- an undo is of the page of the last open record
      pub page-is : undo_page m t ≡ o.rid.page
      page-is = ap last_page (lively.puts ∙ ap (map put_of) the-top.is) ∙ ap (λ (q : OpenRec). q.rid.page) the-top.first

-- ---- who has live puts has put something

lives-on : (acts : List Act) (puts : Puts) → HasPut acts ⊎ (length (live_from puts acts) ≤ length puts)
lives-on [] puts = inr (omega arith)
lives-on (Act.Read r v ∷ acts) puts = lives-on acts puts
lives-on (Act.Put r v ∷ acts) puts = inl tt
lives-on (Act.Undo ∷ acts) [] = lives-on acts []
lives-on (Act.Undo ∷ acts) (put ∷ puts) = ⊎_elim (λ some. inl some) (λ few. inr (omega (arith, few))) (lives-on acts puts)

live-put : (acts : List Act) (n : ℕ) → n < length (live acts) → HasPut acts
live-put acts n above = ⊎_elim (λ some. some) (λ few. absurd (omega (arith, above, few))) (lives-on acts [])

-- ---- the serial table goes on

undid-on : (t : TxnId) (to : Option ℕ) (m : State) → (m.part t).life ≡ Life.Rolling to → GoesOnAs m (undid t m)
undid-on t to m rolls = record {
  lives = life-same t m;
  puts = each_txn t (λ u (p : Part). HasPut (m.part u).acts → HasPut p.acts) (undid_part (m.part t)) m.part
      (put-more (m.part t).acts (Act.Undo ∷ [])) (λ u ne h. h);
  doubts = each_txn t (λ u (p : Part). is_doubt (m.part u).life ≡ true → p.acts ≡ (m.part u).acts) (undid_part (m.part t)) m.part
      (λ doubt. let clash = sym doubt ∙ ap is_doubt rolls in absurd (cc)) (λ u ne doubt. refl);
}

-- who has a page alone has it
owned-there : (e : PageEntry) (i : ℕ) → owns e i ≡ true → is_lost e ≡ false
owned-there PageEntry.Free i h = refl
owned-there (PageEntry.Shared set writer) i h = refl
owned-there (PageEntry.Excl holder dirty) i h = refl
owned-there (PageEntry.Moving to mode rest dirty) i h = refl
owned-there PageEntry.Lost i h = absurd (cc)

-- the world then: the page is its instance's, changed, with the LSN of the record
abbrev pub undone_core : TxnId → ℕ → ℕ → Core → Core
undone_core t p lsn w = record {
  scene = record { state = undid t w.scene.state; waits = w.scene.waits };
  pages = numbered p lsn (page_placed p (dirtied (home t)) w.pages);
  bounds = bounds_after w.bounds (Undo t) reply.Step;
}

module _ (t : TxnId) (to : Option ℕ) (seen : DeviceImages) (leaves : Outcomes) (c new : Parts) (w : Core) (f : Fits seen leaves c w)
    (rolls : RollsTo t to w.scene.state) (low : 1 ≤ home t) (high : home t ≤ 8) (up : status_at c (home t) ≡ S.Up)
    (once : IsDistinct same_txn (ids (txns_at c (home t)))) (h : HasUndone (home t) c.due t c new)
    (held : owns (entry_at c.directory h.o.rid.page) (home t) ≡ true)
    (good : Good seen leaves Pending.Idle new (undid t w.scene.state)) where
  abbrev s : State
  s = w.scene.state

  abbrev a : ℕ
  a = home t

  abbrev p : ℕ
  p = h.o.rid.page

  abbrev y : Record
  y = clr_at t h.x h.o h.image c

  abbrev table : Transactions
  table = txns_at new a

  abbrev pool : Buffers
  pool = pool_at new a

  abbrev log : LogState
  log = with_record y h.undone.spare (log_at c a)

  abbrev made : Parts
  made = with_changed a log table pool new.directory c

  is : new ≡ made
  is = h.rest ∙ ap (λ (l : LogState). with_undone_by a a l pool table new.directory c.due c) h.undone.grown

  made-good : Good seen leaves Pending.Idle made (undid t s)
  made-good = subst (λ (q : Parts). Good seen leaves Pending.Idle q (undid t s)) is good

  rests : is_loose c a ≡ false
  rests = settled t to seen leaves c w f rolls.rolls low high up

  records : Records a y h.image pool new.directory c
  records = record {
    low = low;
    high = high;
    idle = f.idle;
    up = up;
    lsn = refl;
    endless = refl;
    commits = λ u. refl;
    copy = h.copy;
    page = h.undone.page;
    frames = h.undone.frames;
    entry = h.undone.entry;
    asks = h.undone.asks;
    other_entries = h.undone.other_entries;
    other_asks = h.undone.other_asks;
  }

  top-there : HasTop a t h.x h.o h.image c
  top-there = record {
    low = low;
    high = high;
    settled = rests;
    tells = ap tells_log up;
    row = h.row;
    last = h.last;
    held = held;
    copy = h.copy;
    once = once;
  }

  -- ---- what the record takes was reserved

  falls : (reserve (all_at (log_at c a) ++ flat y ∷ []) + length (spelling y) + 5 ≤ reserve (all_at (log_at c a)))
      × (suc (owed (all_at (log_at c a) ++ flat y ∷ [])) ≤ owed (all_at (log_at c a)))
  falls = clr-falls a t h.x h.o h.image seen leaves c s f.good top-there

  all-then : all_at log ≡ all_at (log_at c a) ++ flat y ∷ []
  all-then = appended-log (log_at c a) y h.undone.spare

  owes-here : owed_of (txns_at made a) ≤ owed_of (txns_at c a)
  owes-here =
      let was = (f.good.told a low high (ap tells_log up) rests).owes in
      let then = (made-good.told a low high (ap tells_log up) rests).owes in
      let whole : owed (all_at (log_at made a)) ≡ owed (all_at (log_at c a) ++ flat y ∷ []) =
      ap (λ (l : LogState). owed (all_at l)) (rec.log-here a y h.undone.spare h.image table pool new.directory seen leaves c (undid t s) w f records)
      ∙ ap owed all-then in
      let less = falls.1 in omega (arith, was, then, whole, less)

  owes : (j : ℕ) → 1 ≤ j → j ≤ 8 → owes_most made j ≤ owes_most c j
  owes j lo hi = ⊎_elim
      (λ e. subst (λ (n : ℕ). owes_most made n ≤ owes_most c n) (sym e)
      (owes-less (is_loose c a) (tells_log (status_at c a)) (owed_at c a) (owed_of (txns_at c a)) (owed_of (txns_at made a)) owes-here))
      (λ ne. let same = ap (λ (z : Transactions). cond (is_loose c j) (owed_at c j) (cond (tells_log (status_at c j)) (max (owed_at c j) (owed_of z))
      (owed_at c j))) (rec.table-else a y h.undone.spare h.image table pool new.directory seen leaves c (undid t s) w f records j ne) in omega (arith, same))
      (cases_eq j a)

  abbrev sums : Bounds
  sums = bounds_after w.bounds (Undo t) reply.Step

  old : FitsBounds seen leaves c sums
  old = bounds-stay seen c w.bounds (Undo t) reply.Step tt f.bounds

  abbrev still : Keeps
  still j = false

  copy-newest : h.image ≡ version_of (tails_of (log_by c still)) (disk_page (seen 0)) all_kept p
  copy-newest = rec.image-is a y h.undone.spare h.image table pool new.directory seen leaves c (undid t s) w f records made-good still

  slots-fit : AreWithin (capacities (redo h.image (flat y))) (sums.slots p)
  slots-fit = subst (λ (l : List ℕ). AreWithin l (sums.slots p))
      (sym (caps-set h.image.slots h.o.rid.slot (flat y).cap h.o.before
      (finds-place a t h.x h.o h.image seen leaves c s f.good top-there).slot.place))
      (subst (λ (z : Page). AreWithin (capacities z) (sums.slots p)) (sym copy-newest) (old.slots still all_kept p))

  least-fit : AreAtLeast (capacities (redo h.image (flat y))) (sums.least p)
  least-fit = subst (λ (l : List ℕ). AreAtLeast l (sums.least p))
      (sym (caps-set h.image.slots h.o.rid.slot (flat y).cap h.o.before
      (finds-place a t h.x h.o h.image seen leaves c s f.good top-there).slot.place))
      (subst (λ (z : Page). AreAtLeast (capacities z) (sums.least p)) (sym copy-newest) (old.least still all_kept p))

  reach-here : ReachesAtMost (sums.reach a) log
  reach-here =
      let at-c = subst (ReachesAtMost (sums.reach a)) (one-place c still a (f.good.settled a low high rests).one_place) (old.reach still a low high) in
      let first = at-c.0 in
      let whole = at-c.1 in
      let gate = gate-more (log_at c a) y h.undone.spare in
      let then = ap reserve all-then in
      let takes = falls.0 in (omega (arith, first), omega (arith, whole, gate, then, takes))

  lsns-fit : great_of made + owed_in_all made ≤ sums.lsns
  lsns-fit =
      let was = f.bounds.lsns in
      let great = rec.great-then a y h.undone.spare h.image table pool new.directory seen leaves c (undid t s) w f records made-good in
      let owed = sum-less (owes_most made) (owes_most c) 8 owes in
      lsns-sum _ _ _ _ _ was great owed
    where
      lsns-sum : (g o g' o' n : ℕ) → g + o ≤ n → g' ≤ g + 1 → o' ≤ o → g' + o' ≤ n + 4
      lsns-sum g o g' o' n was great owed = omega arith

  put-then : (u : TxnId) → IsAtWork ((undid t s).part u).life → IsSome (span_at (txns_at made (home u)) u) → HasPut ((undid t s).part u).acts
  put-then u works spoken = ⊎_elim
      (λ same. subst (λ (v : TxnId). HasPut ((undid t s).part v).acts) (sym same)
      (on.puts t (live-put (s.part t).acts (goal to) rolls.above)))
      (λ ne. on.puts u (f.put u (subst IsAtWork (on.lives u) works)
      (subst (λ (r : Option Transaction). IsSome (option_and_then (λ (z : Transaction). z.span) r))
      (rec.row-else a y h.undone.spare h.image table pool new.directory seen leaves c (undid t s) w f records made-good t h.undone.row.others u ne) spoken)))
      (cases_txn u t)
    where
      on : GoesOnAs s (undid t s)
      on = undid-on t to s rolls.rolls

  pub undone-fits : Fits seen leaves new (undone_core t p (flat y).lsn w)
  undone-fits =
      let on : GoesOnAs s (undid t s) = undid-on t to s rolls.rolls in
      subst (λ (q : Parts). Fits seen leaves q (undone_core t p (flat y).lsn w)) (sym is) (record {
        good = made-good;
        idle = f.idle;
        rolling = λ u goes. rec.still-open a y h.undone.spare h.image table pool new.directory seen leaves c (undid t s) w f records made-good u
            (f.rolling u (sym (on.lives u) ∙ goes));
        waits = f.waits;
        waiting = λ u off. f.waiting u (ap is_running (sym (on.lives u)) ∙ off);
        put = put-then;
        pages = rec.pages-fit a y h.undone.spare h.image table pool new.directory seen leaves c (undid t s) w f records made-good;
        bounds = rec.bounds-fit a y h.undone.spare h.image table pool new.directory seen leaves c (undid t s) w f records made-good sums old slots-fit
            least-fit reach-here lsns-fit;
        doubts = rec.doubts-fit a y h.undone.spare h.image table pool new.directory seen leaves c (undid t s) w f records made-good
            (on-stays s (undid t s) on);
      })

  -- the page's number doesn't fall
  pub undone-number : w.pages.number p ≤ (flat y).lsn
  undone-number =
      let there : is_lost (w.pages.entry p) ≡ false = owned-there (w.pages.entry p) a (ap (λ (e : PageEntry). owns e a) (f.pages.entry p) ∙ held) in
      let number = f.pages.number p there in
      let copy = ap (λ (z : Page). z.lsn) copy-newest in omega (arith, number, copy)
