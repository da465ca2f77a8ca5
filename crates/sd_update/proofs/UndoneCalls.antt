-- What an undo does to a page's slots, what it says in its record, and what the complex is then: for the call `undo`.
use Rattle.std.proofs.Common.{◌≡◌, ℕ, zero, suc, ◌-◌, ◌<◌, ◌≤◌, true, List, [], ◌∷◌, get_or, length, refl, sym, ap, ap₂, ◌∙◌, subst, arith}
use Rattle.std.specs.Prelude.{Option, None, Some, option_and_then, unwrap_or}
use Rattle.std.specs.List.{IsDistinct}
use Rattle.std.specs.Option.{option_map_or}
use Rattle.sd_base.specs.Ids.{same_txn}
use Rattle.sd_base.specs.Values.{size}
use Rattle.sd_base.specs.declared.ids.TxnId.{TxnId}
use Rattle.sd_base.specs.declared.place.Status.TheVariants as S
use Rattle.sd_logrec.specs.Spelling.{spelling}
use Rattle.sd_logrec.specs.declared.record.Record.{Record}
use Rattle.sd_logrec.specs.declared.record.Record.TheVariants as records
use Rattle.sd_log.specs.Logs.{AreSpelled, LogState, scanned}
use Rattle.sd_model.specs.Changes.{undid}
use Rattle.sd_model.specs.State.{State}
use Rattle.sd_page.specs.Page.{CanTake, Page, Slot, capacity_for, written}
use Rattle.sd_pagelock.specs.Directory.{DirectoryState, entry_at}
use Rattle.sd_pagelock.specs.Places.{owns}
use Rattle.sd_pool.specs.Buffers as buffers
use Rattle.sd_pool.specs.Buffers.{Buffers}
use Rattle.sd_rig.specs.Devices as rig
use Rattle.sd_txn.specs.Marked.{AreMarks}
use Rattle.sd_txn.specs.Transactions.{Transaction, Transactions, depth, ids, span_at, top, top_at, txn_at}
use Rattle.sd_txn.specs.declared.state.OpenRec.{OpenRec}
use Rattle.sd_chain.specs.Pages.{FitsUndo, capacity, write}
use Rattle.sd_chain.specs.Records.{Val, home}
use Rattle.sd_chain.proofs.Slots.{capacity-at}
use Rattle.sd_chain.specs.Logs.{Outcomes}
use Rattle.sd_state.specs.Good.{Good}
use Rattle.sd_state.specs.Parts.{Parts, log_at, no_log, no_pool, no_txns, pool_at, status_at, txns_at}
use Rattle.sd_update.specs.Undoing.{CanUndo, FindsTop, HasUndone, IsUndone, MayUndo, RollsTo, clr_at, lsn_for, with_undone_by}
use Rattle.sd_state.specs.Values.{Pending}
use Rattle.sd_state.proofs.Items.{item-is, item-set}
use Rattle.sd_update.proofs.UndoneOwn.{undo-good}
use Rattle.sd_update.proofs.UndoneSpelled.{undo-spelled}
use Rattle.sd_update.proofs.UndoneThere.{undo-finds_copy, undo-finds_top}
use Rattle.sd_update.proofs.UndoneTop.{undo-finds_room}

-- a slot that the page has is written as the laws say,
pub slot-written : (slots : List Slot) (s : ℕ) (v : Val) → s < length slots → written slots s 0 v ≡ write slots s 0 v
slot-written [] s v lt = absurd (omega (arith, lt))
slot-written (x ∷ xs) zero v lt = refl
slot-written (x ∷ xs) (suc s) v lt = ap (λ l. x ∷ l) (slot-written xs s v (omega (arith, lt)))

-- and takes a value that fits its undo
pub undo-taken : (slots : List Slot) (s : ℕ) (v : Val) → FitsUndo slots s v → CanTake slots s 0 (size v)
undo-taken slots s v fits = let lt = fits.place in record {
  place = omega (arith, lt);
  room = λ next. absurd (omega (arith, lt, next));
  small = λ next. absurd (omega (arith, lt, next));
  within = let e : capacity_for slots s 0 ≡ capacity slots s = ap (λ o. unwrap_or o 0) (capacity-at slots s lt) in
      let w = fits.within in omega (arith, e, w);
}

module _ (a : ℕ) (t : TxnId) (x : Transaction) (o : OpenRec) (image : Page) (c : Parts) (can : CanUndo a t x o image c) where
  abbrev i : ℕ
  i = home t

  pub top-there : top_at (txns_at c i) t ≡ Some o
  top-there = ap (λ (row : Option Transaction). option_and_then top row) can.row ∙ can.last

  -- a table and a pool that are lent at the instance's place
  pub table-lent : (n : ℕ) (table : Transactions) → n ≡ i - 1 → table ≡ get_or c.txns n table → txns_at c i ≡ table
  table-lent n table place is = item-is no_txns c.txns i table can.low can.high can.shape.txns
      (is ∙ ap (λ (k : ℕ). get_or c.txns k table) place)

  pub pool-lent : (n : ℕ) (pool : Buffers) → n ≡ a - 1 → pool ≡ get_or c.pools n pool → pool_at c a ≡ pool
  pool-lent n pool place is = item-is no_pool c.pools a pool can.by_low can.by_high can.shape.pools
      (is ∙ ap (λ (k : ℕ). get_or c.pools k pool) place)

  -- the record is what the undo is to say
  pub clr-there : (n prev lsn : ℕ) (was table : Transactions) (clr : Record) → n ≡ i - 1 → was ≡ get_or c.txns n was
      → table ≡ get_or c.txns n table → prev ≡ option_map_or (λ (span : ℕ × ℕ). span.1) (span_at was t) 0
      → lsn ≡ lsn_for t image c
      → ((o : OpenRec) → top_at table t ≡ Some o → clr ≡ records.Clr lsn t prev o.prev o.rid.page o.rid.slot o.before)
      → clr ≡ clr_at t x o image c
  clr-there n prev lsn was table clr place was_is table_is prev_is lsn_is says =
      says o (ap (λ (tb : Transactions). top_at tb t) (sym (table-lent n table place table_is)) ∙ top-there)
      ∙ ap₂ (λ (k l : ℕ). records.Clr k t l o.prev o.rid.page o.rid.slot o.before) lsn_is
      (prev_is ∙ ap (λ (tb : Transactions). option_map_or (λ (span : ℕ × ℕ). span.1) (span_at tb t) 0)
      (sym (table-lent n was place was_is))
      ∙ ap (λ (row : Option Transaction). option_map_or (λ (span : ℕ × ℕ). span.1)
      (option_and_then (λ (y : Transaction). y.span) row) 0) can.row)

  module _ (log : LogState) (pool : Buffers) (table : Transactions) (places : DirectoryState Page) (due : Option (ℕ × ℕ))
      (d : IsUndone a t x o image log pool table places c) where
    abbrev new : Parts
    new = with_undone_by a i log pool table places due c

    log-here : log_at new i ≡ log
    log-here = item-set no_log c.logs i log can.low can.high can.shape.logs

    pool-here : pool_at new a ≡ pool
    pool-here = item-set no_pool c.pools a pool can.by_low can.by_high can.shape.pools

    table-here : txns_at new i ≡ table
    table-here = item-set no_txns c.txns i table can.low can.high can.shape.txns

    pub has-undone : HasUndone a due t c new
    has-undone = record {
      x = x;
      o = o;
      image = image;
      row = can.row;
      last = can.last;
      copy = can.copy;
      undone = subst (λ (l : LogState). IsUndone a t x o image l (pool_at new a) (txns_at new i) places c) (sym log-here)
          (subst (λ (b : Buffers). IsUndone a t x o image log b (txns_at new i) places c) (sym pool-here)
          (subst (λ (tb : Transactions). IsUndone a t x o image log pool tb places c) (sym table-here) d));
      rest = ap (λ (l : LogState). with_undone_by a i l pool table places due c) (sym log-here)
          ∙ ap (λ (b : Buffers). with_undone_by a i (log_at new i) b table places due c) (sym pool-here)
          ∙ ap (λ (tb : Transactions). with_undone_by a i (log_at new i) (pool_at new a) tb places due c) (sym table-here);
    }

-- ---- when it may come, and what the invariant is then

-- what every table keeps
pub record KeepsTable (t : TxnId) (table : Transactions) : Type 0 where
  pub once : IsDistinct same_txn (ids table)
  pub marks : (x : Transaction) → txn_at table t ≡ Some x → AreMarks x.marks (depth x)

module _ (t : TxnId) (seen : rig.DeviceImages) (leaves : Outcomes) (c : Parts) (m : State) (to : Option ℕ)
    (g : Good seen leaves Pending.Idle c m) (rolls : RollsTo t to m) (low : 1 ≤ home t) (high : home t ≤ 8) (idle : c.due ≡ None)
    (up : status_at c (home t) ≡ S.Up)
    (holds : (o : OpenRec) → top_at (txns_at c (home t)) t ≡ Some o → owns (entry_at c.directory o.rid.page) (home t) ≡ true)
    (keeps : KeepsTable t (txns_at c (home t))) where
  may-undo : (x : Transaction) (o : OpenRec) (image : Page) → txn_at (txns_at c (home t)) t ≡ Some x → top x ≡ Some o
      → buffers.image_at (pool_at c (home t)) o.rid.page ≡ Some image → MayUndo t x o image c m
  may-undo x o image row last copy = record {
    low = low;
    high = high;
    idle = idle;
    to = to;
    rolls = rolls.rolls;
    above = rolls.above;
    up = up;
    row = row;
    last = last;
    held = holds o (ap (λ (r : Option Transaction). option_and_then top r) row ∙ last);
    copy = copy;
    once = keeps.once;
    marks = keeps.marks x row;
  }

  pub can-undo : AreSpelled (scanned (log_at c (home t)))
      → (x : Transaction) × (o : OpenRec) × (image : Page) × CanUndo (home t) t x o image c
      × (length (spelling (clr_at t x o image c)) ≤ (log_at c (home t)).spare)
  can-undo spelled =
      let f : FindsTop t c = undo-finds_top leaves seen c m t to g low high idle up rolls.rolls rolls.above in
      let held = holds f.o (ap (λ (r : Option Transaction). option_and_then top r) f.row ∙ f.last) in
      let copy = undo-finds_copy leaves seen c m (home t) f.o.rid.page g held in
      let w : MayUndo t f.x f.o copy.0 c m = may-undo f.x f.o copy.0 f.row f.last copy.1 in
      let room = undo-finds_room leaves seen c m t f.x f.o copy.0 g w in (
        f.x,
        f.o,
        copy.0,
        record {
          shape = g.shape;
          low = low;
          high = high;
          by_low = low;
          by_high = high;
          row = f.row;
          last = f.last;
          held = held;
          copy = copy.1;
          finds = record { room = room.room; low = room.low; high = room.high; slot = room.slot };
          spelled = undo-spelled leaves seen c m t f.x f.o copy.0 g w spelled;
        },
        room.spare,
      )

  pub good-undone : (new : Parts) → HasUndone (home t) c.due t c new → Good seen leaves Pending.Idle new (undid t m)
  good-undone new h =
      subst (λ (q : Parts). Good seen leaves Pending.Idle q (undid t m)) (sym h.rest)
      (undo-good leaves seen c m t h.x h.o h.image (log_at new (home t)) (pool_at new (home t)) (txns_at new (home t)) new.directory
      g (may-undo h.x h.o h.image h.row h.last h.copy) h.undone)
