-- A transaction's last open record is undone by some instance: what held of the complex holds of it then. For the laws on undo.
use Rattle.std.proofs.Common.{◌≡◌, ◌≢◌, inl, inr, ⊎_elim, ℕ, suc, ◌+◌, ◌-◌, ◌≤◌, Bool, true, false, cond, List, [], ◌∷◌, ◌++◌, ◌&&◌, length, map, sum_by, refl, sym, ap, ap₂, ◌∙◌, subst, arith}
use Rattle.std.specs.Prelude.{Option, None, Some, IfSome, is_some, reverse, if◌then◌else◌, ◌==◌}
use Rattle.std.specs.Option.{option_map_or}
use Rattle.std.proofs.lemmas.Bool.{cases_eq}
use Rattle.std.proofs.lemmas.List.{length-set}
use mathlib.Core.Path.{fun_ext}
use Rattle.sd_base.specs.Values.{size}
use Rattle.sd_base.specs.declared.ids.TxnId.{TxnId}
use Rattle.sd_base.specs.declared.place.Status.TheVariants as S
use Rattle.sd_base.specs.Ids.{same_txn}
use Rattle.sd_base.proofs.SameIds.{cases_txn}
use Rattle.sd_logrec.specs.Kept.{master}
use Rattle.sd_logrec.specs.View.{Rec, flat}
use Rattle.sd_logrec.specs.declared.record.Record.{Record}
use Rattle.sd_log.specs.Logs.{LogState, StandsOn, begun_at, forced, last_lsn, scanned, with_record}
use Rattle.sd_model.specs.State.{Part, State}
use Rattle.sd_model.specs.Claims.{Claims}
use Rattle.sd_model.specs.Kept.{Kept}
use Rattle.sd_model.specs.Marks.{Marked}
use Rattle.sd_model.specs.Listed.{IsAtWork, Listed}
use Rattle.sd_model.specs.Lives.{IsDoubt, LivesAreSound, SuitsStatus}
use Rattle.sd_model.specs.declared.act.Life.{Life}
use Rattle.sd_page.specs.Page.{Page}
use Rattle.sd_pagelock.specs.Directory.{DirectoryState, asks_at, entry_at}
use Rattle.sd_pagelock.specs.Asks.{is_open_ask}
use Rattle.sd_pagelock.specs.declared.queue.Ask.{Ask}
use Rattle.sd_pagelock.specs.Places.{PageEntry}
use Rattle.sd_pagelock.specs.Rows.{dirtied}
use Rattle.sd_pool.specs.Buffers.{Buffers}
use Rattle.sd_rig.specs.Devices as rig
use Rattle.sd_txn.specs.Owing.{bytes_owed, records_owed, owed_of, reserve_of, undo_len}
use Rattle.sd_txn.specs.Transactions.{Transaction, Transactions, begins_in, noted, popped, txn_at}
use Rattle.sd_txn.specs.declared.state.OpenRec.{OpenRec}
use Rattle.sd_txn.proofs.Owing.{bytes_owed-popped, records_owed-popped, total-replaced}
use Rattle.sd_txn.proofs.Stacks.{popped-push, split-top}
use Rattle.sd_chain.specs.Checks.{owed, reserve}
use Rattle.sd_chain.specs.Fates.{Fate, fate}
use Rattle.sd_chain.specs.Images.{Keeps}
use Rattle.sd_chain.specs.Order.{span_of}
use Rattle.sd_chain.specs.Records.{Each, IsOpen, ends, home, rest, stack}
use Rattle.sd_chain.proofs.Fates.{fate-others}
use Rattle.sd_chain.proofs.Lists.{Each-append, Each-filter, Each-front, Each-weaker}
use Rattle.sd_chain.proofs.Stacks.{stack-push, step-other, step-own}
use Rattle.sd_chain.proofs.Whose.{other_of, own_of}
use Rattle.sd_chain.specs.AppendedRecords.{Acts, IsUndo}
use Rattle.sd_chain.specs.Coherent.{Coherent}
use Rattle.sd_chain.specs.Logs.{Outcomes, all_at, base_at, may_of, past_at}
use Rattle.sd_chain.proofs.Appends.{appended-log}
use Rattle.sd_chain.proofs.Next.{epoch-others}
use Rattle.sd_chain.proofs.Owing.{stack-there, undo-owes}
use Rattle.sd_chain.proofs.Room.{clr-len}
use Rattle.sd_state.specs.Good.{Good, Half, IsChecking, IsInstance, IsKnownLsn, IsOfBegun, IsSettledAt, IsTold, OwesAtMost, dir_of}
use Rattle.sd_state.specs.Images.{leaves_by, log_by}
use Rattle.sd_state.specs.Parts.{Begun, Parts, check_at, is_active, is_loose, log_at, no_log, no_txns, other_at, owed_at, status_at, txns_at}
use Rattle.sd_state.specs.Tables.{GoesOn, IsLive, IsLogged, NamedOnce, NamesLife, RowIsLive, RowIsLogged, StandsAs, lock_of, tells_log}
use Rattle.sd_update.specs.Undoing.{HasTop, IsUndone, clr_at, lsn_for, with_undone_by}
use Rattle.sd_state.specs.Values.{Pending, is_committed, open_of, put_of, values}
use Rattle.sd_state.proofs.Items.{item-kept, item-set}
use Rattle.sd_state.proofs.Lasts.{last-grows, last-more}
use Rattle.sd_state.proofs.Begun.{began-there, begun-more}
use Rattle.sd_state.proofs.Standing.{no-place, one-place, bases-by, known-still, others-still}
use Rattle.sd_update.proofs.UndoneHalf.{acting_base, half-undone}
use Rattle.sd_update.proofs.UndoneTop as top-of-all
use Rattle.sd_update.proofs.UndoneRows.{IsTop, span-push, span-there}
use Rattle.sd_state.proofs.Lows.{low-begin}

-- a row that the one log tells the other tells, where both have the same of its transaction
row-same : (row : Option Transaction) (u : TxnId) (one other : List Rec) → (IsOpen u one → IsOpen u other)
    → (IsOpen u other → IsOpen u one) → fate u other ≡ fate u one → stack u other ≡ stack u one
    → span_of u other ≡ span_of u one → RowIsLogged row u one → RowIsLogged row u other
row-same None u one other on back fates stacks spans h = λ e. h (sym fates ∙ e)
row-same (Some x) u one other on back fates stacks spans h = ⊎_elim
    (λ l. inl (record { alive = on l.alive; open_ones = l.open_ones ∙ ap (map open_of) (sym stacks); span = l.span ∙ sym spans }))
    (λ s. inr (record { ended = λ e. s.ended (back e); emptied = s.emptied; span = s.span }))
    h

live-same : (row : Option Transaction) (u : TxnId) (p : Part) (one other : List Rec) → stack u other ≡ stack u one
    → RowIsLive row u p one → RowIsLive row u p other
live-same None u p one other stacks h = tt
live-same (Some x) u p one other stacks h = record { puts = h.puts ∙ ap (map put_of) (sym stacks); marks = h.marks }

-- the log of the transaction's instance with the record of the undo
abbrev pub undone_log : TxnId → Transaction → OpenRec → Page → Parts → List Rec
undone_log t x o image c = all_at (log_at c (home t)) ++ flat (clr_at t x o image c) ∷ []

-- Instance a undoes the record, and no life or claim of the serial table changes, and of no other transaction anything.
module _ (a : ℕ) (t : TxnId) (x : Transaction) (o : OpenRec) (image : Page) (log : LogState) (pool : Buffers) (table : Transactions)
    (places : DirectoryState Page) (due : Option (ℕ × ℕ)) (seen : rig.DeviceImages) (leaves : Outcomes) (c : Parts) (m : State)
    (part' : TxnId → Part) (a_low : 1 ≤ a) (a_high : a ≤ 8) (g : Good seen leaves Pending.Idle c m) (w : HasTop a t x o image c)
    (d : IsUndone a t x o image log pool table places c)
    (lives : (u : TxnId) → (part' u).life ≡ (m.part u).life) (claims_stay : (u : TxnId) → (part' u).claims ≡ (m.part u).claims)
    (others_stay : (u : TxnId) → u ≢ t → part' u ≡ m.part u)
    (tables : (one other : ℕ → List Rec) → ((u : TxnId) → is_committed one u ≡ is_committed other u) → (p s : ℕ)
    → values (record m { part = part' }) Pending.Idle one p s ≡ values m Pending.Idle other p s)
    (marks : ℕ → Bool) (marks_are : (j : ℕ) → 1 ≤ j → is_loose c j ≡ marks j)
    (acting : (moved : Keeps)
    → Coherent (acting_base seen (leaves_by c moved leaves) (log_by c moved) c marks due) (dir_of c))
    (acts : (moved : Keeps)
    → Acts (acting_base seen (leaves_by c moved leaves) (log_by c moved) c marks due) a (home t))
    (there : (m.part t).life ≢ Life.Gone)
    (stays : (forced : Fate) → StandsAs x.state (m.part t).life forced (fate t (all_at (log_at c (home t))))
    → StandsAs x.state (m.part t).life forced (fate t (undone_log t x o image c)))
    (live : status_at c (home t) ≡ S.Up
    → IsLive (noted (lsn_for t image c) (popped x)) t (part' t) (undone_log t x o image c)) where
  abbrev i : ℕ
  i = home t

  abbrev new : Parts
  new = with_undone_by a i log pool table places due c

  abbrev then_m : State
  then_m = record m { part = part' }

  abbrev r : Record
  r = clr_at t x o image c

  abbrev y : Rec
  y = flat r

  abbrev all : List Rec
  all = all_at (log_at c i)

  abbrev whole : List Rec
  whole = all ++ y ∷ []

  at-i : IsSettledAt seen leaves c i
  at-i = g.settled i w.low w.high w.settled

  told : IsTold c m i
  told = top-of-all.told a t x o image seen leaves c m g w

  abbrev gone : Transaction
  gone = noted (lsn_for t image c) (popped x)

  logged : IsLogged x t all
  logged = top-of-all.logged a t x o image seen leaves c m g w

  split : (front : List OpenRec) × (x.stack ≡ front ++ o ∷ [])
  split = split-top x.stack o w.last

  front-is : (popped x).stack ≡ split.0
  front-is = ap (λ (q : Transaction). q.stack) (popped-push x split.0 o split.1)

  tops : IsTop o (reverse split.0) (stack t all)
  tops = top-of-all.tops a t x o image seen leaves c m g w split.0 split.1

  abbrev top : Rec
  top = tops.top

  abbrev below : List Rec
  below = tops.below

  alive : IsOpen t all
  alive = top-of-all.alive a t x o image seen leaves c m g w

  undo : IsUndo y top below all
  undo = top-of-all.undo a t x o image seen leaves c m g w split.0 tops

  -- ---- the parts

  log-here : log_at new i ≡ log
  log-here = item-set no_log c.logs i log w.low w.high g.shape.logs

  log-else : (j : ℕ) → j ≢ i → log_at new j ≡ log_at c j
  log-else = item-kept no_log c.logs i log w.low

  table-here : txns_at new i ≡ table
  table-here = item-set no_txns c.txns i table w.low w.high g.shape.txns

  table-else : (j : ℕ) → j ≢ i → txns_at new j ≡ txns_at c j
  table-else = item-kept no_txns c.txns i table w.low

  -- what each log has but its tail and what it has to spare
  kept-of : {A : Type 0} (f : LogState → A) → f log ≡ f (log_at c i) → (j : ℕ) → f (log_at new j) ≡ f (log_at c j)
  kept-of f same j = ⊎_elim
      (λ e. subst (λ (k : ℕ). f (log_at new k) ≡ f (log_at c k)) (sym e) (ap f log-here ∙ same))
      (λ ne. ap f (log-else j ne))
      (cases_eq j i)

  start-same : (j : ℕ) → (log_at new j).start ≡ (log_at c j).start
  start-same = kept-of (λ l. l.start) (ap (λ (l : LogState). l.start) d.grown)

  inst-same : (j : ℕ) → (log_at new j).inst ≡ (log_at c j).inst
  inst-same = kept-of (λ l. l.inst) (ap (λ (l : LogState). l.inst) d.grown)

  base-same : (j : ℕ) → base_at (log_at new j) ≡ base_at (log_at c j)
  base-same = kept-of base_at (ap base_at d.grown)

  all-here : all_at (log_at new i) ≡ whole
  all-here = ap all_at (log-here ∙ d.grown) ∙ appended-log (log_at c i) r d.spare

  -- ---- wherever logs begin

  leaves-same : (moved : Keeps) → leaves_by c moved leaves ≡ leaves_by new moved leaves
  leaves-same moved = ap (λ (start : ℕ → ℕ). by start) (fun_ext (λ j. sym (start-same j)))
    where
      by : (ℕ → ℕ) → Outcomes
      by start n bytes = leaves n bytes × IfSome (other_at c n) (λ place. (master bytes).start ≡ cond (moved n) place (start n))

  half-there : (moved : Keeps) → Half seen (leaves_by new moved leaves) (log_by new moved) Pending.Idle new then_m
  half-there moved =
      let one : log_by c moved i ≡ log_at c i = one-place c moved i at-i.one_place in
      subst (λ (l : Outcomes). Half seen l (log_by new moved) Pending.Idle new then_m) (leaves-same moved)
      (half-undone a t x o image log pool table places due seen (leaves_by c moved leaves) (log_by c moved)
      (log_by new moved) c m part' top below a_low a_high w d g.shape.pools lives claims_stay tables (g.half moved) marks marks_are
      (acting moved) (acts moved) ((at-i.only (seen i)).1 refl, no-place (other_at c i) _ at-i.one_place)
      (λ bytes l. subst (λ (x : LogState). StandsOn x bytes) (sym one)
      (subst (StandsOn (log_at c i)) (sym ((at-i.only bytes).0 l.0)) at-i.stands))
      one (one-place new moved i at-i.one_place ∙ log-here)
      (λ j ne. ap (λ (l : LogState). cond (moved j) (option_map_or (λ place. begun_at place l) (other_at c j) l) l)
      (log-else j ne)) undo (λ k is. let old = g.checking i k is in let low = low-begin k in let begun = old.begun in
      omega (arith, low, begun)))

  -- ---- what the log and the table say of each transaction

  own-stack : stack t whole ≡ below
  own-stack = stack-push t all y ∙ step-own t (stack t all) y refl ∙ ap (λ (xs : List Rec). rest xs) tops.is

  other-stack : (u : TxnId) → u ≢ t → stack u whole ≡ stack u all
  other-stack u ne = stack-push u all y ∙ step-other u (stack u all) y (λ e. ne (sym e))

  -- it ends nobody
  open-more : (u : TxnId) → IsOpen u all → IsOpen u whole
  open-more u opens = Each-append (λ z. (ends z.kind && same_txn z.txn u) ≡ false) all (y ∷ []) opens (refl, tt)

  open-less : (u : TxnId) → IsOpen u whole → IsOpen u all
  open-less u opens = Each-front (λ z. (ends z.kind && same_txn z.txn u) ≡ false) all (y ∷ []) opens

  other-fate : (u : TxnId) → u ≢ t → fate u whole ≡ fate u all
  other-fate u ne = fate-others u all (y ∷ []) (other_of u y (λ e. ne (sym e)), tt)

  other-span : (u : TxnId) → u ≢ t → span_of u whole ≡ span_of u all
  other-span u ne = span-push u all y
      ∙ ap (λ (b : Bool). cond {A = Option (ℕ × ℕ)} b (Some (option_map_or (λ s. s.0) (span_of u all) y.lsn, y.lsn))
      (span_of u all))
      (other_of u y (λ e. ne (sym e)))

  own-span : gone.span ≡ span_of t whole
  own-span = ap (λ (s : Option (ℕ × ℕ)). pair s) logged.span
      ∙ sym (ap (λ (b : Bool). cond {A = Option (ℕ × ℕ)} b (pair (span_of t all)) (span_of t all)) (own_of y refl))
      ∙ sym (span-push t all y)
    where
      pair : Option (ℕ × ℕ) → Option (ℕ × ℕ)
      pair s = Some (option_map_or (λ p. p.0) s y.lsn, y.lsn)

  rows-here : (u : TxnId) → RowIsLogged (txn_at (txns_at c i) u) u all → RowIsLogged (txn_at table u) u whole
  rows-here u old = ⊎_elim
      (λ e. subst (λ (v : TxnId). RowIsLogged (txn_at table v) v whole) (sym e)
      (subst (λ (row : Option Transaction). RowIsLogged row t whole) (sym d.row.now) (inl (record {
        alive = open-more t alive;
        open_ones = ap reverse front-is ∙ sym tops.others ∙ ap (map open_of) (sym own-stack);
        span = own-span;
      }))))
      (λ ne. subst (λ (row : Option Transaction). RowIsLogged row u whole) (sym (d.row.others u ne))
      (row-same (txn_at (txns_at c i) u) u all whole (open-more u) (open-less u) (other-fate u ne) (other-stack u ne) (other-span u ne) old))
      (cases_txn u t)

  names-here : (u : TxnId) (forced : Fate) → NamesLife (txn_at (txns_at c i) u) (m.part u).life forced (fate u all)
      → NamesLife (txn_at table u) (then_m.part u).life forced (fate u whole)
  names-here u forced old = subst (λ (life : Life). NamesLife (txn_at table u) life forced (fate u whole))
      (sym (lives u)) (⊎_elim
      (λ e. subst (λ (v : TxnId). NamesLife (txn_at table v) (m.part v).life forced (fate v whole)) (sym e)
      (own (subst (λ (v : TxnId). old_names v) e old)))
      (λ ne. subst (λ (row : Option Transaction). NamesLife row (m.part u).life forced (fate u whole)) (sym (d.row.others u ne))
      (subst (NamesLife (txn_at (txns_at c i) u) (m.part u).life forced) (sym (other-fate u ne)) old))
      (cases_txn u t))
    where
      old_names : TxnId → Type 0
      old_names v = NamesLife (txn_at (txns_at c i) v) (m.part v).life forced (fate v all)

      own : old_names t → NamesLife (txn_at table t) (m.part t).life forced (fate t whole)
      own h = subst (λ (row : Option Transaction). NamesLife row (m.part t).life forced (fate t whole)) (sym d.row.now)
          (stays forced (subst (λ (row : Option Transaction). NamesLife row (m.part t).life forced (fate t all)) w.row h))

  -- ---- who is at work

  live-here : (u : TxnId) → status_at c i ≡ S.Up → RowIsLive (txn_at (txns_at c i) u) u (m.part u) all
      → RowIsLive (txn_at table u) u (then_m.part u) whole
  live-here u up old = ⊎_elim
      (λ e. subst (λ (v : TxnId). RowIsLive (txn_at table v) v (then_m.part v) whole) (sym e)
      (subst (λ (row : Option Transaction). RowIsLive row t (part' t) whole) (sym d.row.now) (live up)))
      (λ ne. subst (λ (p : Part). RowIsLive (txn_at table u) u p whole) (sym (others_stay u ne))
      (subst (λ (row : Option Transaction). RowIsLive row u (m.part u) whole) (sym (d.row.others u ne))
      (live-same (txn_at (txns_at c i) u) u (m.part u) all whole (other-stack u ne) old)))
      (cases_txn u t)

  -- ---- what is owed

  known : is_some x.span ≡ true
  known = ap is_some logged.span ∙ span-there t all (stack-there t all below top tops.is)

  noted-records : records_owed gone ≡ records_owed (popped x)
  noted-records = ap (λ (b : Bool). (if b then 1 else 0) + length (popped x).stack) (sym known)

  noted-bytes : bytes_owed gone ≡ bytes_owed (popped x)
  noted-bytes = ap (λ (b : Bool). (if b then 31 else 0) + sum_by undo_len (popped x).stack) (sym known)

  owes : (reserve whole + 47 + size top.before ≡ reserve all) × (suc (owed whole) ≡ owed all)
  owes = undo-owes all y top below refl alive tops.is

  told-here : IsTold new then_m i
  told-here = record {
    rows = λ u own. subst (λ (tb : Transactions). RowIsLogged (txn_at tb u) u (all_at (log_at new i))) (sym table-here)
        (subst (RowIsLogged (txn_at table u) u) (sym all-here) (rows-here u (told.rows u own)));
    owes = ap owed_of table-here ∙ owed-is ∙ ap owed (sym all-here);
    reserves = ap reserve_of table-here ∙ reserve-is ∙ ap reserve (sym all-here);
    spare = λ up. let here = ap reserve all-here in let was = told.spare up in let less = owes.0 in let spent = d.spent in
        let len = clr-len r refl in let same = value-size in let now = ap (λ (l : LogState). l.spare) (log-here ∙ d.grown) in
        omega (arith, here, was, less, spent, len, same, now);
  }
    where
      value-size : size top.before ≡ size o.before
      value-size = ap (λ (q : OpenRec). size q.before) tops.first

      owed-is : owed_of table ≡ owed whole
      owed-is = let a = total-replaced records_owed (txns_at c i) table t x gone w.once d.row in
          let b = records_owed-popped x o w.last in let e = noted-records in let f = told.owes in let h = owes.1 in
          omega (arith, a, b, e, f, h)

      reserve-is : reserve_of table ≡ reserve whole
      reserve-is = let a = total-replaced bytes_owed (txns_at c i) table t x gone w.once d.row in
          let b = bytes_owed-popped x o w.last in let e = noted-bytes in let f = told.reserves in let h = owes.0 in
          let k = value-size in
          omega (arith, a, b, e, f, h, k)

  -- ---- devices

  settled-there : (j : ℕ) → 1 ≤ j → j ≤ 8 → is_loose c j ≡ false → IsSettledAt seen leaves new j
  settled-there j lo hi e = let s = g.settled j lo hi e in record {
    only = s.only;
    stands = ⊎_elim
        (λ same. subst (λ (k : ℕ). StandsOn (log_at new k) (seen k)) (sym same)
        (subst (λ (l : LogState). StandsOn l (seen i)) (sym (log-here ∙ d.grown)) at-i.stands))
        (λ ne. subst (λ (l : LogState). StandsOn l (seen j)) (sym (log-else j ne)) s.stands)
        (cases_eq j i);
    one_place = s.one_place;
    counted = s.counted;
    epoch = ⊎_elim
        (λ same. ap (λ (l : LogState). (past_at (master (seen j)) (forced l)).epoch)
        (ap (log_at new) same ∙ log-here ∙ d.grown)
        ∙ epoch-others (master (seen j)) (log_at c i) r d.spare refl
        ∙ ap (λ (k : ℕ). (past_at (master (seen j)) (forced (log_at c k))).epoch) (sym same))
        (λ ne. ap (λ (l : LogState). (past_at (master (seen j)) (forced l)).epoch) (log-else j ne))
        (cases_eq j i) ∙ s.epoch;
  }

  known-there : (moved : Keeps) (p : ℕ) (v : Page) → may_of leaves p v → IsKnownLsn new (log_by new moved) v.lsn
  known-there moved p v may = known-still c new (log_by c moved) (log_by new moved) v.lsn refl
      (bases-by c new i at-i.one_place (λ j. refl) (base-same i) log-else moved) (g.disk_lsns moved p v may)

  -- ---- instances

  instance-there : (k : ℕ) → 1 ≤ k → k ≤ 8 → IsInstance new then_m k
  instance-there k lo hi = let old = g.instances k lo hi in record {
    status = old.status;
    epoch = old.epoch;
    begins = λ up. begins-same k ∙ old.begins up;
    first = old.first;
    own = λ u ne. ⊎_elim
        (λ same. subst (λ (n : ℕ). txn_at (txns_at new n) u ≡ None) (sym same) (ap (λ (z : Transactions). txn_at z u) table-here
        ∙ d.row.others u (λ e. ne (ap home e ∙ sym same)) ∙ (g.instances i w.low w.high).own u (λ e. ne (e ∙ sym same))))
        (λ off. ap (λ (z : Transactions). txn_at z u) (table-else k off) ∙ old.own u ne)
        (cases_eq k i);
    table = let e = epoch-same k in let o = old.table in omega (arith, e, o);
    names = λ u own. ⊎_elim
        (λ e. subst (λ (j : ℕ). NamesLife (txn_at (txns_at new j) u) (then_m.part u).life (fate u (base_at (log_at new j)))
        (fate u (all_at (log_at new j)))) (sym e)
        (subst (λ (tb : Transactions). NamesLife (txn_at tb u) (then_m.part u).life (fate u (base_at (log_at new i)))
        (fate u (all_at (log_at new i)))) (sym table-here)
        (subst (λ (xs : List Rec). NamesLife (txn_at table u) (then_m.part u).life (fate u (base_at (log_at new i)))
        (fate u xs)) (sym all-here)
        (subst (λ (xs : List Rec). NamesLife (txn_at table u) (then_m.part u).life (fate u xs) (fate u whole)) (sym (base-same i))
        (names-here u (fate u (base_at (log_at c i)))
        (subst (λ (j : ℕ). NamesLife (txn_at (txns_at c j) u) (m.part u).life (fate u (base_at (log_at c j)))
        (fate u (all_at (log_at c j)))) e (old.names u own)))))))
        (λ ne. subst (λ (life : Life). NamesLife (txn_at (txns_at new k) u) life (fate u (base_at (log_at new k)))
        (fate u (all_at (log_at new k)))) (sym (lives u))
        (subst (λ (l : LogState). NamesLife (txn_at (txns_at new k) u) (m.part u).life (fate u (base_at l))
        (fate u (all_at l))) (sym (log-else k ne))
        (subst (λ (tb : Transactions). NamesLife (txn_at tb u) (m.part u).life (fate u (base_at (log_at c k)))
        (fate u (all_at (log_at c k)))) (sym (table-else k ne)) (old.names u own))))
        (cases_eq k i);
  }
    where
      epoch-same : (k : ℕ) → (txns_at new k).epoch ≡ (txns_at c k).epoch
      epoch-same k = ⊎_elim
          (λ e. subst (λ (j : ℕ). (txns_at new j).epoch ≡ (txns_at c j).epoch) (sym e)
          (ap (λ (tb : Transactions). tb.epoch) table-here ∙ d.row.order.same_epoch))
          (λ ne. ap (λ (tb : Transactions). tb.epoch) (table-else k ne))
          (cases_eq k i)

      begins-same : (k : ℕ) → begins_in (txns_at new k) (m.inst k).epoch ≡ begins_in (txns_at c k) (m.inst k).epoch
      begins-same k = ⊎_elim
          (λ e. subst (λ (j : ℕ). begins_in (txns_at new j) (m.inst k).epoch ≡ begins_in (txns_at c j) (m.inst k).epoch) (sym e)
          (ap (λ (tb : Transactions). begins_in tb (m.inst k).epoch) table-here
          ∙ ap₂ (λ (epoch begins : ℕ). if epoch == (m.inst k).epoch then begins else 0) d.row.order.same_epoch d.row.order.same_begins))
          (λ ne. ap (λ (tb : Transactions). begins_in tb (m.inst k).epoch) (table-else k ne))
          (cases_eq k i)

  told-else : (k : ℕ) → k ≢ i → IsTold c m k → IsTold new then_m k
  told-else k ne old = record {
    rows = λ u own. subst (λ (tb : Transactions). RowIsLogged (txn_at tb u) u (all_at (log_at new k))) (sym (table-else k ne))
        (subst (λ (l : LogState). RowIsLogged (txn_at (txns_at c k) u) u (all_at l)) (sym (log-else k ne)) (old.rows u own));
    owes = ap owed_of (table-else k ne) ∙ old.owes ∙ ap (λ (l : LogState). owed (all_at l)) (sym (log-else k ne));
    reserves = ap reserve_of (table-else k ne) ∙ old.reserves ∙ ap (λ (l : LogState). reserve (all_at l)) (sym (log-else k ne));
    spare = λ up. subst (λ (l : LogState). reserve (all_at l) ≤ l.spare) (sym (log-else k ne)) (old.spare up);
  }

  rest-there : (k : ℕ) → 1 ≤ k → k ≤ 8 → tells_log (status_at c k) ≡ false → is_loose c k ≡ false → (log_at new k).tail ≡ []
  rest-there k lo hi tells e = ⊎_elim
      (λ same. let here = ap (λ (j : ℕ). tells_log (status_at c j)) same in
      let clash = sym tells ∙ here ∙ w.tells in absurd (cc))
      (λ ne. ap (λ (l : LogState). l.tail) (log-else k ne) ∙ g.at_rest k lo hi tells e)
      (cases_eq k i)

  work-there : (k : ℕ) → 1 ≤ k → k ≤ 8 → status_at c k ≡ S.Up → (u : TxnId) → home u ≡ k
      → (Pending.Idle ≡ Pending.Commits u → ⊥)
      → RowIsLive (txn_at (txns_at new k) u) u (then_m.part u) (all_at (log_at new k))
  work-there k lo hi up u own idle = ⊎_elim
      (λ e. subst (λ (j : ℕ). RowIsLive (txn_at (txns_at new j) u) u (then_m.part u) (all_at (log_at new j))) (sym e)
      (subst (λ (tb : Transactions). RowIsLive (txn_at tb u) u (then_m.part u) (all_at (log_at new i))) (sym table-here)
      (subst (RowIsLive (txn_at table u) u (then_m.part u)) (sym all-here) (live-here u (sym (ap (status_at c) e) ∙ up)
      (g.at_work i w.low w.high (sym (ap (status_at c) e) ∙ up) u (own ∙ e) idle)))))
      (λ ne. subst (λ (p : Part). RowIsLive (txn_at (txns_at new k) u) u p (all_at (log_at new k)))
      (sym (others_stay u (λ e. ne (sym own ∙ ap home e))))
      (subst (λ (tb : Transactions). RowIsLive (txn_at tb u) u (m.part u) (all_at (log_at new k))) (sym (table-else k ne))
      (subst (λ (l : LogState). RowIsLive (txn_at (txns_at c k) u) u (m.part u) (all_at l)) (sym (log-else k ne))
      (g.at_work k lo hi up u own idle))))
      (cases_eq k i)

  own-there : (j : ℕ) → 1 ≤ j → j ≤ 8 → (txns_at new j).inst ≡ j
  own-there j lo hi = ⊎_elim
      (λ e. subst (λ (k : ℕ). (txns_at new k).inst ≡ k) (sym e)
      (ap (λ (tb : Transactions). tb.inst) table-here ∙ d.row.order.same_inst ∙ g.shape.own_txns i w.low w.high))
      (λ ne. ap (λ (tb : Transactions). tb.inst) (table-else j ne) ∙ g.shape.own_txns j lo hi)
      (cases_eq j i)

  -- ---- last LSNs, and what is owed

  last-there : (j : ℕ) → 1 ≤ j → j ≤ 8 → Each (λ z. z.lsn ≤ last_lsn (scanned (log_at new j))) (all_at (log_at new j))
  last-there j lo hi = ⊎_elim
      (λ e. subst (λ (k : ℕ). Each (λ z. z.lsn ≤ last_lsn (scanned (log_at new k))) (all_at (log_at new k))) (sym e)
      (subst (λ (l : LogState). Each (λ z. z.lsn ≤ last_lsn (scanned l)) (all_at l)) (sym (log-here ∙ d.grown))
      (subst (Each (λ z. z.lsn ≤ last_lsn (scanned (with_record r d.spare (log_at c i)))))
      (sym (appended-log (log_at c i) r d.spare))
      (last-grows (log_at c i) r d.spare image.lsn all (g.last i w.low w.high) refl))))
      (λ ne. subst (λ (l : LogState). Each (λ z. z.lsn ≤ last_lsn (scanned l)) (all_at l)) (sym (log-else j ne)) (g.last j lo hi))
      (cases_eq j i)

  loose-there : (moved : Keeps) (j : ℕ) → 1 ≤ j → j ≤ 8 → is_loose c j ≡ true → OwesAtMost (owed_at c j) (log_by new moved j)
  loose-there moved j lo hi e = ⊎_elim
      (λ same. let clash = sym (ap (is_loose c) same ∙ w.settled) ∙ e in absurd (cc))
      (λ ne. subst (λ (l : LogState). OwesAtMost (owed_at c j)
      (cond (moved j) (option_map_or (λ place. begun_at place l) (other_at c j) l) l)) (sym (log-else j ne))
      (g.owed_loose moved j lo hi e))
      (cases_eq j i)

  -- ---- who may have further records

  going-there : (u : TxnId) → 1 ≤ home u → home u ≤ 8 → GoesOn Pending.Idle u (then_m.part u)
      → IsOpen u (all_at (log_at new (home u)))
  going-there u lo hi goes = ⊎_elim
      (λ e. subst (λ (v : TxnId). IsOpen v (all_at (log_at new (home v)))) (sym e)
      (subst (IsOpen t) (sym all-here) (open-more t alive)))
      (λ ne.
      let was = g.going u lo hi (subst (GoesOn Pending.Idle u) (others_stay u ne) goes) in ⊎_elim
      (λ same. subst (λ (j : ℕ). IsOpen u (all_at (log_at new j))) (sym same) (subst (IsOpen u) (sym all-here)
      (open-more u (subst (λ (j : ℕ). IsOpen u (all_at (log_at c j))) same was))))
      (λ away. subst (λ (l : LogState). IsOpen u (all_at l)) (sym (log-else (home u) away)) was)
      (cases_eq (home u) i))
      (cases_txn u t)

  checking-there : (k : ℕ) (b : Begun) → check_at c k ≡ Some b → IsChecking new k b
  checking-there k b is = let old = g.checking k b is in record {
    takes = old.takes;
    spelled = old.spelled;
    begun = ⊎_elim
        (λ e.
        let was = ap (λ (j : ℕ). last_lsn (scanned (log_at c j))) e in let here = ap (λ (j : ℕ). last_lsn (scanned (log_at new j))) e in
        let is_here = ap (λ (l : LogState). last_lsn (scanned l)) (log-here ∙ d.grown) in
        let more = last-more (log_at c i) r d.spare in let begun = old.begun in
        omega (arith, was, here, is_here, more, begun))
        (λ ne. subst (λ (l : LogState). b.begin ≤ last_lsn (scanned l)) (sym (log-else k ne)) old.begun)
        (cases_eq k i);
  }

  -- each record is of one that has begun
  begun-then : (k : ℕ) → 1 ≤ k → k ≤ 8 → status_at c k ≡ S.Up → Each (IsOfBegun (m.inst k)) (all_at (log_at new k))
  begun-then k lo hi up = ⊎_elim
      (λ same. subst (λ (n : ℕ). Each (IsOfBegun (m.inst n)) (all_at (log_at new n))) (sym same)
      (subst (Each (IsOfBegun (m.inst i))) (sym all-here)
      (begun-more m i y all (sym (g.instances i w.low w.high).status ∙ sym (ap (status_at c) same) ∙ up) (λ spoken. refl)
      (λ spoken. began-there m t g.listed there) (g.begun i w.low w.high (sym (ap (status_at c) same) ∙ up)))))
      (λ ne. subst (λ (l : LogState). Each (IsOfBegun (m.inst k)) (all_at l)) (sym (log-else k ne)) (g.begun k lo hi up))
      (cases_eq k i)

  -- ---- asks

  abbrev IsAsk : PageEntry → Ask → Type 0
  IsAsk entry ask = (is_active c ask.by ≡ true) × (is_open_ask entry ask ≡ true)

  asks-there : (p : ℕ) → Each (IsAsk (entry_at places p)) (asks_at places p)
  asks-there p = ⊎_elim
      (λ e. subst (λ (q : ℕ). Each (IsAsk (entry_at places q)) (asks_at places q)) (sym e)
      (subst (λ (entry : PageEntry). Each (IsAsk entry) (asks_at places o.rid.page)) (sym d.entry)
      (subst (Each (IsAsk (dirtied a))) (sym d.asks)
      (Each-filter (IsAsk (dirtied a)) (is_open_ask (dirtied a)) (asks_at c.directory o.rid.page)
      (Each-weaker (IsAsk (entry_at c.directory o.rid.page)) (λ ask. is_open_ask (dirtied a) ask ≡ true → IsAsk (dirtied a) ask)
      (λ ask it opens. (it.0, opens)) (asks_at c.directory o.rid.page) (g.asks o.rid.page))))))
      (λ ne. subst (λ (entry : PageEntry). Each (IsAsk entry) (asks_at places p)) (sym (d.other_entries p ne))
      (subst (Each (IsAsk (entry_at c.directory p))) (sym (d.other_asks p ne)) (g.asks p)))
      (cases_eq p o.rid.page)

  -- ---- the whole

  stands-there : LivesAreSound then_m
  stands-there = record {
    stands = λ u. subst (λ (life : Life). SuitsStatus life (m.inst u.inst).status) (sym (lives u)) (g.placed.stands u);
    one = λ u v du dv. g.placed.one u v (subst IsDoubt (lives u) du) (subst IsDoubt (lives v) dv);
    shut = g.placed.shut;
  }

  listed-there : Listed then_m
  listed-there = record {
    bounds = g.listed.bounds;
    there = λ u ne. g.listed.there u (λ e. ne (lives u ∙ e));
    once = g.listed.once;
    doubts = λ u doubt. g.listed.doubts u (subst IsDoubt (lives u) doubt);
    cut_once = g.listed.cut_once;
    cut_begun = g.listed.cut_begun;
    cut_rests = λ u among works. g.listed.cut_rests u among (subst IsAtWork (lives u) works);
  }

  pub good-there : Kept then_m → Marked then_m → ((u : TxnId) → NamedOnce (part' u).marks) → Good seen leaves Pending.Idle new then_m
  good-there kept marked named = record {
    shape = record {
      logs = length-set c.logs (i - 1) log ∙ g.shape.logs;
      pools = length-set c.pools (a - 1) pool ∙ g.shape.pools;
      txns = length-set c.txns (i - 1) table ∙ g.shape.txns;
      statuses = g.shape.statuses;
      epochs = g.shape.epochs;
      masters = g.shape.masters;
      checks = g.shape.checks;
      others = g.shape.others;
      owed = g.shape.owed;
      loose = g.shape.loose;
      own_log = λ j lo hi. inst-same j ∙ g.shape.own_log j lo hi;
      own_txns = own-there;
    };
    half = half-there;
    places = λ j place other bytes l. ⊎_elim (λ e. inl e) (λ e. inr (e ∙ sym (start-same j))) (g.places j place other bytes l);
    others = others-still seen leaves Pending.Idle c m g new i w.settled table-else;
    settled = settled-there;
    disk_settled = g.disk_settled;
    disk_lsns = known-there;
    last = last-there;
    owed = λ j lo hi e. g.owed j lo hi e ∙ ap owed (sym (base-same j));
    owed_loose = loose-there;
    kept = kept;
    placed = stands-there;
    listed = listed-there;
    marked = marked;
    named = named;
    numbered = λ u there. g.numbered u (λ e. there (lives u ∙ e));
    recoverers = record { each = g.recoverers.each };
    not_closed = g.not_closed;
    instances = instance-there;
    told = λ k lo hi tells e. ⊎_elim
        (λ same. subst (IsTold new then_m) (sym same) told-here)
        (λ ne. told-else k ne (g.told k lo hi tells e))
        (cases_eq k i);
    at_rest = rest-there;
    begun = begun-then;
    at_work = work-there;
    going = going-there;
    pending = tt;
    locks = λ u rid. g.locks u rid ∙ ap (λ (claims : Claims). lock_of (claims rid)) (sym (claims_stay u));
    gone = λ u e r. sym (ap (λ (claims : Claims). claims r) (sym (claims_stay u))) ∙ g.gone u (sym (lives u) ∙ e) r;
    asks = asks-there;
    checking = checking-there;
  }
