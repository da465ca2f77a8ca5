-- A change of a record: how the complex goes on fitting. For the calls on records.
use Rattle.std.proofs.Common.{◌≡◌, ◌≢◌, ⊎_elim, ℕ, zero, suc, ◌+◌, ◌^◌, ◌<◌, ◌≤◌, Bool, true, false, cond, eqb, eq-eqb, List, [], ◌∷◌, length, map, max, refl, sym, ap, ◌∙◌, subst, arith}
use Rattle.std.specs.Prelude.{Option, IsSome, option_and_then, is_some}
use Rattle.std.proofs.lemmas.Bool.{cases_eq, ne_eqb}
use Rattle.sd_base.specs.Values.{size}
use Rattle.sd_base.specs.declared.ids.Rid.{Rid}
use Rattle.sd_base.specs.declared.ids.TxnId.{TxnId}
use Rattle.sd_base.specs.declared.place.Status.TheVariants as S
use Rattle.sd_base.proofs.SameIds.{cases_txn}
use Rattle.sd_logrec.specs.View.{Rec}
use Rattle.sd_logrec.proofs.Lengths.{length-spelling}
use Rattle.sd_log.specs.Logs.{LogState, tail_len}
use Rattle.sd_model.specs.Applies.{HasPut}
use Rattle.sd_model.specs.Fields.{inst_of}
use Rattle.sd_model.specs.Listed.{IsAtWork}
use Rattle.sd_model.specs.Scenes.{is_running}
use Rattle.sd_model.specs.State.{State}
use Rattle.sd_model.specs.declared.event.Event.{Event}
use Rattle.sd_model.specs.declared.event.Reply.{Reply}
use Rattle.sd_page.specs.Page.{Page, Slot}
use Rattle.sd_pagelock.specs.Rows.{dirtied}
use Rattle.sd_rig.specs.Devices.{DeviceImages}
use Rattle.sd_txn.specs.Owing.{owed_of, reserve_of}
use Rattle.sd_txn.specs.Transactions.{Transaction, Transactions, span_at}
use Rattle.sd_chain.specs.Bytes.{disk_page}
use Rattle.sd_chain.specs.Checks.{reserve}
use Rattle.sd_chain.specs.Images.{Keeps, all_kept}
use Rattle.sd_chain.specs.Pages.{capacity, redo, write}
use Rattle.sd_chain.specs.Records.{Val, home}
use Rattle.sd_chain.specs.Named.{version_of}
use Rattle.sd_chain.specs.Logs.{Outcomes, all_at, tails_of}
use Rattle.sd_chain.proofs.Kept.{forced-gate}
use Rattle.sd_world.specs.Bounds.{Bounds, bounds_after, cost, counts, is_wait, with_least, with_slot}
use Rattle.sd_world.specs.Pages.{Pages, numbered, page_placed}
use Rattle.sd_world.specs.Serving.{Core}
use Rattle.sd_world.proofs.Sums.{works-four}
use Rattle.sd_update.specs.Changing.{Change, IsMade, LacksLsns, LacksRoom, change_of, changed_log, flat_of, image_for, owed_then, row_for, update, with_changed}
use Rattle.sd_state.specs.Good.{Good, IsTold}
use Rattle.sd_state.specs.Images.{log_by}
use Rattle.sd_state.specs.Parts.{Parts, is_loose, log_at, owed_at, status_at, txns_at, up_as}
use Rattle.sd_state.specs.Sums.{great_of, owed_in_all, owes_most, sum_to}
use Rattle.sd_state.specs.Tables.{tells_log}
use Rattle.sd_state.specs.Values.{Pending}
use Rattle.sd_update.proofs.ChangeCalls.{owed-more, reserve-more}
use Rattle.sd_state.proofs.Standing.{one-place}
use Rattle.sd_fits.specs.Fits.{AreAtLeast, AreWithin, Fits, FitsBounds, ReachesAtMost, capacities}
use Rattle.sd_fits.proofs.Recording.{Records}
use Rattle.sd_fits.proofs.Recording as rec
use Rattle.sd_fits.proofs.Sealing.{gate-more}
use Rattle.sd_fits.proofs.Fronts.{IsFront, front-least, front-on, front-write, version-front}
use Rattle.sd_fits.proofs.Served.{bounds-with, slots-within}
use Rattle.sd_fits.proofs.Taking.{GoesOnAs, on-stays}

-- ---- capacities of slots

-- a value that is set in a slot leaves each capacity
pub caps-set : (slots : List Slot) (s c : ℕ) (v : Val) → s < length slots → map (λ slot. slot.0) (write slots s c v) ≡ map (λ slot. slot.0) slots
caps-set [] s c v lt = absurd (omega (arith, lt))
caps-set (x ∷ xs) zero c v lt = refl
caps-set (x ∷ xs) (suc s) c v lt = ap (λ (l : List ℕ). x.0 ∷ l) (caps-set xs s c v (omega (arith, lt)))

-- a slot that is new stands behind the others
pub caps-new : (slots : List Slot) (c : ℕ) (v : Val) (bounds : List ℕ) → AreWithin (map (λ slot. slot.0) slots) bounds
    → AreWithin (map (λ slot. slot.0) (write slots (length slots) c v)) (with_slot bounds (length slots) c)
caps-new [] c v [] within = (omega arith, tt)
caps-new [] c v (b ∷ bounds) within = (omega arith, tt)
caps-new (x ∷ xs) c v [] within = elim within [ ]
caps-new (x ∷ xs) c v (b ∷ bounds) within = (within.0, caps-new xs c v bounds within.1)

pub least-new : (slots : List Slot) (c : ℕ) (v : Val) (least : List ℕ) → AreAtLeast (map (λ slot. slot.0) slots) least
    → AreAtLeast (map (λ slot. slot.0) (write slots (length slots) c v)) (with_least least (length slots) c)
least-new [] c v [] at = (omega arith, tt)
least-new [] c v (n ∷ least) at = (omega arith, tt)
least-new (x ∷ xs) c v [] at = elim at [ ]
least-new (x ∷ xs) c v (n ∷ least) at = (at.0, least-new xs c v least at.1)

-- a dead slot that is taken has as much as is asked for
pub least-taken : (slots : List Slot) (s c asked : ℕ) (v : Val) (least : List ℕ) → s < length slots → asked ≤ capacity slots s
    → AreAtLeast (map (λ slot. slot.0) slots) least → AreAtLeast (map (λ slot. slot.0) (write slots s c v)) (with_least least s asked)
least-taken [] s c asked v least lt enough at = absurd (omega (arith, lt))
least-taken (x ∷ xs) s c asked v [] lt enough at = elim at [ ]
least-taken (x ∷ xs) zero c asked v (n ∷ least) lt enough at = (enough, at.1)
least-taken (x ∷ xs) (suc s) c asked v (n ∷ least) lt enough at =
    (at.0, least-taken xs s c asked v least (omega (arith, lt)) enough at.1)

-- ---- numbers

-- what one place adds to a sum
bit-none : (i n k : ℕ) → n < i → sum_to (λ j. cond (eqb j i) k 0) n ≡ 0
bit-none i zero k lt = refl
bit-none i (suc n) k lt =
    let ih = bit-none i n k (omega (arith, lt)) in
    let last = ap (λ (b : Bool). cond b k 0) (ne_eqb (suc n) i (λ e. absurd (omega (arith, lt, e)))) in
    omega (arith, ih, last)

bit-once : (i n k : ℕ) → sum_to (λ j. cond (eqb j i) k 0) n ≤ k
bit-once i zero k = omega arith
bit-once i (suc n) k = ⊎_elim
    (λ e. let none = bit-none i n k (omega (arith, e)) in let last = ap (λ (b : Bool). cond b k 0) (eq-eqb (suc n) i e) in omega (arith, none, last))
    (λ ne. let ih = bit-once i n k in let last = ap (λ (b : Bool). cond b k 0) (ne_eqb (suc n) i ne) in omega (arith, ih, last))
    (cases_eq (suc n) i)

sum-over : (f g h : ℕ → ℕ) (n : ℕ) → ((j : ℕ) → 1 ≤ j → j ≤ n → f j ≤ g j + h j) → sum_to f n ≤ sum_to g n + sum_to h n
sum-over f g h zero le = omega arith
sum-over f g h (suc n) le =
    let ih = sum-over f g h n (λ j low high. le j low (omega (arith, high))) in
    let last = le (suc n) (omega arith) (omega arith) in
    omega (arith, ih, last)

-- what a log owes at most, where its table owes two more at most
owes-two : (loose tells : Bool) (was told told_then : ℕ) → told_then ≤ told + 2
    → cond loose was (cond tells (max was told_then) was) ≤ cond loose was (cond tells (max was told) was) + 2
owes-two true tells was told told_then more = omega arith
owes-two false true was told told_then more = omega (arith, more)
owes-two false false was told told_then more = omega arith

-- ---- the complex with the change

module _ (k : Change) (seen : DeviceImages) (leaves : Outcomes) (c after : Parts) (m' : State) (w : Core) (f : Fits seen leaves c w)
    (made : IsMade k c after) where
  abbrev i : ℕ
  i = home k.txn

  abbrev y : Rec
  y = flat_of k

  abbrev p : ℕ
  p = k.rid.page

  abbrev x : Transaction
  x = row_for k.txn c

  abbrev image : Page
  image = image_for k.txn p c

  abbrev log : LogState
  log = changed_log i k made.put.spare c

  abbrev new : Parts
  new = with_changed i log made.put.table made.put.pool made.put.places c

  records : Records i (update k) image made.put.pool made.put.places c
  records = record {
    low = made.may.low;
    high = made.may.high;
    idle = made.may.idle;
    up = made.may.up;
    lsn = made.appends.lsn;
    endless = refl;
    commits = λ u. refl;
    copy = made.may.copy;
    page = made.put.changed.page;
    frames = made.put.changed.frames;
    entry = made.put.changed.entry;
    asks = made.put.changed.asks;
    other_entries = made.put.changed.other_entries;
    other_asks = made.put.changed.other_asks;
  }

  settled : is_loose c i ≡ false
  settled = rec.settled i (update k) made.put.spare image made.put.table made.put.pool made.put.places seen leaves c m' w f records

  told-i : IsTold c w.scene.state i
  told-i = f.good.told i made.may.low made.may.high (ap tells_log made.may.up) settled

  log-here : log_at new i ≡ log
  log-here = rec.log-here i (update k) made.put.spare image made.put.table made.put.pool made.put.places seen leaves c m' w f records

  table-here : txns_at new i ≡ made.put.table
  table-here = rec.table-here i (update k) made.put.spare image made.put.table made.put.pool made.put.places seen leaves c m' w f records

  module _ (good : Good seen leaves Pending.Idle new m') where
    abbrev pages_then : Pages
    pages_then = numbered p k.lsn (page_placed p (dirtied i) w.pages)

    abbrev still : Keeps
    still j = false

    -- the copy is the newest version
    image-is : image ≡ version_of (tails_of (log_by c still)) (disk_page (seen 0)) all_kept p
    image-is = rec.image-is i (update k) made.put.spare image made.put.table made.put.pool made.put.places seen leaves c m' w f records good still

    -- ---- sums

    -- where the slot is there, the page has the capacities that it had
    pub slots-kept : (e : Event) (r : Reply) → k.rid.slot < length image.slots
        → AreWithin (capacities (redo image y)) ((bounds_after w.bounds e r).slots p)
    slots-kept e r lt = subst (λ (l : List ℕ). AreWithin l ((bounds_after w.bounds e r).slots p))
        (sym (caps-set image.slots k.rid.slot k.capacity k.after lt))
        (subst (λ (z : Page). AreWithin (capacities z) ((bounds_after w.bounds e r).slots p)) (sym image-is)
        (slots-within _ w.bounds.slots e r p (f.bounds.slots still all_kept p)))

    -- a slot that is new stands behind them
    pub slots-new : k.rid.slot ≡ length image.slots → AreWithin (capacities (redo image y)) (with_slot (w.bounds.slots p) k.rid.slot k.capacity)
    slots-new is = subst (λ (n : ℕ). AreWithin (map (λ slot. slot.0) (write image.slots n k.capacity k.after)) (with_slot (w.bounds.slots p) n k.capacity))
        (sym is) (caps-new image.slots k.capacity k.after (w.bounds.slots p)
        (subst (λ (z : Page). AreWithin (capacities z) (w.bounds.slots p)) (sym image-is) (f.bounds.slots still all_kept p)))

    -- so it is with what they have at least
    pub least-stays : k.rid.slot < length image.slots → AreAtLeast (capacities (redo image y)) (w.bounds.least p)
    least-stays lt = subst (λ (l : List ℕ). AreAtLeast l (w.bounds.least p)) (sym (caps-set image.slots k.rid.slot k.capacity k.after lt))
        (subst (λ (z : Page). AreAtLeast (capacities z) (w.bounds.least p)) (sym image-is) (f.bounds.least still all_kept p))

    pub least-added : k.rid.slot ≡ length image.slots → AreAtLeast (capacities (redo image y)) (with_least (w.bounds.least p) k.rid.slot k.capacity)
    least-added is = subst (λ (n : ℕ). AreAtLeast (map (λ slot. slot.0) (write image.slots n k.capacity k.after)) (with_least (w.bounds.least p) n k.capacity))
        (sym is) (least-new image.slots k.capacity k.after (w.bounds.least p)
        (subst (λ (z : Page). AreAtLeast (capacities z) (w.bounds.least p)) (sym image-is) (f.bounds.least still all_kept p)))

    -- and a slot that was dead has what is asked for
    pub least-filled : (asked : ℕ) → k.rid.slot < length image.slots → asked ≤ capacity image.slots k.rid.slot
        → AreAtLeast (capacities (redo image y)) (with_least (w.bounds.least p) k.rid.slot asked)
    least-filled asked lt enough = least-taken image.slots k.rid.slot k.capacity asked k.after (w.bounds.least p) lt enough
        (subst (λ (z : Page). AreAtLeast (capacities z) (w.bounds.least p)) (sym image-is) (f.bounds.least still all_kept p))

    module _ (e : Event) (r : Reply) (whose : inst_of e ≡ i) (costs : cond (counts e r) (cost e) 0 ≡ 900)
        (before_small : size k.before ≤ 256) (after_small : size k.after ≤ 256)
        (slots_grow : AreWithin (capacities (redo image y)) ((bounds_after w.bounds e r).slots p))
        (least_there : AreAtLeast (capacities (redo image y)) ((bounds_after w.bounds e r).least p))
        (least_else : (q : ℕ) → q ≢ p → (bounds_after w.bounds e r).least q ≡ w.bounds.least q) (works : is_wait r ≡ false) where
      abbrev bounds_then : Bounds
      bounds_then = bounds_after w.bounds e r

      -- a version that a crash leaves has a front of the slots that the page has with the change
      least-was : (moved keeps : Keeps) (q : ℕ)
          → AreAtLeast (capacities (version_of (tails_of (log_by c moved)) (disk_page (seen 0)) keeps q)) (bounds_then.least q)
      least-was moved keeps q = ⊎_elim
          (λ same. subst (λ (n : ℕ). AreAtLeast (capacities (version_of (tails_of (log_by c moved)) (disk_page (seen 0)) keeps n)) (bounds_then.least n))
          (sym same)
          (front-least (capacities (version_of (tails_of (log_by c moved)) (disk_page (seen 0)) keeps p)) (capacities (redo image y)) (bounds_then.least p)
          (front-on (capacities (version_of (tails_of (log_by c moved)) (disk_page (seen 0)) keeps p)) (capacities image) (capacities (redo image y))
          (subst (λ (z : Page). IsFront (capacities (version_of (tails_of (log_by c moved)) (disk_page (seen 0)) keeps p)) (capacities z))
          (sym (rec.image-is i (update k) made.put.spare image made.put.table made.put.pool made.put.places seen leaves c m' w f records good moved))
          (version-front seen leaves Pending.Idle c w.scene.state f.good moved keeps p))
          (front-write image.slots k.rid.slot k.capacity k.after))
          least_there))
          (λ ne. subst (AreAtLeast _) (sym (least_else q ne)) (f.bounds.least moved keeps q))
          (cases_eq q p)

      -- what was within the sums
      old : FitsBounds seen leaves c bounds_then
      old = bounds-with seen c w.bounds e r least-was f.bounds

      reach-more : bounds_then.reach i ≡ 900 + w.bounds.reach i
      reach-more = ap (λ (b : Bool). cond b (cond (counts e r) (cost e) 0) 0 + w.bounds.reach i) (eq-eqb (inst_of e) i whose)
          ∙ ap (λ (n : ℕ). n + w.bounds.reach i) costs

      told-then : IsTold new m' i
      told-then = good.told i made.may.low made.may.high (ap tells_log made.may.up) settled

      reserve-then : reserve (all_at log) ≤ reserve (all_at (log_at c i)) + 334
      reserve-then =
          let is = ap (λ (l : LogState). reserve (all_at l)) (sym log-here) ∙ sym told-then.reserves ∙ ap reserve_of table-here in
          let more = reserve-more k x (reserve_of made.put.table) (reserve_of (txns_at c i)) made.put.changed.bytes in
          let was = told-i.reserves in
          let bit = small-bit (is_some x.span) in
          sums-reserve _ _ _ _ (size k.before) is more was bit before_small
        where
          small-bit : (b : Bool) → cond {A = ℕ} b 0 31 ≤ 31
          small-bit true = omega arith
          small-bit false = omega arith

          sums-reserve : (n table told bit b : ℕ) {o : ℕ} → n ≡ table → table ≡ told + (47 + b) + bit → told ≡ o → bit ≤ 31 → b ≤ 256 → n ≤ o + 334
          sums-reserve n table told bit b is more was small before = omega arith

      reach-here : ReachesAtMost (bounds_then.reach i) log
      reach-here =
          let at-c = subst (ReachesAtMost (w.bounds.reach i)) (one-place c still i (rec.begins-once i (update k) made.put.spare image made.put.table made.put.pool made.put.places seen leaves c m' w f records)) (f.bounds.reach still i made.may.low made.may.high) in
          let first = at-c.0 in
          let whole = at-c.1 in
          let gate = gate-more (log_at c i) (update k) made.put.spare in
          let len = length-spelling (update k) in
          let more = reserve-then in
          let sum = reach-more in (
            omega (arith, first, sum),
            omega (arith, whole, gate, len, more, sum, before_small, after_small),
          )

      table-two : owed_of made.put.table ≤ owed_of (txns_at c i) + 2
      table-two = two _ _ _ (owed-more k x (owed_of made.put.table) (owed_of (txns_at c i)) made.put.changed.records) (small-bit (is_some x.span))
        where
          small-bit : (b : Bool) → cond {A = ℕ} b 0 1 ≤ 1
          small-bit true = omega arith
          small-bit false = omega arith

          two : (t o bit : ℕ) → t ≡ o + 1 + bit → bit ≤ 1 → t ≤ o + 2
          two t o bit is small = omega arith

      owed-then : owed_in_all new ≤ owed_in_all c + 2
      owed-then =
          let over = sum-over (owes_most new) (owes_most c) (λ j. cond (eqb j i) 2 0) 8 each in
          let once = bit-once i 8 2 in omega (arith, over, once)
        where
          each : (j : ℕ) → 1 ≤ j → j ≤ 8 → owes_most new j ≤ owes_most c j + cond (eqb j i) 2 0
          each j lo hi = ⊎_elim
              (λ same. subst (λ (n : ℕ). owes_most new n ≤ owes_most c n + cond (eqb n i) 2 0) (sym same)
              (subst (λ (b : Bool). owes_most new i ≤ owes_most c i + cond b 2 0) (sym (eq-eqb i i refl))
              (owes-two (is_loose c i) (tells_log (status_at c i)) (owed_at c i) (owed_of (txns_at c i)) (owed_of (txns_at new i))
              (subst (λ (z : Transactions). owed_of z ≤ owed_of (txns_at c i) + 2) (sym table-here) table-two))))
              (λ ne. subst (λ (b : Bool). owes_most new j ≤ owes_most c j + cond b 2 0) (sym (ne_eqb j i ne))
              (let same = ap (λ (z : Transactions). cond (is_loose c j) (owed_at c j) (cond (tells_log (status_at c j)) (max (owed_at c j) (owed_of z))
              (owed_at c j))) (rec.table-else i (update k) made.put.spare image made.put.table made.put.pool made.put.places seen leaves c m' w f records j ne) in omega (arith, same)))
              (cases_eq j i)

      lsns-then : great_of new + owed_in_all new ≤ bounds_then.lsns
      lsns-then = let was = f.bounds.lsns in let great = rec.great-then i (update k) made.put.spare image made.put.table made.put.pool made.put.places seen leaves c m' w f records good in let owed = owed-then in
          subst (λ (n : ℕ). great_of new + owed_in_all new ≤ n) (sym (works-four w.bounds e r works)) (lsns-sum _ _ _ _ _ was great owed)
        where
          lsns-sum : (g o g' o' n : ℕ) → g + o ≤ n → g' ≤ g + 1 → o' ≤ o + 2 → g' + o' ≤ n + 4
          lsns-sum g o g' o' n was great owed = omega arith

      -- ---- the world then

      abbrev core_then : Core
      core_then = record { scene = record { state = m'; waits = w.scene.waits }; pages = pages_then; bounds = bounds_then }

      put-then : GoesOnAs w.scene.state m' → HasPut (m'.part k.txn).acts → (u : TxnId) → IsAtWork (m'.part u).life
          → IsSome (span_at (txns_at new (home u)) u) → HasPut (m'.part u).acts
      put-then on puts u works spoken = ⊎_elim
          (λ same. subst (λ (v : TxnId). HasPut (m'.part v).acts) (sym same) puts)
          (λ ne. on.puts u (f.put u (subst IsAtWork (on.lives u) works)
          (subst (λ (o : Option Transaction). IsSome (option_and_then (λ (z : Transaction). z.span) o))
          (rec.row-else i (update k) made.put.spare image made.put.table made.put.pool made.put.places seen leaves c m' w f records good k.txn made.put.changed.row.others u ne) spoken)))
          (cases_txn u k.txn)

      -- The complex fits the world in which the page is its instance's, changed, with the LSN of the record.
      pub changed-fits : GoesOnAs w.scene.state m' → HasPut (m'.part k.txn).acts → Fits seen leaves after core_then
      changed-fits on puts = subst (λ (z : Parts). Fits seen leaves z core_then) (sym made.put.is) (record {
        good = good;
        idle = f.idle;
        rolling = λ u rolls. rec.still-open i (update k) made.put.spare image made.put.table made.put.pool made.put.places seen leaves c m' w f records good u (f.rolling u (sym (on.lives u) ∙ rolls));
        waits = f.waits;
        waiting = λ u off. f.waiting u (ap is_running (sym (on.lives u)) ∙ off);
        put = put-then on puts;
        pages = rec.pages-fit i (update k) made.put.spare image made.put.table made.put.pool made.put.places seen leaves c m' w f records good;
        bounds = rec.bounds-fit i (update k) made.put.spare image made.put.table made.put.pool made.put.places seen leaves c m' w f records good bounds_then old slots_grow least_there reach-here lsns-then;
        doubts = rec.doubts-fit i (update k) made.put.spare image made.put.table made.put.pool made.put.places seen leaves c m' w f records good (on-stays w.scene.state m' on);
      })

-- ---- a change that finds no room, or no LSN

module _ (t : TxnId) (r : Rid) (capacity : ℕ) (v : Val) (seen : DeviceImages) (leaves : Outcomes) (c : Parts) (w : Core) (f : Fits seen leaves c w)
    (low : 1 ≤ home t) (high : home t ≤ 8) (up : status_at c (home t) ≡ S.Up) where
  settled-there : is_loose c (home t) ≡ false
  settled-there = ⊎_elim (λ e. e) (λ due. let e = sym f.idle ∙ due in absurd (cc))
      ((f.good.half (λ j. false)).coherent.ready (home t) low (ap up_as up))

  told-there : IsTold c w.scene.state (home t)
  told-there = f.good.told (home t) low high (ap tells_log up) settled-there

  -- Then the sums say so of the log,
  pub full-told : size (change_of t r capacity v c).before ≤ 256 → size v ≤ 256 → LacksRoom (change_of t r capacity v c) c
      → 1048576 < w.bounds.reach (home t) + 900
  full-told before_small after_small lacks =
      let reach = (subst (ReachesAtMost (w.bounds.reach (home t))) (one-place c (λ j. false) (home t)
      (f.good.settled (home t) low high settled-there).one_place) (f.bounds.reach (λ j. false) (home t) low high)).1 in
      let gate = forced-gate (log_at c (home t)) in
      let told = told-there.reserves in
      let bit = small-bit (is_some (row_for t c).span) in
      room-sum (log_at c (home t)).gate (tail_len (log_at c (home t))) (reserve_of (txns_at c (home t))) _ _ (size (change_of t r capacity v c).before)
      (size v) _ (w.bounds.reach (home t)) gate told reach bit before_small after_small lacks
    where
      small-bit : (b : Bool) → cond {A = ℕ} b 0 31 ≤ 31
      small-bit true = omega arith
      small-bit false = omega arith

      room-sum : (gate tail told all end b a bit reach : ℕ) → gate + tail ≤ end → told ≡ all → end + all ≤ reach → bit ≤ 31 → b ≤ 256 → a ≤ 256
          → 1048576 < gate + 5 + tail + (38 + b + a) + (told + (47 + b) + bit) + 1 → 1048576 < reach + 900
      room-sum gate tail told all end b a bit reach g e h i j k l = omega arith

  -- and of LSNs.
  pub ends-told : LacksLsns t c → 2 ^ 62 ≤ w.bounds.lsns + 4
  ends-told lacks =
      let sum = sum-over (λ j. cond (eqb j (home t)) (max (owed_at c (home t)) (owed_then t c)) (owes_most c j)) (owes_most c)
      (λ j. cond (eqb j (home t)) 2 0) 8 each in
      let once = bit-once (home t) 8 2 in
      let bounds = f.bounds.lsns in
      lsn-sum _ _ _ _ _ lacks sum once bounds
    where
      lsn-sum : (g o all bit n : ℕ) → 2 ^ 62 ≤ g + 1 + o → o ≤ all + bit → bit ≤ 2 → g + all ≤ n → 2 ^ 62 ≤ n + 4
      lsn-sum g o all bit n lacks sum once bounds = omega arith

      small-bit : (b : Bool) → cond {A = ℕ} b 0 1 ≤ 1
      small-bit true = omega arith
      small-bit false = omega arith

      own-sum : (own told bit : ℕ) → bit ≤ 1 → max own (told + 1 + bit) ≤ max own told + 2
      own-sum own told bit small = omega arith

      own-most : owes_most c (home t) ≡ max (owed_at c (home t)) (owed_of (txns_at c (home t)))
      own-most = ap (λ (b : Bool). cond b (owed_at c (home t)) (cond (tells_log (status_at c (home t))) (max (owed_at c (home t))
          (owed_of (txns_at c (home t)))) (owed_at c (home t)))) settled-there
          ∙ ap (λ (b : Bool). cond b (max (owed_at c (home t)) (owed_of (txns_at c (home t)))) (owed_at c (home t))) (ap tells_log up)

      each : (j : ℕ) → 1 ≤ j → j ≤ 8 → cond (eqb j (home t)) (max (owed_at c (home t)) (owed_then t c)) (owes_most c j)
          ≤ owes_most c j + cond (eqb j (home t)) 2 0
      each j lo hi = ⊎_elim
          (λ same. subst (λ (b : Bool). cond b (max (owed_at c (home t)) (owed_then t c)) (owes_most c j) ≤ owes_most c j + cond b 2 0)
          (sym (eq-eqb j (home t) same))
          (subst (λ (n : ℕ). max (owed_at c (home t)) (owed_then t c) ≤ owes_most c n + 2) (sym same)
          (subst (λ (n : ℕ). max (owed_at c (home t)) (owed_then t c) ≤ n + 2) (sym own-most)
          (own-sum (owed_at c (home t)) (owed_of (txns_at c (home t))) _ (small-bit (is_some (row_for t c).span))))))
          (λ ne. subst (λ (b : Bool). cond b (max (owed_at c (home t)) (owed_then t c)) (owes_most c j) ≤ owes_most c j + cond b 2 0)
          (sym (ne_eqb j (home t) ne)) (omega arith))
          (cases_eq j (home t))
