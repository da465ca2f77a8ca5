-- An insert before its wait is ended: each refusal. For `fill`.
use Rattle.std.proofs.Common.{◌≡◌, inl, ⊎_elim, ℕ, ◌+◌, ◌*◌, ◌≤◌, Bool, true, false, cond, eq-eqb, List, [], ◌∷◌, ◌++◌, length, map, refl, sym, ap, ◌∙◌, subst, arith}
use Rattle.std.specs.Prelude.{Option, None, Some, sum, sum_by}
use Rattle.std.proofs.lemmas.Bool.{cases_lt}
use Rattle.std.proofs.lemmas.List.Sums.{sum-map, sum_by-cons}
use Rattle.sd_base.specs.Waits.{Wait}
use Rattle.sd_base.specs.declared.ids.Rid.{Rid}
use Rattle.sd_base.specs.declared.ids.TxnId.{TxnId}
use Rattle.sd_base.specs.declared.place.Mode.TheVariants as modes
use Rattle.sd_base.specs.declared.place.Place as coded
use Rattle.sd_base.specs.declared.place.Status.TheVariants as S
use Rattle.sd_base.specs.declared.refusal.Refusal.{Refusal}
use Rattle.sd_base.specs.declared.refusal.Refusal.TheVariants as R
use Rattle.sd_model.specs.Applies.{Locked, PassesAll}
use Rattle.sd_model.specs.Claims.{Holds}
use Rattle.sd_model.specs.Scenes.{asked_of}
use Rattle.sd_model.specs.State.{view}
use Rattle.sd_model.specs.StepLaws.{MayAct}
use Rattle.sd_model.specs.declared.act.Claim.{Claim}
use Rattle.sd_model.specs.declared.cause.Cause.{Cause}
use Rattle.sd_model.specs.declared.event.Event.{Event}
use Rattle.sd_model.specs.declared.event.Event.TheVariants as event
use Rattle.sd_page.specs.Page.{HasRoom, Page, Slot, heap_end}
use Rattle.sd_pagelock.specs.Directory.{entry_at}
use Rattle.sd_pagelock.specs.Places.{PageEntry, holds_as, is_lost, owns}
use Rattle.sd_reclock.specs.Answers.{IsRefused}
use Rattle.sd_reclock.specs.Locks.{stands, wait_for, waits}
use Rattle.sd_rig.specs.Devices.{DeviceImages}
use Rattle.sd_chain.specs.Logs.{Outcomes}
use Rattle.sd_chain.specs.Images.{all_kept}
use Rattle.sd_chain.specs.Records.{home}
use Rattle.sd_txn.specs.Transactions.{state_at}
use Rattle.sd_txn.specs.declared.state.TxnState.{TxnState}
use Rattle.sd_world.specs.Bounds.{IsFull}
use Rattle.sd_world.specs.Serving.{Core, refused}
use Rattle.sd_update.specs.Changing.{image_for}
use Rattle.sd_state.specs.Parts.{Parts, status_at, txns_at}
use Rattle.sd_state.specs.Values.{Pending}
use Rattle.sd_state.proofs.ChangedLists.{lock-none}
use Rattle.sd_fits.specs.Fits.{AreWithin, Fits, capacities}
use Rattle.sd_fits.proofs.Heads.{is-ready}
use Rattle.sd_fits.proofs.Values.{beyond-absent, copy-newest}
use Rattle.sd_ops.specs.Halves.{HalfServed, NotesWait}
use Rattle.sd_ops.specs.Copies.{LacksPage}
use Rattle.sd_ops.specs.Vacancies.{IsLongFor, IsUnheld, IsVacant, LacksPlace}
use Rattle.sd_ops.proofs.Asking.{MayBlock, asked-half}
use Rattle.sd_ops.proofs.Editing.{head_causes, passes-both}
use Rattle.sd_ops.proofs.Held.{as-held}
use Rattle.sd_ops.proofs.Work.{IsFor, IsWork, ready-passes, refused-half}

-- an insert is of a transaction that must run
pub insert-work : (t : TxnId) (p : ℕ) (v : List ℕ) (asked : ℕ) → IsWork (event.Insert t p v asked) t
insert-work t p v asked = record {
  rest = Cause.Long ∷ Cause.Lost ∷ Cause.Away ∷ Cause.Full ∷ Cause.SlotLock ∷ Cause.Log ∷ Cause.Lsn ∷ [];
  order = refl;
  txn = refl;
  serve = λ m up. up;
  serves = λ m up. up;
  busy = λ m rolls. rolls;
  works = λ m rolls. rolls;
  names = λ m. refl;
  unused = λ m r. tt;
}

-- ---- capacities within bounds

within-length : (xs ys : List ℕ) → AreWithin xs ys → length xs ≤ length ys
within-length [] ys h = omega arith
within-length (x ∷ xs) [] h = elim h [ ]
within-length (x ∷ xs) (y ∷ ys) h = let ih = within-length xs ys h.1 in omega (arith, ih)

sum-cons : (x : ℕ) (xs : List ℕ) → sum (x ∷ xs) ≡ x + sum xs
sum-cons x xs = sum_by-cons (λ (n : ℕ). n) x xs

within-sum : (xs ys : List ℕ) → AreWithin xs ys → sum xs ≤ sum ys
within-sum [] ys h = omega arith
within-sum (x ∷ xs) [] h = elim h [ ]
within-sum (x ∷ xs) (y ∷ ys) h =
    let ih = within-sum xs ys h.1 in
    let le = h.0 in
    let one = sum-cons x xs in
    let other = sum-cons y ys in
    omega (arith, ih, le, one, other)

caps-sum : (slots : List Slot) → sum_by (λ slot. slot.0) slots ≡ sum (map (λ slot. slot.0) slots)
caps-sum slots = sym (sum-map (λ (slot : Slot). slot.0) slots)

caps-length : (slots : List Slot) → length (map (λ slot. slot.0) slots) ≡ length slots
caps-length [] = refl
caps-length (x ∷ xs) = let ih = caps-length xs in omega (arith, ih)

-- a page without room is full by the sums
full-bound : (slots : List Slot) (bound : List ℕ) (asked : ℕ) → AreWithin (map (λ slot. slot.0) slots) bound
    → (HasRoom slots asked → ⊥) → IsFull bound asked
full-bound slots bound asked within none =
    let len = within-length (map (λ slot. slot.0) slots) bound within in
    let total = within-sum (map (λ slot. slot.0) slots) bound within in
    let caps = caps-sum slots in
    let count = caps-length slots in
    ⊎_elim (λ lt. omega (arith, len, total, caps, count, lt)) (λ le. absurd (none le))
    (cases_lt 1024 (heap_end slots + asked + 6 * (length slots + 1)))

module _ (t : TxnId) (p : ℕ) (v : List ℕ) (asked : ℕ) (seen_by : DeviceImages) (leaves : Outcomes) (c : Parts) (low : 1 ≤ home t)
    (high : home t ≤ 8)
    (up : status_at c (home t) ≡ S.Up) (state : state_at (txns_at c (home t)) t ≡ Some TxnState.Running) where
  abbrev e : Event
  e = event.Insert t p v asked

  pub ready-insert : (w : Core) → Fits seen_by leaves c w → MayAct w.scene.state t
  ready-insert w f = is-ready seen_by leaves Pending.Idle c w.scene.state f.good t low high up state

  pub insert-head : (w : Core) (f : Fits seen_by leaves c w) (ys : List Cause) → PassesAll w.scene.state e ys
      → PassesAll w.scene.state e (head_causes ++ ys)
  insert-head w f ys b = passes-both w.scene.state e head_causes ys
      (ready-passes e t (insert-work t p v asked) seen_by leaves c low high w f (ready-insert w f)) b

  long-for : IsLongFor v asked → (w : Core) → Fits seen_by leaves c w → IsFor None w e R.TooLong Cause.Long w.scene.state
  long-for long w f = record {
    names = refl;
    tells = tt;
    first = (refl, insert-head w f [] tt, long);
    refuses = refl;
    passes = (tt, (tt, (tt, (tt, tt))));
    says = λ b. absurd (cc);
    place = tt;
    leaves = refl;
    allows = inl long;
    whom = tt;
    unused = tt;
    near = tt;
  }

  pub insert-long : IsLongFor v asked → HalfServed seen_by leaves None e (refused R.TooLong) c c
  insert-long long = refused-half seen_by leaves c None e R.TooLong Cause.Long (λ asks. refl) (long-for long) (λ fault. fault)

  module _ (short : IsLongFor v asked → ⊥) where
    -- ---- the page

    lost-for : is_lost (entry_at c.directory p) ≡ true → (w : Core) → Fits seen_by leaves c w
        → IsFor None w e R.Lost Cause.Lost w.scene.state
    lost-for lost w f = record {
      names = refl;
      tells = tt;
      first = (refl, insert-head w f (Cause.Long ∷ []) (short, tt), tt);
      refuses = refl;
      passes = (tt, (tt, (tt, (tt, (tt, tt)))));
      says = λ b. ap is_lost (f.pages.entry p) ∙ lost;
      place = tt;
      leaves = refl;
      allows = tt;
      whom = tt;
      unused = tt;
      near = tt;
    }

    not-lost-by : is_lost (entry_at c.directory p) ≡ false → (w : Core) → Fits seen_by leaves c w
        → is_lost (w.pages.entry p) ≡ true → ⊥
    not-lost-by there w f lost = let clash = sym there ∙ ap is_lost (sym (f.pages.entry p)) ∙ lost in absurd (cc)

    away-for : (place : coded.Place) → LacksPage modes.Excl (home t) p c (R.NeedPage place) → (w : Core) → Fits seen_by leaves c w
        → IsFor None w e (R.NeedPage place) Cause.Away w.scene.state
    away-for place lacks w f = record {
      names = refl;
      tells = tt;
      first = (refl, insert-head w f (Cause.Long ∷ Cause.Lost ∷ []) (short, (tt, tt)), tt);
      refuses = refl;
      passes = (tt, (tt, (tt, (tt, (tt, (not-lost-by lacks.0 w f, tt))))));
      says = λ b. ap (λ (x : PageEntry). owns x (home t)) (f.pages.entry p) ∙ lacks.1;
      place = lacks.2 ∙ sym (f.pages.entry p);
      leaves = refl;
      allows = tt;
      whom = tt;
      unused = tt;
      near = tt;
    }

    module _ (mine : holds_as modes.Excl (entry_at c.directory p) (home t) ≡ true) (w : Core) (f : Fits seen_by leaves c w) where
      pub owned-page : owns (w.pages.entry p) (home t) ≡ false → ⊥
      owned-page away = let clash = sym away ∙ ap (λ (x : PageEntry). owns x (home t)) (f.pages.entry p) ∙ mine in absurd (cc)

      pub there-page : is_lost (w.pages.entry p) ≡ true → ⊥
      there-page lost = by (w.pages.entry p) (ap (λ (x : PageEntry). owns x (home t)) (f.pages.entry p) ∙ mine) lost
        where
          by : (x : PageEntry) → owns x (home t) ≡ true → is_lost x ≡ true → ⊥
          by PageEntry.Free h l = cc
          by (PageEntry.Shared set writer) h l = cc
          by (PageEntry.Excl holder dirty) h l = cc
          by (PageEntry.Moving to mode left dirty) h l = cc
          by PageEntry.Lost h l = cc

      -- the capacities of the page are within the sums
      pub page-within : AreWithin (capacities (image_for t p c)) (w.bounds.slots p)
      page-within = subst (λ (x : Page). AreWithin (capacities x) (w.bounds.slots p))
          (sym (copy-newest seen_by leaves Pending.Idle c w.scene.state t p f.good
          (as-held modes.Excl (entry_at c.directory p) (home t) mine)))
          (f.bounds.slots (λ j. false) all_kept p)

    -- a slot of the page, or the next one, is near
    pub near-slot : (mine : holds_as modes.Excl (entry_at c.directory p) (home t) ≡ true) (w : Core) → Fits seen_by leaves c w
        → (slot : ℕ)
        → slot ≤ length (image_for t p c).slots → slot ≤ length (w.bounds.slots p)
    near-slot mine w f slot le =
        let len = within-length (capacities (image_for t p c)) (w.bounds.slots p) (page-within mine w f) in
        let count = caps-length (image_for t p c).slots in
        omega (arith, le, len, count)

    full-for : LacksPlace t p asked c R.PageFull → (w : Core) → Fits seen_by leaves c w
        → IsFor None w e R.PageFull Cause.Full w.scene.state
    full-for lacks w f = record {
      names = refl;
      tells = tt;
      first = (refl, insert-head w f (Cause.Long ∷ Cause.Lost ∷ Cause.Away ∷ []) (short, (tt, (tt, tt))), tt);
      refuses = refl;
      passes = (tt, (tt, (tt, (tt, (tt, (there-page lacks.0 w f, (owned-page lacks.0 w f, tt)))))));
      says = λ b. absurd (cc);
      place = tt;
      leaves = refl;
      allows = full-bound (image_for t p c).slots (w.bounds.slots p) asked (page-within lacks.0 w f) lacks.1.0;
      whom = tt;
      unused = tt;
      near = tt;
    }

    pub insert-away : (n : Refusal) → LacksPlace t p asked c n → HalfServed seen_by leaves None e (refused n) c c
    insert-away R.PageFull lacks = refused-half seen_by leaves c None e R.PageFull Cause.Full (λ asks. refl) (full-for lacks)
        (λ fault. fault)
    insert-away R.Lost lacks = refused-half seen_by leaves c None e R.Lost Cause.Lost (λ asks. refl) (lost-for lacks)
        (λ fault. fault)
    insert-away (R.NeedPage place) lacks = refused-half seen_by leaves c None e (R.NeedPage place) Cause.Away (λ asks. refl)
        (away-for place lacks) (λ fault. fault)
    insert-away R.Memory lacks = λ w f. f
    insert-away n lacks = elim lacks [ ]

    -- ---- the lock of the new slot

    module _ (mine : holds_as modes.Excl (entry_at c.directory p) (home t) ≡ true) (slot own : ℕ)
        (vacant : IsVacant (image_for t p c) t p asked c slot own) where
      abbrev r : Rid
      r = record { page = p; slot = slot }

      asks-slot : asked_of e (Some r) ≡ Some (wait_for r modes.Excl)
      asks-slot = ap (λ (b : Bool). cond {A = Option Wait} b (Some (wait_for r modes.Excl)) None) (eq-eqb p p refl)

      -- a record behind the last slot is absent
      beyond : (w : Core) → Fits seen_by leaves c w → slot ≡ length (image_for t p c).slots → view w.scene.state t r ≡ None
      beyond w f next = beyond-absent seen_by leaves c w.scene.state t r f.good up (ready-insert w f).runs f.doubts
          (let newest = ap (λ (x : Page). length x.slots) (copy-newest seen_by leaves Pending.Idle c w.scene.state t p f.good
          (as-held modes.Excl (entry_at c.directory p) (home t) mine)) in omega (arith, newest, next))

      -- who has a claim on it holds a lock
      unclaimed : IsUnheld t r c → (w : Core) → Fits seen_by leaves c w → Locked w.scene.state t r Claim.Excl → ⊥
      unclaimed unheld w f locked =
          let free = lock-none ((w.scene.state.part locked.0).claims r)
          (sym (f.good.locks locked.0 r) ∙ unheld locked.0 locked.1) in
          subst Holds free locked.2

      absent : (w : Core) → Fits seen_by leaves c w → Locked w.scene.state t r Claim.Excl → view w.scene.state t r ≡ None
      absent w f locked = ⊎_elim (λ dead. absurd (unclaimed dead.unheld w f locked)) (λ next. beyond w f next) vacant.chosen.0

      blocks : (w : Core) → Fits seen_by leaves c w → Locked w.scene.state t r Claim.Excl → MayBlock (Some r) w e
      blocks w f locked = record {
        cause = Cause.SlotLock;
        blocked = λ by. refl;
        deadlock = λ cycle. refl;
        first = (
          refl,
          insert-head w f (Cause.Long ∷ Cause.Lost ∷ Cause.Away ∷ Cause.Full ∷ []) (short, (tt, (tt, (tt, tt)))),
          (slot, absent w f locked, locked),
        );
        refuses = refl;
        passes = (tt, (tt, (tt, (tt, (tt, (there-page mine w f, (owned-page mine w f, (tt, tt))))))));
        says = λ b. absurd (cc);
        unused = λ x refused. absent w f locked;
        near = near-slot mine w f slot vacant.place;
      }

      pub insert-asked : (new : Parts) (n : Refusal) → IsRefused (stands c.locks) (waits c.locks) t (wait_for r modes.Excl) n
          → NotesWait t (wait_for r modes.Excl) n c new → HalfServed seen_by leaves (Some r) e (refused n) c new
      insert-asked new = asked-half seen_by leaves c new e (Some r) t r modes.Excl asks-slot refl
          (λ w f. (ready-insert w f).runs) blocks
