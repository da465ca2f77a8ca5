-- What calls on records leave, by their answers. For the clauses `left` of `put`, `edit` and `fill`, and what is told by them.
use Rattle.std.proofs.Common.{◌≡◌, ◌⊎◌, ⊎_elim, inr, ℕ, Bool, cond, List, [], ◌∷◌, length, refl, sym, ap, ◌∙◌, subst}
use Rattle.std.specs.Prelude.{Option, None, Some, Result, Ok, Err, IfErr, IfOk, OnOk}
use Rattle.sd_base.specs.Waits.{IsCycle, Wait, asking}
use Rattle.sd_base.specs.declared.ids.Rid.{Rid}
use Rattle.sd_base.specs.declared.ids.TxnId.{TxnId}
use Rattle.sd_base.specs.declared.place.Mode.TheVariants as modes
use Rattle.sd_base.specs.declared.refusal.Refusal.{Refusal}
use Rattle.sd_base.specs.declared.refusal.Refusal.TheVariants as R
use Rattle.sd_base.proofs.SameIds.{eq-same}
use Rattle.sd_chain.specs.Pages.{capacity as capacity_of}
use Rattle.sd_chain.specs.Records.{home}
use Rattle.sd_model.specs.Tables.{Content}
use Rattle.sd_reclock.specs.Answers.{IsRefused}
use Rattle.sd_reclock.specs.Locks.{LockTable, stands, wait_for, waits}
use Rattle.sd_state.specs.Parts.{IsShape, Parts}
use Rattle.sd_state.specs.Working.{with_locks}
use Rattle.sd_update.specs.Changing.{IsMade, LacksLsns, LacksRoom, change_of, image_for}
use Rattle.sd_ops.specs.declared.edits.Edit.{Edit}
use Rattle.sd_ops.specs.declared.edits.Edit.TheVariants.{To, By, Gone}
use Rattle.sd_ops.specs.Copies.{LacksPage}
use Rattle.sd_ops.specs.Edits.{IsVain, Sets, Spoils}
use Rattle.sd_ops.specs.Halves.{EndsWait, IsOff, NotesWait, refusal_of}
use Rattle.sd_fits.specs.Untouched.{HasChanged}
use Rattle.sd_ops.specs.Leaving.{ChangeLeaves, OnlyLocks}
use Rattle.sd_ops.specs.Logged.{EditLeaves, EditRefused, FillLeaves, FillRefused, HasPlace, IsEdited, IsFilled, IsLogged, LacksFor, PutLeaves}
use Rattle.sd_ops.specs.Vacancies.{IsVacant, LacksPlace, NoneUsable}
use Rattle.sd_ops.proofs.Leaving.{changed-locks, locks-changed, locks-logged, locks-same, locks-then, logged-locks, made-changed, made-logged, only-locks}

-- ---- answers

abbrev err_of : (X : Type 0) → Refusal → Result X Refusal
err_of X n = Err n

-- what holds of a refusal holds of the answer
pub by-err : {X : Type 0} (P : Result X Refusal → Type 0) (result : Result X Refusal) (e n : Refusal) → result ≡ Err e → e ≡ n → P (Err n)
    → P result
by-err {X} P result e n is same h = subst P (sym (is ∙ ap (err_of X) same)) h

-- ---- waits

pub notes-only : (t : TxnId) (wait : Wait) (n : Refusal) (old new : Parts) → NotesWait t wait n old new → OnlyLocks old new
notes-only t wait (R.Blocked by) old new h = only-locks old new h.rest
notes-only t wait n old new h = locks-same old new h

pub ends-only : (t : TxnId) (o : Option Refusal) (old new : Parts) → EndsWait t o old new → OnlyLocks old new
ends-only t (Some (R.Blocked by)) old new h = locks-same old new h
ends-only t (Some R.Memory) old new h = locks-same old new h
ends-only t o old new h = only-locks old new h.rest

-- ---- a change that is put

module _ (t : TxnId) (r : Rid) (capacity : ℕ) (after : Content) where
  abbrev MadeAt : Parts → Parts → Type 0
  MadeAt c new = IsMade (change_of t r capacity after c) c new

  abbrev PlaceAt : Parts → Type 0
  PlaceAt c = HasPlace (change_of t r capacity after c) c

  abbrev LoggedAt : Parts → Parts → Type 0
  LoggedAt new c = IsLogged (change_of t r capacity after c) c new

  unlocked-place : (l : LockTable) (old : Parts) → PlaceAt (with_locks l old) → PlaceAt old
  unlocked-place l old h = record { room = h.room; lsns = h.lsns }

  -- once its lock is given
  pub put-made : (old mid new : Parts) → IsShape mid → mid ≡ with_locks mid.locks old → PlaceAt mid → MadeAt mid new
      → PlaceAt old × LoggedAt new old × HasChanged (home t) r.page old new
  put-made old mid new s is place made = (
    unlocked-place mid.locks old (subst PlaceAt is place),
    locks-logged (change_of t r capacity after old) mid.locks old new (subst (LoggedAt new) is (made-logged t r capacity after mid new s made)),
    locks-changed (home t) r.page mid.locks old new
        (subst (λ (c : Parts). HasChanged (home t) r.page c new) is (made-changed t r capacity after mid new s made)),
  )

  abbrev LacksAt : Refusal → Parts → Type 0
  LacksAt n c = LacksFor (change_of t r capacity after c) c n

  pub lacks-for : (n : Refusal) (c : Parts) → (n ≡ R.LogFull) ⊎ ((n ≡ R.LsnEnd) ⊎ (n ≡ R.Memory))
      → (n ≡ R.LogFull → LacksRoom (change_of t r capacity after c) c)
      → (n ≡ R.LsnEnd → (LacksRoom (change_of t r capacity after c) c → ⊥) × LacksLsns t c) → LacksAt n c
  lacks-for n c which full lsns = ⊎_elim
      (λ e. subst (λ (x : Refusal). LacksAt x c) (sym e) (full e))
      (λ which. ⊎_elim (λ e. subst (λ (x : Refusal). LacksAt x c) (sym e) (lsns e)) (λ e. subst (λ (x : Refusal). LacksAt x c) (sym e) tt) which)
      which

-- ---- edits

pub off-edit : (t : TxnId) (r : Rid) (edit : Edit) (c : Parts) (n : Refusal) → IsOff t c n → EditRefused t r edit c n
off-edit t r edit c R.LogFull h = elim h [ ]
off-edit t r edit c R.LsnEnd h = elim h [ ]
off-edit t r edit c R.TooLong h = elim h [ ]
off-edit t r edit c n h = tt

pub asked-edit : (t : TxnId) (r : Rid) (edit : Edit) (c : Parts) (n : Refusal) → IsRefused (stands c.locks) (waits c.locks) t (wait_for r modes.Excl) n
    → EditRefused t r edit c n
asked-edit t r edit c R.LogFull h = elim h [ ]
asked-edit t r edit c R.LsnEnd h = elim h [ ]
asked-edit t r edit c R.TooLong h = elim h [ ]
asked-edit t r edit c n h = tt

pub away-edit : (t : TxnId) (r : Rid) (edit : Edit) (c d : Parts) (n : Refusal) → LacksPage modes.Excl (home t) r.page d n → EditRefused t r edit c n
away-edit t r edit c d R.LogFull h = elim h [ ]
away-edit t r edit c d R.LsnEnd h = elim h [ ]
away-edit t r edit c d R.TooLong h = elim h [ ]
away-edit t r edit c d n h = tt

-- an edit is never vain for want of room or LSNs
spoils-room : (edit : Edit) (u : List ℕ) (own : ℕ) → Spoils edit u own R.LogFull → ⊥
spoils-room (To v) u own h = h
spoils-room (By by) u own h = h
spoils-room Gone u own h = h

spoils-lsns : (edit : Edit) (u : List ℕ) (own : ℕ) → Spoils edit u own R.LsnEnd → ⊥
spoils-lsns (To v) u own h = h
spoils-lsns (By by) u own h = h
spoils-lsns Gone u own h = h

pub vain-edit : (t : TxnId) (r : Rid) (edit : Edit) (c : Parts) (n : Refusal) → IsVain (image_for t r.page c) r.slot edit n
    → EditRefused t r edit c n
vain-edit t r edit c R.LogFull h = absurd (spoils-room edit h.u (capacity_of (image_for t r.page c).slots r.slot) h.why)
vain-edit t r edit c R.LsnEnd h = absurd (spoils-lsns edit h.u (capacity_of (image_for t r.page c).slots r.slot) h.why)
vain-edit t r edit c R.TooLong h = inr h
vain-edit t r edit c n h = tt

-- an edit that is put
pub put-edit : (t : TxnId) (r : Rid) (edit : Edit) (capacity : ℕ) (after : Content) (result : Result (Unit {0}) Refusal) (old new : Parts)
    → Sets (image_for t r.page old) r.slot edit capacity after → PutLeaves t r capacity after result old new
    → EditLeaves t r edit result old new
put-edit t r edit capacity after (Ok x) old new sets h = (
  record { capacity = capacity; after = after; sets = sets; place = h.0; logged = h.1 },
  h.2,
)
put-edit t r edit capacity after (Err R.LogFull) old new sets h = (
  record { capacity = capacity; after = after; sets = sets; lacks = h.0 },
  h.1,
)
put-edit t r edit capacity after (Err R.LsnEnd) old new sets h = (
  record { capacity = capacity; after = after; sets = sets; lacks = h.0 },
  h.1,
)
put-edit t r edit capacity after (Err R.Memory) old new sets h = (tt, h.1)
put-edit t r edit capacity after (Err n) old new sets h = absurd (h.0)

-- its wait is ended
pub ended-edit : (t : TxnId) (r : Rid) (edit : Edit) (result : Result (Unit {0}) Refusal) (old mid new : Parts)
    → EditLeaves t r edit result old mid → EndsWait t (refusal_of result) mid new → EditLeaves t r edit result old new
ended-edit t r edit (Ok x) old mid new h ends =
    let is = (ends-only t None mid new ends).rest in (
      record {
        capacity = h.0.capacity;
        after = h.0.after;
        sets = h.0.sets;
        place = h.0.place;
        logged = logged-locks (change_of t r h.0.capacity h.0.after old) old mid new h.0.logged is;
      },
      changed-locks (home t) r.page old mid new h.1 is,
    )
ended-edit t r edit (Err n) old mid new h ends = (h.0, locks-then old mid new h.1 (ends-only t (Some n) mid new ends).rest)

-- what is told of it
pub edit-touches : (t : TxnId) (r : Rid) (edit : Edit) (result : Result (Unit {0}) Refusal) (old new : Parts)
    → EditLeaves t r edit result old new → ChangeLeaves (home t) r.page result old new
edit-touches t r edit (Ok x) old new h = h.1
edit-touches t r edit (Err n) old new h = h.1

pub edit-logged : (t : TxnId) (r : Rid) (edit : Edit) (result : Result (Unit {0}) Refusal) (old new : Parts)
    → EditLeaves t r edit result old new → OnOk result (IsEdited t r edit old new)
edit-logged t r edit (Ok x) old new h = h.0
edit-logged t r edit (Err n) old new h = tt

pub edit-refused : (t : TxnId) (r : Rid) (edit : Edit) (result : Result (Unit {0}) Refusal) (old new : Parts)
    → EditLeaves t r edit result old new → IfErr result (EditRefused t r edit old)
edit-refused t r edit (Ok x) old new h = tt
edit-refused t r edit (Err n) old new h = h.0

-- ---- new records

module _ (t : TxnId) (p : ℕ) (v : List ℕ) (asked : ℕ) where
  pub off-fill : (c : Parts) (n : Refusal) → IsOff t c n → FillRefused t p v asked c n
  off-fill c R.LogFull h = elim h [ ]
  off-fill c R.LsnEnd h = elim h [ ]
  off-fill c R.TooLong h = elim h [ ]
  off-fill c R.PageFull h = elim h [ ]
  off-fill c (R.Blocked by) h = elim h [ ]
  off-fill c (R.Deadlock cycle) h = elim h [ ]
  off-fill c n h = tt

  pub away-fill : (c : Parts) (n : Refusal) → LacksPlace t p asked c n → FillRefused t p v asked c n
  away-fill c R.LogFull h = elim h [ ]
  away-fill c R.LsnEnd h = elim h [ ]
  away-fill c R.TooLong h = elim h [ ]
  away-fill c R.PageFull h = h.1
  away-fill c (R.Blocked by) h = elim h [ ]
  away-fill c (R.Deadlock cycle) h = elim h [ ]
  away-fill c n h = tt

  -- who closes a cycle waits for one that stands in its way
  cycle-stands : (l : LockTable) (wait : Wait) (cycle : List TxnId) → IsCycle (stands l) (asking t wait (waits l)) t cycle
      → (u : TxnId) × stands l t wait u
  cycle-stands l wait [] h = absurd h
  cycle-stands l wait (x ∷ []) h = absurd h
  cycle-stands l wait (x ∷ y ∷ ts) h =
      let first = h.2.0 in
      let here : asking t wait (waits l) t ≡ Some wait = ap (λ (b : Bool). cond {A = Option Wait} b (Some wait) (waits l t)) (eq-same t t refl) in
      let next : asking t wait (waits l) t ≡ Some first.0 =
      subst (λ (u : TxnId). asking t wait (waits l) u ≡ Some first.0) h.0 first.1 in
      let same : first.0 ≡ wait = cc in
      (y, subst (λ (z : Wait). stands l t z y) same (subst (λ (u : TxnId). stands l u first.0 y) h.0 first.2))

  module _ (c : Parts) (slot own : ℕ) (vacant : IsVacant (image_for t p c) t p asked c slot own) where
    abbrev rid : Rid
    rid = record { page = p; slot = slot }

    -- where somebody stands in the way the slot is a new one
    new-slot : (u : TxnId) → stands c.locks t (wait_for rid modes.Excl) u
        → NoneUsable (image_for t p c) t p asked c (length (image_for t p c).slots)
    new-slot u one = ⊎_elim
        (λ dead. let none = dead.unheld u one.other in let some = one.holds in absurd (cc))
        (λ next. subst (NoneUsable (image_for t p c) t p asked c) next vacant.chosen.1)
        vacant.chosen.0

    pub asked-fill : (n : Refusal) → IsRefused (stands c.locks) (waits c.locks) t (wait_for rid modes.Excl) n → FillRefused t p v asked c n
    asked-fill R.LogFull h = elim h [ ]
    asked-fill R.LsnEnd h = elim h [ ]
    asked-fill R.TooLong h = elim h [ ]
    asked-fill R.PageFull h = elim h [ ]
    asked-fill (R.Blocked by) h = new-slot by h.obstructs
    asked-fill (R.Deadlock cycle) h = let one = cycle-stands c.locks (wait_for rid modes.Excl) cycle h.closes in new-slot one.0 one.1
    asked-fill n h = tt

    -- one that isn't put
    pub unput-fill : (n : Refusal) → LacksFor (change_of t rid own (Some v) c) c n → FillRefused t p v asked c n
    unput-fill R.LogFull h = record { slot = slot; own = own; vacant = vacant; lacks = h }
    unput-fill R.LsnEnd h = record { slot = slot; own = own; vacant = vacant; lacks = h }
    unput-fill R.Memory h = tt
    unput-fill n h = absurd (h)

  -- its wait is ended
  pub ended-fill : (result : Result Rid Refusal) (old mid new : Parts) → FillLeaves t p v asked result old mid
      → EndsWait t (refusal_of result) mid new → FillLeaves t p v asked result old new
  ended-fill (Ok r) old mid new h ends =
      let is = (ends-only t None mid new ends).rest in (
        record {
          page = h.0.page;
          own = h.0.own;
          vacant = h.0.vacant;
          place = h.0.place;
          logged = logged-locks (change_of t r h.0.own (Some v) old) old mid new h.0.logged is;
        },
        changed-locks (home t) p old mid new h.1 is,
      )
  ended-fill (Err n) old mid new h ends = (h.0, locks-then old mid new h.1 (ends-only t (Some n) mid new ends).rest)

  -- what is told of it
  pub fill-touches : (result : Result Rid Refusal) (old new : Parts) → FillLeaves t p v asked result old new
      → ChangeLeaves (home t) p result old new
  fill-touches (Ok r) old new h = h.1
  fill-touches (Err n) old new h = h.1

  pub fill-logged : (result : Result Rid Refusal) (old new : Parts) → FillLeaves t p v asked result old new
      → IfOk result (IsFilled t p v asked old new)
  fill-logged (Ok r) old new h = h.0
  fill-logged (Err n) old new h = tt

  pub fill-refused : (result : Result Rid Refusal) (old new : Parts) → FillLeaves t p v asked result old new
      → IfErr result (FillRefused t p v asked old)
  fill-refused (Ok r) old new h = tt
  fill-refused (Err n) old new h = h.0
