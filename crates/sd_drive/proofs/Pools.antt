-- Pools are emptied, page by page and one after another. It serves the goals of opening.rt from `empty_pools` on, and of emptying.rt.
use Rattle.std.proofs.Common.{◌≡◌, ◌⊎◌, ⊎_elim, ℕ, zero, suc, ◌+◌, ◌-◌, ◌<◌, ◌≤◌, Bool, true, false, cond, List, refl, sym, ap, ap₂, ◌∙◌, subst, arith}
use Rattle.std.specs.Prelude.{Option, None, Some, option_map, ◌&&◌, ◌||◌, not}
use Rattle.std.specs.Option.{option_or}
use Rattle.sd_base.specs.declared.place.Status.{Status}
use Rattle.sd_model.specs.declared.event.Event.TheVariants as event
use Rattle.sd_model.specs.declared.event.Reply.{Reply}
use Rattle.sd_model.specs.declared.event.Reply.TheVariants as reply
use Rattle.sd_pagelock.specs.Places.{PageEntry, changed, holds}
use Rattle.sd_script.specs.declared.line.Line.{Line}
use Rattle.sd_world.specs.Pages.{Pages, is_duty}
use Rattle.sd_world.specs.Serving.{Core, Telling}
use Rattle.sd_fits.specs.declared.body.Body.{Body}
use Rattle.sd_hall.specs.Bodies.{fits_in, open_in}
use Rattle.sd_drive.specs.declared.opening.Rise.{Rise}
use Rattle.sd_drive.specs.declared.emptying.Going.{Going}
use Rattle.sd_drive.specs.declared.emptying.Going.TheVariants as goings
use Rattle.sd_drive.specs.Bodies.{entry_in, status_in}
use Rattle.sd_drive.specs.Driven.{IsIn, IsSomewhere, StaysIn}
use Rattle.sd_model.specs.Replies.{is_did}
use Rattle.sd_drive.specs.Driving.{Cursor, Known, Work, World, empties, first_from, goes_on, leaver, leavers, lets_go, next_copy}
use Rattle.sd_base.specs.Standing.{is_up}
use Rattle.sd_drive.specs.Emptying.{BreaksBy, BreaksIn, OpensAt, OpensBy, OpensTo, StopsIn, copies_from, pools_from, stands_at}
use Rattle.sd_drive.specs.Going.{going_as}
use Rattle.sd_drive.specs.Rising.{OpensOn}
use Rattle.sd_drive.specs.Running.{Start}
use Rattle.sd_drive.proofs.Bodies.{entry-is, fits-now, status-is}
use Rattle.sd_drive.proofs.Finding.{first-behind, first-here}
use Rattle.sd_drive.proofs.Lined.{opening-due}

-- ---- the next copy

module _ (w : Pages) (i p : ℕ) (lt : p < 1024) where
  pub copy-here : holds (w.entry p) i ≡ true → next_copy w i p ≡ Some p
  unfolding next_copy
  copy-here has = first-here (λ q. holds (w.entry q) i) p (1024 - p) (omega (arith, lt)) has

  copy-behind : holds (w.entry p) i ≡ false → next_copy w i p ≡ next_copy w i (p + 1)
  unfolding next_copy
  copy-behind hasnt = first-behind (λ q. holds (w.entry q) i) p (1024 - p) (1024 - (p + 1)) (omega (arith, lt)) hasnt

copy-none : (w : Pages) (i : ℕ) → next_copy w i 1024 ≡ None
unfolding next_copy
copy-none w i = refl

-- ---- what goes next, by how the instance stands and what it holds

abbrev pub leaver-by : Core → ℕ → Bool → Option ℕ → Option Cursor
leaver-by w i up next = cond {A = Option Cursor} up None (option_map (λ (q : ℕ). lets_go w.pages i q) next)

module _ (w : Core) (i p : ℕ) (lt : p < 1024) where
  abbrev up : Bool
  up = is_up (w.scene.state.inst i).status

  abbrev has : Bool
  has = holds (w.pages.entry p) i

  abbrev duty : Bool
  duty = changed (w.pages.entry p) && is_duty i (w.pages.entry p)

  abbrev going : Going
  going = going_as (w.scene.state.inst i).status (w.pages.entry p) i

  -- what the three say
  going-by : (u h d : Bool) → up ≡ u → has ≡ h → duty ≡ d
      → going ≡ cond {A = Going} (u || not h) goings.Stays (cond {A = Going} d goings.IsWritten goings.Goes)
  going-by u h d a b c =
      ap₂ (λ (x y : Bool). cond {A = Going} (x || not y) goings.Stays (cond {A = Going} duty goings.IsWritten goings.Goes)) a b
      ∙ ap (λ (z : Bool). cond {A = Going} (u || not h) goings.Stays (cond {A = Going} z goings.IsWritten goings.Goes)) c

  next-by : (u : Bool) (next : Option ℕ) → up ≡ u → next_copy w.pages i p ≡ next → leaver w i p ≡ leaver-by w i u next
  next-by u next a b = ap₂ (leaver-by w i) a b

  unlike : {A : Type 0} (a b : Going) → going ≡ a → going ≡ b → (a ≡ b → ⊥) → A
  unlike a b is so clash = absurd (clash (sym is ∙ so))

  -- it stays, and the next page has its turn
  stays-leaver : going ≡ goings.Stays → leaver w i p ≡ leaver w i (p + 1)
  stays-leaver stays = go up has duty refl refl refl
    where
      go : (u h d : Bool) → up ≡ u → has ≡ h → duty ≡ d → leaver w i p ≡ leaver w i (p + 1)
      go true h d a b c = ap (λ (u : Bool). leaver-by w i u (next_copy w.pages i p)) a
          ∙ sym (ap (λ (u : Bool). leaver-by w i u (next_copy w.pages i (p + 1))) a)
      go false false d a b c = ap (leaver-by w i up) (copy-behind w.pages i p lt b)
      go false true true a b c = unlike goings.Stays goings.IsWritten stays (going-by false true true a b c) (λ same. absurd (cc))
      go false true false a b c = unlike goings.Stays goings.Goes stays (going-by false true false a b c) (λ same. absurd (cc))

  pub stays-past : going ≡ goings.Stays → empties w i p ≡ empties w i (p + 1)
  stays-past stays = ap (λ (o : Option Cursor). option_or o (leavers w (i + 1) (8 - i))) (stays-leaver stays)

  -- its instance isn't up, and has it
  gone : (d : Bool) → up ≡ false → has ≡ true → duty ≡ d → empties w i p ≡ Some (cond {A = Cursor} d (Cursor.Flushes i p) (Cursor.Evicts i p))
  gone d a b c = ap (λ (o : Option Cursor). option_or o (leavers w (i + 1) (8 - i)))
      (next-by false (Some p) a (copy-here w.pages i p lt b) ∙ ap (λ (z : Bool). Some (cond {A = Cursor} z (Cursor.Flushes i p) (Cursor.Evicts i p))) c)

  pub goes-here : going ≡ goings.Goes → empties w i p ≡ Some (Cursor.Evicts i p)
  goes-here goes = go up has duty refl refl refl
    where
      go : (u h d : Bool) → up ≡ u → has ≡ h → duty ≡ d → empties w i p ≡ Some (Cursor.Evicts i p)
      go true h d a b c = unlike goings.Goes goings.Stays goes (going-by true h d a b c) (λ same. absurd (cc))
      go false false d a b c = unlike goings.Goes goings.Stays goes (going-by false false d a b c) (λ same. absurd (cc))
      go false true true a b c = unlike goings.Goes goings.IsWritten goes (going-by false true true a b c) (λ same. absurd (cc))
      go false true false a b c = gone false a b c

  pub written-here : going ≡ goings.IsWritten → empties w i p ≡ Some (Cursor.Flushes i p)
  written-here goes = go up has duty refl refl refl
    where
      go : (u h d : Bool) → up ≡ u → has ≡ h → duty ≡ d → empties w i p ≡ Some (Cursor.Flushes i p)
      go true h d a b c = unlike goings.IsWritten goings.Stays goes (going-by true h d a b c) (λ same. absurd (cc))
      go false false d a b c = unlike goings.IsWritten goings.Stays goes (going-by false false d a b c) (λ same. absurd (cc))
      go false true false a b c = unlike goings.IsWritten goings.Goes goes (going-by false true false a b c) (λ same. absurd (cc))
      go false true true a b c = gone true a b c

-- ---- from pool to pool

not-any : (w : Core) (i : ℕ) (b : Bool) → leaver-by w i b None ≡ None
not-any w i true = refl
not-any w i false = refl

pub leavers-more : (w : Core) (i n m : ℕ) → n ≡ m + 1 → leavers w i n ≡ option_or (leaver w i 0) (leavers w (i + 1) m)
unfolding leavers
leavers-more w i zero m is = absurd (omega (arith, is))
leavers-more w i (suc n) m is = let same : n ≡ m = omega (arith, is) in ap (λ (k : ℕ). option_or (leaver w i 0) (leavers w (i + 1) k)) same

-- the pool of i, from its first page on
pub pool-first : (w : Core) (i : ℕ) → i ≤ 8 → pools_from i w ≡ copies_from i 0 w
pool-first w i le = leavers-more w i (9 - i) (8 - i) (omega (arith, le))

-- behind its last page those of the instances behind it
pub pool-last : (w : Core) (i : ℕ) → i ≤ 8 → copies_from i 1024 w ≡ pools_from (i + 1) w
pool-last w i le =
    let none : leaver w i 1024 ≡ None =
    ap (leaver-by w i (is_up (w.scene.state.inst i).status)) (copy-none w.pages i) ∙ not-any w i (is_up (w.scene.state.inst i).status) in
    ap (λ (o : Option Cursor). option_or o (leavers w (i + 1) (8 - i))) none ∙ ap (leavers w (i + 1)) (omega (arith, le))

-- so it is where i is up
pub pool-up : (w : Core) (i : ℕ) → i ≤ 8 → is_up (w.scene.state.inst i).status ≡ true → pools_from i w ≡ pools_from (i + 1) w
pool-up w i le up =
    pool-first w i le
    ∙ ap (λ (b : Bool). option_or (leaver-by w i b (next_copy w.pages i 0)) (leavers w (i + 1) (8 - i))) up
    ∙ ap (leavers w (i + 1)) (omega (arith, le))

pub pools-none : (w : Core) → pools_from 9 w ≡ None
unfolding leavers
pools-none w = refl

-- ---- where nothing goes

first-false : (f : ℕ → Bool) (i n : ℕ) → ((j : ℕ) → f j ≡ false) → first_from f i n ≡ None
first-false f i zero none = refl
first-false f i (suc n) none = ap (λ (b : Bool). cond {A = Option ℕ} b (Some i) (first_from f (i + 1) n)) (none i) ∙ first-false f (i + 1) n none

copies-none : (w : Pages) (i p : ℕ) → ((q : ℕ) → holds (w.entry q) i ≡ false) → next_copy w i p ≡ None
unfolding next_copy
copies-none w i p none = first-false (λ q. holds (w.entry q) i) p (1024 - p) none

-- the instance is up, or has no page
abbrev pub IsIdle : Core → ℕ → Type 0
IsIdle w i = (is_up (w.scene.state.inst i).status ≡ true) ⊎ ((q : ℕ) → holds (w.pages.entry q) i ≡ false)

pub idle-leaver : (w : Core) (i p : ℕ) → IsIdle w i → leaver w i p ≡ None
idle-leaver w i p idle = ⊎_elim
    (λ (up : is_up (w.scene.state.inst i).status ≡ true). ap (λ (u : Bool). leaver-by w i u (next_copy w.pages i p)) up)
    (λ (none : (q : ℕ) → holds (w.pages.entry q) i ≡ false).
    ap (leaver-by w i (is_up (w.scene.state.inst i).status)) (copies-none w.pages i p none) ∙ not-any w i (is_up (w.scene.state.inst i).status))
    idle

pub idle-leavers : (w : Core) → ((j : ℕ) → IsIdle w j) → (i n : ℕ) → leavers w i n ≡ None
unfolding leavers
idle-leavers w idle i zero = refl
idle-leavers w idle i (suc n) = ap (λ (o : Option Cursor). option_or o (leavers w (i + 1) n)) (idle-leaver w i 0 (idle i)) ∙ idle-leavers w idle (i + 1) n

pub idle-empties : (w : Core) → ((j : ℕ) → IsIdle w j) → (i p : ℕ) → empties w i p ≡ None
idle-empties w idle i p =
    ap (λ (o : Option Cursor). option_or o (leavers w (i + 1) (8 - i))) (idle-leaver w i p (idle i)) ∙ idle-leavers w idle (i + 1) (8 - i)

-- ---- behind a reply

flush-did : (w : Core) (known : Known) (i p : ℕ) (r : Reply) → is_did r ≡ true
    → goes_on w known Work.Opening (Cursor.Flushes i p) r ≡ Some (Cursor.Evicts i p)
flush-did w known i p reply.Did did = refl
flush-did w known i p r did = absurd (cc)

flush-not : (w : Core) (known : Known) (i p : ℕ) (r : Reply) → is_did r ≡ false
    → goes_on w known Work.Opening (Cursor.Flushes i p) r ≡ empties w i (p + 1)
flush-not w known i p reply.Did did = absurd (cc)
flush-not w known i p r did = refl

-- ---- from place to place

pub on-there : {G : Type 0} (tell : Telling G) (start : Start G) (lines : List Line) (rise : Rise G) (o : Option Cursor) (w : World)
    → OpensOn tell start lines rise o w → IsIn tell start rise.hall w
on-there tell start lines rise None w on = on.there
on-there tell start lines rise (Some c) w on = on.there

module _ {G : Type 0} (tell : Telling G) (old : Rise G) (place : Core → Option Cursor) where
  pub opens-somewhere : OpensAt tell old place → IsSomewhere tell old.hall
  opens-somewhere a = (a.start, a.world, on-there tell a.start a.lines old (place a.world.core) a.world a.on)

  pub opens-fit : OpensAt tell old place → (w : Core) × fits_in tell.seen tell.leaves old.hall.body w
  opens-fit a = (a.world.core, fits-now tell a.start old.hall a.world (on-there tell a.start a.lines old (place a.world.core) a.world a.on))

-- where an event of it is due the opening is under way
pub stays-stops : {G : Type 0} (tell : Telling G) (old : Rise G) (c : Cursor) (new : Rise G) → StaysIn tell old.hall new.hall
    → StopsIn tell old new (stands_at c)
stays-stops tell old c new stays_in start w lines on = (w, stays_in start w on.there, opening-due tell start lines old c w on)

module _ {G : Type 0} (tell : Telling G) (old mid : Rise G) (place next : Core → Option Cursor) (to : OpensTo tell old mid place next) where
  pub opens-in : OpensAt tell old place → OpensAt tell mid next
  opens-in a = let h = to a.start a.world a.lines a.on in record { start = a.start; world = h.0; lines = a.lines; on = h.1 }

  module _ (new : Rise G) where
    pub opens-then : (last : Core → Option Cursor) → OpensTo tell mid new next last → OpensTo tell old new place last
    opens-then last more start w lines on = let h = to start w lines on in more start h.0 lines h.1

    pub stops-then : StopsIn tell mid new next → StopsIn tell old new place
    stops-then some start w lines on = let h = to start w lines on in some start h.0 lines h.1

    pub breaks-then : BreaksIn tell mid new next → BreaksIn tell old new place
    breaks-then breaks start w lines on = let h = to start w lines on in breaks start h.0 lines h.1

-- places that are the same in each world that the hall may be in
pub opens-same : {G : Type 0} (tell : Telling G) (old : Rise G) (place next : Core → Option Cursor)
    → ((w : Core) → fits_in tell.seen tell.leaves old.hall.body w → place w ≡ next w) → OpensTo tell old old place next
opens-same tell old place next same start w lines on = (
  w,
  subst (λ (o : Option Cursor). OpensOn tell start lines old o w)
      (same w.core (fits-now tell start old.hall w (on-there tell start lines old (place w.core) w on))) on,
)

-- ---- a page

module _ {G : Type 0} (tell : Telling G) (old : Rise G) (i p : ℕ) (low : 1 ≤ i) (high : i ≤ 8) where
  going-now : (w : Core) → fits_in tell.seen tell.leaves old.hall.body w
      → going_as (w.scene.state.inst i).status (w.pages.entry p) i ≡ going_as (status_in old.hall.body i) (entry_in old.hall.body p) i
  going-now w f = ap₂ (λ (s : Status) (e : PageEntry). going_as s e i) (sym (status-is tell old.hall.body w f i low high)) (entry-is tell old.hall.body w f p)

  module _ (lt : p < 1024) where
    abbrev Is : Going → Type 0
    Is g = going_as (status_in old.hall.body i) (entry_in old.hall.body p) i ≡ g

    pub page-stays : Is goings.Stays → OpensTo tell old old (copies_from i p) (copies_from i (p + 1))
    page-stays is = opens-same tell old (copies_from i p) (copies_from i (p + 1)) (λ w f. stays-past w i p lt (going-now w f ∙ is))

    pub page-goes : Is goings.Goes → OpensTo tell old old (copies_from i p) (stands_at (Cursor.Evicts i p))
    page-goes is = opens-same tell old (copies_from i p) (stands_at (Cursor.Evicts i p)) (λ w f. goes-here w i p lt (going-now w f ∙ is))

    pub page-written : Is goings.IsWritten → OpensTo tell old old (copies_from i p) (stands_at (Cursor.Flushes i p))
    page-written is = opens-same tell old (copies_from i p) (stands_at (Cursor.Flushes i p)) (λ w f. written-here w i p lt (going-now w f ∙ is))

module _ {G : Type 0} (tell : Telling G) (old : Rise G) (i : ℕ) (low : 1 ≤ i) (high : i ≤ 8) where
  pub pool-stays : is_up (status_in old.hall.body i) ≡ true → OpensTo tell old old (pools_from i) (pools_from (i + 1))
  pool-stays up = opens-same tell old (pools_from i) (pools_from (i + 1))
      (λ w f. pool-up w i high (ap is_up (sym (status-is tell old.hall.body w f i low high)) ∙ up))

  pub pool-begins : OpensTo tell old old (pools_from i) (copies_from i 0)
  pool-begins = opens-same tell old (pools_from i) (copies_from i 0) (λ w f. pool-first w i high)

  pub pool-ends : OpensTo tell old old (copies_from i 1024) (pools_from (i + 1))
  pool-ends = opens-same tell old (copies_from i 1024) (pools_from (i + 1)) (λ w f. pool-last w i high)

module _ {G : Type 0} (tell : Telling G) (old new : Rise G) (i p : ℕ) where
  pub evicted : (r : Reply) → OpensBy tell old new (event.Evict i p) r → OpensTo tell old new (stands_at (Cursor.Evicts i p)) (copies_from i (p + 1))
  evicted r by start w lines on = by start w lines (Cursor.Evicts i p) on refl

  pub evict-breaks : BreaksBy tell old new (event.Evict i p) → BreaksIn tell old new (stands_at (Cursor.Evicts i p))
  evict-breaks by start w lines on = by start w lines (Cursor.Evicts i p) on refl

  pub flush-breaks : BreaksBy tell old new (event.Flush i p) → BreaksIn tell old new (stands_at (Cursor.Flushes i p))
  flush-breaks by start w lines on = by start w lines (Cursor.Flushes i p) on refl

  module _ (r : Reply) (by : OpensBy tell old new (event.Flush i p) r) where
    flushed : (place : Core → Option Cursor) → ((w : Core) (known : Known) → goes_on w known Work.Opening (Cursor.Flushes i p) r ≡ place w)
        → OpensTo tell old new (stands_at (Cursor.Flushes i p)) place
    flushed place is start w lines on =
        let h = by start w lines (Cursor.Flushes i p) on refl in
        (h.0, subst (λ (o : Option Cursor). OpensOn tell start lines new o h.0) (is h.0.core w.told.known) h.1)

    pub written : is_did r ≡ true → OpensTo tell old new (stands_at (Cursor.Flushes i p)) (stands_at (Cursor.Evicts i p))
    written did = flushed (stands_at (Cursor.Evicts i p)) (λ w known. flush-did w known i p r did)

    pub written-not : is_did r ≡ false → OpensTo tell old new (stands_at (Cursor.Flushes i p)) (copies_from i (p + 1))
    written-not did = flushed (copies_from i (p + 1)) (λ w known. flush-not w known i p r did)

-- where no complex is open no pool has a page
pub shut-stays : {G : Type 0} (tell : Telling G) (body : Option (Body G)) → None ≡ open_in body → (i p : ℕ)
    → goings.Stays ≡ going_as (status_in body i) (entry_in body p) i
shut-stays tell None is i p = refl
shut-stays tell (Some (Body.Open c)) is i p = absurd (cc)
shut-stays tell (Some (Body.Closed rig shape)) is i p = refl
