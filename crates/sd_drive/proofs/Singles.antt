-- Pages in an opening: none is shared. Each is in no pool, with one instance alone, or on its way to one; and whoever asks for one wants it
-- alone. It serves the goals of `openings` in laws.rt.
use Rattle.std.proofs.Common.{◌≡◌, ◌≢◌, ◌⊎◌, inl, inr, ℕ, ◌≤◌, Bool, true, false, cond, eqb, List, [], ◌∷◌, Option, None, Some, refl, sym, ap, ◌∙◌, subst, eq-eqb, ne_eqb, eqb-true}
use Rattle.std.specs.Prelude.{filter, find, is_some, not, ◌&&◌, ◌||◌}
use Rattle.std.specs.Option.{option_map}
use Rattle.sd_base.specs.declared.place.Mode.{Mode}
use Rattle.sd_base.specs.declared.place.Mode.TheVariants as modes
use Rattle.sd_base.specs.Sets.{has}
use Rattle.sd_model.specs.Applies.{IsActive}
use Rattle.sd_model.specs.State.{State}
use Rattle.sd_pagelock.specs.declared.queue.Ask.{Ask}
use Rattle.sd_pagelock.specs.Asks.{oldest, queued, stronger}
use Rattle.sd_pagelock.specs.Places.{PageEntry, changed, holds, is_lost, owns, passes, receives, uses}
use Rattle.sd_pagelock.specs.Rows.{dropped, fallen, may_evict, nowhere, taken, written}
use Rattle.sd_pagelock.proofs.Uses.{uses-parts}
use Rattle.sd_world.specs.Pages.{answerer, given, had, is_duty, is_had}

none_left : {A : Type 0} → false ≡ true → A
none_left e = absurd (cc)

pub yes_no : {A : Type 0} {b : Bool} → b ≡ true → b ≡ false → A
yes_no yes_ no_ = none_left (sym no_ ∙ yes_)

-- ---- places

-- it isn't shared
abbrev pub Single : PageEntry → Type 0
Single PageEntry.Free = Unit {0}
Single (PageEntry.Shared set writer) = ⊥
Single (PageEntry.Excl holder dirty) = Unit {0}
Single (PageEntry.Moving to mode rest dirty) = (mode ≡ modes.Excl) × (rest ≡ [])
Single PageEntry.Lost = Unit {0}

-- From one place to another that isn't shared: nobody uses the page who didn't, but for k, and it isn't lost by that.
pub record Gains (k : ℕ) (old new : PageEntry) : Type 0 where
  pub single : Single new
  pub used : (j : ℕ) → uses new j ≡ true → (k ≡ j) ⊎ (uses old j ≡ true)
  pub loses : is_lost new ≡ true → is_lost old ≡ true

pub gains-none : (k : ℕ) (e : PageEntry) → Single e → Gains k e e
gains-none k e s = record { single = s; used = λ j u. inr u; loses = λ l. l }

excl-gains : (k : ℕ) (e : PageEntry) (dirty : Bool) → Gains k e (PageEntry.Excl k dirty)
excl-gains k e dirty = record { single = tt; used = λ j u. inl (eqb-true k j u); loses = λ l. none_left l }

free-gains : (k : ℕ) (e : PageEntry) → Gains k e PageEntry.Free
free-gains k e = record { single = tt; used = λ j u. none_left u; loses = λ l. none_left l }

pub dirtied-gains : (k : ℕ) (e : PageEntry) → Gains k e (PageEntry.Excl k true)
dirtied-gains k e = excl-gains k e true

pub freed-gains : (k : ℕ) (e : PageEntry) → Gains k e PageEntry.Free
freed-gains k e = free-gains k e

-- i reads it from disk, or has it already
pub had-gains : (i : ℕ) (e : PageEntry) → Single e → Gains i e (had i modes.Excl e)
had-gains i PageEntry.Free s = excl-gains i PageEntry.Free false
had-gains i PageEntry.Lost s = gains-none i PageEntry.Lost tt
had-gains i (PageEntry.Shared set writer) s = absurd s
had-gains i (PageEntry.Excl holder dirty) s = go (eqb holder i)
  where
    go : (b : Bool) → Gains i (PageEntry.Excl holder dirty) (cond {A = PageEntry} b (PageEntry.Excl holder dirty) (PageEntry.Excl holder dirty))
    go true = gains-none i (PageEntry.Excl holder dirty) tt
    go false = gains-none i (PageEntry.Excl holder dirty) tt
had-gains i (PageEntry.Moving to mode rest dirty) s = gains-none i (PageEntry.Moving to mode rest dirty) s

moving-gains : (k : ℕ) (e : PageEntry) (dirty : Bool) → Gains k e (PageEntry.Moving k modes.Excl [] dirty)
moving-gains k e dirty = record { single = (refl, refl); used = λ j u. inl (eqb-true k j (only (eqb k j) u)); loses = λ l. none_left l }
  where
    only : (b : Bool) → cond b true false ≡ true → b ≡ true
    only true u = refl
    only false u = u

-- whoever holds it gives it to another
pub given-gains : (of to : ℕ) (e : PageEntry) → Single e → holds e of ≡ true → to ≢ of → Gains to e (given of (to, modes.Excl) e)
given-gains of to PageEntry.Free s h ne = none_left h
given-gains of to PageEntry.Lost s h ne = none_left h
given-gains of to (PageEntry.Shared set writer) s h ne = absurd s
given-gains of to (PageEntry.Excl holder dirty) s h ne = go (eqb holder to) refl
  where
    go : (b : Bool) → eqb holder to ≡ b → Gains to (PageEntry.Excl holder dirty)
        (cond {A = PageEntry} (not b) (PageEntry.Moving to modes.Excl [] dirty) (dropped of to (PageEntry.Excl holder dirty)))
    go true is = absurd (ne (sym (eqb-true holder to is) ∙ eqb-true holder of h))
    go false is = moving-gains to (PageEntry.Excl holder dirty) dirty
given-gains of to (PageEntry.Moving to' mode rest dirty) s h ne = yes_no h (ap (has of) s.1)

-- its receiver takes it
pub taken-gains : (i : ℕ) (e : PageEntry) → Single e → receives e i ≡ true → Gains i e (taken e)
taken-gains i PageEntry.Free s h = none_left h
taken-gains i PageEntry.Lost s h = none_left h
taken-gains i (PageEntry.Shared set writer) s h = absurd s
taken-gains i (PageEntry.Excl holder dirty) s h = none_left h
taken-gains i (PageEntry.Moving to mode rest dirty) s h =
    subst (λ (x : Mode). Gains i (PageEntry.Moving to x rest dirty) (taken (PageEntry.Moving to x rest dirty))) (sym s.0)
    (record { single = tt; used = λ j u. inr (ap (λ (b : Bool). cond b true (has j rest)) u); loses = λ l. none_left l })

-- its holder lets it go
pub evicted-gains : (i : ℕ) (e : PageEntry) → Single e → may_evict i e ≡ true → Gains i e (fallen i e)
evicted-gains i PageEntry.Free s h = none_left h
evicted-gains i PageEntry.Lost s h = none_left h
evicted-gains i (PageEntry.Shared set writer) s h = absurd s
evicted-gains i (PageEntry.Excl holder dirty) s h = go (eqb holder i) dirty h
  where
    go : (b d : Bool) → (b && not d) ≡ true → Gains i (PageEntry.Excl holder dirty) (cond {A = PageEntry} b (nowhere d) (PageEntry.Excl holder d))
    go true true k = none_left k
    go true false k = free-gains i (PageEntry.Excl holder dirty)
    go false d k = none_left k
evicted-gains i (PageEntry.Moving to mode rest dirty) s h = yes_no h (ap (has i) s.1)

-- it is written
pub written-gains : (i : ℕ) (e : PageEntry) → Single e → Gains i e (written e)
written-gains i PageEntry.Free s = free-gains i PageEntry.Free
written-gains i PageEntry.Lost s = free-gains i PageEntry.Lost
written-gains i (PageEntry.Shared set writer) s = absurd s
written-gains i (PageEntry.Excl holder dirty) s = record { single = tt; used = λ j u. inr u; loses = λ l. none_left l }
written-gains i (PageEntry.Moving to mode rest dirty) s = gains-none i (PageEntry.Moving to mode rest dirty) s

-- ---- pages that rest

pub had-rests : (i : ℕ) (e : PageEntry) → Single e → is_had i modes.Excl e ≡ true → passes (had i modes.Excl e) ≡ false
had-rests i PageEntry.Free s h = refl
had-rests i PageEntry.Lost s h = refl
had-rests i (PageEntry.Shared set writer) s h = absurd s
had-rests i (PageEntry.Excl holder dirty) s h = go (eqb holder i)
  where
    go : (b : Bool) → passes (cond {A = PageEntry} b (PageEntry.Excl holder dirty) (PageEntry.Excl holder dirty)) ≡ false
    go true = refl
    go false = refl
had-rests i (PageEntry.Moving to mode rest dirty) s h = none_left h

pub owns-rests : (i : ℕ) (e : PageEntry) → owns e i ≡ true → passes e ≡ false
owns-rests i PageEntry.Free h = refl
owns-rests i PageEntry.Lost h = refl
owns-rests i (PageEntry.Shared set writer) h = refl
owns-rests i (PageEntry.Excl holder dirty) h = refl
owns-rests i (PageEntry.Moving to mode rest dirty) h = none_left h

pub holder-rests : (i : ℕ) (e : PageEntry) → Single e → holds e i ≡ true → passes e ≡ false
holder-rests i PageEntry.Free s h = refl
holder-rests i PageEntry.Lost s h = refl
holder-rests i (PageEntry.Shared set writer) s h = refl
holder-rests i (PageEntry.Excl holder dirty) s h = refl
holder-rests i (PageEntry.Moving to mode rest dirty) s h = yes_no h (ap (has i) s.1)

-- it is gone from its holder, and in no pool
pub evicted-rests : (i : ℕ) (e : PageEntry) → Single e → may_evict i e ≡ true → (passes (fallen i e) ≡ false) × ((k : ℕ) → uses (fallen i e) k ≡ false)
evicted-rests i PageEntry.Free s h = none_left h
evicted-rests i PageEntry.Lost s h = none_left h
evicted-rests i (PageEntry.Shared set writer) s h = absurd s
evicted-rests i (PageEntry.Excl holder dirty) s h = go (eqb holder i) dirty h
  where
    go : (b d : Bool) → (b && not d) ≡ true → (passes (cond {A = PageEntry} b (nowhere d) (PageEntry.Excl holder d)) ≡ false)
        × ((k : ℕ) → uses (cond {A = PageEntry} b (nowhere d) (PageEntry.Excl holder d)) k ≡ false)
    go true true k = none_left k
    go true false k = (refl, λ j. refl)
    go false d k = none_left k
evicted-rests i (PageEntry.Moving to mode rest dirty) s h = yes_no h (ap (has i) s.1)

-- ---- who has it

pub holds-there : (i : ℕ) (e : PageEntry) → holds e i ≡ true → is_lost e ≡ false
holds-there i PageEntry.Free h = refl
holds-there i PageEntry.Lost h = none_left h
holds-there i (PageEntry.Shared set writer) h = refl
holds-there i (PageEntry.Excl holder dirty) h = refl
holds-there i (PageEntry.Moving to mode rest dirty) h = refl

or-true : (b c : Bool) → c ≡ true → cond b true c ≡ true
or-true true c h = refl
or-true false c h = h

pub holds-uses : (i : ℕ) (e : PageEntry) → holds e i ≡ true → uses e i ≡ true
holds-uses i e h = uses-parts i e ∙ or-true (receives e i) (holds e i) h

pub receives-uses : (i : ℕ) (e : PageEntry) → receives e i ≡ true → uses e i ≡ true
receives-uses i e h = uses-parts i e ∙ ap (λ (b : Bool). cond b true (holds e i)) h

pub owns-uses : (i : ℕ) (e : PageEntry) → owns e i ≡ true → uses e i ≡ true
owns-uses i PageEntry.Free h = none_left h
owns-uses i PageEntry.Lost h = none_left h
owns-uses i (PageEntry.Shared set writer) h = none_left h
owns-uses i (PageEntry.Excl holder dirty) h = h
owns-uses i (PageEntry.Moving to mode rest dirty) h = none_left h

-- whoever doesn't get it at once asks another, who holds it
pub asked-holder : (i : ℕ) (e : PageEntry) → Single e → is_had i modes.Excl e ≡ false → passes e ≡ false → is_lost e ≡ false
    → (holds e (answerer i e) ≡ true) × (eqb i (answerer i e) ≡ false)
asked-holder i PageEntry.Free s none rests there = none_left (sym none)
asked-holder i PageEntry.Lost s none rests there = none_left (sym there)
asked-holder i (PageEntry.Shared set writer) s none rests there = absurd s
asked-holder i (PageEntry.Excl holder dirty) s none rests there = (
  eq-eqb holder holder refl,
  ne_eqb i holder (λ is. yes_no (eq-eqb holder i (sym is)) (first_no (eqb holder i) none)),
)
  where
    first_no : (b : Bool) → (b || (false || false)) ≡ false → b ≡ false
    first_no true k = none_left (sym k)
    first_no false k = refl
asked-holder i (PageEntry.Moving to mode rest dirty) s none rests there = none_left (sym rests)

-- ---- a copy that goes

-- what its holder need not write may go at once,
pub clean-goes : (i : ℕ) (e : PageEntry) → Single e → holds e i ≡ true → (changed e && is_duty i e) ≡ false → may_evict i e ≡ true
clean-goes i PageEntry.Free s h clean = none_left h
clean-goes i PageEntry.Lost s h clean = none_left h
clean-goes i (PageEntry.Shared set writer) s h clean = absurd s
clean-goes i (PageEntry.Excl holder dirty) s h clean = go (eqb holder i) dirty h clean
  where
    go : (b d : Bool) → b ≡ true → (d && b) ≡ false → (b && not d) ≡ true
    go true true k c = none_left (sym c)
    go true false k c = refl
    go false d k c = none_left k
clean-goes i (PageEntry.Moving to mode rest dirty) s h clean = yes_no h (ap (has i) s.1)

-- and what is written
pub written-goes : (i : ℕ) (e : PageEntry) → Single e → holds e i ≡ true → (holds (written e) i ≡ true) × (may_evict i (written e) ≡ true)
written-goes i PageEntry.Free s h = none_left h
written-goes i PageEntry.Lost s h = none_left h
written-goes i (PageEntry.Shared set writer) s h = absurd s
written-goes i (PageEntry.Excl holder dirty) s h = (h, ap (λ (b : Bool). b && true) h)
written-goes i (PageEntry.Moving to mode rest dirty) s h = yes_no h (ap (has i) s.1)

-- ---- who asks

-- it is one of the eight instances, and active
abbrev pub Works : State → ℕ → Type 0
Works m k = IsActive k (m.inst k).status × (1 ≤ k) × (k ≤ 8)

-- each asks for the page alone, and is active
abbrev pub AskAlone : State → List Ask → Type 0
AskAlone m [] = Unit {0}
AskAlone m (ask ∷ asks) = ((ask.mode ≡ modes.Excl) × Works m ask.by) × AskAlone m asks

pub alone-filter : (m : State) (test : Ask → Bool) (asks : List Ask) → AskAlone m asks → AskAlone m (filter test asks)
alone-filter m test [] h = tt
alone-filter m test (x ∷ xs) h = go (test x) (alone-filter m test xs h.1)
  where
    go : (b : Bool) → AskAlone m (filter test xs) → AskAlone m (cond {A = List Ask} b (x ∷ filter test xs) (filter test xs))
    go true behind = (h.0, behind)
    go false behind = behind

pub alone-queued : (m : State) (i : ℕ) (asks : List Ask) → Works m i → AskAlone m asks → AskAlone m (queued i modes.Excl asks)
alone-queued m i [] active h = ((refl, active), tt)
alone-queued m i (x ∷ xs) active h = go (eqb x.by i) (alone-queued m i xs active h.1)
  where
    go : (b : Bool) → AskAlone m (queued i modes.Excl xs)
        → AskAlone m (cond {A = List Ask} b ((record { by = x.by; mode = stronger x.mode modes.Excl }) ∷ xs) (x ∷ queued i modes.Excl xs))
    go true behind = ((ap (λ (mode : Mode). stronger mode modes.Excl) h.0.0, h.0.1), h.1)
    go false behind = (h.0, behind)

abbrev asker_of : Option (ℕ × Mode) → ℕ × Mode → ℕ × Mode
asker_of None d = d
asker_of (Some x) d = x

found : (of : ℕ) (x : Ask) (xs : List Ask) → eqb x.by of ≡ false → is_some (oldest of (x ∷ xs)) ≡ true
found of x xs ne = ap (λ (b : Bool). is_some (option_map {U = ℕ × Mode} (λ (ask : Ask). (ask.by, ask.mode))
    (cond {A = Option Ask} (not b) (Some x) (find (λ (ask : Ask). not (eqb ask.by of)) xs)))) ne

later : (of : ℕ) (x : Ask) (xs : List Ask) → is_some (oldest of xs) ≡ true → is_some (oldest of (x ∷ xs)) ≡ true
later of x xs behind = go (not (eqb x.by of))
  where
    go : (b : Bool) → is_some (option_map {U = ℕ × Mode} (λ (ask : Ask). (ask.by, ask.mode))
        (cond {A = Option Ask} b (Some x) (find (λ (ask : Ask). not (eqb ask.by of)) xs))) ≡ true
    go true = refl
    go false = behind

-- the oldest of the others that ask
pub oldest-alone : (m : State) (i : ℕ) (asks : List Ask) (to : ℕ) (mode : Mode) → AskAlone m asks → oldest i asks ≡ Some (to, mode)
    → (mode ≡ modes.Excl) × Works m to
oldest-alone m i [] to mode h is = absurd (cc)
oldest-alone m i (x ∷ xs) to mode h is = go (not (eqb x.by i)) (λ behind. oldest-alone m i xs to mode h.1 behind) is
  where
    go : (b : Bool) → (oldest i xs ≡ Some (to, mode) → (mode ≡ modes.Excl) × Works m to)
        → option_map {U = ℕ × Mode} (λ (ask : Ask). (ask.by, ask.mode)) (cond {A = Option Ask} b (Some x) (find (λ (ask : Ask). not (eqb ask.by i)) xs)) ≡ Some (to, mode)
        → (mode ≡ modes.Excl) × Works m to
    go true behind same =
        let pair : (x.by, x.mode) ≡ (to, mode) = ap (λ (o : Option (ℕ × Mode)). asker_of o (to, mode)) same in
        (sym (ap (λ (y : ℕ × Mode). y.1) pair) ∙ h.0.0, subst (λ (k : ℕ). Works m k) (ap (λ (y : ℕ × Mode). y.0) pair) h.0.1)
    go false behind same = behind same

-- whoever asks is one that another finds asking
pub queued-found : (of i : ℕ) (asks : List Ask) → eqb i of ≡ false → is_some (oldest of (queued i modes.Excl asks)) ≡ true
queued-found of i [] ne = found of (record { by = i; mode = modes.Excl }) [] ne
queued-found of i (x ∷ xs) ne = go (eqb x.by i) refl (queued-found of i xs ne)
  where
    go : (b : Bool) → eqb x.by i ≡ b → is_some (oldest of (queued i modes.Excl xs)) ≡ true
        → is_some (oldest of (cond {A = List Ask} b ((record { by = x.by; mode = stronger x.mode modes.Excl }) ∷ xs) (x ∷ queued i modes.Excl xs))) ≡ true
    go true is behind = found of (record { by = x.by; mode = stronger x.mode modes.Excl }) xs (ap (λ (k : ℕ). eqb k of) (eqb-true x.by i is) ∙ ne)
    go false is behind = later of x (queued i modes.Excl xs) behind

-- ---- a page that rests is with its holder

pub uses-holds : (k : ℕ) (e : PageEntry) → passes e ≡ false → uses e k ≡ true → holds e k ≡ true
uses-holds k PageEntry.Free rests u = u
uses-holds k PageEntry.Lost rests u = u
uses-holds k (PageEntry.Shared set writer) rests u = u
uses-holds k (PageEntry.Excl holder dirty) rests u = u
uses-holds k (PageEntry.Moving to mode rest dirty) rests u = none_left (sym rests)
