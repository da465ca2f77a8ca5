-- Each round of a pull brings it nearer to its end. It serves the goals of pull.rt.
use Rattle.std.proofs.Common.{◌≡◌, ◌≢◌, ℕ, zero, suc, ◌+◌, ◌*◌, ◌<◌, ◌≤◌, Bool, true, false, cond, eqb, List, [], ◌∷◌, length, Option, None, Some, refl, sym, ap, ap₂, ◌∙◌, ⊎_elim, subst, arith, eq-eqb, eqb-true}
use Rattle.std.specs.Prelude.{find, is_some, ltb, not, ◌||◌}
use Rattle.std.proofs.lemmas.Bool.{cases_eq}
use Rattle.std.specs.Option.{option_map}
use Rattle.sd_base.specs.Sets.{has, with_member, without}
use Rattle.sd_base.specs.declared.place.Mode.{Mode}
use Rattle.sd_base.specs.declared.place.Mode.TheVariants as modes
use Rattle.sd_pagelock.specs.declared.queue.Ask.{Ask}
use Rattle.sd_pagelock.specs.Asks.{asks_without, is_open_ask, oldest, open_asks, queued, stronger}
use Rattle.sd_pagelock.specs.Places.{PageEntry, holds, holds_as, is_lost, owns, passes, rests}
use Rattle.sd_pagelock.proofs.Members.{has-with_member}
use Rattle.sd_pagelock.specs.Rows.{dropped, fallen, given_excl, left_alone, may_yield, nowhere, shared_left, taken}
use Rattle.sd_world.specs.Pages.{given, held_count}
use Rattle.sd_drive.specs.Measure.{comes_to, copies_of, distance, one_if, spread, steps, unserved, waiting}

pub none_left : {A : Type 0} → false ≡ true → A
none_left e = absurd (cc)

-- ---- asks

-- of the first asks k fewer at least are of others than i
abbrev Fewer : ℕ → ℕ → List Ask → List Ask → Type 0
Fewer i k xs ys = length (asks_without i xs) + k ≤ length (asks_without i ys)

both-heads : (i k : ℕ) (a : Ask) (xs ys : List Ask) → Fewer i k xs ys → Fewer i k (a ∷ xs) (a ∷ ys)
both-heads i k a xs ys few = go (eqb a.by i) few
  where
    go : (b : Bool) → Fewer i k xs ys
        → length (cond {A = List Ask} (not b) (a ∷ asks_without i xs) (asks_without i xs)) + k ≤ length (cond {A = List Ask} (not b) (a ∷ asks_without i ys) (asks_without i ys))
    go true few = few
    go false few = omega arith

one-head : (i k : ℕ) (a : Ask) (xs ys : List Ask) → Fewer i k xs ys → Fewer i k xs (a ∷ ys)
one-head i k a xs ys few = go (eqb a.by i) few
  where
    go : (b : Bool) → Fewer i k xs ys → length (asks_without i xs) + k ≤ length (cond {A = List Ask} (not b) (a ∷ asks_without i ys) (asks_without i ys))
    go true few = few
    go false few = omega arith

some-head : (i k : ℕ) (b : Bool) (a : Ask) (xs ys : List Ask) → Fewer i k xs ys → Fewer i k (cond {A = List Ask} b (a ∷ xs) xs) (a ∷ ys)
some-head i k true a xs ys few = both-heads i k a xs ys few
some-head i k false a xs ys few = one-head i k a xs ys few

-- those that two places leave open
twice-head : (i k : ℕ) (b : Bool) (place : PageEntry) (a : Ask) (xs ys : List Ask) → Fewer i k (open_asks place xs) ys
    → Fewer i k (open_asks place (cond {A = List Ask} b (a ∷ xs) xs)) (a ∷ ys)
twice-head i k true place a xs ys few = some-head i k (is_open_ask place a) a (open_asks place xs) ys few
twice-head i k false place a xs ys few = one-head i k a (open_asks place xs) ys few

open-fewer : (i : ℕ) (place : PageEntry) (asks : List Ask) → Fewer i 0 (open_asks place asks) asks
open-fewer i place [] = omega arith
open-fewer i place (a ∷ asks) = some-head i 0 (is_open_ask place a) a (open_asks place asks) asks (open-fewer i place asks)

twice-fewer : (i : ℕ) (place mid : PageEntry) (asks : List Ask) → Fewer i 0 (open_asks place (open_asks mid asks)) asks
twice-fewer i place mid [] = omega arith
twice-fewer i place mid (a ∷ asks) = twice-head i 0 (is_open_ask mid a) place a (open_asks mid asks) asks (twice-fewer i place mid asks)

-- an ask that a place fulfils isn't left open there
served-head : (i : ℕ) (a : Ask) (b : Bool) (place : PageEntry) (xs ys : List Ask) → is_open_ask place a ≡ false → eqb a.by i ≡ false
    → Fewer i 0 (open_asks place xs) ys → Fewer i 1 (open_asks place (cond {A = List Ask} b (a ∷ xs) xs)) (a ∷ ys)
served-head i a b place xs ys closed other few =
    let right : length (asks_without i (a ∷ ys)) ≡ suc (length (asks_without i ys)) =
    ap (λ (c : Bool). length (cond {A = List Ask} (not c) (a ∷ asks_without i ys) (asks_without i ys))) other in
    let left : length (asks_without i (open_asks place (cond {A = List Ask} b (a ∷ xs) xs))) ≡ length (asks_without i (open_asks place xs)) =
    ap (λ (zs : List Ask). length (asks_without i zs)) (go b) in
    omega (arith, few, right, left)
  where
    go : (c : Bool) → open_asks place (cond {A = List Ask} c (a ∷ xs) xs) ≡ open_asks place xs
    go true = ap (λ (d : Bool). cond {A = List Ask} d (a ∷ open_asks place xs) (open_asks place xs)) closed
    go false = refl

served-closed : (place : PageEntry) (a : Ask) → holds_as a.mode place a.by ≡ true → is_open_ask place a ≡ false
served-closed place a had = go (is_lost place) (holds_as a.mode place a.by) had
  where
    go : (b c : Bool) → c ≡ true → not (b || c) ≡ false
    go true c had = refl
    go false true had = refl
    go false false had = none_left had

abbrev asker_of : Option (ℕ × Mode) → ℕ × Mode
asker_of None = (0, modes.Shared)
asker_of (Some asker) = asker

-- the oldest ask that isn't of `of` is served by a place where its instance has the page so
served-fewer : (of i to : ℕ) (m : Mode) (place mid : PageEntry) (asks : List Ask) → oldest of asks ≡ Some (to, m) → eqb to i ≡ false
    → holds_as m place to ≡ true → Fewer i 1 (open_asks place (open_asks mid asks)) asks
served-fewer of i to m place mid [] first other had = absurd (cc)
served-fewer of i to m place mid (a ∷ asks) first other had =
    go (eqb a.by of) first (λ later. served-fewer of i to m place mid asks later other had)
  where
    go : (b : Bool) → option_map {U = ℕ × Mode} (λ (ask : Ask). (ask.by, ask.mode)) (cond {A = Option Ask} (not b) (Some a) (find (λ (ask : Ask). not (eqb ask.by of)) asks)) ≡ Some (to, m)
        → (oldest of asks ≡ Some (to, m) → Fewer i 1 (open_asks place (open_asks mid asks)) asks)
        → Fewer i 1 (open_asks place (cond {A = List Ask} (is_open_ask mid a) (a ∷ open_asks mid asks) (open_asks mid asks))) (a ∷ asks)
    go true first later = twice-head i 1 (is_open_ask mid a) place a (open_asks mid asks) asks (later first)
    go false first later =
        let by : a.by ≡ to = ap (λ (x : Option (ℕ × Mode)). (asker_of x).0) first in
        let so : a.mode ≡ m = ap (λ (x : Option (ℕ × Mode)). (asker_of x).1) first in
        served-head i a (is_open_ask mid a) place (open_asks mid asks) asks
        (served-closed place a (subst (λ (k : ℕ). holds_as a.mode place k ≡ true) (sym by) (subst (λ (x : Mode). holds_as x place to ≡ true) (sym so) had)))
        (ap (λ (k : ℕ). eqb k i) by ∙ other) (twice-fewer i place mid asks)

-- an ask of i itself is none of the others'
without-queued : (i : ℕ) (mode : Mode) (asks : List Ask) → asks_without i (queued i mode asks) ≡ asks_without i asks
without-queued i mode [] = ap (λ (b : Bool). cond {A = List Ask} (not b) ((record { by = i; mode = mode }) ∷ []) []) (eq-eqb i i refl)
without-queued i mode (a ∷ asks) = go (eqb a.by i) refl (without-queued i mode asks)
  where
    go : (b : Bool) → eqb a.by i ≡ b → asks_without i (queued i mode asks) ≡ asks_without i asks
        → asks_without i (cond {A = List Ask} b ((record { by = a.by; mode = stronger a.mode mode }) ∷ asks) (a ∷ queued i mode asks))
        ≡ cond {A = List Ask} (not b) (a ∷ asks_without i asks) (asks_without i asks)
    go true is later = ap (λ (b : Bool). cond {A = List Ask} (not b) ((record { by = a.by; mode = stronger a.mode mode }) ∷ asks_without i asks) (asks_without i asks)) is
    go false is later = ap (λ (b : Bool). cond {A = List Ask} (not b) (a ∷ asks_without i (queued i mode asks)) (asks_without i (queued i mode asks))) is
        ∙ ap (λ (xs : List Ask). a ∷ xs) later

-- whom this mode serves it serves as i asked
abbrev Suffices : Mode → Mode → Type 0
Suffices mode m = mode ≡ modes.Excl → m ≡ modes.Excl

stronger-suffices : (m mode : Mode) → Suffices mode (stronger m mode)
stronger-suffices modes.Shared mode is = is
stronger-suffices modes.Excl mode is = refl

pub unlike : {A : Type 0} {b : Bool} → b ≡ true → b ≡ false → A
unlike {A} {b} is isnt = none_left (sym isnt ∙ is)

-- whom the oldest ask is of, which isn't of `of`
oldest-other : (of to : ℕ) (m : Mode) (asks : List Ask) → oldest of asks ≡ Some (to, m) → eqb to of ≡ false
oldest-other of to m [] first = absurd (cc)
oldest-other of to m (a ∷ asks) first = go (eqb a.by of) refl first (oldest-other of to m asks)
  where
    go : (b : Bool) → eqb a.by of ≡ b
        → option_map {U = ℕ × Mode} (λ (ask : Ask). (ask.by, ask.mode)) (cond {A = Option Ask} (not b) (Some a) (find (λ (ask : Ask). not (eqb ask.by of)) asks)) ≡ Some (to, m)
        → (oldest of asks ≡ Some (to, m) → eqb to of ≡ false) → eqb to of ≡ false
    go true is first later = later first
    go false is first later = ap (λ (x : Option (ℕ × Mode)). eqb (asker_of x).0 of) (sym first) ∙ is

-- the ask of i is in its mode, or in a stronger one
asked-suffices : (of i to : ℕ) (mode m : Mode) (asks : List Ask) → oldest of (queued i mode asks) ≡ Some (to, m) → eqb to i ≡ true → Suffices mode m
asked-suffices of i to mode m [] first is = go (eqb i of) first
  where
    go : (b : Bool) → option_map {U = ℕ × Mode} (λ (ask : Ask). (ask.by, ask.mode)) (cond {A = Option Ask} (not b) (Some (record { by = i; mode = mode })) None) ≡ Some (to, m) → Suffices mode m
    go true first = absurd (cc)
    go false first = λ (excl : mode ≡ modes.Excl). sym (ap (λ (x : Option (ℕ × Mode)). (asker_of x).1) first) ∙ excl
asked-suffices of i to mode m (a ∷ asks) first is = go (eqb a.by i) refl (eqb a.by of) refl first (λ later. asked-suffices of i to mode m asks later is)
  where
    go : (b : Bool) → eqb a.by i ≡ b → (c : Bool) → eqb a.by of ≡ c
        → oldest of (cond {A = List Ask} b ((record { by = a.by; mode = stronger a.mode mode }) ∷ asks) (a ∷ queued i mode asks)) ≡ Some (to, m)
        → (oldest of (queued i mode asks) ≡ Some (to, m) → Suffices mode m) → Suffices mode m
    go true own true before first later =
        let rest : oldest of asks ≡ Some (to, m) = subst (λ (d : Bool). option_map {U = ℕ × Mode} (λ (ask : Ask). (ask.by, ask.mode)) (cond {A = Option Ask} (not d) (Some (record { by = a.by; mode = stronger a.mode mode })) (find (λ (ask : Ask). not (eqb ask.by of)) asks)) ≡ Some (to, m)) before first in
        let of_is : of ≡ i = sym (eqb-true a.by of before) ∙ eqb-true a.by i own in
        unlike (ap (eqb to) of_is ∙ is) (oldest-other of to m asks rest)
    go true own false before first later =
        let here : Some (a.by, stronger a.mode mode) ≡ Some (to, m) = subst (λ (d : Bool). option_map {U = ℕ × Mode} (λ (ask : Ask). (ask.by, ask.mode)) (cond {A = Option Ask} (not d) (Some (record { by = a.by; mode = stronger a.mode mode })) (find (λ (ask : Ask). not (eqb ask.by of)) asks)) ≡ Some (to, m)) before first in
        λ (excl : mode ≡ modes.Excl). sym (ap (λ (x : Option (ℕ × Mode)). (asker_of x).1) here) ∙ stronger-suffices a.mode mode excl
    go false own true before first later = later
        (subst (λ (d : Bool). option_map {U = ℕ × Mode} (λ (ask : Ask). (ask.by, ask.mode)) (cond {A = Option Ask} (not d) (Some a) (find (λ (ask : Ask). not (eqb ask.by of)) (queued i mode asks))) ≡ Some (to, m)) before first)
    go false own false before first later =
        let here : Some (a.by, a.mode) ≡ Some (to, m) =
        subst (λ (d : Bool). option_map {U = ℕ × Mode} (λ (ask : Ask). (ask.by, ask.mode)) (cond {A = Option Ask} (not d) (Some a) (find (λ (ask : Ask). not (eqb ask.by of)) (queued i mode asks))) ≡ Some (to, m)) before first in
        unlike is (ap (λ (x : Option (ℕ × Mode)). eqb (asker_of x).0 i) (sym here) ∙ own)

-- ---- a give

taken-holds : (to : ℕ) (m : Mode) (rest : List ℕ) (dirty : Bool) → holds_as m (taken (PageEntry.Moving to m rest dirty)) to ≡ true
taken-holds to modes.Shared rest dirty = has-with_member to to rest ∙ ap (λ (b : Bool). cond b true (has to rest)) (eq-eqb to to refl)
taken-holds to modes.Excl rest dirty = eq-eqb to to refl

owns-holds : (place : PageEntry) (i : ℕ) → owns place i ≡ true → holds place i ≡ true
owns-holds PageEntry.Free i had = none_left had
owns-holds (PageEntry.Shared set writer) i had = none_left had
owns-holds (PageEntry.Excl holder dirty) i had = had
owns-holds (PageEntry.Moving to mode rest dirty) i had = none_left had
owns-holds PageEntry.Lost i had = none_left had

weaker-holds : (mode m : Mode) (place : PageEntry) (i : ℕ) → Suffices mode m → holds_as m place i ≡ true → holds_as mode place i ≡ true
weaker-holds modes.Shared modes.Shared place i is had = had
weaker-holds modes.Shared modes.Excl place i is had = owns-holds place i had
weaker-holds modes.Excl modes.Shared place i is had = let clash : modes.Shared ≡ modes.Excl = is refl in absurd (cc)
weaker-holds modes.Excl modes.Excl place i is had = had

one-most : (b : Bool) → one_if (not b) ≤ 1
one-most true = omega arith
one-most false = omega arith

-- the page moves to the oldest asker, who is served by its take
moving-waits : (of i to : ℕ) (mode m : Mode) (rest : List ℕ) (dirty : Bool) (asks : List Ask) → oldest of asks ≡ Some (to, m)
    → (eqb to i ≡ true → Suffices mode m)
    → waiting i mode (PageEntry.Moving to m rest dirty) (open_asks (PageEntry.Moving to m rest dirty) asks) ≤ length (asks_without i asks) + 1
moving-waits of i to mode m rest dirty asks first enough = go (eqb to i) refl
  where
    go : (b : Bool) → eqb to i ≡ b
        → waiting i mode (PageEntry.Moving to m rest dirty) (open_asks (PageEntry.Moving to m rest dirty) asks) ≤ length (asks_without i asks) + 1
    go true is =
        let had : holds_as mode (taken (PageEntry.Moving to m rest dirty)) i ≡ true =
        weaker-holds mode m (taken (PageEntry.Moving to m rest dirty)) i (enough is)
        (subst (λ (k : ℕ). holds_as m (taken (PageEntry.Moving to m rest dirty)) k ≡ true) (eqb-true to i is) (taken-holds to m rest dirty)) in
        let none : one_if (not (holds_as mode (taken (PageEntry.Moving to m rest dirty)) i)) ≡ 0 = ap (λ (b : Bool). one_if (not b)) had in
        let few = twice-fewer i (taken (PageEntry.Moving to m rest dirty)) (PageEntry.Moving to m rest dirty) asks in
        omega (arith, few, none)
    go false is =
        let few = served-fewer of i to m (taken (PageEntry.Moving to m rest dirty)) (PageEntry.Moving to m rest dirty) asks first is (taken-holds to m rest dirty) in
        let most = one-most (holds_as mode (taken (PageEntry.Moving to m rest dirty)) i) in
        omega (arith, few, most)

waits-as : (i : ℕ) (mode : Mode) (place : PageEntry) (asks : List Ask) → passes place ≡ false → waiting i mode place asks ≡ unserved i mode place asks
waits-as i mode PageEntry.Free asks still = refl
waits-as i mode (PageEntry.Shared set writer) asks still = refl
waits-as i mode (PageEntry.Excl holder dirty) asks still = refl
waits-as i mode (PageEntry.Moving to m rest dirty) asks still = none_left (sym still)
waits-as i mode PageEntry.Lost asks still = refl

resting-waits : (i : ℕ) (mode : Mode) (place : PageEntry) (asks : List Ask) → passes place ≡ false
    → waiting i mode place (open_asks place asks) ≤ length (asks_without i asks) + 1
resting-waits i mode place asks still =
    let is = waits-as i mode place (open_asks place asks) still in
    let few = open-fewer i place asks in
    let most = one-most (holds_as mode place i) in
    omega (arith, is, few, most)

nowhere-still : (b : Bool) → passes (nowhere b) ≡ false
nowhere-still true = refl
nowhere-still false = refl

left-still : (e : PageEntry) → passes e ≡ false → passes (left_alone e) ≡ false
left-still PageEntry.Free still = refl
left-still (PageEntry.Shared [] writer) still = refl
left-still (PageEntry.Shared (x ∷ []) writer) still = refl
left-still (PageEntry.Shared (x ∷ y ∷ xs) writer) still = refl
left-still (PageEntry.Excl holder dirty) still = refl
left-still (PageEntry.Moving to mode rest dirty) still = none_left (sym still)
left-still PageEntry.Lost still = refl

shared-still : (i : ℕ) (xs : List ℕ) (writer : Option ℕ) → passes (shared_left i xs writer) ≡ false
shared-still i [] writer = nowhere-still (is_some writer)
shared-still i (x ∷ xs) writer = refl

fallen-still : (i : ℕ) (e : PageEntry) → passes e ≡ false → passes (fallen i e) ≡ false
fallen-still i PageEntry.Free still = refl
fallen-still i (PageEntry.Shared set writer) still = shared-still i (without i set) writer
fallen-still i (PageEntry.Excl holder dirty) still = go (eqb holder i)
  where
    go : (b : Bool) → passes (cond {A = PageEntry} b (nowhere dirty) (PageEntry.Excl holder dirty)) ≡ false
    go true = nowhere-still dirty
    go false = refl
fallen-still i (PageEntry.Moving to mode rest dirty) still = none_left (sym still)
fallen-still i PageEntry.Lost still = refl

dropped-still : (j i : ℕ) (e : PageEntry) → passes e ≡ false → passes (dropped j i e) ≡ false
dropped-still j i e still = go (holds (left_alone (fallen j e)) i)
  where
    go : (b : Bool) → passes (cond {A = PageEntry} b (left_alone (fallen j e)) (fallen j e)) ≡ false
    go true = left-still (fallen j e) (fallen-still j e still)
    go false = fallen-still j e still

give-waits : (of i to : ℕ) (mode m : Mode) (place : PageEntry) (asks : List Ask) → rests place ≡ true → oldest of asks ≡ Some (to, m)
    → (eqb to i ≡ true → Suffices mode m)
    → waiting i mode (given of (to, m) place) (open_asks (given of (to, m) place) asks) ≤ length (asks_without i asks) + 1
give-waits of i to mode m PageEntry.Free asks at first enough = none_left at
give-waits of i to mode modes.Shared (PageEntry.Shared set writer) asks at first enough =
    moving-waits of i to mode modes.Shared set (is_some writer) asks first enough
give-waits of i to mode modes.Shared (PageEntry.Excl holder dirty) asks at first enough =
    moving-waits of i to mode modes.Shared (holder ∷ []) dirty asks first enough
give-waits of i to mode modes.Excl (PageEntry.Shared set writer) asks at first enough = go (may_yield to (PageEntry.Shared set writer))
  where
    go : (b : Bool) → waiting i mode (cond {A = PageEntry} b (given_excl to (PageEntry.Shared set writer)) (dropped of to (PageEntry.Shared set writer)))
        (open_asks (cond {A = PageEntry} b (given_excl to (PageEntry.Shared set writer)) (dropped of to (PageEntry.Shared set writer))) asks)
        ≤ length (asks_without i asks) + 1
    go true = moving-waits of i to mode modes.Excl [] (is_some writer) asks first enough
    go false = resting-waits i mode (dropped of to (PageEntry.Shared set writer)) asks (dropped-still of to (PageEntry.Shared set writer) refl)
give-waits of i to mode modes.Excl (PageEntry.Excl holder dirty) asks at first enough = go (may_yield to (PageEntry.Excl holder dirty))
  where
    go : (b : Bool) → waiting i mode (cond {A = PageEntry} b (given_excl to (PageEntry.Excl holder dirty)) (dropped of to (PageEntry.Excl holder dirty)))
        (open_asks (cond {A = PageEntry} b (given_excl to (PageEntry.Excl holder dirty)) (dropped of to (PageEntry.Excl holder dirty))) asks)
        ≤ length (asks_without i asks) + 1
    go true = moving-waits of i to mode modes.Excl [] dirty asks first enough
    go false = resting-waits i mode (dropped of to (PageEntry.Excl holder dirty)) asks (dropped-still of to (PageEntry.Excl holder dirty) refl)
give-waits of i to mode m (PageEntry.Moving t n rest dirty) asks at first enough = none_left at
give-waits of i to mode m PageEntry.Lost asks at first enough = none_left at

without-fewer : (i : ℕ) (xs : List ℕ) → length (without i xs) ≤ length xs
without-fewer i [] = omega arith
without-fewer i (x ∷ xs) = go (eqb x i) (without-fewer i xs)
  where
    go : (b : Bool) → length (without i xs) ≤ length xs → length (cond {A = List ℕ} b (without i xs) (x ∷ without i xs)) ≤ length (x ∷ xs)
    go true few = omega arith
    go false few = omega arith

-- one who was listed is listed no more
without-less : (i : ℕ) (xs : List ℕ) → has i xs ≡ true → length (without i xs) < length xs
without-less i [] there = none_left there
without-less i (x ∷ xs) there = go (eqb x i) there (without-fewer i xs) (without-less i xs)
  where
    go : (b : Bool) → cond b true (has i xs) ≡ true → length (without i xs) ≤ length xs → (has i xs ≡ true → length (without i xs) < length xs)
        → length (cond {A = List ℕ} b (without i xs) (x ∷ without i xs)) < length (x ∷ xs)
    go true there few less = omega arith
    go false there few less = let k : length (without i xs) < length xs = less there in omega (arith, k)

nowhere-spread : (b : Bool) → spread (nowhere b) ≡ 0
nowhere-spread true = refl
nowhere-spread false = refl

left-spread : (e : PageEntry) → spread (left_alone e) ≡ spread e
left-spread PageEntry.Free = refl
left-spread (PageEntry.Shared [] writer) = refl
left-spread (PageEntry.Shared (x ∷ []) writer) = refl
left-spread (PageEntry.Shared (x ∷ y ∷ xs) writer) = refl
left-spread (PageEntry.Excl holder dirty) = refl
left-spread (PageEntry.Moving to mode rest dirty) = refl
left-spread PageEntry.Lost = refl

shared-spread : (i : ℕ) (xs : List ℕ) (writer : Option ℕ) → spread (shared_left i xs writer) ≤ length xs + 1
shared-spread i [] writer = let is : spread (nowhere (is_some writer)) ≡ 0 = nowhere-spread (is_some writer) in omega (arith, is)
shared-spread i (x ∷ xs) writer = omega arith

-- a copy less of a page that rests
fallen-spread : (j : ℕ) (e : PageEntry) → rests e ≡ true → holds e j ≡ true → spread (fallen j e) < spread e
fallen-spread j PageEntry.Free at had = none_left at
fallen-spread j (PageEntry.Shared set writer) at had =
    let left = shared-spread j (without j set) writer in let less = without-less j set had in omega (arith, left, less)
fallen-spread j (PageEntry.Excl holder dirty) at had =
    let is : spread (fallen j (PageEntry.Excl holder dirty)) ≡ 0 =
    ap (λ (b : Bool). spread (cond {A = PageEntry} b (nowhere dirty) (PageEntry.Excl holder dirty))) had ∙ nowhere-spread dirty in omega (arith, is)
fallen-spread j (PageEntry.Moving to mode rest dirty) at had = none_left at
fallen-spread j PageEntry.Lost at had = none_left at

dropped-spread : (j i : ℕ) (e : PageEntry) → spread (dropped j i e) ≡ spread (fallen j e)
dropped-spread j i e = go (holds (left_alone (fallen j e)) i)
  where
    go : (b : Bool) → spread (cond {A = PageEntry} b (left_alone (fallen j e)) (fallen j e)) ≡ spread (fallen j e)
    go true = left-spread (fallen j e)
    go false = refl

give-spread : (of to : ℕ) (m : Mode) (place : PageEntry) → rests place ≡ true → holds place of ≡ true → spread (given of (to, m) place) < spread place
give-spread of to m PageEntry.Free at had = none_left at
give-spread of to modes.Shared (PageEntry.Shared set writer) at had = omega arith
give-spread of to modes.Shared (PageEntry.Excl holder dirty) at had = omega arith
give-spread of to modes.Excl (PageEntry.Shared set writer) at had = go (may_yield to (PageEntry.Shared set writer))
  where
    go : (b : Bool) → spread (cond {A = PageEntry} b (given_excl to (PageEntry.Shared set writer)) (dropped of to (PageEntry.Shared set writer))) < length set + 1
    go true = omega arith
    go false = let is = dropped-spread of to (PageEntry.Shared set writer) in let less = fallen-spread of (PageEntry.Shared set writer) refl had in omega (arith, is, less)
give-spread of to modes.Excl (PageEntry.Excl holder dirty) at had = go (may_yield to (PageEntry.Excl holder dirty))
  where
    go : (b : Bool) → spread (cond {A = PageEntry} b (given_excl to (PageEntry.Excl holder dirty)) (dropped of to (PageEntry.Excl holder dirty))) < 2
    go true = omega arith
    go false = let is = dropped-spread of to (PageEntry.Excl holder dirty) in let less = fallen-spread of (PageEntry.Excl holder dirty) refl had in omega (arith, is, less)
give-spread of to m (PageEntry.Moving t n rest dirty) at had = none_left at
give-spread of to m PageEntry.Lost at had = none_left at

-- i asked for a page that rests and that it hasn't so, and `of` gave it to the oldest asker
pub give-steps : (of i to : ℕ) (mode m : Mode) (place : PageEntry) (asks : List Ask) → rests place ≡ true → holds_as mode place i ≡ false
    → holds place of ≡ true → oldest of (queued i mode asks) ≡ Some (to, m)
    → steps i mode (given of (to, m) place) (open_asks (given of (to, m) place) (queued i mode asks)) < steps i mode place asks
give-steps of i to mode m place asks at lacks had first =
    let most = give-waits of i to mode m place (queued i mode asks) at first (asked-suffices of i to mode m asks first) in
    let same : length (asks_without i (queued i mode asks)) ≡ length (asks_without i asks) = ap (λ (xs : List Ask). length xs) (without-queued i mode asks) in
    let is : waiting i mode place asks ≡ unserved i mode place asks = waits-as i mode place asks (rests-still place at) in
    let one : one_if (not (holds_as mode place i)) ≡ 1 = ap (λ (b : Bool). one_if (not b)) lacks in
    let less = give-spread of to m place at had in
    omega (arith, most, same, is, one, less)
  where
    rests-still : (e : PageEntry) → rests e ≡ true → passes e ≡ false
    rests-still PageEntry.Free at = none_left at
    rests-still (PageEntry.Shared set writer) at = refl
    rests-still (PageEntry.Excl holder dirty) at = refl
    rests-still (PageEntry.Moving to n rest dirty) at = none_left at
    rests-still PageEntry.Lost at = none_left at

-- ---- a take

with-most : (i : ℕ) (xs : List ℕ) → length (with_member i xs) ≤ length xs + 1
with-most i [] = omega arith
with-most i (x ∷ xs) = go (eqb x i) (ltb i x) (with-most i xs)
  where
    go : (b c : Bool) → length (with_member i xs) ≤ length xs + 1
        → length (cond {A = List ℕ} b (x ∷ xs) (cond {A = List ℕ} c (i ∷ x ∷ xs) (x ∷ with_member i xs))) ≤ length (x ∷ xs) + 1
    go true c most = omega arith
    go false true most = omega arith
    go false false most = omega (arith, most)

pub take-steps : (i : ℕ) (mode : Mode) (place : PageEntry) (asks : List Ask) → passes place ≡ true
    → steps i mode (taken place) (open_asks (taken place) asks) < steps i mode place asks
take-steps i mode PageEntry.Free asks on = none_left on
take-steps i mode (PageEntry.Shared set writer) asks on = none_left on
take-steps i mode (PageEntry.Excl holder dirty) asks on = none_left on
take-steps i mode (PageEntry.Moving to modes.Shared rest dirty) asks on = let most = with-most to rest in omega (arith, most)
take-steps i mode (PageEntry.Moving to modes.Excl rest dirty) asks on = omega arith
take-steps i mode PageEntry.Lost asks on = none_left on

-- ---- the copies of a pool

held-most : (entry : ℕ → PageEntry) (i n : ℕ) → held_count entry i n ≤ n
held-most entry i zero = omega arith
held-most entry i (suc n) = go (holds (entry n) i) (held-most entry i n)
  where
    go : (b : Bool) → held_count entry i n ≤ n → cond b 1 0 + held_count entry i n ≤ suc n
    go true most = omega arith
    go false most = omega arith

pub same-held : (f g : ℕ → PageEntry) (i n : ℕ) → ((q : ℕ) → q < n → g q ≡ f q) → held_count g i n ≡ held_count f i n
same-held f g i zero same = refl
same-held f g i (suc n) same = ap₂ (λ (e : PageEntry) (k : ℕ). cond {A = ℕ} (holds e i) 1 0 + k) (same n (omega arith))
    (same-held f g i n (λ q lt. same q (omega (arith, lt))))

-- one copy less
less-held : (v : ℕ) (f g : ℕ → PageEntry) (i n : ℕ) → v < n → holds (f v) i ≡ true → holds (g v) i ≡ false
    → ((q : ℕ) → v ≢ q → g q ≡ f q) → held_count g i n + 1 ≡ held_count f i n
less-held v f g i zero lt had gone others = absurd (omega (arith, lt))
less-held v f g i (suc n) lt had gone others = ⊎_elim
    (λ (at : v ≡ n).
    let new : holds (g n) i ≡ false = subst (λ (q : ℕ). holds (g q) i ≡ false) at gone in
    let old : holds (f n) i ≡ true = subst (λ (q : ℕ). holds (f q) i ≡ true) at had in
    let rest : held_count g i n ≡ held_count f i n = same-held f g i n (λ q below. others q (λ is. omega (arith, is, at, below))) in
    let now_ : cond {A = ℕ} (holds (g n) i) 1 0 ≡ 0 = ap (λ (b : Bool). cond {A = ℕ} b 1 0) new in
    let was : cond {A = ℕ} (holds (f n) i) 1 0 ≡ 1 = ap (λ (b : Bool). cond {A = ℕ} b 1 0) old in
    omega (arith, rest, now_, was))
    (λ (ne : v ≢ n).
    let rest : held_count g i n + 1 ≡ held_count f i n = less-held v f g i n (omega (arith, lt, ne)) had gone others in
    let here : cond {A = ℕ} (holds (g n) i) 1 0 ≡ cond {A = ℕ} (holds (f n) i) 1 0 = ap (λ (e : PageEntry). cond {A = ℕ} (holds e i) 1 0) (others n ne) in
    omega (arith, rest, here))
    (cases_eq v n)

-- ---- the distance

fewer-steps : (a b k l : ℕ) → a < b → k ≤ 1024 → 1025 * a + k < 1025 * b + l
fewer-steps a b k l less most = omega arith

pub nearer-steps : (i : ℕ) (mode : Mode) (p : ℕ) (old new : ℕ → PageEntry) (asks then : List Ask)
    → steps i mode (new p) then < steps i mode (old p) asks → distance i mode p new then < distance i mode p old asks
unfolding distance copies_of
nearer-steps i mode p old new asks then less = fewer-steps (steps i mode (new p) then) (steps i mode (old p) asks)
    (held_count new (comes_to i (new p)) 1024) (held_count old (comes_to i (old p)) 1024) less (held-most new (comes_to i (new p)) 1024)

same-steps : (a b k l : ℕ) → a ≡ b → k + 1 ≡ l → 1025 * a + k < 1025 * b + l
same-steps a b k l same less = omega arith

-- a copy less in the pool that the page comes into
pub nearer-room : (i : ℕ) (mode : Mode) (p at v : ℕ) (old new : ℕ → PageEntry) (asks then : List Ask) → comes_to i (old p) ≡ at → v ≢ p
    → v < 1024 → holds (old v) at ≡ true → holds (new v) at ≡ false → ((q : ℕ) → v ≢ q → new q ≡ old q) → then ≡ asks
    → distance i mode p new then < distance i mode p old asks
unfolding distance copies_of
nearer-room i mode p at v old new asks then comes other lt had gone others same =
    let here : new p ≡ old p = others p other in
    let less : held_count new at 1024 + 1 ≡ held_count old at 1024 = less-held v old new at 1024 lt had gone others in
    same-steps (steps i mode (new p) then) (steps i mode (old p) asks) (held_count new (comes_to i (new p)) 1024) (held_count old (comes_to i (old p)) 1024)
    (ap (λ (e : PageEntry). steps i mode e then) here ∙ ap (λ (xs : List Ask). steps i mode (old p) xs) same)
    (ap (λ (k : ℕ). held_count new k 1024 + 1) (ap (comes_to i) here ∙ comes) ∙ less ∙ ap (λ (k : ℕ). held_count old k 1024) (sym comes))

-- the same places and asks are as far
pub same-distance : (i : ℕ) (mode : Mode) (p : ℕ) (f g : ℕ → PageEntry) (asks then : List Ask) → ((q : ℕ) → f q ≡ g q) → asks ≡ then
    → distance i mode p f asks ≡ distance i mode p g then
unfolding distance copies_of
same-distance i mode p f g asks then alike same =
    ap₂ (λ (e : PageEntry) (xs : List Ask). 1025 * steps i mode e xs + held_count f (comes_to i e) 1024) (alike p) same
    ∙ ap (λ (k : ℕ). 1025 * steps i mode (g p) then + k) (same-held g f (comes_to i (g p)) 1024 (λ q lt. alike q))
