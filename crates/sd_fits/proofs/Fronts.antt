-- Slots of a page where tails are dropped: a version has a front of the capacities that the newest one has. For changes of records.
use Rattle.std.proofs.Common.{◌≡◌, ◌⊎◌, inl, inr, ℕ, zero, suc, ◌<◌, ◌≤◌, Bool, true, false, cond, eqb, ltb, ltb-true, List, [], ◌∷◌, ◌++◌, length, map, refl, sym, ap, subst, arith, lt-ltb}
use Rattle.std.specs.Prelude.{filter}
use Rattle.sd_logrec.specs.View.{Kind, Rec}
use Rattle.sd_logrec.specs.View.Kind.{Clr, Commit, End, Plain, Update}
use Rattle.sd_page.specs.Page.{Page, Slot}
use Rattle.sd_rig.specs.Devices.{DeviceImages}
use Rattle.sd_chain.specs.Bytes.{disk_page}
use Rattle.sd_chain.specs.Cuts.{cut}
use Rattle.sd_chain.specs.Images.{Keeps, Tails, all_kept, with_disk}
use Rattle.sd_chain.specs.Logs.{Outcomes, tails_of}
use Rattle.sd_chain.specs.Named.{version_of}
use Rattle.sd_chain.specs.Pages.{FitAll, FitsKind, FitsPage, capacity, redo, replay, write}
use Rattle.sd_chain.specs.Records.{Each, Val, changes, of_page}
use Rattle.sd_chain.specs.Storage.{Storage, all_of, chain, inserted, newest, sorted}
use Rattle.sd_chain.proofs.Lists.{Each-all, Each-filter, Each-sorted, Each-weaker, cond_both}
use Rattle.sd_chain.proofs.Newest.{and_true}
use Rattle.sd_chain.proofs.Sorts.{Slow, sorted_slow}
use Rattle.sd_model.specs.State.{State}
use Rattle.sd_state.specs.Good.{Good}
use Rattle.sd_state.specs.Images.{log_by}
use Rattle.sd_state.specs.Parts.{Parts}
use Rattle.sd_state.specs.Values.{Pending}
use Rattle.sd_fits.specs.Fits.{AreAtLeast, capacities}

-- ---- a front of capacities

-- the first list is a front of the second
abbrev pub IsFront : List ℕ → List ℕ → Type 0
IsFront [] ys = Unit {0}
IsFront (x ∷ xs) [] = ⊥
IsFront (x ∷ xs) (y ∷ ys) = (x ≡ y) × IsFront xs ys

front-itself : (xs : List ℕ) → IsFront xs xs
front-itself [] = tt
front-itself (x ∷ xs) = (refl, front-itself xs)

pub front-on : (xs ys zs : List ℕ) → IsFront xs ys → IsFront ys zs → IsFront xs zs
front-on [] ys zs f g = tt
front-on (x ∷ xs) [] zs f g = elim f [ ]
front-on (x ∷ xs) (y ∷ ys) [] f g = elim g [ ]
front-on (x ∷ xs) (y ∷ ys) (z ∷ zs) f g = (let one = f.0 in let two = g.0 in cc, front-on xs ys zs f.1 g.1)

-- what numbers are at least those of a front of theirs are
pub front-least : (xs ys least : List ℕ) → IsFront xs ys → AreAtLeast ys least → AreAtLeast xs least
front-least [] ys least f at = tt
front-least (x ∷ xs) [] least f at = elim f [ ]
front-least (x ∷ xs) (y ∷ ys) [] f at = elim at [ ]
front-least (x ∷ xs) (y ∷ ys) (n ∷ least) f at = (let same = f.0 in let le = at.0 in omega (arith, same, le), front-least xs ys least f.1 at.1)

abbrev caps : List Slot → List ℕ
caps slots = map (λ slot. slot.0) slots

-- a write leaves each capacity, or adds behind them
pub front-write : (slots : List Slot) (s c : ℕ) (v : Val) → IsFront (caps slots) (caps (write slots s c v))
front-write [] s c v = tt
front-write (x ∷ xs) zero c v = (refl, front-itself (caps xs))
front-write (x ∷ xs) (suc s) c v = (refl, front-write xs s c v)

-- the same write on both, where a slot that is new to the one is so, or has that capacity, in the other
both-written : (bs ls : List Slot) (s c : ℕ) (v : Val) → IsFront (caps bs) (caps ls) → s ≤ length bs
    → (s ≡ length bs → s < length ls → c ≡ capacity ls s) → IsFront (caps (write bs s c v)) (caps (write ls s c v))
both-written [] [] zero c v f le same = (refl, tt)
both-written [] (a ∷ ls) zero c v f le same = (same refl (omega arith), tt)
both-written [] ls (suc s) c v f le same = absurd (omega (arith, le))
both-written (b ∷ bs) [] s c v f le same = elim f [ ]
both-written (b ∷ bs) (a ∷ ls) zero c v f le same = f
both-written (b ∷ bs) (a ∷ ls) (suc s) c v f le same =
    (f.0, both-written bs ls s c v f.1 (omega (arith, le)) (λ e lt. same (ap suc e) (omega (arith, lt))))

kind-written : (k : Kind) (y : Rec) (bs ls : List Slot) → changes k ≡ true → FitsKind k y bs → FitsKind k y ls → IsFront (caps bs) (caps ls)
    → IsFront (caps (write bs y.slot y.cap y.after)) (caps (write ls y.slot y.cap y.after))
kind-written Update y bs ls is there here f = both-written bs ls y.slot y.cap y.after f there.place (λ e lt. here.same lt)
kind-written Clr y bs ls is there here f = let place = there.place in
    both-written bs ls y.slot y.cap y.after f (omega (arith, place)) (λ e lt. absurd (omega (arith, place, e)))
kind-written Commit y bs ls is there here f = absurd (cc)
kind-written End y bs ls is there here f = absurd (cc)
kind-written Plain y bs ls is there here f = absurd (cc)

-- ---- some records of a list, in their order

abbrev Sub : List Rec → List Rec → Type 0
Sub xs [] = xs ≡ []
Sub xs (y ∷ ys) = Sub xs ys ⊎ ((zs : List Rec) × (xs ≡ y ∷ zs) × Sub zs ys)

sub-none : (ys : List Rec) → Sub [] ys
sub-none [] = refl
sub-none (y ∷ ys) = inl (sub-none ys)

sub-itself : (xs : List Rec) → Sub xs xs
sub-itself [] = refl
sub-itself (x ∷ xs) = inr (xs, refl, sub-itself xs)

sub-append : (ls bs xs ys : List Rec) → Sub ls xs → Sub bs ys → Sub (ls ++ bs) (xs ++ ys)
sub-append ls bs [] ys e t = subst (λ (l : List Rec). Sub (l ++ bs) ys) (sym e) t
sub-append ls bs (x ∷ xs) ys (inl s) t = inl (sub-append ls bs xs ys s t)
sub-append ls bs (x ∷ xs) ys (inr s) t = inr (s.0 ++ bs, ap (λ (l : List Rec). l ++ bs) s.1, sub-append s.0 bs xs ys s.2 t)

sub-filter : (test : Rec → Bool) (ls xs : List Rec) → Sub ls xs → Sub (filter test ls) (filter test xs)
sub-filter test ls [] e = ap (filter test) e
sub-filter test ls (x ∷ xs) (inl s) =
    let ih = sub-filter test ls xs s in
    cond_both (Sub (filter test ls)) (test x) (x ∷ filter test xs) (filter test xs) (λ is. inl ih) (λ is. ih)
sub-filter test ls (x ∷ xs) (inr s) = subst (λ (l : List Rec). Sub (filter test l) (filter test (x ∷ xs))) (sym s.1)
    (go (test x) (sub-filter test s.0 xs s.2))
  where
    go : (b : Bool) → Sub (filter test s.0) (filter test xs)
        → Sub (cond {A = List Rec} b (x ∷ filter test s.0) (filter test s.0)) (cond {A = List Rec} b (x ∷ filter test xs) (filter test xs))
    go true ih = inr (filter test s.0, refl, ih)
    go false ih = ih

sub-each : (P : Rec → Type 0) (ls xs : List Rec) → Sub ls xs → Each P xs → Each P ls
sub-each P ls [] e each = subst (Each P) (sym e) tt
sub-each P ls (x ∷ xs) (inl s) each = sub-each P ls xs s each.1
sub-each P ls (x ∷ xs) (inr s) each = subst (Each P) (sym s.1) (each.0, sub-each P s.0 xs s.2 each.1)

-- ---- by LSN

sub-more : (x : Rec) (ls ys : List Rec) → Sub ls ys → Sub ls (inserted x ys)
sub-more x ls [] e = inl e
sub-more x ls (y ∷ ys) (inl s) = let ih = sub-more x ls ys s in
    cond_both (Sub ls) (ltb x.lsn y.lsn) (x ∷ y ∷ ys) (y ∷ inserted x ys) (λ is. inl (inl s)) (λ is. inl ih)
sub-more x ls (y ∷ ys) (inr s) = let ih = sub-more x s.0 ys s.2 in
    cond_both (Sub ls) (ltb x.lsn y.lsn) (x ∷ y ∷ ys) (y ∷ inserted x ys) (λ is. inl (inr s)) (λ is. inr (s.0, s.1, ih))

inserted-first : (x : Rec) (ls : List Rec) → Each (λ z. x.lsn < z.lsn) ls → inserted x ls ≡ x ∷ ls
inserted-first x [] low = refl
inserted-first x (a ∷ ls) low = ap (λ (b : Bool). cond {A = List Rec} b (x ∷ a ∷ ls) (a ∷ inserted x ls)) (lt-ltb x.lsn a.lsn low.0)

sub-inserted : (x : Rec) (ls ys : List Rec) → Slow ys → Sub ls ys → Sub (inserted x ls) (inserted x ys)
sub-inserted x ls [] slow e = subst (λ (l : List Rec). Sub (inserted x l) (x ∷ [])) (sym e) (inr ([], refl, refl))
sub-inserted x ls (y ∷ ys) slow (inl s) = go (ltb x.lsn y.lsn) refl (sub-inserted x ls ys slow.1 s)
  where
    go : (b : Bool) → ltb x.lsn y.lsn ≡ b → Sub (inserted x ls) (inserted x ys)
        → Sub (inserted x ls) (cond {A = List Rec} b (x ∷ y ∷ ys) (y ∷ inserted x ys))
    go true is ih =
        let lt = ltb-true x.lsn y.lsn is in
        let low = Each-weaker (λ z. y.lsn ≤ z.lsn) (λ z. x.lsn < z.lsn) (λ z le. omega (arith, le, lt)) ls (sub-each _ ls ys s slow.0) in
        inr (ls, inserted-first x ls low, inl s)
    go false is ih = inl ih
sub-inserted x ls (y ∷ ys) slow (inr s) = subst (λ (l : List Rec). Sub (inserted x l) (inserted x (y ∷ ys))) (sym s.1)
    (go (ltb x.lsn y.lsn) (sub-inserted x s.0 ys slow.1 s.2))
  where
    go : (b : Bool) → Sub (inserted x s.0) (inserted x ys)
        → Sub (cond {A = List Rec} b (x ∷ y ∷ s.0) (y ∷ inserted x s.0)) (cond {A = List Rec} b (x ∷ y ∷ ys) (y ∷ inserted x ys))
    go true ih = inr (y ∷ s.0, refl, inr (s.0, refl, s.2))
    go false ih = inr (inserted x s.0, refl, ih)

sub-sorted : (ls xs : List Rec) → Sub ls xs → Sub (sorted ls) (sorted xs)
sub-sorted ls [] e = ap sorted e
sub-sorted ls (x ∷ xs) (inl s) = sub-more x (sorted ls) (sorted xs) (sub-sorted ls xs s)
sub-sorted ls (x ∷ xs) (inr s) = subst (λ (l : List Rec). Sub (sorted l) (inserted x (sorted xs))) (sym s.1)
    (sub-inserted x (sorted s.0) (sorted xs) (sorted_slow xs) (sub-sorted s.0 xs s.2))

-- ---- records redone

-- some of the records redone on a page with a front of the slots, where all fit either way
replay-front : (floor : ℕ) (xs ys : List Rec) (b a : Page) → Sub xs ys → Each (λ y. changes y.kind ≡ true) ys
    → IsFront (capacities b) (capacities a) → FitAll floor b xs → FitAll floor a ys
    → IsFront (capacities (replay floor b xs)) (capacities (replay floor a ys))
replay-front floor xs [] b a e all f there here = subst (λ (l : List Rec). IsFront (capacities (replay floor b l)) (capacities a)) (sym e) f
replay-front floor xs (y ∷ ys) b a (inl s) all f there here =
    replay-front floor xs ys b (cond (ltb floor y.lsn) (redo a y) a) s all.1
    (cond_both (λ (z : Page). IsFront (capacities b) (capacities z)) (ltb floor y.lsn) (redo a y) a
    (λ is. front-on (capacities b) (capacities a) (capacities (redo a y)) f (front-write a.slots y.slot y.cap y.after)) (λ is. f))
    there here.1
replay-front floor xs (y ∷ ys) b a (inr s) all f there here =
    subst (λ (l : List Rec). IsFront (capacities (replay floor b l)) (capacities (replay floor a (y ∷ ys)))) (sym s.1)
    (let mine : FitAll floor b (y ∷ s.0) = subst (FitAll floor b) s.1 there in
    replay-front floor s.0 ys (cond (ltb floor y.lsn) (redo b y) b) (cond (ltb floor y.lsn) (redo a y) a) s.2 all.1
    (by (ltb floor y.lsn) refl mine.0) mine.1 here.1)
  where
    by : (t : Bool) → ltb floor y.lsn ≡ t → (floor < y.lsn → FitsPage b y)
        → IsFront (capacities (cond {A = Page} t (redo b y) b)) (capacities (cond {A = Page} t (redo a y) a))
    by true is mine =
        let lt = ltb-true floor y.lsn is in
        kind-written y.kind y b.slots a.slots all.0 (mine lt).found (here.0 lt).found f
    by false is mine = f

-- ---- images

sub-all_of : (logs logs' : ℕ → List Rec) → ((j : ℕ) → Sub (logs j) (logs' j)) → (n : ℕ) → Sub (all_of logs n) (all_of logs' n)
unfolding all_of
sub-all_of logs logs' sub zero = refl
sub-all_of logs logs' sub (suc n) = sub-append (logs n) (all_of logs n) (logs' n) (all_of logs' n) (sub n) (sub-all_of logs logs' sub n)

newest-front : (p : ℕ) (less more : Storage) → ((j : ℕ) → Sub (less.logs j) (more.logs j)) → less.disk p ≡ more.disk p
    → FitAll (less.disk p).lsn (less.disk p) (chain less p) → FitAll (more.disk p).lsn (more.disk p) (chain more p)
    → IsFront (capacities (newest less p)) (capacities (newest more p))
unfolding newest chain
newest-front p less more sub same there here =
    subst (λ (d : Page). IsFront (capacities (replay d.lsn d (sorted (filter (of_page p) (all_of less.logs 9))))) (capacities (newest more p))) (sym same)
    (replay-front (more.disk p).lsn (chain less p) (chain more p) (more.disk p) (more.disk p)
    (sub-sorted _ _ (sub-filter (of_page p) (all_of less.logs 9) (all_of more.logs 9) (sub-all_of less.logs more.logs sub 9)))
    (Each-sorted (λ y. changes y.kind ≡ true) (filter (of_page p) (all_of more.logs 9))
    (Each-filter (λ y. changes y.kind ≡ true) (of_page p) (all_of more.logs 9)
    (Each-all (λ y. of_page p y ≡ true → changes y.kind ≡ true) (λ y is. (and_true (changes y.kind) (eqb y.page p) is).0) (all_of more.logs 9))))
    (front-itself (capacities (more.disk p)))
    (subst (λ (d : Page). FitAll d.lsn d (chain less p)) same there) here)

module _ (seen : DeviceImages) (leaves : Outcomes) (pend : Pending) (c : Parts) (m : State) (g : Good seen leaves pend c m) (moved keeps : Keeps)
    (p : ℕ) where
  abbrev tails : Tails
  tails = tails_of (log_by c moved)

  abbrev disk : ℕ → Page
  disk = disk_page (seen 0)

  kept-sub : (j : ℕ) → Sub (tails.base j ++ cond (keeps j) (tails.tail j) []) (tails.base j ++ tails.tail j)
  kept-sub j = sub-append (tails.base j) (cond (keeps j) (tails.tail j) []) (tails.base j) (tails.tail j) (sub-itself (tails.base j))
      (cond_both (λ (l : List Rec). Sub l (tails.tail j)) (keeps j) (tails.tail j) [] (λ on. sub-itself (tails.tail j)) (λ off. sub-none (tails.tail j)))

  -- whichever tails a crash drops, a page has a front of the slots that it has now
  pub version-front : IsFront (capacities (version_of tails disk keeps p)) (capacities (version_of tails disk all_kept p))
  version-front =
      let h = (g.half moved).coherent in
      newest-front p (cut keeps (with_disk tails disk)) (cut all_kept (with_disk tails disk)) kept-sub refl
      ((h.safe.sound disk h.reads keeps).pages p) ((h.safe.sound disk h.reads all_kept).pages p)
