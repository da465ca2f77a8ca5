-- Which rows lose no page. It serves the goal of `losses` in laws.rt.
use Rattle.std.proofs.Common.{◌≡◌, ◌≢◌, ℕ, Bool, true, false, cond, eqb, List, [], ◌∷◌, Option, Some, refl, sym, ap, ◌∙◌, subst, eq-eqb, eqb-true}
use Rattle.std.specs.Prelude.{find, not, ◌||◌, ◌&&◌}
use Rattle.std.specs.Option.{option_map}
use Rattle.sd_base.specs.declared.place.Place as coded
use Rattle.sd_base.specs.declared.place.Mode.{Mode}
use Rattle.sd_base.specs.declared.place.Mode.TheVariants as modes
use Rattle.sd_base.specs.Sets.{has}
use Rattle.sd_pagelock.specs.declared.queue.Ask.{Ask}
use Rattle.sd_pagelock.specs.Places.{Formed, PageEntry, holds, holds_as, is_free, is_lost, passes, seen}
use Rattle.sd_pagelock.specs.Rows.{dropped, fallen, given_excl, given_shared, left_alone, locked, may_drop, may_evict, may_raise, may_yield, raised, taken, written}
use Rattle.sd_pagelock.specs.Asks.{oldest}
use Rattle.sd_pagelock.specs.Moves.{IsMove}
use Rattle.sd_pagelock.proofs.Losses.{never_lost}
use Rattle.sd_world.specs.Pages.{Pages, given, had, is_had, page_placed, place_of}
use Rattle.sd_world.proofs.Forms.{asker_of}

none_left : {A : Type 0} → false ≡ true → A
none_left e = absurd (cc)

still : {A : Type 0} → true ≡ false → A
still e = absurd (cc)

-- it is a place of the code
abbrev pub IsCoded : PageEntry → Type 0
IsCoded e = (place : coded.Place) × (e ≡ seen place)

moved : (e to : PageEntry) → Formed e → IsCoded e → IsMove e to → is_lost to ≡ false
moved e to f c move = never_lost c.0 to (subst Formed c.1 f) (subst (λ (x : PageEntry). IsMove x to) c.1 move)

pub had-there : (i : ℕ) (mode : Mode) (e : PageEntry) → is_had i mode e ≡ true → holds_as mode e i ≡ false → Formed e → IsCoded e → is_lost (had i mode e) ≡ false
had-there i mode e h lacks f c = ap (λ (b : Bool). is_lost (cond {A = PageEntry} b e (cond {A = PageEntry} (is_free e) (locked i mode) (raised i e)))) lacks
    ∙ go (is_free e) refl (ap (λ (b : Bool). b || (is_free e || may_raise i e)) (sym lacks) ∙ h)
  where
    go : (b : Bool) → is_free e ≡ b → (b || may_raise i e) ≡ true → is_lost (cond {A = PageEntry} b (locked i mode) (raised i e)) ≡ false
    go true free h = moved e (locked i mode) f c (IsMove.lock i mode free refl)
    go false free h = moved e (raised i e) f c (IsMove.raise i h refl)

pub evicted-there : (i : ℕ) (e : PageEntry) → may_evict i e ≡ true → Formed e → IsCoded e → is_lost (fallen i e) ≡ false
evicted-there i e h f c = moved e (fallen i e) f c (IsMove.evict i h refl)

pub taken-there : (e : PageEntry) → is_lost (taken e) ≡ is_lost e
taken-there PageEntry.Free = refl
taken-there PageEntry.Lost = refl
taken-there (PageEntry.Shared set writer) = refl
taken-there (PageEntry.Excl holder dirty) = refl
taken-there (PageEntry.Moving to modes.Shared rest dirty) = refl
taken-there (PageEntry.Moving to modes.Excl rest dirty) = refl

pub written-there : (e : PageEntry) → is_lost (written e) ≡ false
written-there PageEntry.Free = refl
written-there PageEntry.Lost = refl
written-there (PageEntry.Shared set writer) = refl
written-there (PageEntry.Excl holder dirty) = refl
written-there (PageEntry.Moving to mode rest dirty) = refl

shared-there : (i : ℕ) (e : PageEntry) → is_lost (given_shared i e) ≡ is_lost e
shared-there i PageEntry.Free = refl
shared-there i PageEntry.Lost = refl
shared-there i (PageEntry.Shared set writer) = refl
shared-there i (PageEntry.Excl holder dirty) = refl
shared-there i (PageEntry.Moving to mode rest dirty) = refl

alone-there : (e : PageEntry) → is_lost (left_alone e) ≡ is_lost e
alone-there PageEntry.Free = refl
alone-there PageEntry.Lost = refl
alone-there (PageEntry.Shared [] writer) = refl
alone-there (PageEntry.Shared (x ∷ []) writer) = refl
alone-there (PageEntry.Shared (x ∷ y ∷ xs) writer) = refl
alone-there (PageEntry.Excl holder dirty) = refl
alone-there (PageEntry.Moving to mode rest dirty) = refl

dropped-there : (j i : ℕ) (e : PageEntry) → is_lost (dropped j i e) ≡ is_lost (fallen j e)
dropped-there j i e = go (holds (left_alone (fallen j e)) i)
  where
    go : (b : Bool) → is_lost (cond {A = PageEntry} b (left_alone (fallen j e)) (fallen j e)) ≡ is_lost (fallen j e)
    go true = alone-there (fallen j e)
    go false = refl

isnt : (b : Bool) → not b ≡ false → b ≡ true
isnt true h = refl
isnt false h = still h

holder_only : (x j : ℕ) → cond (eqb x j) true false ≡ true → eqb x j ≡ true
holder_only x j h = go (eqb x j) h
  where
    go : (b : Bool) → cond b true false ≡ true → b ≡ true
    go true h = refl
    go false h = none_left h

one_place : {A : Type 0} (x j to : ℕ) → to ≢ j → eqb x to ≡ true → eqb x j ≡ true → A
one_place x j to ne a b = absurd (ne (sym (eqb-true x to a) ∙ eqb-true x j b))

and_true : (b : Bool) → b ≡ true → (b && true) ≡ true
and_true true h = refl
and_true false h = none_left h

-- a holder of a page at rest who doesn't give it alone shares it
pub drops : (j to : ℕ) (e : PageEntry) → to ≢ j → holds e j ≡ true → passes e ≡ false → may_yield to e ≡ false → may_drop j e ≡ true
drops j to PageEntry.Free ne h p y = none_left h
drops j to PageEntry.Lost ne h p y = none_left h
drops j to (PageEntry.Moving k mode rest dirty) ne h p y = still p
drops j to (PageEntry.Excl holder dirty) ne h p y = one_place holder j to ne (isnt (eqb holder to) y) h
drops j to (PageEntry.Shared [] writer) ne h p y = none_left h
drops j to (PageEntry.Shared (x ∷ []) writer) ne h p y = one_place x j to ne (isnt (eqb x to) y) (holder_only x j h)
drops j to (PageEntry.Shared (x ∷ y ∷ xs) writer) ne h p z = and_true (has j (x ∷ y ∷ xs)) h

pub given-there : (j to : ℕ) (mode : Mode) (e : PageEntry) → to ≢ j → holds e j ≡ true → passes e ≡ false → is_lost e ≡ false → Formed e → IsCoded e → is_lost (given j (to, mode) e) ≡ false
given-there j to modes.Shared e ne h p there f c = shared-there to e ∙ there
given-there j to modes.Excl e ne h p there f c = go (may_yield to e) refl
  where
    go : (b : Bool) → may_yield to e ≡ b → is_lost (cond {A = PageEntry} b (given_excl to e) (dropped j to e)) ≡ false
    go true is = refl
    go false is = dropped-there j to e ∙ moved e (fallen j e) f c (IsMove.drop j (drops j to e ne h p is) refl)

-- the oldest asker of another is another
pub asker_other : (i : ℕ) (asks : List Ask) (to : ℕ) (mode : Mode) → oldest i asks ≡ Some (to, mode) → to ≢ i
asker_other i [] to mode e same = absurd (cc)
asker_other i (a ∷ tail) to mode e same = go (not (eqb a.by i)) refl (λ found. asker_other i tail to mode found same) e
  where
    other : (b : Bool) → not b ≡ true → b ≡ true → ⊥
    other true h k = none_left h
    other false h k = none_left k

    go : (b : Bool) → not (eqb a.by i) ≡ b → (oldest i tail ≡ Some (to, mode) → ⊥)
        → option_map {U = ℕ × Mode} (λ (ask : Ask). (ask.by, ask.mode)) (cond {A = Option Ask} b (Some a) (find (λ (ask : Ask). not (eqb ask.by i)) tail)) ≡ Some (to, mode) → ⊥
    go true is ih e = other (eqb a.by i) is (eq-eqb a.by i (ap (λ (x : Option (ℕ × Mode)). (asker_of x).0) e ∙ same))
    go false is ih e = ih e

-- ---- pages

-- no page is lost that wasn't
abbrev pub LosesNone : Pages → Pages → Type 0
LosesNone w w' = (q : ℕ) → is_lost (w'.entry q) ≡ true → is_lost (w.entry q) ≡ true

pub placed-loses : (p : ℕ) (to : PageEntry) (w : Pages) → is_lost to ≡ false → LosesNone w (page_placed p to w)
placed-loses p to w there q h = go (eqb p q) h
  where
    go : (b : Bool) → is_lost (cond {A = PageEntry} b to (w.entry q)) ≡ true → is_lost (w.entry q) ≡ true
    go true h = none_left (sym there ∙ h)
    go false h = h

pub found_lost : (b : Bool) → is_lost (place_of b) ≡ true → b ≡ true
found_lost true h = refl
found_lost false h = none_left h
