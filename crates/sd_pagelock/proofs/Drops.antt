-- A page that one alone is left with, and a page whose owner is known. It serves the laws.
use Rattle.std.proofs.Common.{◌≡◌, ⊎_elim, ℕ, Bool, true, false, cond, eqb, List, [], ◌∷◌, Option, None, Some, refl, sym, ap, ◌∙◌, ne_eqb, eqb-true}
use Rattle.std.specs.Prelude.{is_some}
use Rattle.std.proofs.lemmas.Bool.{cases_eq}
use Rattle.sd_base.specs.Sets.{has, without}
use Rattle.sd_pagelock.specs.Places.{PageEntry, holds, owns, passes, uses, changed, Formed}
use Rattle.sd_pagelock.specs.Rows.{may_raise, raised, may_drop, fallen, nowhere, left_with, shared_left, left_alone, dropped}
use Rattle.sd_pagelock.proofs.Falls.{holds-fallen, uses-fallen}
use Rattle.sd_pagelock.proofs.Forms.{formed-fallen}

one : (b : Bool) → b ≡ cond b true false
one true = refl
one false = refl

holds-left_alone : (k : ℕ) (e : PageEntry) → holds (left_alone e) k ≡ holds e k
holds-left_alone k PageEntry.Free = refl
holds-left_alone k (PageEntry.Shared [] writer) = refl
holds-left_alone k (PageEntry.Shared (x ∷ []) writer) = one (eqb x k)
holds-left_alone k (PageEntry.Shared (x ∷ y ∷ xs) writer) = refl
holds-left_alone k (PageEntry.Excl holder dirty) = refl
holds-left_alone k (PageEntry.Moving to mode rest dirty) = refl
holds-left_alone k PageEntry.Lost = refl

uses-left_alone : (k : ℕ) (e : PageEntry) → uses (left_alone e) k ≡ uses e k
uses-left_alone k PageEntry.Free = refl
uses-left_alone k (PageEntry.Shared [] writer) = refl
uses-left_alone k (PageEntry.Shared (x ∷ []) writer) = one (eqb x k)
uses-left_alone k (PageEntry.Shared (x ∷ y ∷ xs) writer) = refl
uses-left_alone k (PageEntry.Excl holder dirty) = refl
uses-left_alone k (PageEntry.Moving to mode rest dirty) = refl
uses-left_alone k PageEntry.Lost = refl

passes-left_alone : (e : PageEntry) → passes (left_alone e) ≡ passes e
passes-left_alone PageEntry.Free = refl
passes-left_alone (PageEntry.Shared [] writer) = refl
passes-left_alone (PageEntry.Shared (x ∷ []) writer) = refl
passes-left_alone (PageEntry.Shared (x ∷ y ∷ xs) writer) = refl
passes-left_alone (PageEntry.Excl holder dirty) = refl
passes-left_alone (PageEntry.Moving to mode rest dirty) = refl
passes-left_alone PageEntry.Lost = refl

changed-left_alone : (e : PageEntry) → changed (left_alone e) ≡ changed e
changed-left_alone PageEntry.Free = refl
changed-left_alone (PageEntry.Shared [] writer) = refl
changed-left_alone (PageEntry.Shared (x ∷ []) writer) = refl
changed-left_alone (PageEntry.Shared (x ∷ y ∷ xs) writer) = refl
changed-left_alone (PageEntry.Excl holder dirty) = refl
changed-left_alone (PageEntry.Moving to mode rest dirty) = refl
changed-left_alone PageEntry.Lost = refl

formed-left_alone : (e : PageEntry) → Formed e → Formed (left_alone e)
formed-left_alone PageEntry.Free f = tt
formed-left_alone (PageEntry.Shared [] writer) f = f
formed-left_alone (PageEntry.Shared (x ∷ []) writer) f = tt
formed-left_alone (PageEntry.Shared (x ∷ y ∷ xs) writer) f = f
formed-left_alone (PageEntry.Excl holder dirty) f = tt
formed-left_alone (PageEntry.Moving to mode rest dirty) f = f
formed-left_alone PageEntry.Lost f = tt

changed_nowhere : (b : Bool) → changed (nowhere b) ≡ b
changed_nowhere true = refl
changed_nowhere false = refl

pub changed-fallen : (i : ℕ) (e : PageEntry) → changed (fallen i e) ≡ changed e
changed-fallen i PageEntry.Free = refl
changed-fallen i PageEntry.Lost = refl
changed-fallen i (PageEntry.Excl holder dirty) = go (eqb holder i)
  where
    go : (b : Bool) → changed (cond b (nowhere dirty) (PageEntry.Excl holder dirty)) ≡ dirty
    go true = changed_nowhere dirty
    go false = refl
changed-fallen i (PageEntry.Shared set writer) = go (without i set) writer
  where
    some : (b : Bool) (x y : ℕ) → is_some (cond {A = Option ℕ} b (Some x) (Some y)) ≡ true
    some true x y = refl
    some false x y = refl

    go : (xs : List ℕ) (w : Option ℕ) → changed (shared_left i xs w) ≡ is_some w
    go [] w = changed_nowhere (is_some w)
    go (x ∷ xs) None = refl
    go (x ∷ xs) (Some w) = some (eqb w i) x w
changed-fallen i (PageEntry.Moving to mode rest dirty) = go (eqb to i)
  where
    left : (xs : List ℕ) (d : Bool) → changed (left_with d xs) ≡ d
    left [] d = changed_nowhere d
    left (x ∷ xs) true = refl
    left (x ∷ xs) false = refl

    go : (b : Bool) → changed (cond b (left_with dirty (without i rest)) (PageEntry.Moving to mode (without i rest) dirty)) ≡ dirty
    go true = left (without i rest) dirty
    go false = refl

still_nowhere : (b : Bool) → passes (nowhere b) ≡ false
still_nowhere true = refl
still_nowhere false = refl

-- a page whose copy is dropped stays where it is
still : (j : ℕ) (e : PageEntry) → may_drop j e ≡ true → passes (fallen j e) ≡ false
still j PageEntry.Free m = refl
still j PageEntry.Lost m = refl
still j (PageEntry.Excl holder dirty) m = absurd (cc)
still j (PageEntry.Shared set writer) m = go (without j set)
  where
    go : (xs : List ℕ) → passes (shared_left j xs writer) ≡ false
    go [] = still_nowhere (is_some writer)
    go (x ∷ xs) = refl
still j (PageEntry.Moving to mode rest dirty) m = absurd (cc)

-- what holds of a place, and of it left alone
each_way : (P : PageEntry → Type 0) (b : Bool) (e : PageEntry) → P (left_alone e) → P e → P (cond b (left_alone e) e)
each_way P true e f g = f
each_way P false e f g = g

pub holds-dropped : (j i k : ℕ) (e : PageEntry) → holds (dropped j i e) k ≡ cond (eqb j k) false (holds e k)
holds-dropped j i k e = each_way (λ (x : PageEntry). holds x k ≡ cond (eqb j k) false (holds e k)) (holds (left_alone (fallen j e)) i) (fallen j e) (holds-left_alone k (fallen j e) ∙ holds-fallen j k e) (holds-fallen j k e)

pub uses-dropped : (j i k : ℕ) (e : PageEntry) → uses (dropped j i e) k ≡ cond (eqb j k) false (uses e k)
uses-dropped j i k e = each_way (λ (x : PageEntry). uses x k ≡ cond (eqb j k) false (uses e k)) (holds (left_alone (fallen j e)) i) (fallen j e) (uses-left_alone k (fallen j e) ∙ uses-fallen j k e) (uses-fallen j k e)

pub passes-dropped : (j i : ℕ) (e : PageEntry) → may_drop j e ≡ true → passes (dropped j i e) ≡ false
passes-dropped j i e m = each_way (λ (x : PageEntry). passes x ≡ false) (holds (left_alone (fallen j e)) i) (fallen j e) (passes-left_alone (fallen j e) ∙ still j e m) (still j e m)

pub changed-dropped : (j i : ℕ) (e : PageEntry) → changed (dropped j i e) ≡ changed e
changed-dropped j i e = each_way (λ (x : PageEntry). changed x ≡ changed e) (holds (left_alone (fallen j e)) i) (fallen j e) (changed-left_alone (fallen j e) ∙ changed-fallen j e) (changed-fallen j e)

pub formed-dropped : (j i : ℕ) (e : PageEntry) → Formed e → Formed (dropped j i e)
formed-dropped j i e f = each_way Formed (holds (left_alone (fallen j e)) i) (fallen j e) (formed-left_alone (fallen j e) (formed-fallen j e f)) (formed-fallen j e f)

either_one : (b : Bool) (e : PageEntry) → cond b e e ≡ e
either_one true e = refl
either_one false e = refl

-- left alone, or raised where that is allowed
alone_or_raised : (i : ℕ) (e : PageEntry) → cond (holds (left_alone e) i) (left_alone e) e ≡ cond (may_raise i e) (raised i e) e
alone_or_raised i PageEntry.Free = refl
alone_or_raised i (PageEntry.Shared [] writer) = refl
alone_or_raised i (PageEntry.Shared (x ∷ []) writer) = ⊎_elim
    (λ e. ap (λ (z : ℕ). cond (eqb x i) (PageEntry.Excl z (is_some writer)) (PageEntry.Shared (x ∷ []) writer)) e)
    (λ ne. ap (λ (b : Bool). cond b (PageEntry.Excl x (is_some writer)) (PageEntry.Shared (x ∷ []) writer)) (ne_eqb x i ne)
    ∙ sym (ap (λ (b : Bool). cond b (PageEntry.Excl i (is_some writer)) (PageEntry.Shared (x ∷ []) writer)) (ne_eqb x i ne)))
    (cases_eq x i)
alone_or_raised i (PageEntry.Shared (x ∷ y ∷ xs) writer) = either_one (has i (x ∷ y ∷ xs)) (PageEntry.Shared (x ∷ y ∷ xs) writer)
alone_or_raised i (PageEntry.Excl holder dirty) = either_one (eqb holder i) (PageEntry.Excl holder dirty)
alone_or_raised i (PageEntry.Moving to mode rest dirty) = either_one (has i rest) (PageEntry.Moving to mode rest dirty)
alone_or_raised i PageEntry.Lost = refl

pub two_moves : (j i : ℕ) (e : PageEntry) → dropped j i e ≡ cond (may_raise i (fallen j e)) (raised i (fallen j e)) (fallen j e)
two_moves j i e = alone_or_raised i (fallen j e)

pub owner-holds : (i k : ℕ) (e : PageEntry) → owns e i ≡ true → holds e k ≡ eqb i k
owner-holds i k PageEntry.Free o = absurd (cc)
owner-holds i k PageEntry.Lost o = absurd (cc)
owner-holds i k (PageEntry.Excl holder dirty) o = ap (λ (z : ℕ). eqb z k) (eqb-true holder i o)
owner-holds i k (PageEntry.Shared set writer) o = absurd (cc)
owner-holds i k (PageEntry.Moving to mode rest dirty) o = absurd (cc)

pub owner-passes : (i : ℕ) (e : PageEntry) → owns e i ≡ true → passes e ≡ false
owner-passes i PageEntry.Free o = refl
owner-passes i PageEntry.Lost o = refl
owner-passes i (PageEntry.Excl holder dirty) o = refl
owner-passes i (PageEntry.Shared set writer) o = refl
owner-passes i (PageEntry.Moving to mode rest dirty) o = absurd (cc)

pub owner-uses : (i k : ℕ) (e : PageEntry) → owns e i ≡ true → uses e k ≡ eqb i k
owner-uses i k PageEntry.Free o = absurd (cc)
owner-uses i k PageEntry.Lost o = absurd (cc)
owner-uses i k (PageEntry.Excl holder dirty) o = ap (λ (z : ℕ). eqb z k) (eqb-true holder i o)
owner-uses i k (PageEntry.Shared set writer) o = absurd (cc)
owner-uses i k (PageEntry.Moving to mode rest dirty) o = absurd (cc)
