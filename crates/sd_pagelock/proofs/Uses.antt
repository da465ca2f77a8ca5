-- What follows of a place from who holds it, and what rows leave. It serves sd_chain.
use Rattle.std.proofs.Common.{◌≡◌, ◌≢◌, ⊎_elim, ℕ, Bool, true, false, cond, eqb, List, [], ◌∷◌, refl, sym, ap, ◌∙◌, eq-eqb, ne_eqb, eqb-true}
use Rattle.std.specs.Prelude.{is_some, ◌||◌}
use Rattle.std.proofs.lemmas.Bool.{cases_eq}
use Rattle.sd_base.specs.declared.place.Mode.{Mode}
use Rattle.sd_base.specs.declared.place.Mode.TheVariants as modes
use Rattle.sd_base.specs.Sets.{has, without}
use Rattle.sd_pagelock.specs.Places.{PageEntry, changed, holds, is_free, is_lost, passes, receives, rests, uses, Formed}
use Rattle.sd_pagelock.specs.Rows.{fallen, given_shared, left_with, locked, may_raise, may_share, may_write, may_yield, nowhere, raised, shared_left, taken, written}
use Rattle.sd_pagelock.proofs.Members.{not_both}

-- ---- a page that isn't lost

pub held-found : (i : ℕ) (e : PageEntry) → holds e i ≡ true → e ≢ PageEntry.Lost
held-found i e h is = not_both h (ap (λ (x : PageEntry). holds x i) is)

pub passes-found : (e : PageEntry) → passes e ≡ true → e ≢ PageEntry.Lost
passes-found e h is = not_both h (ap passes is)

pub clean-found : (e : PageEntry) → changed e ≡ false → e ≢ PageEntry.Lost
clean-found e h is = not_both (ap changed is) h

pub rests-found : (e : PageEntry) → rests e ≡ true → e ≢ PageEntry.Lost
rests-found e h is = not_both h (ap rests is)

pub lost-is : (e : PageEntry) → is_lost e ≡ true → e ≡ PageEntry.Lost
lost-is PageEntry.Free m = absurd (cc)
lost-is PageEntry.Lost m = refl
lost-is (PageEntry.Shared set writer) m = absurd (cc)
lost-is (PageEntry.Excl holder dirty) m = absurd (cc)
lost-is (PageEntry.Moving to mode rest dirty) m = absurd (cc)

pub free-is : (e : PageEntry) → is_free e ≡ true → e ≡ PageEntry.Free
free-is PageEntry.Free m = refl
free-is PageEntry.Lost m = absurd (cc)
free-is (PageEntry.Shared set writer) m = absurd (cc)
free-is (PageEntry.Excl holder dirty) m = absurd (cc)
free-is (PageEntry.Moving to mode rest dirty) m = absurd (cc)

-- ---- a page that one has alone

pub excl-same : (a k : ℕ) (x y : Bool) → PageEntry.Excl a x ≡ PageEntry.Excl k y → a ≡ k
excl-same a k x y e = eqb-true a k (ap (λ (l : PageEntry). holds l k) e ∙ eq-eqb k k refl)

pub excl-found : (a : ℕ) (x : Bool) → PageEntry.Excl a x ≢ PageEntry.Lost
excl-found a x e = held-found a (PageEntry.Excl a x) (eq-eqb a a refl) e

pub excl-uses : (a : ℕ) (x : Bool) (e : PageEntry) → e ≡ PageEntry.Excl a x → uses e a ≡ true
excl-uses a x e is = ap (λ (l : PageEntry). uses l a) is ∙ eq-eqb a a refl

pub excl-falls : (i : ℕ) → fallen i (PageEntry.Excl i true) ≡ PageEntry.Lost
excl-falls i = ap (λ (b : Bool). cond b PageEntry.Lost (PageEntry.Excl i true)) (eq-eqb i i refl)

pub excl-stays : (i j : ℕ) → j ≢ i → fallen i (PageEntry.Excl j true) ≡ PageEntry.Excl j true
excl-stays i j ne = ap (λ (b : Bool). cond b PageEntry.Lost (PageEntry.Excl j true)) (ne_eqb j i ne)

-- ---- what rows leave

nowhere_rests : (b : Bool) → passes (nowhere b) ≡ false
nowhere_rests true = refl
nowhere_rests false = refl

pub passes-fallen : (i : ℕ) (e : PageEntry) → passes (fallen i e) ≡ cond (receives e i) false (passes e)
passes-fallen i PageEntry.Free = refl
passes-fallen i PageEntry.Lost = refl
passes-fallen i (PageEntry.Shared set writer) = left (without i set)
  where
    left : (xs : List ℕ) → passes (shared_left i xs writer) ≡ false
    left [] = nowhere_rests (is_some writer)
    left (x ∷ xs) = refl
passes-fallen i (PageEntry.Excl holder dirty) = go (eqb holder i)
  where
    go : (b : Bool) → passes (cond b (nowhere dirty) (PageEntry.Excl holder dirty)) ≡ false
    go true = nowhere_rests dirty
    go false = refl
passes-fallen i (PageEntry.Moving to mode rest dirty) = go (eqb to i)
  where
    left : (xs : List ℕ) → passes (left_with dirty xs) ≡ false
    left [] = nowhere_rests dirty
    left (x ∷ xs) = refl

    go : (b : Bool) → passes (cond b (left_with dirty (without i rest)) (PageEntry.Moving to mode (without i rest) dirty)) ≡ cond b false true
    go true = left (without i rest)
    go false = refl

-- who is left used the page before
pub left-used : (b c : Bool) → cond b false c ≡ true → c ≡ true
left-used true c u = not_both u refl
left-used false c u = u

pub holds-written : (k : ℕ) (e : PageEntry) → holds (written e) k ≡ holds e k
holds-written k PageEntry.Free = refl
holds-written k PageEntry.Lost = refl
holds-written k (PageEntry.Shared set writer) = refl
holds-written k (PageEntry.Excl holder dirty) = refl
holds-written k (PageEntry.Moving to mode rest dirty) = refl

pub uses-written : (k : ℕ) (e : PageEntry) → uses (written e) k ≡ uses e k
uses-written k PageEntry.Free = refl
uses-written k PageEntry.Lost = refl
uses-written k (PageEntry.Shared set writer) = refl
uses-written k (PageEntry.Excl holder dirty) = refl
uses-written k (PageEntry.Moving to mode rest dirty) = refl

pub passes-written : (e : PageEntry) → passes (written e) ≡ passes e
passes-written PageEntry.Free = refl
passes-written PageEntry.Lost = refl
passes-written (PageEntry.Shared set writer) = refl
passes-written (PageEntry.Excl holder dirty) = refl
passes-written (PageEntry.Moving to mode rest dirty) = refl

pub clean-written : (e : PageEntry) → (may_write e || is_lost e) ≡ true → changed (written e) ≡ false
clean-written PageEntry.Free m = refl
clean-written PageEntry.Lost m = refl
clean-written (PageEntry.Shared set writer) m = refl
clean-written (PageEntry.Excl holder dirty) m = refl
clean-written (PageEntry.Moving to mode rest dirty) m = absurd (cc)

only : (b : Bool) → cond b true false ≡ b
only true = refl
only false = refl

pub holds-locked : (i k : ℕ) (mode : Mode) → holds (locked i mode) k ≡ eqb i k
holds-locked i k modes.Shared = only (eqb i k)
holds-locked i k modes.Excl = refl

pub uses-locked : (i k : ℕ) (mode : Mode) → uses (locked i mode) k ≡ eqb i k
uses-locked i k modes.Shared = only (eqb i k)
uses-locked i k modes.Excl = refl

pub rests-locked : (i : ℕ) (mode : Mode) → passes (locked i mode) ≡ false
rests-locked i modes.Shared = refl
rests-locked i modes.Excl = refl

pub clean-locked : (i : ℕ) (mode : Mode) → changed (locked i mode) ≡ false
clean-locked i modes.Shared = refl
clean-locked i modes.Excl = refl

pub holds-raised : (i k : ℕ) (e : PageEntry) → may_raise i e ≡ true → holds (raised i e) k ≡ holds e k
holds-raised i k PageEntry.Free m = refl
holds-raised i k PageEntry.Lost m = refl
holds-raised i k (PageEntry.Shared [] writer) m = absurd (cc)
holds-raised i k (PageEntry.Shared (x ∷ []) writer) m = ap (λ (z : ℕ). eqb z k) (sym (eqb-true x i m)) ∙ sym (only (eqb x k))
holds-raised i k (PageEntry.Shared (x ∷ y ∷ xs) writer) m = absurd (cc)
holds-raised i k (PageEntry.Excl holder dirty) m = refl
holds-raised i k (PageEntry.Moving to mode rest dirty) m = refl

pub uses-raised : (i k : ℕ) (e : PageEntry) → may_raise i e ≡ true → uses (raised i e) k ≡ uses e k
uses-raised i k PageEntry.Free m = refl
uses-raised i k PageEntry.Lost m = refl
uses-raised i k (PageEntry.Shared [] writer) m = absurd (cc)
uses-raised i k (PageEntry.Shared (x ∷ []) writer) m = ap (λ (z : ℕ). eqb z k) (sym (eqb-true x i m)) ∙ sym (only (eqb x k))
uses-raised i k (PageEntry.Shared (x ∷ y ∷ xs) writer) m = absurd (cc)
uses-raised i k (PageEntry.Excl holder dirty) m = refl
uses-raised i k (PageEntry.Moving to mode rest dirty) m = refl

pub passes-raised : (i : ℕ) (e : PageEntry) → may_raise i e ≡ true → passes (raised i e) ≡ passes e
passes-raised i PageEntry.Free m = refl
passes-raised i PageEntry.Lost m = refl
passes-raised i (PageEntry.Shared set writer) m = refl
passes-raised i (PageEntry.Excl holder dirty) m = refl
passes-raised i (PageEntry.Moving to mode rest dirty) m = refl

pub raise-shares : (i : ℕ) (e : PageEntry) → may_raise i e ≡ true → (a : ℕ) (x : Bool) → e ≢ PageEntry.Excl a x
raise-shares i e m a x is = not_both m (ap (may_raise i) is)

pub raise-found : (i : ℕ) (e : PageEntry) → may_raise i e ≡ true → e ≢ PageEntry.Lost
raise-found i e m is = not_both m (ap (may_raise i) is)

pub share-found : (i : ℕ) (e : PageEntry) → may_share i e ≡ true → e ≢ PageEntry.Lost
share-found i e m is = not_both m (ap (may_share i) is)

pub holds-shared : (i k : ℕ) (e : PageEntry) → holds (given_shared i e) k ≡ holds e k
holds-shared i k PageEntry.Free = refl
holds-shared i k PageEntry.Lost = refl
holds-shared i k (PageEntry.Shared set writer) = refl
holds-shared i k (PageEntry.Excl holder dirty) = only (eqb holder k)
holds-shared i k (PageEntry.Moving to mode rest dirty) = refl

pub uses-shared : (i k : ℕ) (e : PageEntry) → may_share i e ≡ true → uses (given_shared i e) k ≡ cond (eqb i k) true (uses e k)
uses-shared i k PageEntry.Free m = absurd (cc)
uses-shared i k PageEntry.Lost m = absurd (cc)
uses-shared i k (PageEntry.Shared set writer) m = refl
uses-shared i k (PageEntry.Excl holder dirty) m = ap (λ (b : Bool). cond (eqb i k) true b) (only (eqb holder k))
uses-shared i k (PageEntry.Moving to mode rest dirty) m = absurd (cc)

pub passes-shared : (i : ℕ) (e : PageEntry) → may_share i e ≡ true → passes (given_shared i e) ≡ true
passes-shared i PageEntry.Free m = absurd (cc)
passes-shared i PageEntry.Lost m = absurd (cc)
passes-shared i (PageEntry.Shared set writer) m = refl
passes-shared i (PageEntry.Excl holder dirty) m = refl
passes-shared i (PageEntry.Moving to mode rest dirty) m = absurd (cc)

-- a page that may be yielded has one holder
pub only-holder : (i : ℕ) (e : PageEntry) → may_yield i e ≡ true → (j : ℕ) × ((k : ℕ) → holds e k ≡ eqb j k)
only-holder i PageEntry.Free m = absurd (cc)
only-holder i PageEntry.Lost m = absurd (cc)
only-holder i (PageEntry.Shared [] writer) m = absurd (cc)
only-holder i (PageEntry.Shared (x ∷ []) writer) m = (x, λ k. only (eqb x k))
only-holder i (PageEntry.Shared (x ∷ y ∷ xs) writer) m = absurd (cc)
only-holder i (PageEntry.Excl holder dirty) m = (holder, λ k. refl)
only-holder i (PageEntry.Moving to mode rest dirty) m = absurd (cc)

pub passes-taken : (e : PageEntry) → passes (taken e) ≡ false
passes-taken PageEntry.Free = refl
passes-taken PageEntry.Lost = refl
passes-taken (PageEntry.Shared set writer) = refl
passes-taken (PageEntry.Excl holder dirty) = refl
passes-taken (PageEntry.Moving to modes.Excl rest dirty) = refl
passes-taken (PageEntry.Moving to modes.Shared rest dirty) = refl

-- who uses a page that moves holds it, or receives it
pub uses-parts : (k : ℕ) (e : PageEntry) → uses e k ≡ cond (receives e k) true (holds e k)
uses-parts k PageEntry.Free = refl
uses-parts k PageEntry.Lost = refl
uses-parts k (PageEntry.Shared set writer) = refl
uses-parts k (PageEntry.Excl holder dirty) = refl
uses-parts k (PageEntry.Moving to mode rest dirty) = refl

-- a holder receives nothing
pub holder-stays : (i : ℕ) (e : PageEntry) → Formed e → holds e i ≡ true → receives e i ≡ false
holder-stays i PageEntry.Free f h = refl
holder-stays i PageEntry.Lost f h = refl
holder-stays i (PageEntry.Shared set writer) f h = refl
holder-stays i (PageEntry.Excl holder dirty) f h = refl
holder-stays i (PageEntry.Moving to mode rest dirty) f h =
    ⊎_elim (λ e. not_both (ap (λ (z : ℕ). has z rest) e ∙ h) f.1) (λ ne. ne_eqb to i ne) (cases_eq to i)

-- one alone receives a page
pub receiver-one : (i k : ℕ) (e : PageEntry) → receives e i ≡ true → receives e k ≡ eqb i k
receiver-one i k PageEntry.Free r = absurd (cc)
receiver-one i k PageEntry.Lost r = absurd (cc)
receiver-one i k (PageEntry.Shared set writer) r = absurd (cc)
receiver-one i k (PageEntry.Excl holder dirty) r = absurd (cc)
receiver-one i k (PageEntry.Moving to mode rest dirty) r = ap (λ (z : ℕ). eqb z k) (eqb-true to i r)

pub receiver-passes : (i : ℕ) (e : PageEntry) → receives e i ≡ true → passes e ≡ true
receiver-passes i PageEntry.Free r = absurd (cc)
receiver-passes i PageEntry.Lost r = absurd (cc)
receiver-passes i (PageEntry.Shared set writer) r = absurd (cc)
receiver-passes i (PageEntry.Excl holder dirty) r = absurd (cc)
receiver-passes i (PageEntry.Moving to mode rest dirty) r = refl
