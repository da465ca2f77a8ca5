-- Who holds and who uses a page after a fall. It serves the laws.
use Rattle.std.proofs.Common.{◌≡◌, ℕ, Bool, true, false, cond, eqb, List, [], ◌∷◌, refl, sym, ap, ◌∙◌, ne_eqb, eqb-true}
use Rattle.std.specs.Prelude.{is_some}
use Rattle.sd_base.specs.declared.place.Mode.TheVariants as modes
use Rattle.sd_base.specs.Sets.{has, without}
use Rattle.sd_pagelock.specs.Places.{PageEntry, holds, uses, Formed}
use Rattle.sd_pagelock.specs.Rows.{fallen, nowhere, left_with, shared_left, taken}
use Rattle.sd_pagelock.proofs.Members.{not_both, has-without, has-with_member, gone, skip, never, by_test}

nobody_holds : (k : ℕ) (b : Bool) → holds (nowhere b) k ≡ false
nobody_holds k true = refl
nobody_holds k false = refl

nobody_uses : (k : ℕ) (b : Bool) → uses (nowhere b) k ≡ false
nobody_uses k true = refl
nobody_uses k false = refl

pub holds-fallen : (i k : ℕ) (e : PageEntry) → holds (fallen i e) k ≡ cond (eqb i k) false (holds e k)
holds-fallen i k PageEntry.Free = never (eqb i k)
holds-fallen i k PageEntry.Lost = never (eqb i k)
holds-fallen i k (PageEntry.Shared set writer) = left (without i set) ∙ has-without k i set
  where
    left : (xs : List ℕ) → holds (shared_left i xs writer) k ≡ has k xs
    left [] = nobody_holds k (is_some writer)
    left (x ∷ xs) = refl
holds-fallen i k (PageEntry.Excl holder dirty) = by_test (λ (e : PageEntry). holds e k ≡ cond (eqb i k) false (eqb holder k)) holder i (nowhere dirty) (PageEntry.Excl holder dirty)
    (λ e. nobody_holds k dirty ∙ gone i holder k e)
    (λ ne. skip i k (eqb holder k) (λ e. ne_eqb holder k (λ f. ne (f ∙ sym e))))
holds-fallen i k (PageEntry.Moving to mode rest dirty) = by_test (λ (e : PageEntry). holds e k ≡ cond (eqb i k) false (has k rest)) to i (left_with dirty (without i rest)) (PageEntry.Moving to mode (without i rest) dirty)
    (λ e. left (without i rest) ∙ has-without k i rest)
    (λ ne. has-without k i rest)
  where
    left : (xs : List ℕ) → holds (left_with dirty xs) k ≡ has k xs
    left [] = nobody_holds k dirty
    left (x ∷ xs) = refl

pub uses-fallen : (i k : ℕ) (e : PageEntry) → uses (fallen i e) k ≡ cond (eqb i k) false (uses e k)
uses-fallen i k PageEntry.Free = never (eqb i k)
uses-fallen i k PageEntry.Lost = never (eqb i k)
uses-fallen i k (PageEntry.Shared set writer) = left (without i set) ∙ has-without k i set
  where
    left : (xs : List ℕ) → uses (shared_left i xs writer) k ≡ has k xs
    left [] = nobody_uses k (is_some writer)
    left (x ∷ xs) = refl
uses-fallen i k (PageEntry.Excl holder dirty) = by_test (λ (e : PageEntry). uses e k ≡ cond (eqb i k) false (eqb holder k)) holder i (nowhere dirty) (PageEntry.Excl holder dirty)
    (λ e. nobody_uses k dirty ∙ gone i holder k e)
    (λ ne. skip i k (eqb holder k) (λ e. ne_eqb holder k (λ f. ne (f ∙ sym e))))
uses-fallen i k (PageEntry.Moving to mode rest dirty) = by_test (λ (e : PageEntry). uses e k ≡ cond (eqb i k) false (cond (eqb to k) true (has k rest))) to i (left_with dirty (without i rest)) (PageEntry.Moving to mode (without i rest) dirty)
    (λ e. left (without i rest) ∙ has-without k i rest ∙ once (eqb i k) (has k rest) ∙ ap (λ (z : ℕ). cond (eqb i k) false (cond (eqb z k) true (has k rest))) (sym e))
    (λ ne. ap (λ (b : Bool). cond (eqb to k) true b) (has-without k i rest) ∙ apart (eqb to k) (eqb i k) (has k rest) (λ is. ne_eqb i k (λ e. ne (eqb-true to k is ∙ sym e))))
  where
    left : (xs : List ℕ) → uses (left_with dirty xs) k ≡ has k xs
    left [] = nobody_uses k dirty
    left (x ∷ xs) = refl

    once : (b c : Bool) → cond b false c ≡ cond b false (cond b true c)
    once true c = refl
    once false c = refl

    apart : (a b c : Bool) → (a ≡ true → b ≡ false) → cond a true (cond b false c) ≡ cond b false (cond a true c)
    apart true true c f = not_both refl (f refl)
    apart true false c f = refl
    apart false true c f = refl
    apart false false c f = refl

-- the receiver and the others hold what it took
pub holds-taken : (k : ℕ) (e : PageEntry) → Formed e → holds (taken e) k ≡ uses e k
holds-taken k PageEntry.Free f = refl
holds-taken k PageEntry.Lost f = refl
holds-taken k (PageEntry.Shared set writer) f = refl
holds-taken k (PageEntry.Excl holder dirty) f = refl
holds-taken k (PageEntry.Moving to modes.Excl rest dirty) f = alone (eqb to k) ∙ ap (λ (xs : List ℕ). cond (eqb to k) true (has k xs)) (sym (f.0 refl))
  where
    alone : (b : Bool) → b ≡ cond b true false
    alone true = refl
    alone false = refl
holds-taken k (PageEntry.Moving to modes.Shared rest dirty) f = has-with_member k to rest

pub uses-taken : (k : ℕ) (e : PageEntry) → Formed e → uses (taken e) k ≡ uses e k
uses-taken k PageEntry.Free f = refl
uses-taken k PageEntry.Lost f = refl
uses-taken k (PageEntry.Shared set writer) f = refl
uses-taken k (PageEntry.Excl holder dirty) f = refl
uses-taken k (PageEntry.Moving to modes.Excl rest dirty) f = alone (eqb to k) ∙ ap (λ (xs : List ℕ). cond (eqb to k) true (has k xs)) (sym (f.0 refl))
  where
    alone : (b : Bool) → b ≡ cond b true false
    alone true = refl
    alone false = refl
uses-taken k (PageEntry.Moving to modes.Shared rest dirty) f = has-with_member k to rest
