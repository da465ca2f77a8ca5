-- Who is in a set with one member less or more. It serves the laws.
use Rattle.std.proofs.Common.{◌≡◌, ◌≢◌, ⊎_elim, ℕ, Bool, true, false, cond, eqb, List, [], ◌∷◌, refl, sym, ap, ◌∙◌, subst, eq-eqb, ne_eqb, eqb-true}
use Rattle.std.specs.Prelude.{ltb}
use Rattle.std.proofs.lemmas.Bool.{cases_eq}
use Rattle.sd_base.specs.Sets.{has, without, with_member}

pub not_both : {A : Type 0} {b : Bool} → b ≡ true → b ≡ false → A
not_both t f = absurd (cc)

pub has-without : (k i : ℕ) (xs : List ℕ) → has k (without i xs) ≡ cond (eqb i k) false (has k xs)
has-without k i [] = go (eqb i k)
  where
    go : (b : Bool) → false ≡ cond b false false
    go true = refl
    go false = refl
has-without k i (x ∷ xs) = ⊎_elim (same (has-without k i xs)) (other (has-without k i xs)) (cases_eq x i)
  where
    one : (b c : Bool) → cond b false c ≡ cond b false (cond b true c)
    one true c = refl
    one false c = refl

    two : (b c : Bool) → (c ≡ true → b ≡ false) → (d : Bool) → cond c true (cond b false d) ≡ cond b false (cond c true d)
    two true true f d = not_both refl (f refl)
    two true false f d = refl
    two false true f d = refl
    two false false f d = refl

    same : has k (without i xs) ≡ cond (eqb i k) false (has k xs) → x ≡ i → has k (without i (x ∷ xs)) ≡ cond (eqb i k) false (has k (x ∷ xs))
    same ih e = ap (λ (b : Bool). has k (cond b (without i xs) (x ∷ without i xs))) (eq-eqb x i e) ∙ ih ∙ one (eqb i k) (has k xs) ∙ ap (λ (z : ℕ). cond (eqb i k) false (cond (eqb z k) true (has k xs))) (sym e)

    other : has k (without i xs) ≡ cond (eqb i k) false (has k xs) → x ≢ i → has k (without i (x ∷ xs)) ≡ cond (eqb i k) false (has k (x ∷ xs))
    other ih ne = ap (λ (b : Bool). has k (cond b (without i xs) (x ∷ without i xs))) (ne_eqb x i ne) ∙ ap (λ (b : Bool). cond (eqb x k) true b) ih ∙ two (eqb i k) (eqb x k) (λ is. ne_eqb i k (λ e. ne (eqb-true x k is ∙ sym e))) (has k xs)

pub has-with_member : (k i : ℕ) (xs : List ℕ) → has k (with_member i xs) ≡ cond (eqb i k) true (has k xs)
has-with_member k i [] = refl
has-with_member k i (x ∷ xs) = ⊎_elim there (λ ne. go (eqb x i) (ltb i x) (ne_eqb x i ne) (has-with_member k i xs)) (cases_eq x i)
  where
    twice : (b c : Bool) → cond b true c ≡ cond b true (cond b true c)
    twice true c = refl
    twice false c = refl

    swap : (a b c : Bool) → cond a true (cond b true c) ≡ cond b true (cond a true c)
    swap true true c = refl
    swap true false c = refl
    swap false true c = refl
    swap false false c = refl

    there : x ≡ i → has k (with_member i (x ∷ xs)) ≡ cond (eqb i k) true (has k (x ∷ xs))
    there e = ap (λ (b : Bool). has k (cond b (x ∷ xs) (cond (ltb i x) (i ∷ x ∷ xs) (x ∷ with_member i xs)))) (eq-eqb x i e) ∙ twice (eqb x k) (has k xs) ∙ ap (λ (z : ℕ). cond (eqb z k) true (has k (x ∷ xs))) e

    go : (b low : Bool) → b ≡ false → has k (with_member i xs) ≡ cond (eqb i k) true (has k xs) → has k (cond b (x ∷ xs) (cond low (i ∷ x ∷ xs) (x ∷ with_member i xs))) ≡ cond (eqb i k) true (has k (x ∷ xs))
    go true low e ih = not_both refl e
    go false true e ih = refl
    go false false e ih = ap (λ (b : Bool). cond (eqb x k) true b) ih ∙ swap (eqb x k) (eqb i k) (has k xs)

-- what is true of i alone is true of none, once i is out
pub gone : (i j k : ℕ) → j ≡ i → false ≡ cond (eqb i k) false (eqb j k)
gone i j k e = go (eqb i k) ∙ ap (λ (z : ℕ). cond (eqb i k) false (eqb z k)) (sym e)
  where
    go : (b : Bool) → false ≡ cond b false b
    go true = refl
    go false = refl

-- what is false of i stays as it is, once i is out
pub skip : (i k : ℕ) (b : Bool) → (i ≡ k → b ≡ false) → b ≡ cond (eqb i k) false b
skip i k b f = ⊎_elim
    (λ e. f e ∙ sym (ap (λ (c : Bool). cond c false b) (eq-eqb i k e)))
    (λ ne. sym (ap (λ (c : Bool). cond c false b) (ne_eqb i k ne)))
    (cases_eq i k)

pub never : (b : Bool) → false ≡ cond b false false
never true = refl
never false = refl

-- a choice by a test of two numbers, case by case
pub by_test : {X : Type 0} (P : X → Type 0) (j i : ℕ) (x y : X) → (j ≡ i → P x) → (j ≢ i → P y) → P (cond (eqb j i) x y)
by_test P j i x y f g = ⊎_elim (λ e. subst (λ (b : Bool). P (cond b x y)) (sym (eq-eqb j i e)) (f e)) (λ ne. subst (λ (b : Bool). P (cond b x y)) (sym (ne_eqb j i ne)) (g ne)) (cases_eq j i)
