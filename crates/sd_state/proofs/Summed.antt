-- Sums over the instances, and up to the greatest number. For the sums of a complex, and for the tests of LSNs.
use Rattle.std.proofs.Common.{◌≡◌, ◌≢◌, ⊎_elim, ℕ, zero, suc, ◌+◌, ◌-◌, ◌^◌, ◌≤◌, ◌↔◌, Bool, true, false, cond, eqb, min, nat_lt, refl, sym, ap, subst, arith}
use Rattle.std.specs.Prelude.{IsTrue}
use Rattle.std.proofs.lemmas.Bool.{cases_eq, le-leb, leb-true}
use Rattle.sd_state.specs.Sums.{most_to, sum_to}

pub sum-same : (f g : ℕ → ℕ) (n : ℕ) → ((j : ℕ) → 1 ≤ j → j ≤ n → f j ≡ g j) → sum_to f n ≡ sum_to g n
sum-same f g zero same = refl
sum-same f g (suc n) same =
    let less = sum-same f g n (λ j lo hi. same j lo (omega (arith, hi))) in
    let last = same (suc n) (omega arith) (omega arith) in omega (arith, less, last)

pub most-at : (f : ℕ → ℕ) (n j : ℕ) → 1 ≤ j → j ≤ n → f j ≤ most_to f n
most-at f zero j lo hi = absurd (omega (arith, lo, hi))
most-at f (suc n) j lo hi = ⊎_elim
    (λ e. let same = ap f e in omega (arith, same))
    (λ ne. let le = most-at f n j lo (omega (arith, hi, ne)) in omega (arith, le))
    (cases_eq j (suc n))

-- where one of them has so many more; below that one none has
pub sum-near : (f g : ℕ → ℕ) (i more n : ℕ) → ((j : ℕ) → j ≢ i → f j ≤ g j) → f i ≤ g i + more
    → (sum_to f n ≤ sum_to g n + more) × (suc n ≤ i → sum_to f n ≤ sum_to g n)
sum-near f g i more zero others own = (omega arith, λ below. omega arith)
sum-near f g i more (suc n) others own =
    let near = sum-near f g i more n others own in ⊎_elim
    (λ e. let less = near.1 (omega (arith, e)) in let last = subst (λ (j : ℕ). f j ≤ g j + more) (sym e) own in
    (omega (arith, less, last), λ below. omega (arith, below, e)))
    (λ ne. let most = near.0 in let last = others (suc n) ne in
    (omega (arith, most, last), λ below. let less = near.1 (omega (arith, below)) in omega (arith, less, last)))
    (cases_eq (suc n) i)

one-more : (f : ℕ → ℕ) (n k : ℕ) → k ≡ suc n → sum_to f k ≡ sum_to f n + f k
one-more f n k e = subst (λ (j : ℕ). sum_to f j ≡ sum_to f n + f j) (sym e) refl

-- one more is added, up to the greatest number
pub next-sum : (f : ℕ → ℕ) (n sum owes next most : ℕ) → sum ≡ min (sum_to f n) most → owes ≡ min (f (n + 1)) most
    → next ≡ min (sum + owes) most → next ≡ min (sum_to f (n + 1)) most
next-sum f n sum owes next most a b is = let e = one-more f n (n + 1) (omega arith) in omega (arith, a, b, is, e)

cond-capped : (b : Bool) (own x most : ℕ) → min (cond b (min own most) x) most ≡ min (cond b own x) most
cond-capped true own x most = omega arith
cond-capped false own x most = refl

-- one of them may be cut at the greatest number
pub sum-capped : (f : ℕ → ℕ) (i own most n : ℕ)
    → min (sum_to (λ j. cond (eqb j i) (min own most) (f j)) n) most ≡ min (sum_to (λ j. cond (eqb j i) own (f j)) n) most
sum-capped f i own most zero = refl
sum-capped f i own most (suc n) =
    let less = sum-capped f i own most n in
    let last = cond-capped (eqb (suc n) i) own (f (suc n)) most in omega (arith, less, last)

-- sums up to the greatest number tell whether they pass a smaller one
pub passes : (great sum a owed b : ℕ) → a ≡ min (great + 1) (2 ^ 64 - 1) → owed ≡ min sum (2 ^ 64 - 1) → b ≡ min (a + owed) (2 ^ 64 - 1)
    → IsTrue (nat_lt 4611686018427387903 b) ↔ (2 ^ 62 ≤ great + 1 + sum)
passes great sum a owed b ea eo eb = (
  λ h. let lt = leb-true (suc 4611686018427387903) b h in omega (arith, lt, ea, eo, eb),
  λ le. le-leb (suc 4611686018427387903) b (omega (arith, le, ea, eo, eb)),
)
