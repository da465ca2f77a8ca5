-- Counts, and one event of others behind another. For the end of a recovery.
use Rattle.std.proofs.Common.{◌≡◌, ◌≢◌, inl, inr, ⊎_elim, ℕ, zero, suc, ◌<◌, ◌≤◌, Bool, true, false, refl, sym, ap, ◌∙◌, arith}
use Rattle.std.proofs.lemmas.Bool.{cases_eq}
use Rattle.sd_base.specs.Standing.{active_as}
use Rattle.sd_state.specs.Parts.{Parts, is_active, status_at}
use Rattle.sd_fits.specs.Resting.{LeavesRest, active_count, count_to, one_if}

pub count-same : (f g : ℕ → Bool) (n : ℕ) → ((d : ℕ) → d < n → g d ≡ f d) → count_to g n ≡ count_to f n
unfolding count_to
count-same f g zero same = refl
count-same f g (suc n) same =
    let here = ap one_if (same n (omega arith)) in
    let rest = count-same f g n (λ d lt. same d (omega (arith, lt))) in omega (arith, here, rest)

pub count-one : (f g : ℕ → Bool) (k n : ℕ) → k < n → f k ≡ true → g k ≡ false → ((d : ℕ) → d ≢ k → g d ≡ f d) → suc (count_to g n) ≡ count_to f n
unfolding count_to
count-one f g k zero lt on off same = absurd (omega (arith, lt))
count-one f g k (suc n) lt on off same = ⊎_elim
    (λ e. let is = ap one_if (ap f e ∙ on) in let isnt = ap one_if (ap g e ∙ off) in
    let rest = count-same f g n (λ d less. same d (λ z. omega (arith, less, z, e))) in omega (arith, is, isnt, rest))
    (λ ne. let here = ap one_if (same n ne) in
    let rest = count-one f g k n (omega (arith, lt, ne)) on off same in omega (arith, here, rest))
    (cases_eq n k)

pub most-one : (b : Bool) → one_if b ≤ 1
most-one true = omega arith
most-one false = omega arith

less-one : (a b : Bool) → (b ≡ true → a ≡ true) → one_if b ≤ one_if a
less-one true true f = omega arith
less-one true false f = omega arith
less-one false true f = let clash : false ≡ true = f refl in absurd (cc)
less-one false false f = omega arith

pub count-most : (f : ℕ → Bool) (n : ℕ) → count_to f n ≤ n
unfolding count_to
count-most f zero = omega arith
count-most f (suc n) = let rest = count-most f n in let here = most-one (f n) in omega (arith, rest, here)

pub count-less : (f g : ℕ → Bool) (n : ℕ) → ((d : ℕ) → g d ≡ true → f d ≡ true) → count_to g n ≤ count_to f n
unfolding count_to
count-less f g zero less = omega arith
count-less f g (suc n) less = let rest = count-less f g n less in let here = less-one (f n) (g n) (less n) in omega (arith, rest, here)

pub active-same : (old new : Parts) → ((j : ℕ) → status_at new j ≡ status_at old j) → active_count new ≤ active_count old
active-same old new same = count-less (is_active old) (is_active new) 9 (λ j on. sym (ap (active_as j) (same j)) ∙ on)

-- one such event behind another
pub rests-then : (a b c : Parts) → LeavesRest a b → LeavesRest b c → LeavesRest a c
rests-then a b c first second = record {
  recovered = λ i by is. let late = second.recovered i by is in let early = first.recovered i by late.0 in
      (early.0, late.1 ∙ early.1, late.2 ∙ early.2);
  others = ⊎_elim
      (λ fell. ⊎_elim
      (λ again. inl (omega (arith, fell, again)))
      (λ same. let le = active-same b c same.0 in inl (omega (arith, fell, le)))
      second.others)
      (λ kept. ⊎_elim
      (λ fell. let le = active-same a b kept.0 in inl (omega (arith, fell, le)))
      (λ same. inr ((λ j. same.0 j ∙ kept.0 j), (λ d on. kept.1 d (same.1 d on)), (λ p on. kept.2 p (same.2 p on))))
      second.others)
      first.others;
}

-- what leaves all as it was
pub rests-same : (c : Parts) → LeavesRest c c
rests-same c = record {
  recovered = λ i by is. (is, refl, refl);
  others = inr ((λ j. refl), (λ d on. on), (λ p on. on));
}
