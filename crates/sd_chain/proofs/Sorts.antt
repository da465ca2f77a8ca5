-- A sort by LSN of a page's records gives the chain, as far as it counts.
use Rattle.std.proofs.Common.{◌≡◌, ◌≢◌, ⊎_elim, ℕ, ◌<◌, ◌≤◌, Bool, true, false, cond, eqb, ltb, List, [], ◌∷◌, refl, sym, ap, ap₂, ◌∙◌, ◌+◌, subst, arith, eq-eqb, ne_eqb, ltb-true, ltb-false, lt-ltb}
use Rattle.std.specs.Prelude.{All, IsPermutation, filter, sum_by}
use Rattle.std.proofs.lemmas.Bool.{cases_Bool, cases_eq}
use Rattle.sd_logrec.specs.View.{Rec}
use Rattle.sd_chain.specs.Records.{Each}
use Rattle.sd_chain.proofs.Lists.{Each-weaker, Each-both, Each-filter, Each-inserted, Each-sorted, filter-cons, filter-skip}
use Rattle.std.proofs.lemmas.List.Sums.{sum_by-cons}
use Rattle.sd_chain.proofs.Above.{Each-sorted_back, Each-filter_back}
use Rattle.std.proofs.lemmas.List.Sorted.{sum_by-IsPermutation, All-permutation}
use Rattle.std.proofs.lemmas.List.Elements.{All-nil, All-cons, All-head, All-tail}
use Rattle.sd_chain.specs.Storage.{sorted, inserted}

abbrev pub Rising : List Rec → Type 0
Rising [] = Unit {0}
Rising (x ∷ xs) = Each (λ z. x.lsn < z.lsn) xs × Rising xs

abbrev pub Slow : List Rec → Type 0
Slow [] = Unit {0}
Slow (x ∷ xs) = Each (λ z. x.lsn ≤ z.lsn) xs × Slow xs

-- what holds of each of the one holds of each of the other
abbrev Within : List Rec → List Rec → Type 1
Within xs ys = (P : Rec → Type 0) → Each P ys → Each P xs

rising_same : (xs ys : List Rec) → Rising xs → Rising ys → Within xs ys → Within ys xs → xs ≡ ys
rising_same [] [] a b f g = refl
rising_same [] (y ∷ ys) a b f g = absurd ((g (λ z. ⊥) tt).0)
rising_same (x ∷ xs) [] a b f g = absurd ((f (λ z. ⊥) tt).0)
rising_same (x ∷ xs) (y ∷ ys) a b f g =
    let low = (f (λ z. y.lsn ≤ z.lsn)
    (omega arith, Each-weaker (λ z. y.lsn < z.lsn) (λ z. y.lsn ≤ z.lsn) (λ z lt. omega arith) ys b.0)).0 in
    let high = (g (λ z. x.lsn ≤ z.lsn)
    (omega arith, Each-weaker (λ z. x.lsn < z.lsn) (λ z. x.lsn ≤ z.lsn) (λ z lt. omega arith) xs a.0)).0 in
    let lsns : x.lsn ≡ y.lsn = omega arith in
    let head : x ≡ y = (f (λ z. z.lsn ≡ y.lsn → z ≡ y) (
      (λ e. refl),
      Each-weaker (λ z. y.lsn < z.lsn) (λ z. z.lsn ≡ y.lsn → z ≡ y)
          (λ z lt e. absurd (omega arith)) ys b.0,
    )).0 lsns in
    ap₂ (λ (z : Rec) (l : List Rec). z ∷ l) head (rising_same xs ys a.1 b.1
    (λ P h. Each-both (λ z. x.lsn < z.lsn) (λ z. z.lsn ≢ y.lsn → P z) P (λ z lt k. k (λ e. absurd (omega arith))) xs a.0
    (f (λ z. z.lsn ≢ y.lsn → P z) ((λ ne. absurd (ne refl)), Each-weaker P (λ z. z.lsn ≢ y.lsn → P z) (λ z p ne. p) ys h)).1)
    (λ P h. Each-both (λ z. y.lsn < z.lsn) (λ z. z.lsn ≢ x.lsn → P z) P (λ z lt k. k (λ e. absurd (omega arith))) ys b.0
    (g (λ z. z.lsn ≢ x.lsn → P z) ((λ ne. absurd (ne refl)), Each-weaker P (λ z. z.lsn ≢ x.lsn → P z) (λ z p ne. p) xs h)).1))

inserted_slow : (x : Rec) (xs : List Rec) → Slow xs → Slow (inserted x xs)
inserted_slow x [] s = (tt, tt)
inserted_slow x (y ∷ ys) s = go (inserted_slow x ys s.1) (ltb x.lsn y.lsn) refl
  where
    go : Slow (inserted x ys) → (b : Bool) → ltb x.lsn y.lsn ≡ b → Slow (cond b (x ∷ y ∷ ys) (y ∷ inserted x ys))
    go ih true is = let lt = ltb-true x.lsn y.lsn is in
        ((omega arith, Each-weaker (λ z. y.lsn ≤ z.lsn) (λ z. x.lsn ≤ z.lsn) (λ z le. omega arith) ys s.0), s)
    go ih false is = let ge = ltb-false x.lsn y.lsn is in (Each-inserted (λ z. y.lsn ≤ z.lsn) x ys ge s.0, ih)

pub sorted_slow : (xs : List Rec) → Slow (sorted xs)
sorted_slow [] = tt
sorted_slow (x ∷ xs) = inserted_slow x (sorted xs) (sorted_slow xs)

-- one where the LSN is n
pub one : ℕ → Rec → ℕ
one n x = cond (eqb x.lsn n) 1 0

pub total : (Rec → ℕ) → List Rec → ℕ
total f [] = 0
total f (x ∷ xs) = f x + total f xs

pub total_is : (f : Rec → ℕ) (xs : List Rec) → total f xs ≡ sum_by f xs
unfolding total
total_is f [] = refl
total_is f (x ∷ xs) = ap (λ (n : ℕ). f x + n) (total_is f xs) ∙ sym (sum_by-cons f x xs)

total-inserted : (f : Rec → ℕ) (x : Rec) (xs : List Rec) → total f (inserted x xs) ≡ f x + total f xs
unfolding total
total-inserted f x [] = refl
total-inserted f x (y ∷ ys) = go (total-inserted f x ys) (ltb x.lsn y.lsn)
  where
    go : total f (inserted x ys) ≡ f x + total f ys → (b : Bool)
        → total f (cond b (x ∷ y ∷ ys) (y ∷ inserted x ys)) ≡ f x + (f y + total f ys)
    go ih true = refl
    go ih false = omega (arith, ih)

pub total-sorted : (f : Rec → ℕ) (xs : List Rec) → total f (sorted xs) ≡ total f xs
unfolding total
total-sorted f [] = refl
total-sorted f (x ∷ xs) = total-inserted f x (sorted xs) ∙ ap (λ (n : ℕ). f x + n) (total-sorted f xs)

-- with at most one record of each LSN above the floor, what stands above it rises
none_of : (n : ℕ) (xs : List Rec) → total (one n) xs ≡ 0 → Each (λ z. z.lsn ≢ n) xs
unfolding total one
none_of n [] e = tt
none_of n (x ∷ xs) e = go (eqb x.lsn n) refl (none_of n xs)
  where
    go : (b : Bool) → eqb x.lsn n ≡ b → (total (one n) xs ≡ 0 → Each (λ z. z.lsn ≢ n) xs) → Each (λ z. z.lsn ≢ n) (x ∷ xs)
    go true is ih = absurd
        (let f : cond {A = ℕ} (eqb x.lsn n) 1 0 ≡ 1 = ap (λ (b : Bool). cond {A = ℕ} b 1 0) is in omega (arith, e, f))
    go false is ih = let f : cond {A = ℕ} (eqb x.lsn n) 1 0 ≡ 0 = ap (λ (b : Bool). cond {A = ℕ} b 1 0) is in
        ((λ g. let c = sym (eq-eqb x.lsn n g) ∙ is in absurd (cc)), ih (omega (arith, e, f)))

abbrev pub high : ℕ → Rec → Bool
high floor x = ltb floor x.lsn

pub rising_of : (floor : ℕ) (xs : List Rec) → Slow xs → ((n : ℕ) → floor < n → total (one n) xs ≤ 1)
    → Rising (filter (high floor) xs)
unfolding total one
rising_of floor [] s few = tt
rising_of floor (x ∷ xs) s few =
    let ih = rising_of floor xs s.1 (λ n lt. let m = few n lt in omega arith) in
    ⊎_elim
    (λ is. let lt = ltb-true floor x.lsn is in subst Rising (sym (filter-cons (high floor) x xs is)) (
      Each-filter (λ z. x.lsn < z.lsn) (high floor) xs
          (Each-both (λ z. x.lsn ≤ z.lsn) (λ z. z.lsn ≢ x.lsn) (λ z. high floor z ≡ true → x.lsn < z.lsn)
          (λ z le ne it. omega arith) xs s.0
          (none_of x.lsn xs (let f : cond {A = ℕ} (eqb x.lsn x.lsn) 1 0 ≡ 1 =
          ap (λ (b : Bool). cond {A = ℕ} b 1 0) (eq-eqb x.lsn x.lsn refl) in let m = few x.lsn lt in omega (arith, f, m)))),
      ih,
    ))
    (λ is. subst Rising (sym (filter-skip (high floor) x xs is)) ih)
    (cases_Bool (high floor x))

-- and the other way round
none_at_lsn : (n : ℕ) (xs : List Rec) → Each (λ z. z.lsn ≢ n) xs → total (one n) xs ≡ 0
unfolding total one
none_at_lsn n [] a = refl
none_at_lsn n (x ∷ xs) a = let ih = none_at_lsn n xs a.1 in
    let f : cond {A = ℕ} (eqb x.lsn n) 1 0 ≡ 0 = ap (λ (b : Bool). cond {A = ℕ} b 1 0) (ne_eqb x.lsn n a.0) in
    omega (arith, ih, f)

pub few_of : (floor n : ℕ) (xs : List Rec) → floor < n → Rising (filter (high floor) xs) → total (one n) xs ≤ 1
unfolding total one
few_of floor n [] lt r = omega arith
few_of floor n (x ∷ xs) lt r = ⊎_elim
    (λ is. let r' : Rising (x ∷ filter (high floor) xs) = subst Rising (filter-cons (high floor) x xs is) r in ⊎_elim
    (λ e. let f : cond {A = ℕ} (eqb x.lsn n) 1 0 ≡ 1 = ap (λ (b : Bool). cond {A = ℕ} b 1 0) (eq-eqb x.lsn n e) in
    let z = none_at_lsn n xs
    (Each-weaker (λ z. high floor z ≡ true → x.lsn < z.lsn) (λ z. z.lsn ≢ n)
    (λ z h g. let m = h (lt-ltb floor z.lsn (omega arith)) in absurd (omega arith)) xs
    (Each-filter_back (λ z. x.lsn < z.lsn) (high floor) xs r'.0)) in
    omega (arith, f, z))
    (λ ne. let f : cond {A = ℕ} (eqb x.lsn n) 1 0 ≡ 0 = ap (λ (b : Bool). cond {A = ℕ} b 1 0) (ne_eqb x.lsn n ne) in
    let ih = few_of floor n xs lt r'.1 in omega (arith, f, ih))
    (cases_eq x.lsn n))
    (λ is. let low = ltb-false floor x.lsn is in
    let f : cond {A = ℕ} (eqb x.lsn n) 1 0 ≡ 0 =
    ap (λ (b : Bool). cond {A = ℕ} b 1 0) (ne_eqb x.lsn n (λ e. absurd (omega arith))) in
    let ih = few_of floor n xs lt (subst Rising (filter-skip (high floor) x xs is) r) in omega (arith, f, ih))
    (cases_Bool (high floor x))

-- `All` of std and `Each`
pub Each-from_all : (P : Rec → Type 0) (xs : List Rec) → All P xs → Each P xs
Each-from_all P [] a = tt
Each-from_all P (x ∷ xs) a = (All-head P x xs a, Each-from_all P xs (All-tail P x xs a))

all_from_each : (P : Rec → Type 0) (xs : List Rec) → Each P xs → All P xs
all_from_each P [] a = All-nil P
all_from_each P (x ∷ xs) a = All-cons P x xs a.0 (all_from_each P xs a.1)

-- A list in order with the same records: where its part above the floor rises, it is the chain's.
pub sort_is : (floor : ℕ) (xs c : List Rec) → IsPermutation xs c → IsPermutation c xs → Slow c → Rising (filter (high floor) c)
    → filter (high floor) c ≡ filter (high floor) (sorted xs)
sort_is floor xs c perm back slow rises =
    rising_same (filter (high floor) c) (filter (high floor) (sorted xs)) rises
    (rising_of floor (sorted xs) (sorted_slow xs)
    (λ n lt. let a = few_of floor n c lt rises in let b = total-sorted (one n) xs in let d = total_is (one n) xs in
    let e = total_is (one n) c in let f = sum_by-IsPermutation (one n) xs c perm in omega arith))
    (λ P h. Each-filter P (high floor) c
    (Each-from_all (λ x. high floor x ≡ true → P x) c
    (All-permutation (λ x. high floor x ≡ true → P x) xs c perm
    (all_from_each (λ x. high floor x ≡ true → P x) xs
    (Each-sorted_back (λ x. high floor x ≡ true → P x) xs (Each-filter_back P (high floor) (sorted xs) h))))))
    (λ P h. Each-filter P (high floor) (sorted xs)
    (Each-sorted (λ x. high floor x ≡ true → P x) xs
    (Each-from_all (λ x. high floor x ≡ true → P x) xs
    (All-permutation (λ x. high floor x ≡ true → P x) c xs back
    (all_from_each (λ x. high floor x ≡ true → P x) c (Each-filter_back P (high floor) c h))))))
