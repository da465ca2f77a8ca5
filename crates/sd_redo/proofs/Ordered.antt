-- Records of all logs by LSN are the chain of a page where LSNs rise in each log. It serves the goals of change.rt.
use Rattle.std.proofs.Common.{◌≡◌, ⊎_elim, ℕ, zero, suc, ◌<◌, ◌≤◌, Bool, true, false, cond, eqb, ltb, List, [], ◌∷◌, ◌++◌, refl, sym, ap, ap₂, ◌∙◌, arith, eq-eqb, ltb-true, ltb-false, ne_eqb}
use Rattle.std.specs.Prelude.{filter}
use Rattle.std.proofs.lemmas.Bool.{cases_Bool, eqb-true}
use Rattle.std.proofs.lemmas.List.{append-nil, append_assoc}
use Rattle.std.proofs.lemmas.List.Elements.{filter-append}
use Rattle.sd_logrec.specs.View.{Rec}
use Rattle.sd_chain.specs.Storage.{all_of, inserted, sorted}
use Rattle.sd_chain.specs.Records.{Each}
use Rattle.sd_chain.proofs.Lists.{Each-filter, Each-weaker, cond_both, filter-cons, filter-skip}
use Rattle.sd_chain.proofs.Sorts.{Slow, sorted_slow}
use Rattle.sd_redo.specs.Changes.{Rises, in_turn}
use Rattle.sd_redo.proofs.Filters.{filters_swap}

-- the records of one LSN
abbrev pub at_lsn : ℕ → Rec → Bool
at_lsn n x = eqb x.lsn n

abbrev pub recs_at : ℕ → List Rec → List Rec
recs_at n xs = filter (at_lsn n) xs

none_above : (n : ℕ) (xs : List Rec) → Each (λ z. n < z.lsn) xs → recs_at n xs ≡ []
none_above n [] a = refl
none_above n (x ∷ xs) a = filter-skip (at_lsn n) x xs (ne_eqb x.lsn n (λ e. absurd (omega (arith, a.0)))) ∙ none_above n xs a.1

one_more : (b : Bool) (y : Rec) (xs ys zs : List Rec) → xs ≡ ys ++ zs → cond b (y ∷ xs) xs ≡ cond b (y ∷ ys) ys ++ zs
one_more true y xs ys zs e = ap (λ (l : List Rec). y ∷ l) e
one_more false y xs ys zs e = e

-- ---- a sorted list by LSNs

recs_at-inserted : (n : ℕ) (x : Rec) (xs : List Rec) → Slow xs → recs_at n (inserted x xs) ≡ recs_at n xs ++ recs_at n (x ∷ [])
recs_at-inserted n x [] s = refl
recs_at-inserted n x (y ∷ ys) s = go (ltb x.lsn y.lsn) refl (recs_at-inserted n x ys s.1)
  where
    go : (b : Bool) → ltb x.lsn y.lsn ≡ b → recs_at n (inserted x ys) ≡ recs_at n ys ++ recs_at n (x ∷ [])
        → recs_at n (cond b (x ∷ y ∷ ys) (y ∷ inserted x ys)) ≡ recs_at n (y ∷ ys) ++ recs_at n (x ∷ [])
    go true is ih = ⊎_elim
        (λ (e : eqb x.lsn n ≡ true).
        let lt = ltb-true x.lsn y.lsn is in
        let low : x.lsn ≡ n = eqb-true x.lsn n e in
        let none : recs_at n (y ∷ ys) ≡ [] = none_above n (y ∷ ys)
        (omega arith, Each-weaker (λ z. y.lsn ≤ z.lsn) (λ z. n < z.lsn) (λ z le. omega arith) ys s.0) in
        filter-cons (at_lsn n) x (y ∷ ys) e ∙ ap (λ (l : List Rec). x ∷ l) none
        ∙ ap₂ (λ (k l : List Rec). k ++ l) (sym none) (sym (filter-cons (at_lsn n) x [] e)))
        (λ (e : eqb x.lsn n ≡ false).
        filter-skip (at_lsn n) x (y ∷ ys) e ∙ sym (append-nil (recs_at n (y ∷ ys)))
        ∙ ap (λ (l : List Rec). recs_at n (y ∷ ys) ++ l) (sym (filter-skip (at_lsn n) x [] e)))
        (cases_Bool (eqb x.lsn n))
    go false is ih = one_more (eqb y.lsn n) y (recs_at n (inserted x ys)) (recs_at n ys) (recs_at n (x ∷ [])) ih

-- what comes in front of rising records, and then theirs
recs_at-sorted : (n : ℕ) (xs ys : List Rec) → Rises xs → recs_at n (sorted (xs ++ ys)) ≡ recs_at n (sorted ys) ++ recs_at n xs
recs_at-sorted n [] ys r = sym (append-nil (recs_at n (sorted ys)))
recs_at-sorted n (x ∷ xs) ys r =
    recs_at-inserted n x (sorted (xs ++ ys)) (sorted_slow (xs ++ ys))
    ∙ ap (λ (l : List Rec). l ++ recs_at n (x ∷ [])) (recs_at-sorted n xs ys r.1)
    ∙ append_assoc (recs_at n (sorted ys)) (recs_at n xs) (recs_at n (x ∷ []))
    ∙ ap (λ (l : List Rec). recs_at n (sorted ys) ++ l) (⊎_elim
    (λ (e : eqb x.lsn n ≡ true).
    let low : x.lsn ≡ n = eqb-true x.lsn n e in
    let none : recs_at n xs ≡ [] = none_above n xs (Each-weaker (λ z. x.lsn < z.lsn) (λ z. n < z.lsn) (λ z lt. omega arith) xs r.0) in
    ap (λ (l : List Rec). l ++ recs_at n (x ∷ [])) none ∙ filter-cons (at_lsn n) x [] e ∙ ap (λ (l : List Rec). x ∷ l) (sym none)
    ∙ sym (filter-cons (at_lsn n) x xs e))
    (λ (e : eqb x.lsn n ≡ false).
    ap (λ (l : List Rec). recs_at n xs ++ l) (filter-skip (at_lsn n) x [] e) ∙ append-nil (recs_at n xs)
    ∙ sym (filter-skip (at_lsn n) x xs e))
    (cases_Bool (eqb x.lsn n)))

rises-filter : (t : Rec → Bool) (xs : List Rec) → Rises xs → Rises (filter t xs)
rises-filter t [] r = tt
rises-filter t (x ∷ xs) r =
    let ih = rises-filter t xs r.1 in
    cond_both Rises (t x) (x ∷ filter t xs) (filter t xs)
    (λ is. (Each-filter (λ z. x.lsn < z.lsn) t xs (Each-weaker (λ z. x.lsn < z.lsn) (λ z. t z ≡ true → x.lsn < z.lsn) (λ z lt e. lt) xs r.0), ih))
    (λ is. ih)

all_of-more : (logs : ℕ → List Rec) (k : ℕ) → all_of logs (suc k) ≡ logs k ++ all_of logs k
unfolding all_of
all_of-more logs k = refl

all_of-zero : (logs : ℕ → List Rec) → all_of logs 0 ≡ []
unfolding all_of
all_of-zero logs = refl

recs_at-chain : (t : Rec → Bool) (n k : ℕ) (logs : ℕ → List Rec) → ((j : ℕ) → Rises (logs j))
    → recs_at n (sorted (filter t (all_of logs k))) ≡ recs_at n (filter t (in_turn logs k))
recs_at-chain t n zero logs rise = ap (λ (l : List Rec). recs_at n (sorted (filter t l))) (all_of-zero logs)
recs_at-chain t n (suc k) logs rise =
    ap (λ (l : List Rec). recs_at n (sorted (filter t l))) (all_of-more logs k)
    ∙ ap (λ (l : List Rec). recs_at n (sorted l)) (filter-append t (logs k) (all_of logs k))
    ∙ recs_at-sorted n (filter t (logs k)) (filter t (all_of logs k)) (rises-filter t (logs k) (rise k))
    ∙ ap (λ (l : List Rec). l ++ recs_at n (filter t (logs k))) (recs_at-chain t n k logs rise)
    ∙ sym (filter-append (at_lsn n) (filter t (in_turn logs k)) (filter t (logs k)))
    ∙ ap (recs_at n) (sym (filter-append t (in_turn logs k) (logs k)))

-- ---- two lists by LSN that have the same of each LSN

heads : (x y : Rec) (xs ys : List Rec) → x ∷ xs ≡ y ∷ ys → x ≡ y
heads x y xs ys e = cc

tails : (b : Bool) (x : Rec) (xs ys : List Rec) → cond b (x ∷ xs) xs ≡ cond b (x ∷ ys) ys → xs ≡ ys
tails true x xs ys e = cc
tails false x xs ys e = e

lower_clash : (x y : Rec) (xs ys : List Rec) → Slow (y ∷ ys) → x.lsn < y.lsn
    → recs_at x.lsn (x ∷ xs) ≡ recs_at x.lsn (y ∷ ys) → ⊥
lower_clash x y xs ys b lt e =
    let none : recs_at x.lsn (y ∷ ys) ≡ [] = none_above x.lsn (y ∷ ys)
    (lt, Each-weaker (λ z. y.lsn ≤ z.lsn) (λ z. x.lsn < z.lsn) (λ z le. omega arith) ys b.0) in
    let some : recs_at x.lsn (x ∷ xs) ≡ x ∷ recs_at x.lsn xs = filter-cons (at_lsn x.lsn) x xs (eq-eqb x.lsn x.lsn refl) in
    let clash : x ∷ recs_at x.lsn xs ≡ [] = sym some ∙ e ∙ none in
    absurd (cc)

same_by_lsn : (xs ys : List Rec) → Slow xs → Slow ys → ((n : ℕ) → recs_at n xs ≡ recs_at n ys) → xs ≡ ys
same_by_lsn [] [] a b f = refl
same_by_lsn [] (y ∷ ys) a b f =
    let some : recs_at y.lsn (y ∷ ys) ≡ y ∷ recs_at y.lsn ys = filter-cons (at_lsn y.lsn) y ys (eq-eqb y.lsn y.lsn refl) in
    let clash : [] ≡ y ∷ recs_at y.lsn ys = f y.lsn ∙ some in
    absurd (cc)
same_by_lsn (x ∷ xs) [] a b f =
    let some : recs_at x.lsn (x ∷ xs) ≡ x ∷ recs_at x.lsn xs = filter-cons (at_lsn x.lsn) x xs (eq-eqb x.lsn x.lsn refl) in
    let clash : x ∷ recs_at x.lsn xs ≡ [] = sym some ∙ f x.lsn in
    absurd (cc)
same_by_lsn (x ∷ xs) (y ∷ ys) a b f = ⊎_elim
    (λ (is : ltb x.lsn y.lsn ≡ true). absurd (lower_clash x y xs ys b (ltb-true x.lsn y.lsn is) (f x.lsn)))
    (λ (isnt : ltb x.lsn y.lsn ≡ false). ⊎_elim
    (λ (is : ltb y.lsn x.lsn ≡ true). absurd (lower_clash y x ys xs a (ltb-true y.lsn x.lsn is) (sym (f y.lsn))))
    (λ (nor : ltb y.lsn x.lsn ≡ false).
    let le = ltb-false x.lsn y.lsn isnt in
    let ge = ltb-false y.lsn x.lsn nor in
    let e : y.lsn ≡ x.lsn = omega arith in
    let head : x ≡ y = heads x y (recs_at x.lsn xs) (recs_at x.lsn ys)
    (sym (filter-cons (at_lsn x.lsn) x xs (eq-eqb x.lsn x.lsn refl)) ∙ f x.lsn
    ∙ filter-cons (at_lsn x.lsn) y ys (eq-eqb y.lsn x.lsn e)) in
    ap₂ (λ (z : Rec) (l : List Rec). z ∷ l) head
    (same_by_lsn xs ys a.1 b.1 (λ n. tails (eqb x.lsn n) x (recs_at n xs) (recs_at n ys)
    (f n ∙ ap (λ (z : Rec). recs_at n (z ∷ ys)) (sym head)))))
    (cases_Bool (ltb y.lsn x.lsn)))
    (cases_Bool (ltb x.lsn y.lsn))

-- Of records that come by LSN, and those of each LSN in the order of the logs, a page's are its chain.
pub ordered : (t : Rec → Bool) (k : ℕ) (logs : ℕ → List Rec) (xs ys : List Rec)
    → ((j : ℕ) → Rises (logs j)) → filter t ys ≡ filter t (in_turn logs k)
    → Slow (filter t xs) → ((n : ℕ) → recs_at n xs ≡ recs_at n ys)
    → filter t xs ≡ sorted (filter t (all_of logs k))
ordered t k logs xs ys rise same slow turns =
    same_by_lsn (filter t xs) (sorted (filter t (all_of logs k))) slow (sorted_slow (filter t (all_of logs k)))
    (λ n. filters_swap (at_lsn n) t xs
    ∙ ap (filter t) (turns n)
    ∙ filters_swap t (at_lsn n) ys
    ∙ ap (recs_at n) same
    ∙ sym (recs_at-chain t n k logs rise))
