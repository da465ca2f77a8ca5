-- Lists of records: each, filters, and the list by LSN.
use Rattle.std.proofs.Common.{◌≡◌, ℕ, zero, suc, ◌<◌, Bool, true, false, cond, ltb, List, [], ◌∷◌, ◌++◌, refl, ap, ◌∙◌, arith, lt-ltb, le-ltb}
use Rattle.std.specs.Prelude.{filter}
use Rattle.sd_logrec.specs.View.{Rec}
use Rattle.sd_chain.specs.Records.{Each}
use Rattle.sd_chain.specs.Storage.{inserted, sorted, all_of}

pub Each-append : {A : Type 0} (P : A → Type 0) (xs ys : List A) → Each P xs → Each P ys → Each P (xs ++ ys)
Each-append P [] ys a b = b
Each-append P (x ∷ xs) ys a b = (a.0, Each-append P xs ys a.1 b)

-- what holds of all holds of each in a list
pub Each-all : {A : Type 0} (P : A → Type 0) → ((x : A) → P x) → (xs : List A) → Each P xs
Each-all P all [] = tt
Each-all P all (x ∷ xs) = (all x, Each-all P all xs)

pub Each-front : {A : Type 0} (P : A → Type 0) (xs ys : List A) → Each P (xs ++ ys) → Each P xs
Each-front P [] ys a = tt
Each-front P (x ∷ xs) ys a = (a.0, Each-front P xs ys a.1)

pub Each-back : {A : Type 0} (P : A → Type 0) (xs ys : List A) → Each P (xs ++ ys) → Each P ys
Each-back P [] ys a = a
Each-back P (x ∷ xs) ys a = Each-back P xs ys a.1

pub Each-weaker : {A : Type 0} (P Q : A → Type 0) → ((x : A) → P x → Q x) → (xs : List A) → Each P xs → Each Q xs
Each-weaker P Q f [] a = tt
Each-weaker P Q f (x ∷ xs) a = (f x a.0, Each-weaker P Q f xs a.1)

pub Each-both : {A : Type 0} (P Q R : A → Type 0) → ((x : A) → P x → Q x → R x) → (xs : List A) → Each P xs → Each Q xs
    → Each R xs
Each-both P Q R f [] a b = tt
Each-both P Q R f (x ∷ xs) a b = (f x a.0 b.0, Each-both P Q R f xs a.1 b.1)

-- what holds of both branches
pub cond_both : {X : Type 0} (P : X → Type 0) (b : Bool) (x y : X) → (b ≡ true → P x) → (b ≡ false → P y) → P (cond b x y)
cond_both P true x y f g = f refl
cond_both P false x y f g = g refl

-- what holds of each that passes holds of each of the filter
pub Each-filter : {A : Type 0} (P : A → Type 0) (test : A → Bool) (xs : List A) → Each (λ x. test x ≡ true → P x) xs
    → Each P (filter test xs)
Each-filter P test [] a = tt
Each-filter P test (x ∷ xs) a =
    let ih = Each-filter P test xs a.1 in
    cond_both (Each P) (test x) (x ∷ filter test xs) (filter test xs) (λ is. (a.0 is, ih)) (λ is. ih)

pub filter-cons : {A : Type 0} (test : A → Bool) (x : A) (xs : List A) → test x ≡ true → filter test (x ∷ xs) ≡ x ∷ filter test xs
filter-cons test x xs is = rw is refl

pub filter-skip : {A : Type 0} (test : A → Bool) (x : A) (xs : List A) → test x ≡ false → filter test (x ∷ xs) ≡ filter test xs
filter-skip test x xs is = rw is refl

-- in the list by LSN, y stands last where it is above each
pub inserted_last : (y : Rec) (xs : List Rec) → Each (λ x. x.lsn < y.lsn) xs → inserted y xs ≡ xs ++ y ∷ []
inserted_last y [] a = refl
inserted_last y (x ∷ xs) a = rw (le-ltb y.lsn x.lsn (omega (arith, a.0))) (ap (λ (l : List Rec). x ∷ l) (inserted_last y xs a.1))

inserted_before_go : (x y z : Rec) (zs : List Rec) (b : Bool) → inserted x (zs ++ y ∷ []) ≡ inserted x zs ++ y ∷ []
    → cond b (x ∷ z ∷ zs ++ y ∷ []) (z ∷ inserted x (zs ++ y ∷ [])) ≡ cond b (x ∷ z ∷ zs) (z ∷ inserted x zs) ++ y ∷ []
inserted_before_go x y z zs true ih = refl
inserted_before_go x y z zs false ih = ap (λ (l : List Rec). z ∷ l) ih

pub inserted_before : (x y : Rec) (xs : List Rec) → x.lsn < y.lsn → inserted x (xs ++ y ∷ []) ≡ inserted x xs ++ y ∷ []
inserted_before x y [] lt = rw (lt-ltb x.lsn y.lsn lt) refl
inserted_before x y (z ∷ zs) lt = inserted_before_go x y z zs (ltb x.lsn z.lsn) (inserted_before x y zs lt)

pub Each-inserted : (P : Rec → Type 0) (x : Rec) (xs : List Rec) → P x → Each P xs → Each P (inserted x xs)
Each-inserted P x [] p a = (p, tt)
Each-inserted P x (y ∷ ys) p a =
    let ih = Each-inserted P x ys p a.1 in
    cond_both (Each P) (ltb x.lsn y.lsn) (x ∷ y ∷ ys) (y ∷ inserted x ys) (λ is. (p, a)) (λ is. (a.0, ih))

pub Each-sorted : (P : Rec → Type 0) (xs : List Rec) → Each P xs → Each P (sorted xs)
Each-sorted P [] a = tt
Each-sorted P (x ∷ xs) a = Each-inserted P x (sorted xs) a.0 (Each-sorted P xs a.1)

-- wherever it stands in the unsorted list
pub sorted_last : (y : Rec) (xs ys : List Rec) → Each (λ x. x.lsn < y.lsn) xs → Each (λ x. x.lsn < y.lsn) ys
    → sorted (xs ++ y ∷ ys) ≡ sorted (xs ++ ys) ++ y ∷ []
sorted_last y [] ys a b = inserted_last y (sorted ys) (Each-sorted (λ x. x.lsn < y.lsn) ys b)
sorted_last y (x ∷ xs) ys a b = ap (inserted x) (sorted_last y xs ys a.1 b) ∙ inserted_before x y (sorted (xs ++ ys)) a.0

-- logs that differ in one record at the end of log i
pub all_of-same : (logs logs' : ℕ → List Rec) (n : ℕ) → ((j : ℕ) → j < n → logs' j ≡ logs j) → all_of logs' n ≡ all_of logs n
unfolding all_of
all_of-same logs logs' zero e = refl
all_of-same logs logs' (suc n) e =
    rw (e n (omega arith)) (ap (λ (l : List Rec). logs n ++ l) (all_of-same logs logs' n (λ j lt. e j (omega arith))))
