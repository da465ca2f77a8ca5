-- Whose a record is, and what a log leaves of a transaction with more records behind it: for the proofs of Order, StartMoved
-- and Fates, and lent to sd_recovered.
use Rattle.std.proofs.Common.{◌≡◌, ◌≢◌, ⊎_elim, Bool, true, false, cond, ◌&&◌, ◌||◌, List, [], ◌∷◌, ◌++◌, refl, sym, ap, ◌∙◌}
use Rattle.std.specs.List.{list_any}
use Rattle.std.proofs.lemmas.Bool.{cases_Bool}
use Rattle.sd_base.specs.declared.ids.TxnId.{TxnId}
use Rattle.sd_base.specs.Ids.{same_txn}
use Rattle.sd_logrec.specs.View.{Rec, Kind}
use Rattle.sd_logrec.specs.View.Kind.{Update, Clr, Commit, End, Plain}
use Rattle.sd_chain.specs.Records.{Each, ends, moved, step, stack_from, IsOpen, stack}
use Rattle.sd_chain.specs.Order.{speaks, of_txn, none_yet, Sofar, with_own, advance, after_all, InOrder, Undoes, first_prev}
use Rattle.sd_chain.proofs.Lists.{cond_both}
use Rattle.sd_base.proofs.SameIds.{cases_txn, eq-same, ne-same}

pub both : (a b : Bool) → (a && b) ≡ true → (a ≡ true) × (b ≡ true)
both true b e = (refl, e)
both false b e = absurd (cc)

-- a record of t names it
pub own_is : (t : TxnId) (x : Rec) → of_txn t x ≡ true → x.txn ≡ t
own_is t x own = ⊎_elim (λ e. e)
    (λ ne. let e = (both (speaks x.kind) (same_txn x.txn t) own).1 in let f = ne-same x.txn t ne in absurd (cc)) (cases_txn x.txn t)

-- a record that names a transaction is one of it
pub own_of : (x : Rec) → speaks x.kind ≡ true → of_txn x.txn x ≡ true
own_of x s = let e = eq-same x.txn x.txn refl in rw (s, e) refl

-- one that names another is not
pub other_of : (t : TxnId) (x : Rec) → x.txn ≢ t → of_txn t x ≡ false
other_of t x ne = let e = ne-same x.txn t ne in rw e (and_false (speaks x.kind))
  where
    and_false : (a : Bool) → (a && false) ≡ false
    and_false true = refl
    and_false false = refl

-- nor is one that names none
pub silent_of : (t : TxnId) (x : Rec) → speaks x.kind ≡ false → of_txn t x ≡ false
silent_of t x s = rw s refl

-- a record of others leaves what is so far
pub advance-off : (t : TxnId) (sofar : Sofar) (x : Rec) → of_txn t x ≡ false → advance t sofar x ≡ sofar
advance-off t sofar x off = ap (λ (b : Bool). cond b (with_own t x sofar) sofar) off

-- one of its own is one record more
pub advance-own : (t : TxnId) (sofar : Sofar) (x : Rec) → of_txn t x ≡ true → advance t sofar x ≡ with_own t x sofar
advance-own t sofar x own = ap (λ (b : Bool). cond b (with_own t x sofar) sofar) own

pub after_all-append : (t : TxnId) (sofar : Sofar) (xs ys : List Rec) → after_all t sofar (xs ++ ys) ≡ after_all t (after_all t sofar xs) ys
after_all-append t sofar [] ys = refl
after_all-append t sofar (x ∷ xs) ys = after_all-append t (advance t sofar x) xs ys

-- the records behind are in order, too
pub InOrder-back : (t : TxnId) (sofar : Sofar) (xs ys : List Rec) → InOrder t sofar (xs ++ ys) → InOrder t (after_all t sofar xs) ys
InOrder-back t sofar [] ys a = a
InOrder-back t sofar (x ∷ xs) ys a = InOrder-back t (advance t sofar x) xs ys a.1

-- and undo the tops that they find
pub Undoes-back : (t : TxnId) (stk xs ys : List Rec) → Undoes t stk (xs ++ ys) → Undoes t (stack_from t stk xs) ys
Undoes-back t stk [] ys a = a
Undoes-back t stk (x ∷ xs) ys a = Undoes-back t (step t stk x) xs ys a.1

-- a record that isn't the transaction's leaves it as it is
pub step-off : (t : TxnId) (stk : List Rec) (x : Rec) → of_txn t x ≡ false → step t stk x ≡ stk
step-off t stk x off = go x.kind (same_txn x.txn t) off
  where
    go : (k : Kind) (b : Bool) → (speaks k && b) ≡ false → cond b (moved k x stk) stk ≡ stk
    go Update true e = absurd (cc)
    go Clr true e = absurd (cc)
    go Commit true e = refl
    go End true e = refl
    go Plain true e = refl
    go k false e = refl

-- and is none of its ends
pub ends-off : (t : TxnId) (x : Rec) → of_txn t x ≡ false → (ends x.kind && same_txn x.txn t) ≡ false
ends-off t x off = go x.kind (same_txn x.txn t) off
  where
    go : (k : Kind) (b : Bool) → (speaks k && b) ≡ false → (ends k && b) ≡ false
    go Update b e = refl
    go Clr b e = refl
    go Commit b e = e
    go End b e = e
    go Plain b e = refl

-- what is open is the stack
pub open_ones-is : (t : TxnId) (sofar : Sofar) (xs : List Rec) → (after_all t sofar xs).open_ones ≡ stack_from t sofar.open_ones xs
open_ones-is t sofar [] = refl
open_ones-is t sofar (x ∷ xs) = open_ones-is t (advance t sofar x) xs
    ∙ ap (λ (l : List Rec). stack_from t l xs)
    (cond_both (λ (q : Sofar). q.open_ones ≡ step t sofar.open_ones x) (of_txn t x) (with_own t x sofar) sofar (λ is. refl)
    (λ is. sym (step-off t sofar.open_ones x is)))

-- the first record is among those in front, or else behind
pub first_prev-there : (t : TxnId) (xs ys : List Rec) → list_any (of_txn t) xs ≡ true → first_prev t (xs ++ ys) ≡ first_prev t xs
first_prev-there t [] ys e = absurd (cc)
first_prev-there t (x ∷ xs) ys e = ⊎_elim (λ is. rw is refl)
    (λ off. rw off (first_prev-there t xs ys (rw off at e))) (cases_Bool (of_txn t x))

pub first_prev-behind : (t : TxnId) (xs ys : List Rec) → list_any (of_txn t) xs ≡ false → first_prev t (xs ++ ys) ≡ first_prev t ys
first_prev-behind t [] ys e = refl
first_prev-behind t (x ∷ xs) ys e = ⊎_elim (λ is. let c = rw is at e in absurd (cc))
    (λ off. rw off (first_prev-behind t xs ys (rw off at e))) (cases_Bool (of_txn t x))

pub first_prev-none : (t : TxnId) (xs : List Rec) → list_any (of_txn t) xs ≡ false → first_prev t xs ≡ 0
first_prev-none t [] e = refl
first_prev-none t (x ∷ xs) e = ⊎_elim (λ is. let c = rw is at e in absurd (cc))
    (λ off. rw off (first_prev-none t xs (rw off at e))) (cases_Bool (of_txn t x))

-- the first record of none
pub first_prev-off : (t : TxnId) (xs : List Rec) (x : Rec) → of_txn t x ≡ false → first_prev t (xs ++ x ∷ []) ≡ first_prev t xs
first_prev-off t xs x off = ⊎_elim (λ there. first_prev-there t xs (x ∷ []) there)
    (λ none. first_prev-behind t xs (x ∷ []) none ∙ rw off (sym (first_prev-none t xs none))) (cases_Bool (list_any (of_txn t) xs))

-- ---- a transaction without a record

pub after_all-none : (t : TxnId) (sofar : Sofar) (xs : List Rec) → list_any (of_txn t) xs ≡ false → after_all t sofar xs ≡ sofar
after_all-none t sofar [] e = refl
after_all-none t sofar (x ∷ xs) e = ⊎_elim (λ is. let c = rw is at e in absurd (cc))
    (λ off. ap (λ (q : Sofar). after_all t q xs) (advance-off t sofar x off)
    ∙ after_all-none t sofar xs (rw off at e)) (cases_Bool (of_txn t x))

-- an undo is one of its transaction
pub clr_speaks : (t : TxnId) (x : Rec) → x.kind ≡ Clr → x.txn ≡ t → of_txn t x ≡ true
clr_speaks t x k own = let e : speaks x.kind ≡ true = ap speaks k in let f = eq-same x.txn t own in rw (e, f) refl

-- ---- open or closed

-- records of others leave it open
pub none_open : (t : TxnId) (xs : List Rec) → list_any (of_txn t) xs ≡ false → IsOpen t xs
none_open t [] e = tt
none_open t (x ∷ xs) e = ⊎_elim (λ is. let c = rw is at e in absurd (cc))
    (λ off. (ends-off t x off, none_open t xs (rw off at e))) (cases_Bool (of_txn t x))

-- no record that passes a test
pub none_of : (p : Rec → Bool) (xs : List Rec) → Each (λ x. p x ≡ false) xs → list_any p xs ≡ false
none_of p [] a = refl
none_of p (x ∷ xs) a = rw a.0 (none_of p xs a.1)

pub neither : (a b : Bool) → (a || b) ≡ false → (a ≡ false) × (b ≡ false)
neither true b e = absurd (cc)
neither false b e = (refl, e)

pub of_none : (p : Rec → Bool) (xs : List Rec) → list_any p xs ≡ false → Each (λ x. p x ≡ false) xs
of_none p [] e = tt
of_none p (x ∷ xs) e = let n = neither (p x) (list_any p xs) e in (n.0, of_none p xs n.1)

-- a transaction without a record has an empty stack
pub stack-none : (t : TxnId) (log : List Rec) → list_any (of_txn t) log ≡ false → stack t log ≡ []
stack-none t log none = sym (open_ones-is t none_yet log)
    ∙ ap (λ (q : Sofar). q.open_ones) (after_all-none t none_yet log none)
