-- The transactions of a log and those it leaves open, each once, and sums over lists with the same members: for the goals of
-- `losers`, and lent to sd_recovered.
use Rattle.std.proofs.Common.{◌≡◌, ◌≢◌, inl, inr, ⊎_elim, ℕ, ◌+◌, Bool, true, false, not, ◌&&◌, ◌||◌, List, [], ◌∷◌, filter, sum_by, refl, sym, ap, ◌∙◌, subst, arith}
use Rattle.std.specs.List.{list_any}
use Rattle.std.proofs.lemmas.Bool.{cases_Bool}
use Rattle.std.proofs.lemmas.List.Sums.{sum_by-cons}
use Rattle.sd_base.specs.declared.ids.TxnId.{TxnId}
use Rattle.sd_base.specs.Ids.{same_txn}
use Rattle.sd_logrec.specs.View.{Rec}
use Rattle.sd_chain.specs.Records.{Each, ends, IsOpen}
use Rattle.sd_chain.specs.Order.{of_txn, speaks}
use Rattle.sd_chain.specs.Undoing.{Member, Apart}
use Rattle.sd_chain.specs.Checks.{txns_of, open_in}
use Rattle.sd_chain.proofs.Lists.{Each-filter, Each-weaker}
use Rattle.sd_chain.proofs.Whose.{other_of, own_of, silent_of}
use Rattle.sd_base.proofs.SameIds.{cases_txn, eq-same, ne-same}

-- the others
abbrev pub others : TxnId → List TxnId → List TxnId
others x ts = filter (λ t. not (same_txn x t)) ts

module _ (test : TxnId → Bool) where
  pub member-kept : (t : TxnId) (ts : List TxnId) → Member t ts → test t ≡ true → Member t (filter test ts)
  member-kept t [] m p = m
  member-kept t (u ∷ us) m p = ⊎_elim
      (λ e. let q : test u ≡ true = sym (ap test e) ∙ p in rw q (inl e))
      (λ rest. let ih = member-kept t us rest p in ⊎_elim (λ q. rw q (inr ih)) (λ q. rw q ih) (cases_Bool (test u))) m

  pub kept-member : (t : TxnId) (ts : List TxnId) → Member t (filter test ts) → Member t ts × (test t ≡ true)
  kept-member t [] m = absurd m
  kept-member t (u ∷ us) m = ⊎_elim
      (λ q. ⊎_elim (λ e. (inl e, ap test e ∙ q)) (λ rest. let ih = kept-member t us rest in (inr ih.0, ih.1)) (rw q at m))
      (λ q. let ih = kept-member t us (rw q at m) in (inr ih.0, ih.1)) (cases_Bool (test u))

  pub apart-kept : (ts : List TxnId) → Apart ts → Apart (filter test ts)
  apart-kept [] a = tt
  apart-kept (u ∷ us) a =
      let rest = apart-kept us a.1 in
      let head = Each-filter (λ (v : TxnId). u ≢ v) test us
      (Each-weaker (λ (v : TxnId). u ≢ v) (λ v. test v ≡ true → u ≢ v) (λ v ne is. ne) us a.0) in
      ⊎_elim (λ q. rw q (head, rest)) (λ q. rw q rest) (cases_Bool (test u))

pub member-each : (P : TxnId → Type 0) (t : TxnId) (ts : List TxnId) → Member t ts → Each P ts → P t
member-each P t [] m a = absurd m
member-each P t (u ∷ us) m a = ⊎_elim (λ e. subst P (sym e) a.0) (λ rest. member-each P t us rest a.1) m

not-same : (x t : TxnId) → x ≢ t → not (same_txn x t) ≡ true
not-same x t ne = let e = ne-same x t ne in rw e refl

same-not : (x t : TxnId) → not (same_txn x t) ≡ true → x ≢ t
same-not x t e same = let f = eq-same x t same in let g = rw f at e in absurd (cc)

others-same : (x : TxnId) (ts : List TxnId) → Each (λ u. x ≢ u) ts → others x ts ≡ ts
others-same x [] a = refl
others-same x (u ∷ us) a = let q = not-same x u a.0 in rw q (ap (λ l. u ∷ l) (others-same x us a.1))

-- one taken out of a sum
sum-without : (f : TxnId → ℕ) (x : TxnId) (ts : List TxnId) → Member x ts → Apart ts → sum_by f ts ≡ f x + sum_by f (others x ts)
sum-without f x [] m a = absurd m
sum-without f x (u ∷ us) m a = ⊎_elim
    (λ e. let q : not (same_txn x u) ≡ false = ap not (eq-same x u e) in
    let same : others x us ≡ us = others-same x us (subst (λ (y : TxnId). Each (λ v. y ≢ v) us) (sym e) a.0) in
    let kept : others x (u ∷ us) ≡ others x us = rw q refl in
    sum_by-cons f u us ∙ ap (λ (y : TxnId). f y + sum_by f us) (sym e) ∙ ap (λ (l : List TxnId). f x + sum_by f l) (sym (kept ∙ same)))
    (λ rest. let q = not-same x u (λ e. member-each (λ v. u ≢ v) x us rest a.0 (sym e)) in
    let ih = sum-without f x us rest a.1 in
    rw q (omega (arith, ih, sum_by-cons f u us, sum_by-cons f u (others x us)))) m

-- lists without a repeat and with the same members have the same sums
pub sums-agree : (f : TxnId → ℕ) (ts us : List TxnId) → Apart ts → Apart us → ((t : TxnId) → Member t ts → Member t us)
    → ((t : TxnId) → Member t us → Member t ts) → sum_by f ts ≡ sum_by f us
sums-agree f [] [] a b there back = refl
sums-agree f [] (u ∷ us) a b there back = absurd (back u (inl refl))
sums-agree f (t ∷ ts) us a b there back =
    let ih = sums-agree f ts (others t us) a.1 (apart-kept (λ v. not (same_txn t v)) us b)
    (λ v m. member-kept (λ w. not (same_txn t w)) v us (there v (inr m)) (not-same t v (member-each (λ w. t ≢ w) v ts m a.0)))
    (λ v m. let k = kept-member (λ w. not (same_txn t w)) v us m in
    ⊎_elim (λ e. absurd (same-not t v k.1 (sym e))) (λ rest. rest) (back v k.0)) in
    sum_by-cons f t ts ∙ ap (λ (n : ℕ). f t + n) ih ∙ sym (sum-without f t us (there t (inl refl)) b)

-- ---- the transactions of a log

pub apart-txns_of : (xs : List Rec) → Apart (txns_of xs)
apart-txns_of [] = tt
apart-txns_of (x ∷ xs) =
    let ih = apart-txns_of xs in
    ⊎_elim (λ q. rw q (first_apart x.txn (txns_of xs), apart-kept (λ t. not (same_txn x.txn t)) (txns_of xs) ih)) (λ q. rw q ih)
    (cases_Bool (speaks x.kind))
  where
    first_apart : (t : TxnId) (ts : List TxnId) → Each (λ u. t ≢ u) (others t ts)
    first_apart t [] = tt
    first_apart t (u ∷ us) = ⊎_elim (λ q. rw q (same-not t u q, first_apart t us))
        (λ q. rw q (first_apart t us)) (cases_Bool (not (same_txn t u)))

pub txns_of-there : (t : TxnId) (xs : List Rec) → Member t (txns_of xs) → list_any (of_txn t) xs ≡ true
txns_of-there t [] m = absurd m
txns_of-there t (x ∷ xs) m = ⊎_elim
    (λ q. ⊎_elim
    (λ e. let own : of_txn t x ≡ true = ap (λ (u : TxnId). of_txn u x) e ∙ own_of x q in rw own refl)
    (λ rest. or_true (of_txn t x) (list_any (of_txn t) xs)
    (txns_of-there t xs (kept-member (λ u. not (same_txn x.txn u)) t (txns_of xs) rest).0))
    (rw q at m))
    (λ q. or_true (of_txn t x) (list_any (of_txn t) xs) (txns_of-there t xs (rw q at m))) (cases_Bool (speaks x.kind))
  where
    or_true : (a b : Bool) → b ≡ true → (a || b) ≡ true
    or_true true b e = refl
    or_true false b e = e

pub there-txns_of : (t : TxnId) (xs : List Rec) → list_any (of_txn t) xs ≡ true → Member t (txns_of xs)
there-txns_of t [] e = absurd (cc)
there-txns_of t (x ∷ xs) e = ⊎_elim
    (λ q. ⊎_elim (λ own. rw q (inl (sym own)))
    (λ ne. let off = other_of t x ne in
    let ih = there-txns_of t xs (rw off at e) in
    rw q (inr (member-kept (λ u. not (same_txn x.txn u)) t (txns_of xs) ih (not-same x.txn t ne)))) (cases_txn x.txn t))
    (λ q. let off = silent_of t x q in rw q (there-txns_of t xs (rw off at e))) (cases_Bool (speaks x.kind))

open-none : (t : TxnId) (xs : List Rec) → IsOpen t xs → list_any (λ x. ends x.kind && same_txn x.txn t) xs ≡ false
open-none t [] o = refl
open-none t (x ∷ xs) o = rw o.0 (open-none t xs o.1)

none-open : (t : TxnId) (xs : List Rec) → list_any (λ x. ends x.kind && same_txn x.txn t) xs ≡ false → IsOpen t xs
none-open t [] e = tt
none-open t (x ∷ xs) e = ⊎_elim (λ q. let f = rw q at e in absurd (cc)) (λ q. (q, none-open t xs (rw q at e)))
    (cases_Bool (ends x.kind && same_txn x.txn t))

pub apart-open_in : (xs : List Rec) → Apart (open_in xs)
apart-open_in xs = apart-kept (λ t. not (list_any (λ x. ends x.kind && same_txn x.txn t) xs)) (txns_of xs) (apart-txns_of xs)

pub open_in-is : (t : TxnId) (xs : List Rec) → Member t (open_in xs) → IsOpen t xs × (list_any (of_txn t) xs ≡ true)
open_in-is t xs m =
    let k = kept-member (λ u. not (list_any (λ x. ends x.kind && same_txn x.txn u) xs)) t (txns_of xs) m in
    (none-open t xs (not_true (list_any (λ x. ends x.kind && same_txn x.txn t) xs) k.1), txns_of-there t xs k.0)
  where
    not_true : (b : Bool) → not b ≡ true → b ≡ false
    not_true true e = absurd (cc)
    not_true false e = refl

pub is-open_in : (t : TxnId) (xs : List Rec) → IsOpen t xs → list_any (of_txn t) xs ≡ true → Member t (open_in xs)
is-open_in t xs o there =
    member-kept (λ u. not (list_any (λ x. ends x.kind && same_txn x.txn u) xs)) t (txns_of xs) (there-txns_of t xs there)
    (ap not (open-none t xs o))
