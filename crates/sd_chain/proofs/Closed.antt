-- What a checkpoint has of transactions: records before the later start place are of closed ones. It serves the laws on
-- checkpoints.
use Rattle.std.proofs.Common.{◌≡◌, ◌⊎◌, inl, inr, ⊎_elim, ℕ, ◌<◌, ◌≤◌, Bool, true, false, cond, ◌&&◌, List, [], ◌∷◌, ◌++◌, sym, ap, ap₂, ◌∙◌, subst, arith, append-nil}
use Rattle.std.proofs.lemmas.Bool.{cases_Bool, cases_eq}
use Rattle.sd_base.specs.declared.ids.TxnId.{TxnId}
use Rattle.sd_base.specs.Ids.{same_txn}
use Rattle.sd_logrec.specs.View.{Rec}
use Rattle.sd_chain.specs.Records.{Each, IsOpen, ends}
use Rattle.sd_chain.specs.Order.{InOrder, Sofar, Tidy, advance, none_yet, of_txn, speaks}
use Rattle.sd_chain.specs.Images.{Tails, log}
use Rattle.sd_chain.proofs.Lists.{Each-append, Each-back, Each-front, Each-weaker}
use Rattle.sd_chain.proofs.Whose.{advance-off, advance-own, both, ends-off, own_is}
use Rattle.sd_pagelock.proofs.Members.{not_both}
use Rattle.sd_chain.specs.Checkpoints.{CloseBegins, CloseGrows, CloseSettles, CloseStays, Closed, Shut}
use Rattle.sd_chain.proofs.Changes.{log_here}

pub close-begins : CloseBegins
close-begins low i tails = Each-weaker (λ x. speaks x.kind ≡ true → IsOpen x.txn (log tails i) → low ≤ x.lsn)
    (λ x. x.lsn < low → Shut (log tails i) x)
    (λ x f lt s o. let le = f s o in absurd (omega (arith, le, lt))) (log tails i)

-- more records close more
shut_still : (records more : List Rec) (x : Rec) → Shut records x → Shut (records ++ more) x
shut_still records more x f s o = f s (Each-front (λ z. (ends z.kind && same_txn z.txn x.txn) ≡ false) records more o)

pub close-grows : CloseGrows
close-grows low i y old new g le c =
    subst (λ (f : List Rec). Each (λ x. x.lsn < low → Shut f x) f) (sym (log_here i y old new g))
    (Each-append (λ x. x.lsn < low → Shut (log old i ++ y ∷ []) x) (log old i) (y ∷ [])
    (Each-weaker (λ x. x.lsn < low → Shut (log old i) x) (λ x. x.lsn < low → Shut (log old i ++ y ∷ []) x)
    (λ x f lt. shut_still (log old i) (y ∷ []) x (f lt)) (log old i) c)
    ((λ lt. absurd (omega (arith, le, lt))), tt))

same_log : (low i : ℕ) (old new : Tails) → log new i ≡ log old i → Closed low i old → Closed low i new
same_log low i old new same c = subst (λ (f : List Rec). Each (λ x. x.lsn < low → Shut f x) f) (sym same) c

pub close-settles : CloseSettles
close-settles low i j kept old new s whole = same_log low i old new (⊎_elim
    (λ e. let all : cond {A = List Rec} kept (old.tail j) [] ≡ old.tail j = ap (λ (b : Bool). cond {A = List Rec} b (old.tail j) []) (whole e) in
    subst (λ (k : ℕ). log new k ≡ log old k) (sym e)
    (ap₂ (λ (x z : List Rec). x ++ z) s.base s.tail ∙ append-nil (old.base j ++ cond {A = List Rec} kept (old.tail j) [])
    ∙ ap (λ (z : List Rec). old.base j ++ z) all))
    (λ ne. ap₂ (λ (x z : List Rec). x ++ z) (s.other_bases i ne) (s.other_tails i ne))
    (cases_eq i j))

pub close-stays : CloseStays
close-stays low i old new base tail c = same_log low i old new (ap₂ (λ (x z : List Rec). x ++ z) base tail) c

-- is it open
open_or : (t : TxnId) (xs : List Rec) → IsOpen t xs ⊎ (IsOpen t xs → ⊥)
open_or t [] = inl tt
open_or t (x ∷ xs) = go (cases_Bool (ends x.kind && same_txn x.txn t)) (open_or t xs)
  where
    go : ((ends x.kind && same_txn x.txn t) ≡ true) ⊎ ((ends x.kind && same_txn x.txn t) ≡ false) → IsOpen t xs ⊎ (IsOpen t xs → ⊥)
        → IsOpen t (x ∷ xs) ⊎ (IsOpen t (x ∷ xs) → ⊥)
    go (inl is) r = inr (λ o. not_both is o.0)
    go (inr no_end) (inl o) = inl (no_end, o)
    go (inr no_end) (inr n) = inr (λ o. n o.1)

-- after the last one comes none
none_after : (t : TxnId) (sofar : Sofar) (xs : List Rec) → sofar.shut ≡ true → InOrder t sofar xs → Each (λ x. of_txn t x ≡ false) xs
none_after t sofar [] shut o = tt
none_after t sofar (x ∷ xs) shut o = ⊎_elim
    (λ is. not_both shut (o.0 is).alive)
    (λ off. (
      off,
      none_after t sofar xs shut (subst (λ (q : Sofar). InOrder t q xs) (advance-off t sofar x off) o.1),
    ))
    (cases_Bool (of_txn t x))

-- closed by what is gone, it has no record in what is left
none_left : (t : TxnId) (sofar : Sofar) (gone left : List Rec) → InOrder t sofar (gone ++ left) → (IsOpen t gone → ⊥)
    → Each (λ x. of_txn t x ≡ false) left
none_left t sofar [] left o n = absurd (n tt)
none_left t sofar (x ∷ gone) left o n = go (cases_Bool (ends x.kind && same_txn x.txn t)) (none_left t (advance t sofar x) gone left o.1)
  where
    go : ((ends x.kind && same_txn x.txn t) ≡ true) ⊎ ((ends x.kind && same_txn x.txn t) ≡ false)
        → ((IsOpen t gone → ⊥) → Each (λ x. of_txn t x ≡ false) left) → Each (λ x. of_txn t x ≡ false) left
    go (inl is) ih =
        let parts = both (ends x.kind) (same_txn x.txn t) is in
        let mine : of_txn t x ≡ true = ⊎_elim (λ own. own) (λ off. not_both is (ends-off t x off)) (cases_Bool (of_txn t x)) in
        Each-back (λ x. of_txn t x ≡ false) gone left (none_after t (advance t sofar x) (gone ++ left)
        (ap (λ (q : Sofar). q.shut) (advance-own t sofar x mine) ∙ parts.0) o.1)
    go (inr no_end) ih = ih (λ og. n (no_end, og))

-- what a moved start place asks of transactions
pub closed-shortened : (gone left : List Rec) → Each (Shut (gone ++ left)) gone → (t : TxnId) → Tidy t (gone ++ left)
    → Each (λ x. of_txn t x ≡ false) gone
    ⊎ ((IsOpen t left → ⊥) ⊎ ((IsOpen t (gone ++ left) → ⊥) × Each (λ x. of_txn t x ≡ false) left))
closed-shortened gone left closed t tidy = ⊎_elim (λ none. inl none)
    (λ shut. inr (⊎_elim
    (λ o. inr (
      shut,
      none_left t none_yet gone left tidy.order
          (λ og. shut (Each-append (λ x. (ends x.kind && same_txn x.txn t) ≡ false) gone left og o)),
    ))
    (λ n. inl n) (open_or t left)))
    (some_shut gone closed)
  where
    some_shut : (xs : List Rec) → Each (Shut (gone ++ left)) xs → Each (λ x. of_txn t x ≡ false) xs ⊎ (IsOpen t (gone ++ left) → ⊥)
    some_shut [] c = inl tt
    some_shut (x ∷ xs) c = go (cases_Bool (of_txn t x)) (some_shut xs c.1)
      where
        go : (of_txn t x ≡ true) ⊎ (of_txn t x ≡ false) → Each (λ x. of_txn t x ≡ false) xs ⊎ (IsOpen t (gone ++ left) → ⊥)
            → Each (λ x. of_txn t x ≡ false) (x ∷ xs) ⊎ (IsOpen t (gone ++ left) → ⊥)
        go (inl is) r = inr (λ o. c.0 (both (speaks x.kind) (same_txn x.txn t) is).0
            (subst (λ (u : TxnId). IsOpen u (gone ++ left)) (sym (own_is t x is)) o))
        go (inr off) (inl none) = inl (off, none)
        go (inr off) (inr shut) = inr shut
