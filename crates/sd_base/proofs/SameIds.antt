-- Two transactions, two records or two words are the same or not. It serves all that changes a state at one of them.
use Rattle.std.proofs.Common.{◌≡◌, ◌≢◌, ◌⊎◌, inl, inr, ⊎_elim, Bool, true, false, eqb, cond, refl, sym, ap, subst, eq-eqb, ne_eqb}
use Rattle.std.proofs.lemmas.Bool.{cases_eq}
use Rattle.sd_base.specs.declared.ids.TxnId.{TxnId}
use Rattle.sd_base.specs.declared.ids.Rid.{Rid}
use Rattle.sd_base.specs.Ids.{same_txn, same_rid}

pub eq-same : (a b : TxnId) → a ≡ b → same_txn a b ≡ true
unfolding same_txn
eq-same a b e = let i = ap (λ (t : TxnId). t.inst) e in let j = ap (λ (t : TxnId). t.epoch) e in let k = ap (λ (t : TxnId). t.seq) e in rw (eq-eqb a.inst b.inst i, eq-eqb a.epoch b.epoch j, eq-eqb a.seq b.seq k) refl

pub ne-same : (a b : TxnId) → a ≢ b → same_txn a b ≡ false
unfolding same_txn
ne-same a b ne = ⊎_elim
    (λ i. ⊎_elim
    (λ j. ⊎_elim
    (λ k. absurd (ne (λ n. record { inst = i n; epoch = j n; seq = k n })))
    (λ k. let e : eqb a.seq b.seq ≡ false = ne_eqb a.seq b.seq k in rw (eq-eqb a.inst b.inst i, eq-eqb a.epoch b.epoch j, e) refl)
    (cases_eq a.seq b.seq))
    (λ j. let e : eqb a.epoch b.epoch ≡ false = ne_eqb a.epoch b.epoch j in rw (eq-eqb a.inst b.inst i, e) refl)
    (cases_eq a.epoch b.epoch))
    (λ i. let e : eqb a.inst b.inst ≡ false = ne_eqb a.inst b.inst i in rw e refl)
    (cases_eq a.inst b.inst)

pub cases_txn : (a b : TxnId) → (a ≡ b) ⊎ (a ≢ b)
cases_txn a b = ⊎_elim
    (λ i. ⊎_elim
    (λ j. ⊎_elim (λ k. inl (λ n. record { inst = i n; epoch = j n; seq = k n })) (λ ne. inr (λ e. ne (ap (λ (t : TxnId). t.seq) e))) (cases_eq a.seq b.seq))
    (λ ne. inr (λ e. ne (ap (λ (t : TxnId). t.epoch) e)))
    (cases_eq a.epoch b.epoch))
    (λ ne. inr (λ e. ne (ap (λ (t : TxnId). t.inst) e)))
    (cases_eq a.inst b.inst)

pub eq-same_rid : (a b : Rid) → a ≡ b → same_rid a b ≡ true
unfolding same_rid
eq-same_rid a b e = let i = ap (λ (t : Rid). t.page) e in let j = ap (λ (t : Rid). t.slot) e in rw (eq-eqb a.page b.page i, eq-eqb a.slot b.slot j) refl

pub ne-same_rid : (a b : Rid) → a ≢ b → same_rid a b ≡ false
unfolding same_rid
ne-same_rid a b ne = ⊎_elim
    (λ i. ⊎_elim
    (λ j. absurd (ne (λ n. record { page = i n; slot = j n })))
    (λ j. let e : eqb a.slot b.slot ≡ false = ne_eqb a.slot b.slot j in rw (eq-eqb a.page b.page i, e) refl)
    (cases_eq a.slot b.slot))
    (λ i. let e : eqb a.page b.page ≡ false = ne_eqb a.page b.page i in rw e refl)
    (cases_eq a.page b.page)

pub cases_rid : (a b : Rid) → (a ≡ b) ⊎ (a ≢ b)
cases_rid a b = ⊎_elim
    (λ i. ⊎_elim (λ j. inl (λ n. record { page = i n; slot = j n })) (λ ne. inr (λ e. ne (ap (λ (t : Rid). t.slot) e))) (cases_eq a.slot b.slot))
    (λ ne. inr (λ e. ne (ap (λ (t : Rid). t.page) e)))
    (cases_eq a.page b.page)

-- a function that is changed at one transaction
pub each_txn : (t : TxnId) {X : Type 0} (P : TxnId → X → Type 0) (p : X) (f : TxnId → X) → P t p → ((u : TxnId) → t ≢ u → P u (f u)) → (u : TxnId) → P u (cond (same_txn t u) p (f u))
each_txn t P p f here others u = ⊎_elim
    (λ e. subst (λ (b : Bool). P u (cond b p (f u))) (sym (eq-same t u e)) (subst (λ (v : TxnId). P v p) e here))
    (λ ne. subst (λ (b : Bool). P u (cond b p (f u))) (sym (ne-same t u ne)) (others u ne))
    (cases_txn t u)
