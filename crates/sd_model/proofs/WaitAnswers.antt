-- Blocked and in a deadlock exclude each other, each says that the record is locked, and one cycle alone is told. It
-- serves the goals of `waits` in laws.rt, and those of programs that tell cycles.
use Rattle.std.proofs.Common.{◌≡◌, ◌⊎◌, inl, inr, ⊎_elim, ◌≤◌, Bool, cond, List, [], ◌∷◌, length, Option, Some, refl, sym, ap, ◌∙◌, subst, arith}
use Rattle.sd_base.specs.declared.ids.TxnId.{TxnId}
use Rattle.sd_base.specs.Waits.{Wait, Waits, Obstacles, ComesBefore, IsCycle, IsBlocked, IsDeadlock, asking}
use Rattle.sd_model.specs.State.{State}
use Rattle.sd_model.specs.Applies.{Locked}
use Rattle.sd_model.specs.Waits.{claim_of, stands}
use Rattle.sd_base.proofs.SameIds.{cases_txn, eq-same}
use Rattle.sd_base.proofs.Orders.{below_or_above}

pub blocked-locked : (m : State) (waits : Waits) (t : TxnId) (wait : Wait) (by : TxnId) → IsBlocked (stands m) waits t wait by
    → Locked m t wait.rid (claim_of wait.mode)
blocked-locked m waits t wait by b = (by, b.obstructs.0, b.obstructs.1)

the_wait : (w v : Wait) → Some w ≡ Some v → w ≡ v
the_wait w v e = cc

cycle-obstructs : (m : State) (waits : Waits) (t : TxnId) (wait : Wait) (cycle : List TxnId)
    → IsCycle (stands m) (asking t wait waits) t cycle → (u : TxnId) × stands m t wait u
cycle-obstructs m waits t wait [] c = absurd c
cycle-obstructs m waits t wait (u ∷ []) c = absurd c
cycle-obstructs m waits t wait (u ∷ v ∷ ts) c =
    let w = c.2.0 in
    let asked : asking t wait waits u ≡ Some wait =
    ap (λ (b : Bool). cond {A = Option Wait} b (Some wait) (waits u)) (eq-same t u (sym c.0)) in
    let is : w.0 ≡ wait = the_wait w.0 wait (sym w.1 ∙ asked) in
    (v, subst (λ (x : TxnId). stands m x wait v) c.0 (subst (λ (x : Wait). stands m u x v) is w.2))

pub deadlock-locked : (m : State) (waits : Waits) (t : TxnId) (wait : Wait) (cycle : List TxnId) → IsDeadlock (stands m) waits t wait cycle
    → Locked m t wait.rid (claim_of wait.mode)
deadlock-locked m waits t wait cycle d = let o = cycle-obstructs m waits t wait cycle d.closes in (o.0, o.1.0, o.1.1)

pub not-both : (m : State) (waits : Waits) (t : TxnId) (wait : Wait) (by : TxnId) (cycle : List TxnId)
    → IsBlocked (stands m) waits t wait by → IsDeadlock (stands m) waits t wait cycle → ⊥
not-both m waits t wait by cycle b d = b.free cycle d.closes

-- of two lists of one length that differ one comes before the other
in_order : (xs ys : List TxnId) → length xs ≡ length ys → (xs ≡ ys) ⊎ (ComesBefore xs ys ⊎ ComesBefore ys xs)
in_order [] [] e = inl refl
in_order [] (y ∷ ys) e = absurd (omega arith)
in_order (x ∷ xs) [] e = absurd (omega arith)
in_order (x ∷ xs) (y ∷ ys) e = ⊎_elim
    (λ (same : x ≡ y). ⊎_elim
    (λ (rest : xs ≡ ys). inl (cc))
    (⊎_elim (λ (b : ComesBefore xs ys). inr (inl (inr (same, b)))) (λ (b : ComesBefore ys xs). inr (inr (inr (sym same, b)))))
    (in_order xs ys (omega arith)))
    (λ ne. ⊎_elim (λ b. inr (inl (inl b))) (λ b. inr (inr (inl b))) (below_or_above x y ne))
    (cases_txn x y)

-- there is one first cycle of the shortest ones
pub one-cycle : (blocks : Obstacles) (waits : Waits) (t : TxnId) (wait : Wait) (a b : List TxnId)
    → IsDeadlock blocks waits t wait a → IsDeadlock blocks waits t wait b → a ≡ b
one-cycle blocks waits t wait a b da db =
    let le : length a ≤ length b = da.shortest b db.closes in
    let ge : length b ≤ length a = db.shortest a da.closes in
    let same : length a ≡ length b = omega arith in
    ⊎_elim (λ (e : a ≡ b). e)
    (⊎_elim (λ (l : ComesBefore a b). absurd (db.lowest a da.closes same l))
    (λ (l : ComesBefore b a). absurd (da.lowest b db.closes (sym same) l)))
    (in_order a b same)
