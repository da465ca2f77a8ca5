use Rattle.std.proofs.Common.{◌≡◌, ℕ, zero, suc, ◌+◌, ◌<◌, ◌≤◌, false, List, length, get_or, sym, ap, subst, ◌∙◌, ⊎_elim, arith}
use Rattle.std.proofs.lemmas.Bool.{true≢false, cases_lt}
use Rattle.std.proofs.lemmas.List.Sorted.{Contains-permutation, IsPermutation-sym}
use Rattle.std.specs.Ordering.{is_lt}
use Rattle.sd_base.specs.declared.ids.TxnId.{TxnId}
use Rattle.sd_base.specs.Ids.{IsBelow}
use Rattle.sd_base.specs.Waits.{Wait}
use Rattle.sd_reclock.specs.Waiting.{wait_of}
use Rattle.sd_reclock.proofs.deadlock.Asking.next_of.Goals as goal
use Rattle.sd_base.proofs.Orders.{txn_cmp, below_or_above, below_trans, cmp_from_below}
use Rattle.sd_base.proofs.SameIds.{cases_txn}

not_below_trans : (a b c : TxnId) → (IsBelow a b → ⊥) → (IsBelow b c → ⊥) → IsBelow a c → ⊥
not_below_trans a b c f g h = ⊎_elim
    (λ e. f (subst (λ (x : TxnId). IsBelow a x) (sym e) h))
    (λ ne. ⊎_elim g (λ k. f (below_trans a c b h k)) (below_or_above b c ne))
    (cases_txn b c)

-- in a sorted list none stands behind one that is above it
rising : (xs : List TxnId) → ((k : ℕ) (d : TxnId) → 0 ≤ k → k + 1 < length xs → is_lt (txn_cmp (get_or xs (k + 1) d) (get_or xs k d)) ≡ false)
    → (i j : ℕ) (d : TxnId) → i < j → j < length xs → IsBelow (get_or xs j d) (get_or xs i d) → ⊥
rising xs sorted i zero d l in' b = omega arith
rising xs sorted i (suc j) d l in' b = ⊎_elim
    (λ low. not_below_trans (get_or xs (suc j) d) (get_or xs j d) (get_or xs i d) step (rising xs sorted i j d low (omega arith)) b)
    (λ high. let e : i ≡ j = omega arith in step (subst (λ (k : ℕ). IsBelow (get_or xs (suc j) d) (get_or xs k d)) e b))
    (cases_lt i j)
  where
    next : is_lt (txn_cmp (get_or xs (suc j) d) (get_or xs j d)) ≡ false
    next = let e : j + 1 ≡ suc j = omega arith in subst (λ (k : ℕ). is_lt (txn_cmp (get_or xs k d) (get_or xs j d)) ≡ false) e (sorted j d (omega arith) (omega arith))

    step : IsBelow (get_or xs (suc j) d) (get_or xs j d) → ⊥
    step h = true≢false (sym (ap is_lt (cmp_from_below (get_or xs (suc j) d) (get_or xs j d) h)) ∙ next)

pub returns : goal.returns
returns g c = record {
  those = λ u. (
    λ h. (
      wait_of c.in-Some.wait,
      sym c.in-Some.ensures,
      (c.in_ok-next.ensures u).0
          (Contains-permutation c.sort_unstable.new.self.items c.in_ok-next.next.items u (IsPermutation-sym c.in_ok-next.next.items c.sort_unstable.new.self.items c.sort_unstable.ensures.permutation) h),
    ),
    λ step. Contains-permutation c.in_ok-next.next.items c.sort_unstable.new.self.items u c.sort_unstable.ensures.permutation
        ((c.in_ok-next.ensures u).1
        (let told = c.in-Some.ensures in let same : step.0 ≡ wait_of c.in-Some.wait = cc step.1 in
        subst (λ (w : Wait). g.L.Standing.stands c.args.self.now.locks.now c.args.t.now w u) same step.2)),
  );
  rising = rising c.sort_unstable.new.self.items c.sort_unstable.ensures.sorted;
}
