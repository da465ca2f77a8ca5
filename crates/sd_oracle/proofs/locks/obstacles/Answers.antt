use Rattle.std.proofs.Common.{◌≡◌, List, [], ◌∷◌, ◌++◌, arith, inl, inr, refl, sym, subst, ⊎_elim}
use Rattle.std.proofs.lemmas.List.Elements.{Contains-append_left, Contains-push, Contains-push_cases}
use Rattle.std.specs.List.{Contains}
use Rattle.sd_base.specs.declared.ids.TxnId.{TxnId}
use Rattle.sd_oracle.specs.declared.standing.Standing.{Standing}
use Rattle.sd_oracle.specs.Lists.{meaning}
use Rattle.sd_oracle.specs.Claimers.{Obstructs}
use Rattle.sd_oracle.proofs.Search.{any-step, any-stop, part-any, not_true, clash-there}
use Rattle.sd_oracle.proofs.locks.obstacles.Goals as goal
use Rattle.sd_oracle.proofs.locks.obstacles.Goals.{then-conflicts+in_ok-push, else-conflicts}
use Rattle.sd_base.proofs.SameIds.{cases_txn}

nowhere : (u : TxnId) → Contains [] u → ⊥
nowhere u h = let l = h.1 in omega arith

pub loop-other-init : goal.loop-other-init
loop-other-init c = record {
  those = λ u h. absurd (nowhere u (subst (λ (xs : List TxnId). Contains xs u) c.new-all.ensures.items h));
  whole = λ u h. inr (part-any (λ (v : TxnId). v ≡ u) c.args.lists.now.parts.items u (clash-there (meaning c.args.lists.now) u c.args.rid.now c.args.mode h.1) refl);
}

pub loop-other-preserved : goal.loop-other-preserved
loop-other-preserved c =
    let x = c.loop-other-item.result in
    elim c.if-conflicts.branch [
      | then-conflicts+in_ok-push w ↦ rw (w.all-is, w.in_ok-push.ensures.items) (record {
        those = λ u h. ⊎_elim
            (λ k. c.loop-other.invariant.those u k)
            (λ e. subst (λ (v : TxnId). Obstructs (meaning c.args.lists.now) c.args.txn.now c.args.rid.now c.args.mode v) e (w.if-conflicts.ensures.0 refl))
            (Contains-push_cases c.loop-other.all.items c.loop-other-item.result.0 u h);
        whole = λ u h. ⊎_elim
            (λ k. inl (Contains-append_left c.loop-other.all.items (c.loop-other-item.result.0 ∷ []) u k))
            (λ a. ⊎_elim
            (λ e. inl (subst (λ (v : TxnId). Contains (c.loop-other.all.items ++ c.loop-other-item.result.0 ∷ []) v) e (Contains-push c.loop-other.all.items c.loop-other-item.result.0)))
            (λ ne. inr (any-step (λ (y : TxnId × Standing). y.0 ≡ u) c.args.lists.now.parts.items c.deref-other-items.result.now c.loop-other.other-index c.loop-other-item.result
            c.deref-other-items.ensures.value c.loop-other-test.true c.loop-other-item.is ne a))
            (cases_txn c.loop-other-item.result.0 u))
            (c.loop-other.invariant.whole u h);
      })
      | else-conflicts w ↦ rw w.all-is (record {
        those = c.loop-other.invariant.those;
        whole = λ u h. ⊎_elim
            (λ k. inl k)
            (λ a. inr (any-step (λ (y : TxnId × Standing). y.0 ≡ u) c.args.lists.now.parts.items c.deref-other-items.result.now c.loop-other.other-index c.loop-other-item.result
            c.deref-other-items.ensures.value c.loop-other-test.true c.loop-other-item.is
            (λ e. not_true (w.if-conflicts.ensures.1 (subst (λ (v : TxnId). Obstructs (meaning c.args.lists.now) c.args.txn.now c.args.rid.now c.args.mode v) (sym e) h))) a))
            (c.loop-other.invariant.whole u h);
      })
    ]

pub returns : goal.returns
returns c = λ u. (
  λ h. c.loop-other.invariant.those u h,
  λ h. ⊎_elim
      (λ k. k)
      (λ a. absurd (any-stop (λ (x : TxnId × Standing). x.0 ≡ u) c.args.lists.now.parts.items c.deref-other-items.result.now c.loop-other.other-index c.deref-other-items.ensures.value c.loop-other-test.false
      c.loop-other.auto.other-index-end a))
      (c.loop-other.invariant.whole u h),
)
