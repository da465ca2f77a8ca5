use Rattle.std.proofs.Common.{◌∙◌, ap, refl, sym, subst, ℕ, List, ◌+◌, take}
use Rattle.sd_model.specs.declared.act.Inst.{Inst}
use Rattle.sd_oracle.specs.Lists.{inst_in}
use Rattle.sd_oracle.proofs.Search.{not_true}
use Rattle.sd_oracle.proofs.Lowering.{LowersAll, lower-more, lower-skip, lower-all}
use Rattle.sd_oracle.proofs.reopenings.lowered.Goals as goal
use Rattle.sd_oracle.proofs.reopenings.lowered.Goals.{then-is_retained+in_ok-push, else-is_retained}

pub loop-txn-preserved : goal.loop-txn-preserved
loop-txn-preserved c =
    let goes = λ (l : List (ℕ × Inst)). LowersAll c.args.parts.now (take (c.loop-txn.txn-index + 1) c.args.parts.now) (inst_in c.args.rest.now c.args.insts.items) (inst_in c.args.rest.now l) in
    elim c.if-is_retained.branch [
      | then-is_retained+in_ok-push w ↦ lower-more c.args.parts.now c.args.rest.now c.args.insts.items c.loop-txn.new.items c.if-is_retained.new.items c.loop-txn.txn-index c.loop-txn-item.result w.instance.result w.with_status-down.result
          c.loop-txn-test.true c.loop-txn-item.is (w.if-is_retained.ensures.0 refl) (w.instance.ensures ∙ ap (λ (l : List (ℕ × Inst)). inst_in c.args.rest.now l c.loop-txn-item.result.0.inst) w.deref.ensures.value)
          w.with_status-down.ensures (ap (λ v. v.items) w.new-is ∙ w.in_ok-push.ensures.items) c.loop-txn.invariant
      | else-is_retained w ↦ subst goes (sym (ap (λ v. v.items) w.new-is))
          (lower-skip c.args.parts.now c.loop-txn.txn-index c.loop-txn-item.result (inst_in c.args.rest.now c.args.insts.items) (inst_in c.args.rest.now c.loop-txn.new.items) c.loop-txn-test.true c.loop-txn-item.is
          (λ p. not_true (w.if-is_retained.ensures.1 p)) c.loop-txn.invariant)
    ]

pub returns : goal.returns
returns c = lower-all c.args.parts.now c.loop-txn.txn-index (inst_in c.args.rest.now c.args.insts.items) (inst_in c.args.rest.now c.loop-txn.new.items) c.loop-txn-test.false c.loop-txn.invariant
