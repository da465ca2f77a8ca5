use Rattle.std.proofs.Common.{◌∙◌, ap, sym, refl, ℕ, Bool, cond, eqb, List}
use Rattle.sd_model.specs.declared.act.Inst.{Inst}
use Rattle.sd_oracle.specs.Lists.{inst_from, inst_in}
use Rattle.sd_oracle.proofs.Loops.{fold-next}
use Rattle.sd_oracle.proofs.standing.instance.Goals as goal
use Rattle.sd_oracle.proofs.standing.instance.Goals.{then-eq, else-eq}

pub loop-number-preserved : goal.loop-number-preserved
loop-number-preserved c =
    let i : ℕ = c.args.inst in
    let x : ℕ × Inst = c.loop-number-item.result in
    let next = fold-next (λ (s : Inst) (l : List (ℕ × Inst)). inst_from s l i) (λ (s : Inst) (y : ℕ × Inst). cond (eqb y.0 i) y.1 s) (λ s y l. refl)
    c.loop-number.found c.if-eq.found x c.args.insts.now c.loop-number.number-index (inst_in c.args.rest.now c.args.insts.now i) c.loop-number-test.true c.loop-number-item.is in
    elim c.if-eq.branch [
      | then-eq w ↦ next (ap (λ (b : Bool). cond b x.1 c.loop-number.found) (sym c.eq.ensures ∙ w.if-eq.true) ∙ sym w.found-is) c.loop-number.invariant
      | else-eq w ↦ next (ap (λ (b : Bool). cond b x.1 c.loop-number.found) (sym c.eq.ensures ∙ w.if-eq.false) ∙ sym w.found-is) c.loop-number.invariant
    ]
