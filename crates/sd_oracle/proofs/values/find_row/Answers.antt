use Rattle.std.proofs.Common.{◌∙◌, ap, ℕ, List, Some}
use Rattle.sd_oracle.proofs.Loops.{same_rid-test, row-here, row-next}
use Rattle.sd_oracle.proofs.values.find_row.Goals as goal

pub returns-then-eq : goal.returns-then-eq
returns-then-eq c = ap (λ (v : List ℕ). Some v) c.items.ensures ∙ row-here c.args.rid.now c.args.rows.now c.loop-at.at-index c.loop-at-item.result c.loop-at-test.true c.loop-at-item.is
    (same_rid-test c.args.rid.now c.loop-at-item.result.0 c.eq.result c.eq.ensures ∙ c.if-eq.true) c.loop-at.invariant

pub loop-at-preserved : goal.loop-at-preserved
loop-at-preserved c = row-next c.args.rid.now c.args.rows.now c.loop-at.at-index c.loop-at-item.result c.loop-at-test.true c.loop-at-item.is
    (same_rid-test c.args.rid.now c.loop-at-item.result.0 c.eq.result c.eq.ensures ∙ c.if-eq.false) c.loop-at.invariant
