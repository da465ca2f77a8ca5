use Rattle.std.proofs.Common.{◌∙◌, ap, sym}
use Rattle.sd_model.specs.Words.{same_word}
use Rattle.sd_oracle.proofs.Loops.{word-test, mark-here, mark-next}
use Rattle.sd_oracle.proofs.standing.find_mark.Goals as goal

pub returns-then-eq : goal.returns-then-eq
returns-then-eq c = mark-here c.args.name.now c.args.marks.now c.loop-mark.mark-index c.loop-mark-item.result c.loop-mark-test.true c.loop-mark-item.is
    (ap (same_word c.args.name.now) (sym c.items.ensures) ∙ (sym (word-test c.args.name.now c.items.result.now) ∙ (sym c.eq.ensures ∙ c.if-eq.true))) c.loop-mark.invariant

pub loop-mark-preserved : goal.loop-mark-preserved
loop-mark-preserved c = mark-next c.args.name.now c.args.marks.now c.loop-mark.mark-index c.loop-mark-item.result c.loop-mark-test.true c.loop-mark-item.is
    (ap (same_word c.args.name.now) (sym c.items.ensures) ∙ (sym (word-test c.args.name.now c.items.result.now) ∙ (sym c.eq.ensures ∙ c.if-eq.false))) c.loop-mark.invariant
