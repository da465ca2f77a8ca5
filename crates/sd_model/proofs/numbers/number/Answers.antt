use Rattle.std.proofs.Common.{◌-◌, length, take, drop}
use Rattle.sd_model.proofs.NumberTexts.{minus-number, begins-with, not-empty}
use Rattle.sd_model.proofs.numbers.number.Goals as goal

pub returns : goal.returns
returns c = minus-number c.below_zero.result c.args.text.now (take (length c.args.text.now - 1) (drop 1 c.args.text.now)) (begins-with c.args.text.now (not-empty c.args.text.now c.if-is_empty.ensures) c.if-text-ne45.false) c.below_zero.ensures
