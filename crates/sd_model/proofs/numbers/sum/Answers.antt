use Rattle.sd_model.proofs.NumberTexts.{summed, not-summed}
use Rattle.sd_model.proofs.numbers.sum.Goals as goal

pub returns-in-Some-added : goal.returns-in-Some-added
returns-in-Some-added c = summed c.args.text.now c.in-Some.old c.args.by c.in-Some-added.sum c.in-Some.ensures c.ranges.by.sfits c.in-Some-added.ensures.0 c.in-Some-added.ensures.1

pub returns-in-None-added : goal.returns-in-None-added
returns-in-None-added c = not-summed c.args.text.now c.in-Some.old c.args.by c.in-Some.ensures c.ranges.by.sfits c.in-None-added.ensures
