use Rattle.std.proofs.Common.{◌∙◌}
use Rattle.sd_rig.proofs.Numbers.{chosen-both}
use Rattle.sd_rig.proofs.slots.chosen_of.Goals as goal

pub returns-in-true-true : goal.returns-in-true-true
returns-in-true-true c =
    c.newer.ensures
    ∙ chosen-both c.args.body c.number_of.result c.number_of-in-true-true.result c.args.slots.now c.requires.numbered c.requires.whole c.in-true-true.ensures c.in-true-true.ensures' c.number_of.ensures c.number_of-in-true-true.ensures
