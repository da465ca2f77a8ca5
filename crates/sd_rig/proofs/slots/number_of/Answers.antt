use Rattle.std.proofs.Common.{◌∙◌}
use Rattle.sd_rig.proofs.Numbers.{big_number-is}
use Rattle.sd_rig.proofs.slots.number_of.Goals as goal

pub returns : goal.returns
returns c = c.read_u64.ensures ∙ big_number-is c.args.body.now
