use Rattle.sd_base.proofs.Masks.{byte-only}
use Rattle.sd_base.proofs.set.InstSet.only.Goals as goal

pub returns : goal.returns
returns c = byte-only c.args.i c.bit.result c.bit.ensures.low c.bit.ensures.high c.bit.ensures.value
