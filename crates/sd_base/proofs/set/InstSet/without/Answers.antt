use Rattle.std.proofs.Common.{rules}
use Rattle.sd_base.proofs.Masks.{byte-without}
use Rattle.sd_base.proofs.set.InstSet.without.Goals as goal

pub returns : goal.returns
returns c = byte-without c.args.self.bits c.args.i c.bit.result (search rules) c.bit.ensures.low c.bit.ensures.high c.bit.ensures.value
