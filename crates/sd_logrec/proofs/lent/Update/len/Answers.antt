use Rattle.std.proofs.Common.{arith}
use Rattle.sd_logrec.specs.Lent.{update_record}
use Rattle.sd_logrec.proofs.Lengths.{length-spelling}
use Rattle.sd_logrec.proofs.lent.Update.len.Goals as goal

pub returns : goal.returns
returns c = omega (arith, length-spelling (update_record c.args.self.now), c.lent_len.ensures.value, c.lent_len-2.ensures.value)
