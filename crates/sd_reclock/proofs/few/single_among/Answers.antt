use Rattle.std.proofs.Common.{arith}
use Rattle.sd_reclock.proofs.Moving.{single_row}
use Rattle.sd_reclock.proofs.few.single_among.Goals as goal

pub returns-in-Some : goal.returns-in-Some
returns-in-Some c = single_row c.args.rows.now c.loop-at.at c.index-rows-at.result c.in-Some.txn c.in-Some.mode c.requires (omega (arith, c.loop-at-test.true)) c.index-rows-at.is c.in-Some.ensures
