use Rattle.std.proofs.Common.{subst, arith}
use Rattle.std.specs.Prelude.{All}
use Rattle.std.proofs.lemmas.List.{take_all}
use Rattle.sd_moves.proofs.Spelled.{IsSpelled, more-spelled}
use Rattle.sd_moves.proofs.rebuilding.spelled.Goals as goal

pub loop-log-preserved : goal.loop-log-preserved
loop-log-preserved c =
    more-spelled c.args.logs.now c.loop-log.log-index c.log-item.result c.loop-log-test.true c.log-item.is c.keeps.ensures.spelled
    c.loop-log.invariant

pub returns : goal.returns
returns c = subst (All IsSpelled) (take_all c.loop-log.log-index c.args.logs.now (omega arith)) c.loop-log.invariant
