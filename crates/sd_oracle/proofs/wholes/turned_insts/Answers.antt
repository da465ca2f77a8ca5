use Rattle.sd_oracle.specs.Lists.{unjoined}
use Rattle.sd_oracle.specs.Wholes.{turned_inst}
use Rattle.sd_oracle.proofs.OneByOne.{insts-next}
use Rattle.sd_oracle.proofs.wholes.turned_insts.Goals as goal

pub loop-number-preserved : goal.loop-number-preserved
loop-number-preserved c = λ rest i. insts-next (turned_inst c.args.turn.now) (unjoined rest) c.args.insts.now c.loop-number.all.items c.push.new.self.items c.loop-number.number-index c.loop-number-item.result c.turned.result
    c.loop-number-test.true c.loop-number-item.is c.turned.ensures c.in_ok-push.ensures.items i (c.loop-number.invariant rest i)
