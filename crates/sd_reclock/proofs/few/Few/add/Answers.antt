use Rattle.sd_reclock.proofs.Placed.{one_pushed}
use Rattle.sd_reclock.proofs.few.Few.add.Goals as goal

pub invariant_of-self-2 : goal.invariant_of-self-2
invariant_of-self-2 c = one_pushed _ c.self.inside.rows.items c.args.self.now c.push.new.self.items c.args.r.now c.of-holders.result c.push.ensures.items c.self.view_is c.requires.further c.self.invariant
