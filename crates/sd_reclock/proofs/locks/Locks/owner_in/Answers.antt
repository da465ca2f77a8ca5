use Rattle.sd_reclock.proofs.Joining.{agree_left, owner_both}
use Rattle.sd_reclock.proofs.locks.Locks.owner_in.Goals as goal

pub owner_in-requires : goal.owner_in-requires
owner_in-requires c = record { agree = agree_left c.self.inside.few c.self.inside.many c.self.invariant.0 c.self.invariant.1 }

pub returns : goal.returns
returns c = owner_both c.self.inside.few c.self.inside.many c.args.self.now c.args.p c.owner_in.result c.owner_in-2.result c.lower_of.result c.self.view_is c.self.invariant.0 c.owner_in.ensures c.owner_in-2.ensures c.lower_of.ensures
