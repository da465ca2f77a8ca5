use Rattle.sd_reclock.proofs.Joining.{joined_left, joined_right}
use Rattle.sd_reclock.proofs.locks.Locks.get.Goals as goal

pub returns-in-Some-clause-found : goal.returns-in-Some-clause-found
returns-in-Some-clause-found c = joined_left c.self.inside.few c.self.inside.many c.args.self.now c.args.r.now c.in-Some.holders.now c.self.view_is c.in-Some.ensures

pub returns-in-None-clause-found : goal.returns-in-None-clause-found
returns-in-None-clause-found c = joined_right c.self.inside.few c.self.inside.many c.args.self.now c.args.r.now _ c.self.view_is c.in-None.ensures c.get-in-None.ensures.found
