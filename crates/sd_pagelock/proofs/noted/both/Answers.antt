use Rattle.sd_pagelock.proofs.Groups.{has-left, has-right}
use Rattle.sd_pagelock.proofs.noted.both.Goals as goal

pub returns-clause-left : goal.returns-clause-left
returns-clause-left c = λ k is. has-left c.args.a.bits c.args.b.bits k is

pub returns-clause-right : goal.returns-clause-right
returns-clause-right c = λ k is. has-right c.args.a.bits c.args.b.bits k is
