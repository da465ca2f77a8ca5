use Rattle.std.proofs.Common.{sym, ◌∙◌}
use Rattle.sd_reclock.proofs.Joining.{held_many}
use Rattle.sd_reclock.proofs.locks.Locks.is_unlocked.Goals as goal

pub returns-in-None : goal.returns-in-None
returns-in-None c = λ is u. sym (held_many c.self.inside.few c.self.inside.many c.args.self.now u c.args.r.now c.self.view_is c.in-None.ensures) ∙ c.is_unlocked.ensures is u
