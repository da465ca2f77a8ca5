use Rattle.std.proofs.Common.{arith}
use Rattle.sd_pagelock.proofs.Groups.{group_high, group_low, grouped-regroup}
use Rattle.sd_pagelock.proofs.noted.Noted.regroup.Goals as goal

pub users_of-requires : goal.users_of-requires
users_of-requires c = omega (arith, c.requires, c.self.invariant.count)

pub invariant_of-self : goal.invariant_of-self
invariant_of-self c = grouped-regroup c.self.inside.pages.items c.self.inside.groups.items c.args.group c.users_of.result c.self.invariant c.requires
    (λ q k e is. c.users_of.ensures q k (group_low c.args.group q e) (group_high c.args.group q e) is)
