use Rattle.sd_reclock.proofs.Owners.{owner_first, owner_shared}
use Rattle.sd_reclock.proofs.Firsts.{was_row}
use Rattle.sd_reclock.proofs.holders.Holders.owner.Goals as goal

pub returns-in-Excl : goal.returns-in-Excl
returns-in-Excl c = owner_first c.args.self.now c.self.inside.others (c.in-Some.t, c.in-Some.mode) c.requires.agree
    (was_row c.self.inside.first c.self.inside.others c.args.self.now c.in-Some.t c.in-Some.mode c.self.view_is c.in-Some.is) c.in-Excl.is

pub returns-in-Shared : goal.returns-in-Shared
returns-in-Shared c = owner_shared c.args.self.now c.self.inside.others (c.in-Some.t, c.in-Some.mode) c.requires.agree
    (was_row c.self.inside.first c.self.inside.others c.args.self.now c.in-Some.t c.in-Some.mode c.self.view_is c.in-Some.is) c.in-Shared.is
