use Rattle.std.proofs.Common.{subst}
use Rattle.sd_reclock.specs.Locks.{Modes, mode_of, IsLowestHolder}
use Rattle.sd_reclock.proofs.Firsts.{lowest_both}
use Rattle.sd_reclock.proofs.holders.Holders.lowest_but.Goals as goal

pub returns : goal.returns
returns c = subst (λ (holders : Modes). IsLowestHolder (mode_of holders) c.args.not.now c.lower_of.result) c.self.view_is
    (lowest_both c.self.inside.first c.self.inside.others c.args.not.now c.first_but.result c.lowest_but.result c.lower_of.result c.first_but.ensures c.lowest_but.ensures c.lower_of.ensures)
