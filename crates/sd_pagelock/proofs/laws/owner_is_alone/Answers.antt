use Rattle.sd_pagelock.proofs.Drops.{owner-holds, owner-passes, owner-uses}
use Rattle.sd_pagelock.proofs.laws.owner_is_alone.Goals as goal

pub returns-clause-holds : goal.returns-clause-holds
returns-clause-holds c = owner-holds

pub returns-clause-passes : goal.returns-clause-passes
returns-clause-passes c = owner-passes

pub returns-clause-uses : goal.returns-clause-uses
returns-clause-uses c = owner-uses
