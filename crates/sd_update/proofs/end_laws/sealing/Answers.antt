use Rattle.sd_update.proofs.SealedLaws.{check-seals, commit-seals, end-seals, start-seals}
use Rattle.sd_update.proofs.end_laws.sealing.Goals as goal

pub returns-clause-end : goal.returns-clause-end
returns-clause-end g c = end-seals g.M.Moment.leaves c.owed_by_shut.ensures.reserve c.owed_by_shut.ensures.owed

pub returns-clause-commit : goal.returns-clause-commit
returns-clause-commit g c = commit-seals g.M.Moment.leaves c.owed_by_shut.ensures.reserve c.owed_by_shut.ensures.owed

pub returns-clause-check : goal.returns-clause-check
returns-clause-check g c = check-seals g.M.Moment.leaves

pub returns-clause-start : goal.returns-clause-start
returns-clause-start g c = start-seals g.M.Moment.leaves
