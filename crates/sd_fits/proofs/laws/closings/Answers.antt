use Rattle.sd_fits.proofs.Closing.{all-fail, all-fail-again, closed-stays}
use Rattle.sd_fits.proofs.Reopening.{closed-reopens}
use Rattle.sd_fits.proofs.laws.closings.Goals as goal

pub returns-clause-all_fail : goal.returns-clause-all_fail
returns-clause-all_fail g c = all-fail g.M.Moment.leaves g.N.Moment.leaves

pub returns-clause-all_fail_again : goal.returns-clause-all_fail_again
returns-clause-all_fail_again g c = all-fail-again g.M.Moment.leaves g.N.Moment.leaves

pub returns-clause-stays : goal.returns-clause-stays
returns-clause-stays g c = closed-stays g.M.Moment.leaves g.N.Moment.leaves

pub returns-clause-reopens : goal.returns-clause-reopens
returns-clause-reopens g c = closed-reopens g.M.Moment.leaves g.N.Moment.leaves
