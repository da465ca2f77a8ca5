use Rattle.sd_fits.proofs.Fitting.{fits-stands, fresh-fits}
use Rattle.sd_fits.proofs.Opened.{opened-world}
use Rattle.sd_fits.proofs.Sums.{left-within}
use Rattle.sd_fits.proofs.laws.worlds.Goals as goal

pub returns-clause-stands : goal.returns-clause-stands
returns-clause-stands g c = fits-stands g.M.Moment.leaves

pub returns-clause-fresh : goal.returns-clause-fresh
returns-clause-fresh g c = fresh-fits g.M.Moment.leaves

pub returns-clause-sums : goal.returns-clause-sums
returns-clause-sums g c = left-within g.M.Moment.leaves

pub returns-clause-opened : goal.returns-clause-opened
returns-clause-opened g c = opened-world g.M.Moment.leaves
