use Rattle.std.proofs.Common.{rules}
use Rattle.sd_fits.proofs.Falling.{fallen-down}
use Rattle.sd_ops.proofs.transactions.fall_in_commit.Goals as goal

pub returns-clause-down : goal.returns-clause-down
returns-clause-down g c = search (rules, fallen-down)
