use Rattle.std.proofs.Common.{sym}
use Rattle.sd_reclock.proofs.Placed.{found_in}
use Rattle.sd_reclock.proofs.few.Few.get.Goals as goal

pub returns-in-Some : goal.returns-in-Some
returns-in-Some c = found_in c.self.inside.rows.items c.args.self.now c.args.r.now c.in-Some.at c.index.result.now c.self.view_is c.self.invariant c.in-Some.ensures c.index.ensures

pub returns-in-None : goal.returns-in-None
returns-in-None c = sym c.in-None.ensures
