use Rattle.std.proofs.Common.{subst}
use Rattle.sd_hall.specs.Bodies.{fits_in}
use Rattle.sd_hall.proofs.ledger.is_owed_in.Goals as goal

pub returns-in-Some : goal.returns-in-Some
returns-in-Some g c = λ w f. c.is_owed_on.ensures w (subst (λ b. fits_in g.G.Rig.seen g.G.Rig.leaves b w) c.in-Some.is f)
