use Rattle.std.proofs.Common.{subst}
use Rattle.sd_fits.specs.Bodies.{fits_body}
use Rattle.sd_hall.proofs.LedgerBodies.{closed-owes}
use Rattle.sd_hall.proofs.ledger.is_owed_on.Goals as goal

pub returns-in-Open : goal.returns-in-Open
returns-in-Open g c = λ w f. c.is_owed.ensures w (subst (λ b. fits_body g.G.Rig.seen g.G.Rig.leaves b w) c.in-Open.is f)

pub returns-in-Closed : goal.returns-in-Closed
returns-in-Closed g c = λ w f. (
  (λ is. absurd (cc)),
  (λ owed. absurd (closed-owes (g.G.Rig.leaves c.in-Closed.field-0) w
      (subst (λ b. fits_body g.G.Rig.seen g.G.Rig.leaves b w) c.in-Closed.is f).fits c.args.e.now owed)),
)
