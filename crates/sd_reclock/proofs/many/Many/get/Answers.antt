use Rattle.std.proofs.Common.{ap, ◌∙◌}
use Rattle.std.specs.Map.{lookup}
use Rattle.sd_base.specs.Ids.{same_rid}
use Rattle.sd_base.proofs.Orders.{look-rid}
use Rattle.sd_reclock.specs.Locks.{Held}
use Rattle.sd_reclock.proofs.many.Many.get.Goals as goal

pub returns-clause-found : goal.returns-clause-found
returns-clause-found c = c.get.ensures.value ∙ look-rid c.args.r.now c.self.inside.records.entries ∙ ap (λ (locks : Held). lookup (same_rid c.args.r.now) locks) c.self.view_is
