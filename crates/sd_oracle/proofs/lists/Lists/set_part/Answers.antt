use Rattle.std.proofs.Common.{ap}
use Rattle.sd_base.specs.declared.ids.TxnId.{TxnId}
use Rattle.sd_model.specs.State.{Part}
use Rattle.sd_oracle.specs.Lists.{meaning}
use Rattle.sd_oracle.proofs.Parts.{parts-after}
use Rattle.sd_oracle.proofs.lists.Lists.set_part.Goals as goal

pub returns-clause-set : goal.returns-clause-set
returns-clause-set c = ap (λ (f : TxnId → Part). record (meaning c.args.self.now) { part = f }) (parts-after c.args.self.now.parts.items c.push.new.self.items c.args.txn c.args.standing c.in_ok-push.ensures.items)
