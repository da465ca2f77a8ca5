use Rattle.std.proofs.Common.{ap, ℕ}
use Rattle.sd_model.specs.declared.act.Inst.{Inst}
use Rattle.sd_oracle.specs.Lists.{meaning}
use Rattle.sd_oracle.proofs.Parts.{insts-after}
use Rattle.sd_oracle.proofs.lists.Lists.set_inst.Goals as goal

pub returns-clause-set : goal.returns-clause-set
returns-clause-set c = ap (λ (f : ℕ → Inst). record (meaning c.args.self.now) { inst = f }) (insts-after c.args.self.now.rest c.args.self.now.insts.items c.push.new.self.items c.args.inst c.args.state c.in_ok-push.ensures.items)
