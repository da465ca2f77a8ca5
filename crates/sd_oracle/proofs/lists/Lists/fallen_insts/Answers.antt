use Rattle.std.proofs.Common.{refl, ℕ}
use Rattle.sd_base.specs.declared.place.Status.{Status}
use Rattle.sd_model.specs.State.{freed}
use Rattle.sd_oracle.proofs.OneByOne.{fall-inst}
use Rattle.sd_oracle.proofs.lists.Lists.fallen_insts.Goals as goal

pub returns : goal.returns
returns c =
    let i : ℕ = c.args.inst in
    let rest : Status = c.args.self.now.rest in
    fall-inst i rest (freed i rest) c.args.self.now.insts.items c.deref.result.now c.in_ok-insts.insts.items c.push.new.self.items
    c.with_status-down.result c.inst.result c.deref.ensures.value c.in_ok-insts.ensures c.in_ok-push.ensures.items
    c.with_status-down.ensures c.inst.ensures refl
