use Rattle.std.proofs.Common.{◌∙◌, ap, cond, eqb, ℕ, ◌+◌}
use Rattle.sd_base.specs.declared.ids.TxnId.{TxnId}
use Rattle.sd_model.specs.declared.act.Inst.{Inst}
use Rattle.sd_base.specs.Ids.{same_txn}
use Rattle.sd_model.specs.State.{State, Part}
use Rattle.sd_oracle.specs.Lists.{meaning}
use Rattle.sd_oracle.proofs.Parts.{parts-after, insts-after, list-after}
use Rattle.sd_oracle.proofs.lists.Lists.begin.Goals as goal

pub returns-clause-began : goal.returns-clause-began
returns-clause-began c =
    let m : State = meaning c.args.self.now in
    let t : TxnId = c.args.txn.now in
    let i : ℕ = c.args.inst in
    let x : Inst = record c.inst-state.result { begins = c.inst-state.result.begins + 1 } in
    let begun = list-after m.begun c.reserve.new.self.items c.append.new.list.items t c.in_ok-reserve.ensures.items c.append.ensures in
    let inst = insts-after c.args.self.now.rest c.args.self.now.insts.items c.append-2.new.list.items i x
    (list-after c.args.self.now.insts.items c.reserve-2.new.self.items c.append-2.new.list.items (i, x) c.in_ok-reserve-2.ensures.items c.append-2.ensures)
    ∙ ap {B = ℕ → Inst} (λ (y : Inst) (j : ℕ). cond (eqb i j) (record y { begins = y.begins + 1 }) (m.inst j)) c.inst-state.ensures in
    let part = parts-after c.args.self.now.parts.items c.append-3.new.list.items t c.started.result
    (list-after c.args.self.now.parts.items c.reserve-3.new.self.items c.append-3.new.list.items (t, c.started.result) c.in_ok-reserve-3.ensures.items c.append-3.ensures)
    ∙ ap {B = TxnId → Part} (λ (p : Part) (u : TxnId). cond (same_txn t u) p (m.part u)) c.started.ensures in
    λ k. record { start = m.start; done = m.done; begun = begun k; cuts = m.cuts; part = part k; inst = inst k }
