use Rattle.std.proofs.Common.{◌∙◌, ap, cond, List, [], ◌∷◌, ◌++◌}
use Rattle.sd_base.specs.declared.ids.TxnId.{TxnId}
use Rattle.sd_model.specs.declared.act.Act.{Act}
use Rattle.sd_model.specs.declared.act.Done.{Done}
use Rattle.sd_base.specs.Ids.{same_txn}
use Rattle.sd_model.specs.State.{State, Part}
use Rattle.sd_oracle.specs.Lists.{meaning, part_in}
use Rattle.sd_oracle.specs.declared.standing.Standing.{Standing}
use Rattle.sd_oracle.proofs.Parts.{parts-after, list-after}
use Rattle.sd_oracle.proofs.lists.Lists.commit.Goals as goal

pub returns-clause-committed : goal.returns-clause-committed
returns-clause-committed c =
    let m : State = meaning c.args.self.now in
    let t : TxnId = c.args.txn.now in
    let d : Done = record { txn = t; acts = c.in_ok-acts.acts } in
    let done = list-after m.done c.reserve.new.self.items c.append.new.list.items d c.in_ok-reserve.ensures.items c.append.ensures
    ∙ ap (λ (a : List Act). m.done ++ record { txn = t; acts = a } ∷ [])
    (c.in_ok-acts.ensures ∙ ap (λ (l : List (TxnId × Standing)). (part_in l t).acts) c.in_ok-reserve-2.ensures.items) in
    let part = parts-after c.args.self.now.parts.items c.append-2.new.list.items t c.gone.result
    (list-after c.args.self.now.parts.items c.reserve-2.new.self.items c.append-2.new.list.items (t, c.gone.result) c.in_ok-reserve-2.ensures.items c.append-2.ensures)
    ∙ ap {B = TxnId → Part} (λ (p : Part) (u : TxnId). cond (same_txn t u) p (m.part u)) c.gone.ensures in
    λ i. record { start = m.start; done = done i; begun = m.begun; cuts = m.cuts; part = part i; inst = m.inst }
