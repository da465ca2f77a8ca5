use Rattle.std.proofs.Common.{◌≡◌, ◌∙◌, ap, sym, subst, None, Some, Option}
use Rattle.std.specs.Option.{option_map}
use Rattle.sd_base.specs.declared.ids.TxnId.{TxnId}
use Rattle.sd_model.specs.State.{State}
use Rattle.sd_oracle.specs.Lists.{state_of}
use Rattle.sd_reclock.specs.declared.wait.Asked.{Asked}
use Rattle.sd_reclock.specs.Waiting.{wait_of, waits_in}
use Rattle.sd_reclock.proofs.Noting.{waits_change}
use Rattle.sd_oracle.specs.declared.watch.Watch.{Watch}
use Rattle.sd_model.specs.Scenes.{of_running}
use Rattle.sd_model.proofs.Scenes.{noted}
use Rattle.sd_oracle.proofs.watch.Watch.note.Goals as goal
use Rattle.sd_oracle.proofs.watch.Watch.note.Goals.{in-Some+in_ok-insert-in-Some, in-None}
use Rattle.sd_base.proofs.Orders.{put-txn}

pub returns-clause-waits : goal.returns-clause-waits
returns-clause-waits c =
    let m : State = state_of c.args.self.now.table.serial in
    let t : TxnId = c.txn_of-txn.result in
    let asked = option_map wait_of c.asked_of.result in
    let keeps = λ (x : Watch) (e : c.match-wait_after.self ≡ x) (u : TxnId). subst (λ (y : Watch). waits_in c.keep_running.new.waits.entries u ≡ of_running (state_of y.table.serial) (waits_in y.waits.entries) u) e (c.keep_running.ensures u) in
    elim c.match-wait_after.branch [
      | in-Some+in_ok-insert-in-Some w ↦ noted m c.args.event.now c.args.told.now c.args.reply.now (waits_in c.args.self.now.waits.entries) (waits_in w.insert.new.self.entries) (waits_in c.keep_running.new.waits.entries) t asked (Some (wait_of w.in-Some.wait))
          c.txn_of-txn.ensures c.asked_of.ensures (ap (λ (o : Option Asked). option_map wait_of o) (sym w.in-Some.is) ∙ c.wait_after.ensures)
          (waits_change c.args.self.now.waits.entries w.insert.new.self.entries t (Some w.in-Some.wait) (λ q. put-txn t q (Some w.in-Some.wait) c.args.self.now.waits.entries w.insert.new.self.entries (w.in_ok-insert-in-Some.ensures.updates.0 q)))
          (keeps _ w.self-is)
      | in-None w ↦ noted m c.args.event.now c.args.told.now c.args.reply.now (waits_in c.args.self.now.waits.entries) (waits_in w.remove.new.self.entries) (waits_in c.keep_running.new.waits.entries) t asked None
          c.txn_of-txn.ensures c.asked_of.ensures (ap (λ (o : Option Asked). option_map wait_of o) (sym w.in-None.is) ∙ c.wait_after.ensures)
          (waits_change c.args.self.now.waits.entries w.remove.new.self.entries t None (λ q. put-txn t q None c.args.self.now.waits.entries w.remove.new.self.entries (w.remove.ensures.updates.0 q)))
          (keeps _ w.self-is)
    ]
