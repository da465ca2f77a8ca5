use Rattle.std.proofs.Common.{Option, Some, ap, sym, ◌∙◌}
use Rattle.std.proofs.lemmas.Bool.{cond-true, cond-false}
use Rattle.std.specs.Option.{option_map}
use Rattle.sd_base.specs.Ids.{same_txn}
use Rattle.sd_reclock.specs.declared.wait.Asked.{Asked}
use Rattle.sd_reclock.specs.Waiting.{wait_of}
use Rattle.sd_reclock.specs.Searching.{waits_of}
use Rattle.sd_reclock.proofs.deadlock.Asking.wait_of.Goals as goal
use Rattle.sd_base.proofs.Orders.{look-txn}

pub returns-then-eq : goal.returns-then-eq
unfolding same_txn
returns-then-eq g c = sym (cond-true (same_txn c.args.self.now.asker c.args.t.now) (Some (wait_of c.args.self.now.wait)) (waits_of c.args.self.now c.args.t.now) (sym c.if-eq.ensures))

pub returns-else-eq : goal.returns-else-eq
unfolding same_txn
returns-else-eq g c = ap (λ (o : Option Asked). option_map wait_of o) (c.copied.ensures ∙ c.get.ensures.value ∙ look-txn c.args.t.now c.args.self.now.waits.now.entries)
    ∙ sym (cond-false (same_txn c.args.self.now.asker c.args.t.now) (Some (wait_of c.args.self.now.wait)) (waits_of c.args.self.now c.args.t.now) (sym c.if-eq.ensures))
