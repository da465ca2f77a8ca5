use Rattle.std.proofs.Common.{◌≡◌, ◌↔◌, IsTrue, List, subst}
use Rattle.sd_base.specs.declared.ids.TxnId.{TxnId}
use Rattle.sd_reclock.specs.Waiting.{wait_of}
use Rattle.sd_oracle.specs.Watches.{scene}
use Rattle.sd_oracle.proofs.Deciding.{is-that-cycle}
use Rattle.sd_oracle.proofs.watch.Watch.is_deadlock.Goals as goal

pub returns-in-Some : goal.returns-in-Some
returns-in-Some c =
    let same = subst (λ (xs : List TxnId). IsTrue c.are_same.result ↔ (xs ≡ c.args.cycle.now)) c.items.ensures
    (subst (λ (ys : List TxnId). IsTrue c.are_same.result ↔ (c.items.result.now ≡ ys)) c.items-in-Some.ensures c.are_same.ensures) in
    is-that-cycle (scene c.args.self.now).state (scene c.args.self.now).waits c.args.txn.now (wait_of c.args.wait.now) c.in-Some.found c.args.cycle.now c.are_same.result (rw c.in-Some.is at c.in_ok-found.ensures) same
