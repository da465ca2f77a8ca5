use Rattle.std.proofs.Common.{◌↔◌, IsTrue, sym, subst}
use Rattle.std.specs.Option.{option_map}
use Rattle.std.specs.Prelude.{IfOk}
use Rattle.sd_base.specs.declared.refusal.Refusal.{Refusal}
use Rattle.sd_reclock.specs.Waiting.{wait_of}
use Rattle.sd_model.specs.Exact.{NamesWhom}
use Rattle.sd_oracle.specs.Watches.{scene}
use Rattle.sd_oracle.proofs.watch.Watch.names_whom.Goals as goal

pub returns-in-Blocked : goal.returns-in-Blocked
returns-in-Blocked c = subst (λ (refusal : Refusal). IfOk c.blocks-in-Blocked.result (λ b. IsTrue b ↔ NamesWhom (scene c.args.self.now) c.args.txn.now (option_map wait_of c.args.asked.now) refusal)) (sym c.in-Blocked.is) c.blocks-in-Blocked.ensures

pub returns-in-Deadlock : goal.returns-in-Deadlock
returns-in-Deadlock c = subst (λ (refusal : Refusal). IfOk c.closes.result (λ b. IsTrue b ↔ NamesWhom (scene c.args.self.now) c.args.txn.now (option_map wait_of c.args.asked.now) refusal)) (sym c.in-Deadlock.is) c.closes.ensures
