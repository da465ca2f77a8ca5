use Rattle.std.proofs.Common.{◌↔◌, IsTrue, sym, subst}
use Rattle.std.specs.Option.{option_map}
use Rattle.std.specs.Prelude.{IfOk}
use Rattle.sd_model.specs.declared.event.Reply.{Reply}
use Rattle.sd_reclock.specs.Waiting.{wait_of}
use Rattle.sd_model.specs.Exact.{IsExact}
use Rattle.sd_oracle.specs.Watches.{scene}
use Rattle.sd_oracle.proofs.watch.Watch.is_exact.Goals as goal

pub returns-in-Refused : goal.returns-in-Refused
returns-in-Refused c = subst (λ (reply : Reply). IfOk c.names_whom.result (λ b. IsTrue b ↔ IsExact (scene c.args.self.now) c.args.txn.now (option_map wait_of c.args.asked.now) reply)) (sym c.in-Refused.is) c.names_whom.ensures
