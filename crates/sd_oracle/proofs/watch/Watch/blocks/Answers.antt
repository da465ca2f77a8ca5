use Rattle.std.proofs.Common.{◌↔◌, IsTrue, Option, sym, subst}
use Rattle.std.specs.Option.{option_map}
use Rattle.std.specs.Prelude.{IfOk}
use Rattle.sd_reclock.specs.declared.wait.Asked.{Asked}
use Rattle.sd_reclock.specs.Waiting.{wait_of}
use Rattle.sd_model.specs.Exact.{Blocks}
use Rattle.sd_oracle.specs.Watches.{scene}
use Rattle.sd_oracle.proofs.watch.Watch.blocks.Goals as goal

pub returns-in-Some : goal.returns-in-Some
returns-in-Some c = subst (λ (asked : Option Asked). IfOk c.is_blocked.result (λ b. IsTrue b ↔ Blocks (scene c.args.self.now) c.args.txn.now (option_map wait_of asked) c.args.by.now)) (sym c.in-Some.is) c.is_blocked.ensures
