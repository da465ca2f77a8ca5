use Rattle.std.proofs.Common.{◌↔◌, subst}
use Rattle.std.specs.List.{Contains}
use Rattle.std.specs.Result.{IfOk}
use Rattle.sd_base.specs.declared.ids.TxnId.{TxnId}
use Rattle.sd_oracle.specs.Lists.{Journal, state_of}
use Rattle.sd_oracle.specs.Claimers.{Obstructs}
use Rattle.sd_oracle.proofs.serial_table.SerialTable.obstacles.Goals as goal

pub returns : goal.returns
returns c = subst (λ (table : Journal). IfOk c.obstacles.result (λ all. (u : TxnId) → (Contains all.items u ↔ Obstructs (state_of table) c.args.txn.now c.args.rid.now c.args.mode u))) c.self.view_is c.obstacles.ensures
