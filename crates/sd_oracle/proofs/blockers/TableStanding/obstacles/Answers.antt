use Rattle.std.proofs.Common.{◌↔◌, subst}
use Rattle.std.specs.List.{Contains}
use Rattle.std.specs.Result.{IfOk}
use Rattle.sd_base.specs.declared.ids.TxnId.{TxnId}
use Rattle.sd_model.specs.declared.act.Claim.{Claim}
use Rattle.sd_oracle.specs.Lists.{state_of}
use Rattle.sd_oracle.specs.Claimers.{Obstructs}
use Rattle.sd_oracle.proofs.blockers.TableStanding.obstacles.Goals as goal

pub returns : goal.returns
returns c = subst (λ (claim : Claim). IfOk c.obstacles.result (λ all. (u : TxnId) → (Contains all.items u ↔ Obstructs (state_of c.args.self.now.serial) c.args.t.now c.args.wait.now.rid claim u)))
    c.claim_of.ensures c.obstacles.ensures
