use Rattle.std.proofs.Common.{Bool, ap, ◌∙◌}
use Rattle.std.specs.Map.{lookup}
use Rattle.sd_base.specs.Ids.{same_txn}
use Rattle.sd_base.specs.declared.ids.TxnId.{TxnId}
use Rattle.sd_txn.proofs.Keyed.{tests_of}
use Rattle.sd_txn.proofs.list.TxnList.get.Goals as goal

pub returns-in-None : goal.returns-in-None
returns-in-None c = c.get.ensures.value ∙ ap (λ (test : TxnId → Bool). lookup test c.self.inside.txns.entries) (tests_of c.args.t.now) ∙ ap (lookup (same_txn c.args.t.now)) c.self.view_is
