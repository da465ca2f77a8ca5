use Rattle.std.proofs.Common.{drop}
use Rattle.sd_base.specs.declared.ids.TxnId.{TxnId}
use Rattle.sd_oracle.specs.declared.standing.Standing.{Standing}
use Rattle.sd_model.specs.Applies.{Needs, IsNeeded}
use Rattle.sd_oracle.specs.Lists.{meaning}
use Rattle.sd_oracle.proofs.Search.{AnyOf}
use Rattle.sd_oracle.proofs.page_causes.is_needed.Given as goal

abbrev pub invariant-loop-txn : goal.invariant-loop-txn
invariant-loop-txn l = IsNeeded (meaning l.lists) l.inst → AnyOf (λ (x : TxnId × Standing). Needs (meaning l.lists) x.0 l.inst) (drop l.txn-index l.lists.parts.items)
