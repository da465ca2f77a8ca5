use Rattle.std.proofs.Common.{drop}
use Rattle.sd_base.specs.declared.ids.TxnId.{TxnId}
use Rattle.sd_oracle.specs.declared.standing.Standing.{Standing}
use Rattle.sd_model.specs.Applies.{Changes}
use Rattle.sd_oracle.specs.Lists.{meaning}
use Rattle.sd_oracle.proofs.Search.{AnyOf}
use Rattle.sd_oracle.proofs.changers.is_changed.Given as goal

abbrev pub invariant-loop-txn : goal.invariant-loop-txn
invariant-loop-txn l = ((t : TxnId) × Changes (meaning l.lists) t l.page) → AnyOf (λ (x : TxnId × Standing). Changes (meaning l.lists) x.0 l.page) (drop l.txn-index l.lists.parts.items)
