use Rattle.std.proofs.Common.{drop}
use Rattle.sd_base.specs.declared.ids.TxnId.{TxnId}
use Rattle.sd_base.specs.Ids.{IsBelow}
use Rattle.sd_oracle.specs.declared.standing.Standing.{Standing}
use Rattle.sd_oracle.specs.Lists.{meaning}
use Rattle.sd_oracle.specs.Claimers.{Obstructs}
use Rattle.sd_oracle.proofs.Search.{AnyOf}
use Rattle.sd_oracle.proofs.locks.is_lowest_obstacle.Given as goal

abbrev pub invariant-loop-other : goal.invariant-loop-other
invariant-loop-other l = ((u : TxnId) × (Obstructs (meaning l.lists) l.txn l.rid l.mode u × IsBelow u l.by))
    → AnyOf (λ (x : TxnId × Standing). Obstructs (meaning l.lists) l.txn l.rid l.mode x.0 × IsBelow x.0 l.by) (drop l.other-index l.lists.parts.items)
