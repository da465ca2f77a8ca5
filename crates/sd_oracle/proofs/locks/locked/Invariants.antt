use Rattle.std.proofs.Common.{◌≢◌, drop}
use Rattle.sd_base.specs.declared.ids.TxnId.{TxnId}
use Rattle.sd_oracle.specs.declared.standing.Standing.{Standing}
use Rattle.sd_model.specs.Claims.{Clash}
use Rattle.sd_model.specs.Applies.{Locked}
use Rattle.sd_oracle.specs.Lists.{meaning}
use Rattle.sd_oracle.proofs.Search.{AnyOf}
use Rattle.sd_oracle.proofs.locks.locked.Given as goal

abbrev pub invariant-loop-other : goal.invariant-loop-other
invariant-loop-other l = Locked (meaning l.lists) l.txn l.rid l.mode → AnyOf (λ (x : TxnId × Standing). (l.txn ≢ x.0) × Clash l.mode (((meaning l.lists).part x.0).claims l.rid)) (drop l.other-index l.lists.parts.items)
