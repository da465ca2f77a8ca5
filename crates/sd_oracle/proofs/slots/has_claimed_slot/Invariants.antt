use Rattle.std.proofs.Common.{drop}
use Rattle.sd_base.specs.declared.ids.TxnId.{TxnId}
use Rattle.sd_oracle.specs.declared.standing.Standing.{Standing}
use Rattle.sd_oracle.specs.Claimers.{ClaimsSlot}
use Rattle.sd_oracle.specs.Lists.{meaning}
use Rattle.sd_oracle.proofs.Search.{AnyOf}
use Rattle.sd_oracle.proofs.slots.has_claimed_slot.Given as goal

abbrev pub invariant-loop-other : goal.invariant-loop-other
invariant-loop-other l = ((u : TxnId) × ClaimsSlot (meaning l.lists) l.txn l.page u) → AnyOf (λ (x : TxnId × Standing). ClaimsSlot (meaning l.lists) l.txn l.page x.0) (drop l.other-index l.lists.parts.items)
