use Rattle.std.proofs.Common.{◌≡◌, ◌⊎◌, drop}
use Rattle.std.specs.List.{Contains}
use Rattle.sd_base.specs.declared.ids.TxnId.{TxnId}
use Rattle.sd_oracle.specs.declared.standing.Standing.{Standing}
use Rattle.sd_oracle.specs.Lists.{meaning}
use Rattle.sd_oracle.specs.Claimers.{Obstructs}
use Rattle.sd_oracle.proofs.Search.{AnyOf}
use Rattle.sd_oracle.proofs.locks.obstacles.Given as goal

abbrev pub invariant-loop-other : goal.invariant-loop-other
invariant-loop-other l = record {
  those : (u : TxnId) → Contains l.all.items u → Obstructs (meaning l.lists) l.txn l.rid l.mode u;
  whole : (u : TxnId) → Obstructs (meaning l.lists) l.txn l.rid l.mode u → Contains l.all.items u ⊎ AnyOf (λ (x : TxnId × Standing). x.0 ≡ u) (drop l.other-index l.lists.parts.items);
}
