use Rattle.std.proofs.Common.{◌≡◌, cond, None, take, Option, ◌&&◌}
use Rattle.std.specs.List.{list_any}
use Rattle.sd_base.specs.declared.ids.TxnId.{TxnId}
use Rattle.sd_base.specs.declared.ids.Rid.{Rid}
use Rattle.sd_base.specs.declared.place.Mode.{Mode}
use Rattle.sd_base.specs.Ids.{same_txn, same_rid}
use Rattle.sd_reclock.specs.Locks.{held_in}
use Rattle.sd_reclock.proofs.many.release_each.Given as goal

abbrev pub invariant-loop-rid : goal.invariant-loop-rid
invariant-loop-rid l = (u : TxnId) (q : Rid) → held_in l.records.entries u q ≡ cond {A = Option Mode} (same_txn l.t u && list_any (same_rid q) (take l.rid-index l.rids)) None (held_in l.initial.records.entries u q)
