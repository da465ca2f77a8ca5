-- The index from a transaction to its records: it names at least those that the transaction holds.
use Rattle.std.specs.Prelude.{◌≡◌, Bool, false, List, [], Option, None, Some}
use Rattle.std.specs.List.{list_any}
use Rattle.std.specs.Map.{lookup}
use Rattle.std.specs.Global.{Vec}
use Rattle.sd_base.specs.declared.ids.TxnId.{TxnId}
use Rattle.sd_base.specs.declared.ids.Rid.{Rid}
use Rattle.sd_base.specs.Ids.{same_txn, same_rid}
use Rattle.sd_reclock.specs.Locks.{Held, held_in}

abbrev pub Index : Type 0
Index = List (TxnId × Vec Rid)

abbrev pub rids_of : Option (Vec Rid) → List Rid
rids_of None = []
rids_of (Some rids) = rids.items

-- whether the index names r at t
abbrev pub names : Index → TxnId → Rid → Bool
names index t r = list_any (same_rid r) (rids_of (lookup (same_txn t) index))

abbrev pub IsIndexed : Held → Index → Type 0
IsIndexed locks index = (t : TxnId) (r : Rid) → names index t r ≡ false → held_in locks t r ≡ None
