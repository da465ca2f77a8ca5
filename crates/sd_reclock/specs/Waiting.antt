-- What transactions wait for.
use Rattle.std.specs.Prelude.{List, option_map}
use Rattle.std.specs.Map.{lookup}
use Rattle.sd_base.specs.declared.ids.TxnId.{TxnId}
use Rattle.sd_base.specs.Ids.{same_txn}
use Rattle.sd_base.specs.Waits.{Wait, Waits}
use Rattle.sd_reclock.specs.declared.wait.Asked.{Asked}

abbrev pub wait_of : Asked → Wait
wait_of asked = record { rid = asked.rid; mode = asked.mode }

-- what each transaction of the list waits for
abbrev pub waits_in : List (TxnId × Asked) → Waits
waits_in waiting t = option_map wait_of (lookup (same_txn t) waiting)
