-- The name that a map has of a transaction.
use Rattle.std.specs.Prelude.{ℕ, List, Option, option_map}
use Rattle.std.specs.Map.{lookup}
use Rattle.sd_base.specs.Ids.{same_txn}
use Rattle.sd_base.specs.declared.ids.TxnId.{TxnId}
use Rattle.sd_report.specs.declared.txn_names.TxnNames.{TxnNames}

-- the name that stands for a transaction
abbrev pub name_in : TxnNames → TxnId → Option (List ℕ)
name_in names t = option_map (λ name. name.items) (lookup (same_txn t) names.map.entries)
