-- The last changes of records, by transaction.
use Rattle.std.specs.Prelude.{ℕ, List, [], ◌∷◌, Option, cond, max, not, ◌&&◌}
use Rattle.std.specs.List.{flat_map}
use Rattle.std.specs.Map.{lookup}
use Rattle.std.specs.Option.{option_map_or}
use Rattle.sd_base.specs.declared.ids.TxnId.{TxnId}
use Rattle.sd_base.specs.declared.ids.Rid.{Rid}
use Rattle.sd_base.specs.Ids.{same_txn, same_rid}
use Rattle.sd_logrec.specs.View.{Rec}
use Rattle.sd_log.specs.Logs.{LogState, flats, scanned}
use Rattle.sd_chain.specs.Records.{of_rid}
use Rattle.sd_recovered.specs.declared.last_changes.Last.{Last}

-- the LSN of a record that is a change of this slot of this page by another transaction than t, else 0
abbrev pub other_lsn : TxnId → ℕ → ℕ → Rec → ℕ
other_lsn t p s z = cond (of_rid p s z && not (same_txn z.txn t)) z.lsn 0

-- the greatest of them, or 0
abbrev pub last_of_others : TxnId → ℕ → ℕ → List Rec → ℕ
last_of_others t p s [] = 0
last_of_others t p s (z ∷ zs) = max (other_lsn t p s z) (last_of_others t p s zs)

-- what is kept of a record's changes tells of those by others than t
abbrev pub of_others : Last → TxnId → ℕ
of_others last t = cond (same_txn last.txn t) last.others (max last.own last.others)

-- 0 where nothing is kept
abbrev pub told : Option Last → TxnId → ℕ
told last t = option_map_or (λ l. of_others l t) last 0

-- what a map of records tells of them
abbrev pub seen_in : List (Rid × Last) → TxnId → ℕ → ℕ → ℕ
seen_in entries t p s = told (lookup (same_rid (record { page = p; slot = s })) entries) t

-- the records of all logs
abbrev pub all_in : List LogState → List Rec
all_in logs = flat_map (λ log. flats (scanned log)) logs

-- the LSN of the last change of a record by others than t in all logs, or 0
abbrev pub by_others : List LogState → TxnId → ℕ → ℕ → ℕ
by_others logs t p s = last_of_others t p s (all_in logs)
