-- The greatest LSN of a complex, and the records that its logs owe at most, by what is kept of each log.
use Rattle.std.specs.Prelude.{ℕ, zero, suc, ◌+◌, max, cond, eqb}
use Rattle.sd_log.specs.Logs.{last_lsn, scanned}
use Rattle.sd_txn.specs.Owing.{owed_of}
use Rattle.sd_state.specs.Parts.{Parts, is_loose, log_at, owed_at, status_at, txns_at}
use Rattle.sd_state.specs.Tables.{tells_log}

-- the greatest over instances 1 to n, and the sum
abbrev pub most_to : (ℕ → ℕ) → ℕ → ℕ
most_to f zero = 0
most_to f (suc n) = max (most_to f n) (f (suc n))

abbrev pub sum_to : (ℕ → ℕ) → ℕ → ℕ
sum_to f zero = 0
sum_to f (suc n) = sum_to f n + f (suc n)

-- at or above each LSN: the greatest of the pages at the opening, and the last one of each log
abbrev pub great_of : Parts → ℕ
great_of c = max c.disk_lsn (most_to (λ j. last_lsn (scanned (log_at c j))) 8)

-- what log j owes with its tail or without it, whichever is more: where its table tells of it, by that
abbrev pub owes_most : Parts → ℕ → ℕ
owes_most c j = cond (is_loose c j) (owed_at c j) (cond (tells_log (status_at c j)) (max (owed_at c j) (owed_of (txns_at c j))) (owed_at c j))

-- what all logs owe so, and what they do where log i owes so many
abbrev pub owed_in_all : Parts → ℕ
owed_in_all c = sum_to (owes_most c) 8

abbrev pub owed_where : ℕ → ℕ → Parts → ℕ
owed_where i own c = sum_to (λ j. cond (eqb j i) own (owes_most c j)) 8

-- at or above it, whatever the log's device and its instance: the greater of what is kept and what its table tells
abbrev pub owes_above : Parts → ℕ → ℕ
owes_above c j = max (owed_at c j) (owed_of (txns_at c j))

abbrev pub owed_above : Parts → ℕ
owed_above c = sum_to (owes_above c) 8
