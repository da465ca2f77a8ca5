-- The eight logs in memory, and what a crash may leave of them: their records, with tails and without, and what those owe.
use Rattle.std.specs.Prelude.{◌≡◌, ◌≢◌, ℕ, ◌+◌, ◌≤◌, Bool, true, false, List, [], ◌∷◌, ◌++◌, map, cond, max, sum_by}
use Rattle.std.specs.List.{list_any}
use Rattle.sd_base.specs.declared.ids.TxnId.{TxnId}
use Rattle.sd_base.specs.Twin.{is_open}
use Rattle.sd_logrec.specs.Kept.{Master, Whole}
use Rattle.sd_logrec.specs.declared.record.Record.{Record}
use Rattle.sd_logrec.specs.declared.record.Record.TheVariants as records
use Rattle.sd_logrec.specs.View.{Rec, flat}
use Rattle.sd_page.specs.Page.{Page}
use Rattle.sd_log.specs.Logs.{LogState, StandsOn, last_lsn, scanned}
use Rattle.sd_chain.specs.Bytes.{disk_page, records_of}
use Rattle.sd_chain.specs.Checks.{Past, after_record, owed, past_of, placed_of}
use Rattle.sd_chain.specs.Images.{Tails, Keeps}
use Rattle.sd_chain.specs.Order.{of_txn}

-- what a crash may leave of each device: 0 is the data device, n the log of instance n
abbrev pub Outcomes : Type 1
Outcomes = ℕ → List ℕ → Type 0

-- a crash may leave page p so
abbrev pub may_of : Outcomes → ℕ → Page → Type 0
may_of leaves p x = (bytes : List ℕ) × leaves 0 bytes × (disk_page bytes p ≡ x)

-- at most as much may be left now of each device
abbrev pub Less : Outcomes → Outcomes → Type 0
Less leaves leaves' = (d : ℕ) (bytes : List ℕ) → leaves' d bytes → leaves d bytes

-- and of each but device i
abbrev pub LessElsewhere : ℕ → Outcomes → Outcomes → Type 0
LessElsewhere i leaves leaves' = (d : ℕ) → d ≢ i → (bytes : List ℕ) → leaves' d bytes → leaves d bytes

-- no gate of these bytes is open
abbrev pub IsBlank : List ℕ → Type 0
IsBlank bytes = (gate : ℕ) → is_open gate bytes ≡ false

-- the logs in memory, by their numbers
abbrev pub Logs : Type 0
Logs = ℕ → LogState

-- the forced records of a log, those of its tail, and both
abbrev pub base_at : LogState → List Rec
base_at log = records_of (Whole log.groups log.gate)

abbrev pub tail_at : LogState → List Rec
tail_at log = map flat log.tail

abbrev pub all_at : LogState → List Rec
all_at log = base_at log ++ tail_at log

-- all logs, as the laws of safety see them
abbrev pub tails_of : Logs → Tails
tails_of logs = record { base = λ j. base_at (logs j); tail = λ j. tail_at (logs j) }

-- the transaction has a record among these
abbrev pub HasRecord : TxnId → List Rec → Type 0
HasRecord t log = list_any (of_txn t) log ≡ true

-- or none
abbrev pub HasNone : TxnId → List Rec → Type 0
HasNone t log = list_any (of_txn t) log ≡ false

-- the LSN of the next record of a log, for a page whose image has this LSN (0 for a record of no page)
abbrev pub next_lsn : LogState → ℕ → ℕ
next_lsn log page_lsn = max (last_lsn (scanned log)) page_lsn + 1

-- a new log, with these bytes to spare
abbrev pub new_log : ℕ → ℕ → LogState
new_log i spare = record { inst = i; start = 0; gate = 0; groups = []; tail = []; spare = spare }

-- log i is this one now, and the others are as they were
pub record ReplacesLog (i : ℕ) (log : LogState) (old new : Logs) : Type 0 where
  pub low : 1 ≤ i
  pub high : i ≤ 8
  pub here : new i ≡ log
  pub others : (j : ℕ) → j ≢ i → new j ≡ old j

-- Whatever a crash leaves of its device, log i stands there without its tail.
abbrev pub IsSettled : ℕ → Outcomes → Logs → Type 0
IsSettled i leaves logs = (bytes : List ℕ) → leaves i bytes → StandsOn (logs i) bytes

-- ---- the epoch that a log is in

-- the forced records of a log, as they are spelled
abbrev pub records_at : LogState → List Record
records_at log = map (λ r. r.1) (placed_of (Whole log.groups log.gate))

-- what more records say
abbrev pub after_records : Past → List Record → Past
after_records past [] = past
after_records past (r ∷ rs) = after_records (after_record past r) rs

-- what the forced records of a log say behind this master
abbrev pub past_at : Master → LogState → Past
past_at m log = after_records (past_of m) (records_at log)

-- it begins an epoch
abbrev pub is_start : Record → Bool
is_start (records.Start l epoch) = true
is_start (records.Update l txn prev page slot capacity before after) = false
is_start (records.Clr l txn prev undo_next page slot after) = false
is_start (records.Commit l txn prev) = false
is_start (records.End l txn prev) = false
is_start (records.BeginCheck l) = false
is_start (records.EndCheck l begin spans recs) = false

-- ---- what is owed

-- the logs with the tails that are kept
abbrev pub kept_logs : Tails → Keeps → ℕ → List Rec
kept_logs tails keeps j = tails.base j ++ cond (keeps j) (tails.tail j) []

-- the numbers of the logs
abbrev pub eight : List ℕ
eight = 1 ∷ 2 ∷ 3 ∷ 4 ∷ 5 ∷ 6 ∷ 7 ∷ 8 ∷ []

-- the records that these logs owe
abbrev pub owed_with : Tails → Keeps → ℕ
owed_with tails keeps = sum_by (λ j. owed (kept_logs tails keeps j)) eight

-- each log with its tail or as forced, whichever owes more
abbrev pub most_owed : Tails → ℕ
most_owed tails = sum_by (λ j. max (owed (tails.base j)) (owed (tails.base j ++ tails.tail j))) eight
