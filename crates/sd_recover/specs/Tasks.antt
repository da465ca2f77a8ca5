-- What is to be done next of a recovery: the tasks in the rows of the recovered instance, and the first of all.
use Rattle.std.specs.Prelude.{◌≡◌, ℕ, ◌+◌, ◌<◌, ◌≤◌, Bool, true, false, Option, None, Some, is_some, cond, eqb, find, fold, ltb, nat_lt, ◌&&◌, ◌||◌, option_and_then, option_map, sum_by}
use Rattle.sd_base.specs.Ids.{IsBelow}
use Rattle.sd_base.specs.declared.ids.TxnId.{TxnId}
use Rattle.sd_pagelock.specs.Directory.{entry_at}
use Rattle.sd_pagelock.specs.Places.{is_lost}
use Rattle.sd_txn.specs.Owing.{records_owed}
use Rattle.sd_txn.specs.Transactions.{Transaction, Transactions, ids, span_at, state_at, top_at}
use Rattle.sd_txn.specs.declared.state.OpenRec.{OpenRec}
use Rattle.sd_txn.specs.declared.state.TxnState.{TxnState}
use Rattle.sd_world.specs.Answers.{IsLowestLost}
use Rattle.sd_state.specs.Parts.{Parts, is_loose, txns_at}
use Rattle.sd_recover.specs.declared.tasks.Task.{Task}
use Rattle.sd_recover.specs.declared.tasks.Task.TheVariants as task

-- ---- the rows of a recovered instance

abbrev pub row_is_doubt : Option TxnState → Bool
row_is_doubt None = false
row_is_doubt (Some TxnState.Running) = false
row_is_doubt (Some (TxnState.Rolling to)) = false
row_is_doubt (Some TxnState.Retained) = false
row_is_doubt (Some TxnState.Doubt) = true
row_is_doubt (Some TxnState.Committed) = false

abbrev pub is_loser : Option TxnState → Bool
is_loser None = false
is_loser (Some TxnState.Running) = false
is_loser (Some (TxnState.Rolling to)) = false
is_loser (Some TxnState.Retained) = true
is_loser (Some TxnState.Doubt) = false
is_loser (Some TxnState.Committed) = false

-- the first transaction in doubt
abbrev pub in_doubt : Transactions → Option TxnId
in_doubt table = find (λ t. row_is_doubt (state_at table t)) (ids table)

-- the LSN of a loser's last open record
abbrev pub open_lsn : Transactions → TxnId → Option ℕ
open_lsn table t = cond {A = Option ℕ} (is_loser (state_at table t)) (option_map (λ (o : OpenRec). o.lsn) (top_at table t)) None

-- the second is there, and greater than the first or alone
abbrev pub is_later : Option ℕ → Option ℕ → Bool
is_later first None = false
is_later None (Some lsn) = true
is_later (Some low) (Some lsn) = nat_lt low lsn

-- of these two, the loser with the later open record
abbrev pub later : Transactions → Option TxnId → TxnId → Option TxnId
later table last t = cond {A = Option TxnId} (is_later (option_and_then (open_lsn table) last) (open_lsn table t)) (Some t) last

-- the loser whose last open record is the last of all losers'
abbrev pub last_open : Transactions → Option TxnId
last_open table = fold (later table) None (ids table)

-- a loser that has a record and no End
abbrev pub owes_end : Transactions → TxnId → Bool
owes_end table t = cond (is_loser (state_at table t)) (is_some (span_at table t)) false

-- by instance, then by epoch, then by number in it
abbrev pub is_below : TxnId → TxnId → Bool
is_below t u = ltb t.inst u.inst || (eqb t.inst u.inst && (ltb t.epoch u.epoch || (eqb t.epoch u.epoch && ltb t.seq u.seq)))

-- it is below the other, or alone
abbrev pub goes_before : TxnId → Option TxnId → Bool
goes_before t None = true
goes_before t (Some first) = is_below t first

-- of these two, the lower one that owes an End
abbrev pub lower : Transactions → Option TxnId → TxnId → Option TxnId
lower table first t = cond {A = Option TxnId} (owes_end table t && goes_before t first) (Some t) first

-- the lowest loser that has a record and no End
abbrev pub to_end : Transactions → Option TxnId
to_end table = fold (lower table) None (ids table)

-- It has a record and no End, and no loser below it has.
abbrev pub IsFirstToEnd : Transactions → TxnId → Type 0
IsFirstToEnd table t = (owes_end table t ≡ true) × ((u : TxnId) → owes_end table u ≡ true → IsBelow u t → ⊥)

-- what is left to do of a transaction: to decide it, where it is in doubt; to undo each of its open records; and to end it, where it
-- has a record
abbrev pub tasks_of : Transaction → ℕ
tasks_of x = cond (row_is_doubt (Some x.state)) 1 0 + records_owed x

-- and of all of a table
abbrev pub tasks_in : Transactions → ℕ
tasks_in table = sum_by (λ e. tasks_of e.1) table.unresolved

-- ---- the next task

-- the lowest device that isn't settled
abbrev pub IsLowestLoose : Parts → ℕ → Type 0
IsLowestLoose c dev = (dev ≤ 8) × (is_loose c dev ≡ true) × ((d : ℕ) → d < dev → is_loose c d ≡ false)

-- each device is settled
abbrev pub AreSettled : Parts → Type 0
AreSettled c = (d : ℕ) → d ≤ 8 → is_loose c d ≡ false

-- and no page is lost
abbrev pub AreThere : Parts → Type 0
AreThere c = AreSettled c × ((p : ℕ) → is_lost (entry_at c.directory p) ≡ false)

-- The next task in the rows of a table: the first of those that there are.
abbrev pub IsRowTask : Transactions → Task → Type 0
IsRowTask table (task.Settle dev) = ⊥
IsRowTask table (task.Rebuild p) = ⊥
IsRowTask table (task.Decide t) = in_doubt table ≡ Some t
IsRowTask table (task.Undo t p) = (in_doubt table ≡ None) × (last_open table ≡ Some t)
    × ((o : OpenRec) × (top_at table t ≡ Some o) × (p ≡ o.rid.page))
IsRowTask table (task.End t) = (in_doubt table ≡ None) × (last_open table ≡ None) × (to_end table ≡ Some t)
IsRowTask table task.Done = (in_doubt table ≡ None) × (last_open table ≡ None) × (to_end table ≡ None)

-- The next task of the recovery of i: while devices aren't settled, the lowest of them; then, while pages are lost, the lowest of
-- them; then what the rows of i have.
abbrev pub IsNext : Parts → ℕ → Task → Type 0
IsNext c i (task.Settle dev) = IsLowestLoose c dev
IsNext c i (task.Rebuild p) = AreSettled c × IsLowestLost (entry_at c.directory) p
IsNext c i next = AreThere c × IsRowTask (txns_at c i) next
