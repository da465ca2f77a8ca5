-- What is left of a recovery, as one number that each step lowers; and of a loop that pulls the pages which its steps wait for.
use Rattle.std.specs.Prelude.{ℕ, ◌+◌, ◌*◌, Bool, false, Option, None, Some, List, cond, not, option_and_then, sum_by}
use Rattle.sd_base.specs.declared.place.Status.{Status}
use Rattle.sd_base.specs.declared.place.Status.TheVariants as S
use Rattle.sd_logrec.specs.View.{Rec}
use Rattle.sd_rig.specs.Devices.{DeviceImages}
use Rattle.sd_chain.specs.Bytes.{log_of}
use Rattle.sd_pagelock.specs.Directory.{entry_at}
use Rattle.sd_pagelock.specs.Places.{is_lost, owns}
use Rattle.sd_moves.specs.Settling.{row_again}
use Rattle.sd_txn.specs.Transactions.{Transaction, Transactions, top_at}
use Rattle.sd_txn.specs.declared.state.OpenRec.{OpenRec}
use Rattle.sd_state.specs.Parts.{Parts, is_loose, status_at, txns_at}
use Rattle.sd_fits.specs.Resting.{active_count, count_to, one_if}
use Rattle.sd_recover.specs.Tasks.{last_open, tasks_in, tasks_of}

-- ---- a recovery

-- of a row, where there is one
abbrev pub tasks_at : Option Transaction → ℕ
tasks_at None = 0
tasks_at (Some x) = tasks_of x

-- the tasks in the rows of a table once its log is read again: those of each row as this log has it
abbrev pub tasks_again : List Rec → Transactions → ℕ
tasks_again log table = sum_by (λ e. tasks_at (row_again log e.0 (Some e.1))) table.unresolved

-- the tasks in the rows of i: while its log isn't settled, by what its device reads
abbrev pub tasks_left : DeviceImages → Parts → ℕ → ℕ
tasks_left seen c i = cond (is_loose c i) (tasks_again (log_of seen i) (txns_at c i)) (tasks_in (txns_at c i))

-- a page is lost
abbrev pub is_lost_at : Parts → ℕ → Bool
is_lost_at c p = is_lost (entry_at c.directory p)

-- the devices that aren't settled, the lost pages, and the tasks in the rows
abbrev pub steps_left : DeviceImages → Parts → ℕ → ℕ
steps_left seen c i = count_to (is_loose c) 9 + (count_to (is_lost_at c) 1024 + tasks_left seen c i)

-- ---- a recovery, while others do as they please

-- who recovers an instance in this status
abbrev pub recoverer_as : Status → Option ℕ
recoverer_as S.Up = None
recoverer_as S.Down = None
recoverer_as (S.Recovering by) = Some by
recoverer_as S.Clean = None
recoverer_as S.Restarting = None
recoverer_as S.Closed = None

abbrev pub where_recovered : Option ℕ → ℕ → ℕ
where_recovered None n = 0
where_recovered (Some by) n = n

-- What is left while i is recovered: a fall of one that is active marks fewer than 9 devices more and loses 1,024 pages at most.
abbrev pub work_left : DeviceImages → Parts → ℕ → ℕ
work_left seen c i = where_recovered (recoverer_as (status_at c i)) (2048 * active_count c + steps_left seen c i)

-- ---- a loop of steps and pulls

abbrev pub has_page : Parts → Option ℕ → Option OpenRec → Bool
has_page c None o = false
has_page c (Some by) None = false
has_page c (Some by) (Some o) = owns (entry_at c.directory o.rid.page) by

-- the recoverer of i has the page of the last open record of its losers alone
abbrev pub has_next : Parts → ℕ → Bool
has_next c i = has_page c (recoverer_as (status_at c i)) (option_and_then (top_at (txns_at c i)) (last_open (txns_at c i)))

-- a step that waits for its page is one round behind one that has it
abbrev pub rounds_left : DeviceImages → Parts → ℕ → ℕ
rounds_left seen c i = 2 * work_left seen c i + one_if (not (has_next c i))
