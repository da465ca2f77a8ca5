-- The waits while a transaction asks for a lock, as steps from one that waits to one that it waits for.
use Rattle.std.specs.Prelude.{ℕ, Bool, not, List, count_by, IsSome}
use Rattle.std.specs.List.{list_any}
use Rattle.std.specs.Map.{keys_of, lookup}
use Rattle.std.specs.BTreeSet.{BTreeSet}
use Rattle.sd_base.specs.declared.ids.TxnId.{TxnId}
use Rattle.sd_base.specs.Ids.{same_txn}
use Rattle.sd_base.specs.Waits.{Obstacles, Waits, WaitsFor, asking, IsCycle, IsDeadlock}
use Rattle.sd_reclock.specs.declared.deadlock.Asking.{Asking}
use Rattle.sd_reclock.specs.Waiting.{wait_of, waits_in}

abbrev pub stands_of : {L : Type 0} → (L → Obstacles) → Asking L → Obstacles
stands_of stands asked = stands asked.locks.now

abbrev pub waits_of : {L : Type 0} → Asking L → Waits
waits_of asked t = waits_in asked.waits.now.entries t

abbrev pub steps_of : {L : Type 0} → (L → Obstacles) → Asking L → TxnId → TxnId → Type 0
steps_of stands asked t u = WaitsFor (stands_of stands asked) (asking asked.asker (wait_of asked.wait) (waits_of asked)) t u

-- the asked wait closes no cycle
abbrev pub ClosesNone : {L : Type 0} → (L → Obstacles) → Asking L → Type 0
ClosesNone stands asked = (cycle : List TxnId) → IsCycle (stands_of stands asked) (asking asked.asker (wait_of asked.wait) (waits_of asked)) asked.asker cycle → ⊥

-- the asked wait closes this cycle, the first of the shortest ones
abbrev pub ClosesFirst : {L : Type 0} → (L → Obstacles) → Asking L → List TxnId → Type 0
ClosesFirst stands asked cycle = IsDeadlock (stands_of stands asked) (waits_of asked) asked.asker (wait_of asked.wait) cycle

-- whether the search has seen this one
abbrev pub has_seen : BTreeSet TxnId → TxnId → Bool
has_seen seen u = list_any (same_txn u) seen.keys

-- the table has this one as waiting
abbrev pub IsWaiting : {L : Type 0} → Asking L → TxnId → Type 0
IsWaiting asked u = IsSome (lookup (same_txn u) asked.waits.now.entries)

-- how many of those that wait the search hasn't seen
abbrev pub unseen : {L : Type 0} → Asking L → BTreeSet TxnId → ℕ
unseen asked seen = count_by (λ u. not (has_seen seen u)) (keys_of asked.waits.now.entries)
