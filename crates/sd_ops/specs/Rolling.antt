-- What code sees of a transaction that rolls back, or is to.
use Rattle.std.specs.Prelude.{◌≡◌, ◌≢◌, ◌⊎◌, ℕ, ◌<◌, ◌≤◌, true, false, List, Option, None, Some, IsSome}
use Rattle.sd_base.specs.declared.ids.TxnId.{TxnId}
use Rattle.sd_base.specs.declared.place.Status.TheVariants as S
use Rattle.sd_base.specs.declared.refusal.Refusal.{Refusal}
use Rattle.sd_base.specs.declared.refusal.Refusal.TheVariants as R
use Rattle.sd_model.specs.Changes.{goal}
use Rattle.sd_pagelock.specs.Directory.{entry_at}
use Rattle.sd_pagelock.specs.Places.{is_lost, owns, seen}
use Rattle.sd_txn.specs.Transactions.{IsUnresolved, depth_at, mark_at, span_at, state_at}
use Rattle.sd_txn.specs.declared.state.TxnState.{TxnState}
use Rattle.sd_state.specs.Parts.{Parts, status_at, txns_at}
use Rattle.sd_ops.specs.declared.undoing.UndoOutcome.{UndoOutcome}
use Rattle.sd_ops.specs.declared.undoing.UndoOutcome.TheVariants as due

-- the transaction isn't known, or its instance isn't up: the first that is so
abbrev pub IsOut : TxnId → Parts → Refusal → Type 0
IsOut t c R.NoTxn = state_at (txns_at c t.inst) t ≡ None
IsOut t c R.Down = IsUnresolved (txns_at c t.inst) t × (status_at c t.inst ≢ S.Up)
IsOut t c n = ⊥

-- ---- back to a mark, or wholly

-- how it may be asked back to this goal: wholly, however it stands; to a mark that it has, where it runs
abbrev pub IsGoal : TxnId → Option (List ℕ) → Option ℕ → Parts → Type 0
IsGoal t None to c = (to ≡ None) × (state : TxnState) × (state_at (txns_at c t.inst) t ≡ Some state)
IsGoal t (Some name) to c =
    (n : ℕ) × (to ≡ Some n) × (state_at (txns_at c t.inst) t ≡ Some TxnState.Running) × (mark_at (txns_at c t.inst) t name ≡ Some n)

-- why it may not: it is out, or it is asked to a mark and doesn't run, or has no mark of that name
abbrev pub StaysPut : TxnId → Option (List ℕ) → Parts → Refusal → Type 0
StaysPut t mark c (R.Busy by) = (by ≡ t) × IsSome mark × (status_at c t.inst ≡ S.Up)
    × (state : TxnState) × (state_at (txns_at c t.inst) t ≡ Some state) × (state ≢ TxnState.Running)
StaysPut t mark c R.NoSavepoint = (name : List ℕ) × (mark ≡ Some name) × (status_at c t.inst ≡ S.Up)
    × (state_at (txns_at c t.inst) t ≡ Some TxnState.Running) × (mark_at (txns_at c t.inst) t name ≡ None)
StaysPut t mark c n = IsOut t c n

-- it may roll back to this goal
abbrev pub MayRoll : TxnId → Option ℕ → Parts → Type 0
MayRoll t None c = (state_at (txns_at c t.inst) t ≡ Some TxnState.Running)
    ⊎ ((to : Option ℕ) × (state_at (txns_at c t.inst) t ≡ Some (TxnState.Rolling to)))
MayRoll t (Some n) c =
    (state_at (txns_at c t.inst) t ≡ Some TxnState.Running) × ((name : List ℕ) × (mark_at (txns_at c t.inst) t name ≡ Some n))

-- ---- what an undo comes to

-- it rolls back to this goal, and has more records open
pub record IsAbove (t : TxnId) (to : Option ℕ) (c : Parts) : Type 0 where
  pub rolls : state_at (txns_at c t.inst) t ≡ Some (TxnState.Rolling to)
  pub above : goal to < depth_at (txns_at c t.inst) t

-- its whole rollback is at its end, nothing of it is open, and it has a record, so its End is to be forced
pub record EndsRecorded (t : TxnId) (c : Parts) : Type 0 where
  pub up : status_at c t.inst ≡ S.Up
  pub rolls : state_at (txns_at c t.inst) t ≡ Some (TxnState.Rolling None)
  pub empty : depth_at (txns_at c t.inst) t ≡ 0
  pub there : IsSome (span_at (txns_at c t.inst) t)

abbrev pub IsDue : TxnId → Parts → UndoOutcome → Type 0
IsDue t c due.Nothing = (state : TxnState) × (state_at (txns_at c t.inst) t ≡ Some state) × ((to : Option ℕ) → state ≢ TxnState.Rolling to)
IsDue t c due.Step = (to : Option ℕ) × IsAbove t to c
IsDue t c due.Mark = (n : ℕ) × (state_at (txns_at c t.inst) t ≡ Some (TxnState.Rolling (Some n))) × (depth_at (txns_at c t.inst) t ≤ n)
IsDue t c due.End = (state_at (txns_at c t.inst) t ≡ Some (TxnState.Rolling None)) × (depth_at (txns_at c t.inst) t ≡ 0)

-- the page is lost, or the instance hasn't it alone
abbrev pub LacksAlone : ℕ → ℕ → Parts → Refusal → Type 0
LacksAlone i p c R.Lost = is_lost (entry_at c.directory p) ≡ true
LacksAlone i p c (R.NeedPage place) =
    (is_lost (entry_at c.directory p) ≡ false) × (owns (entry_at c.directory p) i ≡ false) × (seen place ≡ entry_at c.directory p)
LacksAlone i p c n = ⊥
