-- Laws of waits.
use Rattle.std.specs.Prelude.{List}
use Rattle.sd_base.specs.declared.ids.TxnId.{TxnId}
use Rattle.sd_base.specs.Waits.{Wait, Waits, IsBlocked, IsDeadlock}
use Rattle.sd_model.specs.State.{State}
use Rattle.sd_model.specs.Applies.{Locked}
use Rattle.sd_model.specs.Waits.{claim_of, stands}

-- each of the two answers says that another transaction has a conflicting claim
abbrev pub BlockedIsLocked : Type 0
BlockedIsLocked = (m : State) (waits : Waits) (t : TxnId) (wait : Wait) (by : TxnId) → IsBlocked (stands m) waits t wait by → Locked m t wait.rid (claim_of wait.mode)

abbrev pub DeadlockIsLocked : Type 0
DeadlockIsLocked = (m : State) (waits : Waits) (t : TxnId) (wait : Wait) (cycle : List TxnId) → IsDeadlock (stands m) waits t wait cycle → Locked m t wait.rid (claim_of wait.mode)

-- an asked claim isn't both blocked and in a deadlock
abbrev pub BlockedOrDeadlock : Type 0
BlockedOrDeadlock = (m : State) (waits : Waits) (t : TxnId) (wait : Wait) (by : TxnId) (cycle : List TxnId) → IsBlocked (stands m) waits t wait by → IsDeadlock (stands m) waits t wait cycle → ⊥
