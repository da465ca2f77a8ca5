-- What each refusal of an asked lock means.
use Rattle.sd_base.specs.declared.ids.TxnId.{TxnId}
use Rattle.sd_base.specs.declared.refusal.Refusal.{Refusal}
use Rattle.sd_base.specs.declared.refusal.Refusal.TheVariants as R
use Rattle.sd_base.specs.Waits.{Wait, Waits, Obstacles, IsBlocked, IsDeadlock}

-- nobody stands in the way of t, which would wait so
abbrev pub IsFree : Obstacles → TxnId → Wait → Type 0
IsFree stands t wait = (u : TxnId) → stands t wait u → ⊥

-- the only refusals of a lock, and their causes; memory has none
abbrev pub IsRefused : Obstacles → Waits → TxnId → Wait → Refusal → Type 0
IsRefused stands waits t wait (R.Blocked by) = IsBlocked stands waits t wait by
IsRefused stands waits t wait (R.Deadlock cycle) = IsDeadlock stands waits t wait cycle
IsRefused stands waits t wait R.Memory = Unit {0}
IsRefused stands waits t wait _ = ⊥
