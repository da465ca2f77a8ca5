-- When the answer to an asked lock is exact: it names just who stands in the way.
use Rattle.std.specs.Prelude.{◌≡◌, List, Option, None, Some}
use Rattle.sd_base.specs.declared.ids.TxnId.{TxnId}
use Rattle.sd_base.specs.declared.ids.Rid.{Rid}
use Rattle.sd_base.specs.declared.refusal.Refusal.{Refusal}
use Rattle.sd_base.specs.declared.refusal.Refusal.TheVariants as R
use Rattle.sd_base.specs.Waits.{Wait, IsBlocked, IsDeadlock}
use Rattle.sd_model.specs.declared.event.Event.{Event}
use Rattle.sd_model.specs.declared.event.Event.TheVariants.{Insert}
use Rattle.sd_model.specs.declared.event.Reply.{Reply}
use Rattle.sd_model.specs.declared.event.Reply.TheVariants.{Refused}
use Rattle.sd_model.specs.State.{State, view}
use Rattle.sd_model.specs.Waits.{stands}
use Rattle.sd_model.specs.Scenes.{Scene}

-- what t asks for is blocked by this one; never where it asks for nothing
abbrev pub Blocks : Scene → TxnId → Option Wait → TxnId → Type 0
Blocks s t None by = ⊥
Blocks s t (Some wait) by = IsBlocked (stands s.state) s.waits t wait by

-- what t asks for would close this cycle; never where it asks for nothing
abbrev pub Closes : Scene → TxnId → Option Wait → List TxnId → Type 0
Closes s t None cycle = ⊥
Closes s t (Some wait) cycle = IsDeadlock (stands s.state) s.waits t wait cycle

-- a refusal of a lock names exactly who stands in the way; other refusals name nobody
abbrev pub NamesWhom : Scene → TxnId → Option Wait → Refusal → Type 0
NamesWhom s t asked (R.Blocked by) = Blocks s t asked by
NamesWhom s t asked (R.Deadlock cycle) = Closes s t asked cycle
NamesWhom s t asked n = Unit {0}

abbrev pub IsExact : Scene → TxnId → Option Wait → Reply → Type 0
IsExact s t asked (Refused n) = NamesWhom s t asked n
IsExact s t asked reply = Unit {0}

-- a lock is refused
abbrev pub IsOfLock : Reply → Type 0
IsOfLock (Refused (R.Blocked by)) = Unit {0}
IsOfLock (Refused (R.Deadlock cycle)) = Unit {0}
IsOfLock reply = ⊥

-- an insert whose lock is refused asked for a slot in which it finds no record
abbrev pub IsOfFreeSlot : State → Event → Option Rid → Reply → Type 0
IsOfFreeSlot m (Insert t p v n) (Some r) reply = IsOfLock reply → view m t r ≡ None
IsOfFreeSlot m e told reply = Unit {0}
