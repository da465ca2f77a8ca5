-- Which causes of refusal apply to an event, as far as the state says, and which is the first.
use Rattle.std.specs.Prelude.{◌≡◌, ◌≢◌, ◌⊎◌, ℕ, ◌≤◌, ◌<◌, Bool, true, false, List, [], ◌∷◌, Option, None, Some, length, eqb, ◌&&◌, filter}
use Rattle.sd_base.specs.declared.ids.TxnId.{TxnId}
use Rattle.sd_base.specs.declared.ids.Rid.{Rid}
use Rattle.sd_base.specs.declared.place.Status.{Status}
use Rattle.sd_model.specs.declared.event.Event.{Event}
use Rattle.sd_model.specs.declared.event.Event.TheVariants.{Write, Add, Insert, Back, Undo, List as Listing, Ask, Give, Take, Evict, Flush, Force, CheckBegin, CheckEnd, Fail, RecoverBegin, RecoverStep, Join, Reopen}
use Rattle.sd_model.specs.Acts.{live}
use Rattle.sd_model.specs.declared.act.Act.{Act}
use Rattle.sd_model.specs.declared.act.Claim.{Claim}
use Rattle.sd_model.specs.declared.act.Claim.TheVariants.{Excl}
use Rattle.sd_model.specs.declared.act.Cut.{Cut}
use Rattle.sd_model.specs.declared.act.Life.{Life}
use Rattle.sd_model.specs.declared.act.Life.TheVariants.{Gone, Running, Retained, Rolling, Doubt}
use Rattle.sd_model.specs.Claims.{Clash}
use Rattle.sd_model.specs.State.{State, view}
use Rattle.sd_model.specs.Fields.{txn_of, rid_of, mode_of, inst_of}
use Rattle.sd_model.specs.Numbers.{IsNumber, IsLongSum, IsSum}
use Rattle.sd_model.specs.Changes.{mark_of, goal}
use Rattle.sd_model.specs.declared.cause.Cause.{Cause}
use Rattle.sd_model.specs.Causes.{order, before, has_cause}

-- it runs transactions, or recovers itself or another
abbrev pub IsActive : ℕ → Status → Type 0
IsActive i s = (s ≡ Status.Up) ⊎ ((s ≡ Status.Restarting) ⊎ (s ≡ Status.Recovering i))

abbrev pub TakesChecks : Status → Type 0
TakesChecks s = (s ≡ Status.Up) ⊎ (s ≡ Status.Restarting)

-- the acting instance stands so that it serves the event
abbrev pub MayServe : State → Event → Type 0
MayServe m (Ask i p mode) = IsActive i (m.inst i).status
MayServe m (Give i p) = IsActive i (m.inst i).status
MayServe m (Take i p) = IsActive i (m.inst i).status
MayServe m (Evict i p) = IsActive i (m.inst i).status
MayServe m (Flush i p) = IsActive i (m.inst i).status
MayServe m (Force i) = IsActive i (m.inst i).status
MayServe m (Fail i) = IsActive i (m.inst i).status
MayServe m (CheckBegin i) = TakesChecks (m.inst i).status
MayServe m (CheckEnd i) = TakesChecks (m.inst i).status
MayServe m (RecoverBegin i by) = (by ≡ i) ⊎ ((m.inst by).status ≡ Status.Up)
MayServe m e = (m.inst (inst_of e)).status ≡ Status.Up

-- running, retained or in doubt
abbrev pub is_unresolved : Life → Bool
is_unresolved Gone = false
is_unresolved Running = true
is_unresolved Retained = true
is_unresolved (Rolling to) = true
is_unresolved (Doubt cut) = true

-- the number of unresolved transactions of an instance
abbrev pub count_of : State → ℕ → ℕ
count_of m i = length (filter (λ (t : TxnId). eqb t.inst i && is_unresolved (m.part t).life) m.begun)

abbrev pub IsRolling : Life → Type 0
IsRolling life = (to : Option ℕ) × (life ≡ Rolling to)

-- another transaction has a claim on the record that conflicts
abbrev pub Locked : State → TxnId → Rid → Claim → Type 0
Locked m t r mode = (u : TxnId) × (t ≢ u) × Clash mode ((m.part u).claims r)

-- a transaction has an exclusive claim on a record of the page
abbrev pub Changes : State → TxnId → ℕ → Type 0
Changes m t p = (slot : ℕ) × ((m.part t).claims (record { page = p; slot = slot }) ≡ Excl)

-- for a list, somebody has changed a record of the page; else the transaction rolls back
abbrev pub IsBusy : State → Event → Type 0
IsBusy m (Listing i p) = (t : TxnId) × Changes m t p
IsBusy m e = IsRolling (m.part (txn_of e)).life

-- a value or a capacity is over 256 bytes, or the capacity is below the value's length
abbrev pub IsLong : Event → Type 0
IsLong (Write t r v) = 256 < length v
IsLong (Insert t p v n) = (256 < length v) ⊎ ((256 < n) ⊎ (n < length v))
IsLong e = ⊥

abbrev pub IsUnknownMark : State → Event → Type 0
IsUnknownMark m (Back t (Some k)) = mark_of k (m.part t).marks ≡ None
IsUnknownMark m e = ⊥

-- a value that a write or an add would put in place of u
abbrev pub IsNew : Event → List ℕ → List ℕ → Type 0
IsNew (Write t r v) u w = w ≡ v
IsNew (Add t r by) u w = IsSum u by w
IsNew e u w = ⊥

-- the sum has more than 18 digits
abbrev pub IsTooMuch : Event → List ℕ → Type 0
IsTooMuch (Add t r by) u = IsLongSum u by
IsTooMuch e u = ⊥

-- the value is no number text, where the event wants one
abbrev pub IsNoNumber : Event → List ℕ → Type 0
IsNoNumber (Add t r by) u = IsNumber u → ⊥
IsNoNumber e u = ⊥

abbrev pub IsNotDown : State → Event → Type 0
IsNotDown m (Join i) = (m.inst i).status ≡ Status.Up
IsNotDown m Reopen = (m.inst 1).status ≢ Status.Closed
IsNotDown m e = (m.inst (inst_of e)).status ≢ Status.Down

abbrev pub IsRecovering : Status → Type 0
IsRecovering s = (by : ℕ) × (s ≡ Status.Recovering by)

abbrev pub IsNotRecovered : State → Event → Type 0
IsNotRecovered m (Join i) = ((m.inst i).status ≡ Status.Down) ⊎ IsRecovering (m.inst i).status
IsNotRecovered m e = IsRecovering (m.inst (inst_of e)).status → ⊥

-- its instance failed, and it lost or is in doubt
abbrev pub IsLost : Life → Type 0
IsLost life = (life ≡ Retained) ⊎ ((cut : Cut) × (life ≡ Doubt cut))

-- a loser, or one in doubt, of the instance has an exclusive claim, so its page is needed for the recovery
abbrev pub Needs : State → TxnId → ℕ → Type 0
Needs m t i = (t.inst ≡ i) × IsLost (m.part t).life × ((p : ℕ) × Changes m t p)

abbrev pub IsNeeded : State → ℕ → Type 0
IsNeeded m i = (t : TxnId) × Needs m t i

-- A page is needed. An undo needs that of the last live put, where its transaction rolls back and is above its target;
-- a recovery needs one that a loser, or one in doubt, changed.
abbrev pub HasPage : State → Event → Type 0
HasPage m (Undo t) = (to : Option ℕ) × ((m.part t).life ≡ Rolling to) × (goal to < length (live (m.part t).acts))
HasPage m (RecoverStep i) = IsNeeded m i
HasPage m e = Unit {0}

-- there is a put, live or undone
abbrev pub HasPut : List Act → Type 0
HasPut [] = ⊥
HasPut (Act.Read r v ∷ acts) = HasPut acts
HasPut (Act.Put r v ∷ acts) = Unit {0}
HasPut (Act.Undo ∷ acts) = HasPut acts

-- A device may fail. An undo uses one only where it ends a whole rollback: nothing is left to undo, and something was put.
abbrev pub MayBreak : State → Event → Type 0
MayBreak m (Undo t) = ((m.part t).life ≡ Rolling None) × (0 ≡ length (live (m.part t).acts)) × HasPut (m.part t).acts
MayBreak m e = Unit {0}

-- another transaction has a claim on a slot of the page in which the asker finds no record
abbrev pub IsSlotLocked : State → Event → Type 0
IsSlotLocked m (Insert t p v n) = (slot : ℕ) × (view m t (record { page = p; slot = slot }) ≡ None) × Locked m t (record { page = p; slot = slot }) Excl
IsSlotLocked m e = Unit {0}

-- what the state says of a cause: that it applies, or, where other things decide, what must hold for it to apply
abbrev pub Says : State → Event → Cause → Type 0
Says m e Cause.Shut = (m.inst 1).status ≡ Status.Closed
Says m e Cause.NoTxn = (m.part (txn_of e)).life ≡ Gone
Says m e Cause.Down = MayServe m e → ⊥
Says m e Cause.Busy = IsBusy m e
Says m e Cause.Long = IsLong e
Says m e Cause.Lock = Locked m (txn_of e) (rid_of e) (mode_of e)
Says m e Cause.Lost = HasPage m e
Says m e Cause.Away = HasPage m e
Says m e Cause.NoRecord = view m (txn_of e) (rid_of e) ≡ None
Says m e Cause.NotNumber = (u : List ℕ) × (view m (txn_of e) (rid_of e) ≡ Some u) × IsNoNumber e u
Says m e Cause.Digits = (u : List ℕ) × (view m (txn_of e) (rid_of e) ≡ Some u) × IsTooMuch e u
Says m e Cause.Over = (u w : List ℕ) × (view m (txn_of e) (rid_of e) ≡ Some u) × IsNew e u w × (length u < length w)
Says m e Cause.TooMany = 64 ≤ count_of m (inst_of e)
Says m e Cause.Begins = 4294967295 ≤ (m.inst (inst_of e)).begins
Says m e Cause.NoMark = IsUnknownMark m e
Says m e Cause.NotDown = IsNotDown m e
Says m e Cause.NotRecovered = IsNotRecovered m e
Says m e Cause.Rig = MayBreak m e
Says m e Cause.SlotLock = IsSlotLocked m e
Says m e Cause.Cut = HasPut (m.part (txn_of e)).acts
Says m e c = Unit {0}

-- the state alone decides the cause
abbrev pub exact : Cause → Bool
exact Cause.Shut = true
exact Cause.NoTxn = true
exact Cause.Down = true
exact Cause.Busy = true
exact Cause.Long = true
exact Cause.Lock = true
exact Cause.NoRecord = true
exact Cause.NotNumber = true
exact Cause.Digits = true
exact Cause.TooMany = true
exact Cause.Begins = true
exact Cause.NoMark = true
exact Cause.NotDown = true
exact Cause.NotRecovered = true
exact c = false

abbrev pub unless : Bool → Type 0 → Type 0
unless true P = P → ⊥
unless false P = Unit {0}

-- as far as the state decides, the cause doesn't apply
abbrev pub Passes : State → Event → Cause → Type 0
Passes m e c = unless (exact c) (Says m e c)

abbrev pub PassesAll : State → Event → List Cause → Type 0
PassesAll m e [] = Unit {0}
PassesAll m e (c ∷ cs) = Passes m e c × PassesAll m e cs

-- nothing that the state decides refuses the event
abbrev pub Clear : State → Event → Type 0
Clear m e = PassesAll m e (order e)

-- the first cause that applies
abbrev pub First : State → Event → Cause → Type 0
First m e c = (has_cause c (order e) ≡ true) × PassesAll m e (before c (order e)) × Says m e c
