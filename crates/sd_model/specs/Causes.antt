-- For what causes, in what order, an event is refused.
use Rattle.std.specs.Prelude.{ℕ, Bool, true, false, List, [], ◌∷◌, None, Some, eqb, cond}
use Rattle.sd_model.specs.declared.cause.Cause.{Cause}
use Rattle.sd_model.specs.declared.event.Event.{Event}
use Rattle.sd_model.specs.declared.event.Event.TheVariants.{Begin, Read, Write, Add, Insert, Delete, Save, Back, Undo, Commit, List as Listing, Ask, Give, Take, Evict, Flush, Force, CheckBegin, CheckEnd, Fail, FailAll, RecoverBegin, RecoverStep, Join, Reopen, Arm, Show}

abbrev pub number : Cause → ℕ
number Cause.Shut = 0
number Cause.NoTxn = 1
number Cause.Down = 2
number Cause.Busy = 3
number Cause.Long = 4
number Cause.Lock = 5
number Cause.SlotLock = 6
number Cause.Lost = 7
number Cause.Away = 8
number Cause.Full = 9
number Cause.NoRecord = 10
number Cause.NotNumber = 11
number Cause.Digits = 12
number Cause.Over = 13
number Cause.Log = 14
number Cause.Lsn = 15
number Cause.TooMany = 16
number Cause.Begins = 17
number Cause.NoMark = 18
number Cause.Frame = 19
number Cause.Moving = 20
number Cause.Asks = 21
number Cause.Dirty = 22
number Cause.Check = 23
number Cause.NotDown = 24
number Cause.NotRecovered = 25
number Cause.Rig = 26
number Cause.Cut = 27

abbrev pub has_cause : Cause → List Cause → Bool
has_cause c [] = false
has_cause c (d ∷ ds) = cond (eqb (number c) (number d)) true (has_cause c ds)

-- those that are tried before a cause
abbrev pub before : Cause → List Cause → List Cause
before c [] = []
before c (d ∷ ds) = cond {A = List Cause} (eqb (number c) (number d)) [] (d ∷ before c ds)

-- the causes of an event, in the order in which they are tried
abbrev pub order : Event → List Cause
order (Begin i) = Cause.Shut ∷ Cause.Down ∷ Cause.TooMany ∷ Cause.Begins ∷ []
order (Read t r) = Cause.Shut ∷ Cause.NoTxn ∷ Cause.Down ∷ Cause.Busy ∷ Cause.Lock ∷ Cause.Lost ∷ Cause.Away ∷ []
order (Write t r v) = Cause.Shut ∷ Cause.NoTxn ∷ Cause.Down ∷ Cause.Busy ∷ Cause.Long ∷ Cause.Lock ∷ Cause.Lost ∷ Cause.Away ∷ Cause.NoRecord ∷ Cause.Over ∷ Cause.Log ∷ Cause.Lsn ∷ []
order (Add t r by) = Cause.Shut ∷ Cause.NoTxn ∷ Cause.Down ∷ Cause.Busy ∷ Cause.Lock ∷ Cause.Lost ∷ Cause.Away ∷ Cause.NoRecord ∷ Cause.NotNumber ∷ Cause.Digits ∷ Cause.Over ∷ Cause.Log ∷ Cause.Lsn ∷ []
order (Insert t p v n) = Cause.Shut ∷ Cause.NoTxn ∷ Cause.Down ∷ Cause.Busy ∷ Cause.Long ∷ Cause.Lost ∷ Cause.Away ∷ Cause.Full ∷ Cause.SlotLock ∷ Cause.Log ∷ Cause.Lsn ∷ []
order (Delete t r) = Cause.Shut ∷ Cause.NoTxn ∷ Cause.Down ∷ Cause.Busy ∷ Cause.Lock ∷ Cause.Lost ∷ Cause.Away ∷ Cause.NoRecord ∷ Cause.Log ∷ Cause.Lsn ∷ []
order (Save t k) = Cause.Shut ∷ Cause.NoTxn ∷ Cause.Down ∷ Cause.Busy ∷ []
order (Back t (Some k)) = Cause.Shut ∷ Cause.NoTxn ∷ Cause.Down ∷ Cause.Busy ∷ Cause.NoMark ∷ []
order (Back t None) = Cause.Shut ∷ Cause.NoTxn ∷ Cause.Down ∷ []
order (Undo t) = Cause.Shut ∷ Cause.NoTxn ∷ Cause.Down ∷ Cause.Lost ∷ Cause.Away ∷ Cause.Rig ∷ []
order (Commit t) = Cause.Shut ∷ Cause.NoTxn ∷ Cause.Down ∷ Cause.Busy ∷ Cause.Cut ∷ []
order (Listing i p) = Cause.Shut ∷ Cause.Down ∷ Cause.Lost ∷ Cause.Away ∷ Cause.Busy ∷ []
order (Ask i p mode) = Cause.Shut ∷ Cause.Down ∷ Cause.Lost ∷ Cause.Moving ∷ Cause.Frame ∷ Cause.Rig ∷ []
order (Give i p) = Cause.Shut ∷ Cause.Down ∷ Cause.Lost ∷ Cause.Moving ∷ Cause.Away ∷ Cause.Asks ∷ Cause.Rig ∷ []
order (Take i p) = Cause.Shut ∷ Cause.Down ∷ Cause.Lost ∷ Cause.Away ∷ Cause.Frame ∷ []
order (Evict i p) = Cause.Shut ∷ Cause.Down ∷ Cause.Lost ∷ Cause.Away ∷ Cause.Dirty ∷ []
order (Flush i p) = Cause.Shut ∷ Cause.Down ∷ Cause.Lost ∷ Cause.Away ∷ Cause.Rig ∷ []
order (Force i) = Cause.Shut ∷ Cause.Down ∷ Cause.Rig ∷ []
order (CheckBegin i) = Cause.Shut ∷ Cause.Down ∷ Cause.Log ∷ Cause.Lsn ∷ []
order (CheckEnd i) = Cause.Shut ∷ Cause.Down ∷ Cause.Check ∷ Cause.Log ∷ Cause.Lsn ∷ Cause.Rig ∷ []
order (Fail i) = Cause.Shut ∷ Cause.Down ∷ []
order (FailAll pick) = []
order (RecoverBegin i by) = Cause.Shut ∷ Cause.NotDown ∷ Cause.Down ∷ []
order (RecoverStep i) = Cause.Shut ∷ Cause.NotRecovered ∷ Cause.Away ∷ Cause.Rig ∷ []
order (Join i) = Cause.Shut ∷ Cause.NotDown ∷ Cause.NotRecovered ∷ Cause.Log ∷ Cause.Lsn ∷ Cause.Rig ∷ []
order Reopen = Cause.NotDown ∷ Cause.Rig ∷ []
order (Arm trouble) = []
order (Show p) = Cause.Shut ∷ []
