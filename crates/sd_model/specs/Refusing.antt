-- Which refusal names a cause, with what arguments, and what it leaves.
use Rattle.std.specs.Prelude.{◌≡◌, ◌⊎◌, ℕ, ◌+◌, true, List, [], ◌∷◌}
use Rattle.sd_base.specs.declared.ids.TxnId.{TxnId}
use Rattle.sd_base.specs.declared.place.Status.{Status}
use Rattle.sd_base.specs.Ids.{IsBelow}
use Rattle.sd_base.specs.declared.refusal.Refusal.{Refusal}
use Rattle.sd_base.specs.declared.refusal.Refusal.TheVariants as R
use Rattle.sd_model.specs.declared.event.Event.{Event}
use Rattle.sd_model.specs.declared.event.Event.TheVariants.{List as Listing, RecoverStep, Join, Ask, Reopen}
use Rattle.sd_model.specs.declared.act.Life.TheVariants as Life
use Rattle.sd_model.specs.State.{State, view, put_inst, looked_at, fall, cut_commit}
use Rattle.sd_model.specs.Fields.{txn_of, rid_of, inst_of}
use Rattle.sd_model.specs.declared.cause.Cause.{Cause}
use Rattle.sd_model.specs.Causes.{has_cause}
use Rattle.sd_model.specs.Applies.{Changes}

-- the causes of a refusal; those of text and devices come from no event
abbrev pub causes_of : Refusal → List Cause
causes_of R.Failed = Cause.Rig ∷ []
causes_of R.PageFull = Cause.Full ∷ []
causes_of R.NoRecord = Cause.NoRecord ∷ []
causes_of R.TooLong = Cause.Long ∷ Cause.Over ∷ Cause.Digits ∷ []
causes_of R.LogFull = Cause.Log ∷ []
causes_of R.LsnEnd = Cause.Lsn ∷ Cause.Begins ∷ []
causes_of R.PoolFull = Cause.Frame ∷ []
causes_of (R.Blocked by) = Cause.Lock ∷ Cause.SlotLock ∷ []
causes_of (R.Deadlock cycle) = Cause.Lock ∷ Cause.SlotLock ∷ []
causes_of R.TooManyTxns = Cause.TooMany ∷ []
causes_of R.NoSavepoint = Cause.NoMark ∷ []
causes_of (R.NeedPage place) = Cause.Away ∷ []
causes_of R.Down = Cause.Shut ∷ Cause.Down ∷ []
causes_of R.Lost = Cause.Lost ∷ []
causes_of (R.Busy by) = Cause.Busy ∷ []
causes_of R.CutCommit = Cause.Cut ∷ []
causes_of R.NotAsked = Cause.Asks ∷ []
causes_of R.Dirty = Cause.Dirty ∷ []
causes_of (R.MovingTo to) = Cause.Moving ∷ []
causes_of R.NoCheck = Cause.Check ∷ []
causes_of (R.NotDown status) = Cause.NotDown ∷ []
causes_of (R.NotRecovered status) = Cause.NotRecovered ∷ []
causes_of R.NoTxn = Cause.NoTxn ∷ []
causes_of R.NotNumber = Cause.NotNumber ∷ []
causes_of n = []

abbrev pub Names : Cause → Refusal → Type 0
Names c n = has_cause c (causes_of n) ≡ true

-- the lowest transaction with an exclusive claim on a record of the page
abbrev pub IsLowestChanger : State → ℕ → TxnId → Type 0
IsLowestChanger m p by = Changes m by p × ((t : TxnId) → Changes m t p → IsBelow t by → ⊥)

-- the transaction that a Busy names
abbrev pub NamesBusy : State → Event → TxnId → Type 0
NamesBusy m (Listing i p) by = IsLowestChanger m p by
NamesBusy m e by = by ≡ txn_of e

-- the status that a refusal tells: the instance's, and for a reopening that of instance 1
abbrev pub told_status : State → Event → Status
told_status m Reopen = (m.inst 1).status
told_status m e = (m.inst (inst_of e)).status

-- the arguments of a refusal that the state decides
abbrev pub Tells : State → Event → Refusal → Type 0
Tells m e (R.Busy by) = NamesBusy m e by
Tells m e (R.NotDown status) = status ≡ told_status m e
Tells m e (R.NotRecovered status) = status ≡ told_status m e
Tells m e n = Unit {0}

-- a join that failed is counted
abbrev pub counted : Event → State → State
counted (Join i) m = put_inst i (record (m.inst i) { failed = (m.inst i).failed + 1 }) m
counted e m = m

-- the instance that a failure of a device may take down; none in an ask and a reopening
abbrev pub MayFall : State → Event → ℕ → Type 0
MayFall m (RecoverStep i) j = (m.inst i).status ≡ Status.Recovering j
MayFall m (Ask i p mode) j = ⊥
MayFall m Reopen j = ⊥
MayFall m e j = j ≡ inst_of e

-- what was found is read, and its record claimed
abbrev pub found : Event → State → State
found e m = looked_at (txn_of e) (rid_of e) (view m (txn_of e) (rid_of e)) m

-- what a refusal leaves
abbrev pub Refuses : State → Event → Cause → State → Type 0
Refuses m e Cause.NoRecord m' = m' ≡ found e m
Refuses m e Cause.NotNumber m' = m' ≡ found e m
Refuses m e Cause.Digits m' = m' ≡ found e m
Refuses m e Cause.Over m' = m' ≡ found e m
Refuses m e Cause.Rig m' = (m' ≡ counted e m) ⊎ ((j : ℕ) × MayFall m e j × (m' ≡ fall j (counted e m)))
Refuses m e Cause.Cut m' = ((m.part (txn_of e)).life ≡ Life.Running) × (m' ≡ cut_commit (txn_of e) m)
Refuses m e c m' = m' ≡ m
