-- Which events are served, and what a call of one answers.
use Rattle.std.specs.Prelude.{◌≡◌, Option, None, Some, Result, Ok, Err}
use Rattle.sd_base.specs.declared.ids.TxnId.{TxnId}
use Rattle.sd_base.specs.declared.place.Status.TheVariants as S
use Rattle.sd_base.specs.declared.refusal.Memory.{Memory}
use Rattle.sd_base.specs.declared.refusal.Refusal.TheVariants as R
use Rattle.sd_model.specs.declared.event.Event.{Event}
use Rattle.sd_model.specs.declared.event.Event.TheVariants.{Arm, Ask, CheckBegin, CheckEnd, Commit, Evict, Fail, Flush, Force, Give, Join, RecoverBegin, RecoverStep, Show, Take, Undo}
use Rattle.sd_model.specs.declared.event.Reply.{Reply}
use Rattle.sd_model.specs.declared.event.Reply.TheVariants.{Refused}
use Rattle.sd_state.specs.Parts.{Parts, status_at}

-- the event has a call, as each has
abbrev pub IsServed : Event → Type 0
IsServed e = Unit {0}

-- its call says no more than that it serves it
abbrev pub IsPlain : Event → Type 0
IsPlain (Commit t) = ⊥
IsPlain (Undo t) = ⊥
IsPlain (Fail i) = ⊥
IsPlain (RecoverStep i) = ⊥
IsPlain e = Unit {0}

-- by it a page is pulled for another event: it is asked for, given, taken, or a pool's frame is made free
abbrev pub IsHelping : Event → Type 0
IsHelping (Ask i p mode) = Unit {0}
IsHelping (Give i p) = Unit {0}
IsHelping (Take i p) = Unit {0}
IsHelping (Evict i p) = Unit {0}
IsHelping (Flush i p) = Unit {0}
IsHelping e = ⊥

-- it is of a page's place, of an instance or of the devices, and plain
abbrev pub IsOfPlace : Event → Type 0
IsOfPlace (Ask i p mode) = Unit {0}
IsOfPlace (Give i p) = Unit {0}
IsOfPlace (Take i p) = Unit {0}
IsOfPlace (Evict i p) = Unit {0}
IsOfPlace (Flush i p) = Unit {0}
IsOfPlace (Force i) = Unit {0}
IsOfPlace (CheckBegin i) = Unit {0}
IsOfPlace (CheckEnd i) = Unit {0}
IsOfPlace (Join i) = Unit {0}
IsOfPlace (Arm trouble) = Unit {0}
IsOfPlace (Show p) = Unit {0}
IsOfPlace (RecoverBegin i by) = Unit {0}
IsOfPlace e = ⊥

-- the reply, unless there was no memory
abbrev pub told : Result Reply Memory → Option Reply
told (Ok r) = Some r
told (Err x) = None

-- the same of a reply that was put in its place
abbrev pub told_in : {X : Type 0} → Result X Memory → Reply → Option Reply
told_in (Ok x) r = Some r
told_in (Err x) r = None

-- an undo that a device fails has taken its instance down
abbrev pub IsDownThen : Event → Option Reply → Parts → Type 0
IsDownThen e answer c = (t : TxnId) → e ≡ Undo t → answer ≡ Some (Refused R.Failed) → status_at c t.inst ≡ S.Down
