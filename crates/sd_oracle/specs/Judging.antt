-- What the verdict of the plain program says.
use Rattle.std.specs.Prelude.{◌≡◌, ℕ, Bool, true, false, List, None, Some, ℤ}
use Rattle.sd_base.specs.declared.ids.TxnId.{TxnId}
use Rattle.sd_base.specs.declared.ids.Rid.{Rid}
use Rattle.sd_model.specs.declared.cause.Cause.{Cause}
use Rattle.sd_model.specs.declared.event.Event.{Event}
use Rattle.sd_model.specs.declared.event.Event.TheVariants.{Begin, Read, Write, Add, Insert, Delete, Save, Back, Undo, Commit, List as Listing, Fail, FailAll, RecoverBegin, RecoverStep, Join, Reopen}
use Rattle.sd_model.specs.declared.event.Reply.{Reply}
use Rattle.sd_model.specs.declared.event.Reply.TheVariants.{Refused}
use Rattle.sd_model.specs.Tables.{Content}
use Rattle.sd_model.specs.Numbers.{IsSum}
use Rattle.sd_model.specs.Fields.{txn_of}
use Rattle.sd_model.specs.State.{State, view, wrote}
use Rattle.sd_model.specs.Refusing.{Refuses, counted}
use Rattle.sd_model.specs.Step.{Runs, Row, Step}
use Rattle.sd_oracle.specs.declared.outcome.Outcome.{Outcome}
use Rattle.sd_oracle.specs.declared.verdict.Verdict.{Verdict}
use Rattle.sd_oracle.specs.declared.verdict.Verdict.TheVariants.{Follows, Differs, Unjudged}
use Rattle.sd_oracle.specs.Outcomes.{Falls, fallen, Told}
use Rattle.sd_oracle.specs.Joins.{IsCountable}

-- no state follows that is told so
abbrev pub NoStep : Outcome → State → Event → Reply → Type 0
NoStep o m e reply = (m' : State) → Step m e reply m' → Told o m e reply m' → ⊥

-- what a verdict says of a state, an event with its reply, what is told of the outcome, and the state after it
abbrev pub Judges : Verdict → Outcome → State → Event → Reply → State → Type 0
Judges Follows o m e reply m' = Step m e reply m' × Told o m e reply m'
Judges Differs o m e reply m' = NoStep o m e reply × (m' ≡ m)
Judges Unjudged o m e reply m' = (IsCountable m e → ⊥) × (m' ≡ m)

-- a reply that refuses
abbrev pub IsRefusal : Reply → Type 0
IsRefusal (Refused n) = Unit {0}
IsRefusal reply = ⊥

-- an answer that leaves the state open
abbrev pub IsOpenEnded : Event → Type 0
IsOpenEnded (RecoverStep i) = Unit {0}
IsOpenEnded Reopen = Unit {0}
IsOpenEnded e = ⊥

-- events of records
abbrev pub IsOfRecords : Event → Type 0
IsOfRecords (Begin i) = Unit {0}
IsOfRecords (Read t r) = Unit {0}
IsOfRecords (Write t r v) = Unit {0}
IsOfRecords (Add t r by) = Unit {0}
IsOfRecords (Insert t p v n) = Unit {0}
IsOfRecords (Delete t r) = Unit {0}
IsOfRecords (Commit t) = Unit {0}
IsOfRecords e = ⊥

-- events of rollbacks
abbrev pub IsOfRollbacks : Event → Type 0
IsOfRollbacks (Save t k) = Unit {0}
IsOfRollbacks (Back t k) = Unit {0}
IsOfRollbacks (Undo t) = Unit {0}
IsOfRollbacks e = ⊥

-- events of instances
abbrev pub IsOfInstances : Event → Type 0
IsOfInstances (Listing i p) = Unit {0}
IsOfInstances (Join i) = Unit {0}
IsOfInstances (RecoverBegin i by) = Unit {0}
IsOfInstances (Fail i) = Unit {0}
IsOfInstances (FailAll pick) = Unit {0}
IsOfInstances e = ⊥

-- what a verdict says of an answer where nothing refuses the event
abbrev pub JudgesRow : Verdict → State → Event → Reply → State → Type 0
JudgesRow Follows m e reply m' = Row m e reply m'
JudgesRow Differs m e reply m' = ((m1 : State) → Row m e reply m1 → ⊥) × (m' ≡ m)
JudgesRow Unjudged m e reply m' = ⊥

-- the same of an answer that leaves the state open
abbrev pub JudgesTold : Verdict → Outcome → State → Event → Reply → State → Type 0
JudgesTold Follows o m e reply m' = Row m e reply m' × Told o m e reply m'
JudgesTold Differs o m e reply m' = ((m1 : State) → Row m e reply m1 → Told o m e reply m1 → ⊥) × (m' ≡ m)
JudgesTold Unjudged o m e reply m' = ⊥

-- the text of the sum of what was found and a number, or there is no sum
abbrev pub IsSumAt : Content → Content → ℤ → Type 0
IsSumAt None u by = (x w : List ℕ) → Some x ≡ u → IsSum x by w → ⊥
IsSumAt (Some w) u by = (x : List ℕ) × (Some x ≡ u) × IsSum x by w

-- whether a transaction may put w in place of a value, and what it leaves
abbrev pub Replaces : Bool → State → TxnId → Rid → Content → State → Type 0
Replaces true m t r w m' = (u : List ℕ) × Runs m t × (Some u ≡ view m t r) × (m' ≡ wrote t r (Some u) w m)
Replaces false m t r w m' = ((u : List ℕ) → Runs m t → Some u ≡ view m t r → ⊥) × (m' ≡ m)

-- what a failure of a device leaves is what is told
abbrev pub IsToldOf : Outcome → State → Event → Cause → State → Type 0
IsToldOf o m e Cause.Rig m' = Falls m e o.fell × (m' ≡ fallen o.fell (counted e m))
IsToldOf o m e c m' = Unit {0}

-- why an event can't be refused for this cause, though it is the first that applies
abbrev pub Hinders : Outcome → State → Event → Cause → Type 0
Hinders o m e Cause.Rig = Falls m e o.fell → ⊥
Hinders o m e Cause.Cut = Runs m (txn_of e) → ⊥
Hinders o m e c = ⊥

-- what a verdict says of a refusal for the first cause that applies
abbrev pub JudgesCause : Verdict → Outcome → State → Event → Cause → State → Type 0
JudgesCause Follows o m e c m' = Refuses m e c m' × IsToldOf o m e c m'
JudgesCause Differs o m e c m' = Hinders o m e c × (m' ≡ m)
JudgesCause Unjudged o m e c m' = (IsCountable m e → ⊥) × (m' ≡ m)
