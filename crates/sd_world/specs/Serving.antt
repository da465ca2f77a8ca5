-- One event served: what every call of an event promises.
use Rattle.std.specs.Prelude.{◌≡◌, ◌⊎◌, ◌≤◌, ℕ, Bool, true, false, List, Option, None, Some, Result, Ok, Err}
use Rattle.sd_base.specs.declared.ids.Rid.{Rid}
use Rattle.sd_base.specs.declared.ids.TxnId.{TxnId}
use Rattle.sd_base.specs.declared.refusal.Refusal.{Refusal}
use Rattle.sd_base.specs.declared.refusal.Refusal.TheVariants as R
use Rattle.sd_base.specs.Streams.{Rises}
use Rattle.sd_rig.specs.Devices.{DeviceImages, Elapses, Span}
use Rattle.sd_model.specs.declared.event.Event.{Event}
use Rattle.sd_model.specs.declared.event.Event.TheVariants.{FailAll}
use Rattle.sd_model.specs.declared.event.Reply.{Reply}
use Rattle.sd_model.specs.declared.event.Reply.TheVariants as reply
use Rattle.sd_model.specs.Fields.{txn_of}
use Rattle.sd_model.specs.State.{State}
use Rattle.sd_model.specs.Scenes.{Scene, Plays, asked_of}
use Rattle.sd_model.specs.Exact.{IsExact, IsOfFreeSlot}
use Rattle.sd_world.specs.Pages.{Pages}
use Rattle.sd_world.specs.Answers.{Moves}
use Rattle.sd_world.specs.Bounds.{Bounds, bounds_after, IsNear, Within}

-- what moves with each event: the serial table with its waits, the pages, and the sums
pub record Core : Type 0 where
  pub scene : Scene
  pub pages : Pages
  pub bounds : Bounds

-- the record that is asked for, where there is one, is of such a slot
abbrev pub AsksNear : Bounds → Event → Option Rid → Type 0
AsksNear b e None = Unit {0}
AsksNear b e (Some r) = IsNear b e r

-- The event with its reply is right of the serial table, the waits, the pages and the sums; `wanted` is the record that an insert asks for.
pub record Turns (old : Core) (e : Event) (r : Reply) (new : Core) : Type 0 where
  pub wanted : Option Rid
  pub near : AsksNear old.bounds e wanted
  pub plays : Plays wanted e r old.scene new.scene
  pub exact : IsExact old.scene (txn_of e) (asked_of e wanted) r
  pub unused : IsOfFreeSlot old.scene.state e wanted r
  pub moves : Moves old.scene.state old.pages e r new.scene.state new.pages
  pub within : Within old.scene.state old.bounds e r
  pub sums : new.bounds ≡ bounds_after old.bounds e r

-- what devices tell of themselves: what they read, what a crash may leave of them now and since a moment, their clock and their faults
pub record Telling (D : Type 0) : Type 1 where
  pub seen : D → DeviceImages
  pub leaves : D → ℕ → List ℕ → Type 0
  pub moment : D → ℕ
  pub since : D → ℕ → DeviceImages → Type 0
  pub faults : D → ℕ

-- what devices tell, by its parts
abbrev pub telling : {D : Type 0} → (D → DeviceImages) → (D → ℕ → List ℕ → Type 0) → (D → ℕ) → (D → ℕ → DeviceImages → Type 0) → (D → ℕ) → Telling D
telling seen leaves moment since faults = record { seen = seen; leaves = leaves; moment = moment; since = since; faults = faults }

-- what was left since a later moment was left since an earlier one
abbrev pub KeepsEarlier : {D : Type 0} → Telling D → D → Type 0
KeepsEarlier tell d = (t u : ℕ) (img : DeviceImages) → t ≤ u → tell.since d u img → tell.since d t img

-- the reply tells a fault of a device
abbrev pub IsFault : Reply → Type 0
IsFault (reply.Refused R.Failed) = Unit {0}
IsFault (reply.Refused R.CutCommit) = Unit {0}
IsFault r = ⊥

-- the faults of an event that no fault is told of: none, but for calls that may swallow one
abbrev pub FewFaults : Event → ℕ → ℕ → Type 0
FewFaults (FailAll pick) old new = old ≤ new
FewFaults e old new = new ≡ old

-- a fault came, and the reply tells it, or it tells none
abbrev pub FaultsAre : Event → Reply → ℕ → ℕ → Type 0
FaultsAre e (reply.Refused R.Failed) old new = Rises old new
FaultsAre e (reply.Refused R.CutCommit) old new = Rises old new
FaultsAre e r old new = FewFaults e old new

-- the call took its time, and each image that crashes since it began may have left stands for the state before or after
pub record Passes {D : Type 0} (tell : Telling D) (stands : DeviceImages → State → Type 0) (old new : D) (m m' : State) : Type 0 where
  pub time : Elapses (tell.moment old) (tell.moment new) (tell.since old) (tell.since new)
  pub span : Span (tell.moment old) (tell.since new) (λ img. stands img m ⊎ stands img m')

-- The reply turns the one core into the other, which the complex fits then. `rig` is the complex's devices; `fits` says which cores it fits.
pub record Serves {C D : Type 0} (tell : Telling D) (stands : DeviceImages → State → Type 0) (rig : C → D) (fits : C → Core → Type 0)
    (e : Event) (r : Reply) (old new : C) (w w' : Core) : Type 0 where
  pub turns : Turns w e r w'
  pub fits_then : fits new w'
  pub passes : Passes tell stands (rig old) (rig new) w.scene.state w'.scene.state

-- the complex fits the same core still
pub record Spares {C D : Type 0} (tell : Telling D) (stands : DeviceImages → State → Type 0) (rig : C → D) (fits : C → Core → Type 0)
    (old new : C) (w : Core) : Type 0 where
  pub fits_still : fits new w
  pub passes : Passes tell stands (rig old) (rig new) w.scene.state w.scene.state

-- from each core that the complex fits, a reply turns to one that it fits then; want of memory spares all
abbrev pub Served : {C D : Type 0} → Telling D → (DeviceImages → State → Type 0) → (C → D) → (C → Core → Type 0)
    → Event → Option Reply → C → C → Type 0
Served tell stands rig fits e None old new =
    ((w : Core) → fits old w → Spares tell stands rig fits old new w) × (tell.faults (rig new) ≡ tell.faults (rig old))
Served tell stands rig fits e (Some r) old new =
    ((w : Core) → fits old w → (w' : Core) × Serves tell stands rig fits e r old new w w') × FaultsAre e r (tell.faults (rig old)) (tell.faults (rig new))

-- ---- The reply of a call, by what it returns; none for want of memory.

abbrev pub refused : Refusal → Option Reply
refused R.Memory = None
refused n = Some (reply.Refused n)

-- what is returned answers so
abbrev pub answered : {X : Type 0} → (X → Reply) → Result X Refusal → Option Reply
answered answer (Ok x) = Some (answer x)
answered answer (Err n) = refused n

abbrev pub did : {X : Type 0} → Result X Refusal → Option Reply
did result = answered (λ x. reply.Did) result

-- the transaction that began
abbrev pub began_reply : Result TxnId Refusal → Option Reply
began_reply result = answered (λ t. reply.Began t) result

-- the value of a record, or none
abbrev pub found_reply : Result (Option (List ℕ)) Refusal → Option Reply
found_reply result = answered (λ v. reply.Value v) result

-- where the new record is
abbrev pub placed_at : Result Rid Refusal → Option Reply
placed_at result = answered (λ r. reply.At r) result

-- the records of a page
abbrev pub listed : Result (List (Rid × List ℕ)) Refusal → Option Reply
listed result = answered (λ rows. reply.Rows rows) result

-- whom an instance asked for a page, unless it has it
abbrev pub had_or_asked : Option ℕ → Reply
had_or_asked None = reply.Have
had_or_asked (Some of) = reply.Asked of

-- the instance that the page moves to
abbrev pub gave : Result ℕ Refusal → Option Reply
gave result = answered (λ to. reply.Gave to) result

-- the epoch in which an instance joined
abbrev pub joined_reply : Result ℕ Refusal → Option Reply
joined_reply result = answered (λ epoch. reply.Joined epoch) result

-- whether a rollback or a recovery is at its end after a step
abbrev pub step_or_finished : Bool → Reply
step_or_finished false = reply.Step
step_or_finished true = reply.Finished

-- the end of a rollback
abbrev pub finished : {X : Type 0} → Result X Refusal → Option Reply
finished result = answered (λ x. reply.Finished) result
