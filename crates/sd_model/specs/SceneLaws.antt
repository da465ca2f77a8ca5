-- Laws of scenes: who waits, and how runs of scenes and runs of states belong together.
use Rattle.std.specs.Prelude.{◌≡◌, ◌≢◌, List, [], ◌∷◌, ◌++◌, Option, Some}
use Rattle.sd_base.specs.declared.ids.TxnId.{TxnId}
use Rattle.sd_base.specs.declared.ids.Rid.{Rid}
use Rattle.sd_base.specs.Waits.{Wait, Waits}
use Rattle.sd_model.specs.declared.event.Entry.{Entry}
use Rattle.sd_model.specs.declared.event.Event.{Event}
use Rattle.sd_model.specs.declared.event.Reply.{Reply}
use Rattle.sd_model.specs.Fields.{txn_of}
use Rattle.sd_model.specs.State.{State}
use Rattle.sd_model.specs.Step.{Runs, Step}
use Rattle.sd_model.specs.Run.{Run}
use Rattle.sd_model.specs.Scenes.{Scene, Plays, SceneRun, asked_of, wait_after, waits_after}

-- whoever waits runs
abbrev pub RunningWait : State → Waits → Type 0
RunningWait m waits = (t : TxnId) (wait : Wait) → waits t ≡ Some wait → Runs m t

-- after an event only those that run wait, whatever waits there were
abbrev pub OnlyRunningWait : Type 0
OnlyRunningWait = (m : State) (e : Event) (told : Option Rid) (reply : Reply) (waits : Waits)
    → RunningWait m (waits_after m e told reply waits)

-- a call sets the caller's wait, where it is blocked, or ends it
abbrev pub CallerWaits : Type 0
CallerWaits = (m : State) (e : Event) (told : Option Rid) (reply : Reply) (waits : Waits)
    → Runs m (txn_of e) → waits_after m e told reply waits (txn_of e) ≡ wait_after (asked_of e told) reply

-- others than the caller wait on while they run
abbrev pub OthersWaitOn : Type 0
OthersWaitOn = (m : State) (e : Event) (told : Option Rid) (reply : Reply) (waits : Waits) (t : TxnId)
    → txn_of e ≢ t → Runs m t → waits_after m e told reply waits t ≡ waits t

-- where only those that run wait, it is so along each run of scenes
abbrev pub SceneRunKeeps : Type 0
SceneRunKeeps = (entries : List Entry) (s last : Scene) → SceneRun s entries last
    → RunningWait s.state s.waits → RunningWait last.state last.waits

-- a step is one of scenes, whatever record an insert asked for, and whatever waits there were
abbrev pub StepPlays : Type 0
StepPlays = (m : State) (e : Event) (reply : Reply) (m' : State) → Step m e reply m' → (told : Option Rid) (waits : Waits)
    → Plays told e reply (record { state = m; waits = waits }) (record { state = m'; waits = waits_after m' e told reply waits })

-- a run of scenes with one entry more is a run of scenes
abbrev pub SceneRunGrows : Type 0
SceneRunGrows = (entries : List Entry) (e : Entry) (told : Option Rid) (s mid last : Scene)
    → SceneRun s entries mid → Plays told e.event e.reply mid last → SceneRun s (entries ++ e ∷ []) last

-- a run of scenes is a run of states
abbrev pub ScenesGiveRun : Type 0
ScenesGiveRun = (entries : List Entry) (s last : Scene) → SceneRun s entries last → Run s.state entries last.state

-- a run of states is one of scenes, whatever waits it begins with
abbrev pub RunHasScenes : Type 0
RunHasScenes = (entries : List Entry) (m m' : State) → Run m entries m' → (waits : Waits)
    → (left : Waits) × SceneRun (record { state = m; waits = waits }) entries (record { state = m'; waits = left })
