-- What the pull of a page leaves of recoveries that are under way, and what is left of a recovery that goes on in rounds of steps and
-- pulls.
use Rattle.std.specs.Prelude.{◌≡◌, ℕ, ◌<◌, false, Option, None, Some}
use Rattle.sd_base.specs.declared.ids.TxnId.{TxnId}
use Rattle.sd_base.specs.declared.place.Status.TheVariants as S
use Rattle.sd_model.specs.declared.event.Event.{Event}
use Rattle.sd_model.specs.declared.event.Event.TheVariants as event
use Rattle.sd_rig.specs.Devices.{DeviceImages}
use Rattle.sd_state.specs.Complexes.{parts}
use Rattle.sd_state.specs.Parts.{Parts, status_at}
use Rattle.sd_fits.specs.Resting.{LeavesRest}
use Rattle.sd_fits.specs.declared.body.Body.{Body}
use Rattle.sd_recover.specs.Tasks.{IsNext}
use Rattle.sd_recover.specs.Work.{has_next, rounds_left}
use Rattle.sd_recover.specs.declared.tasks.Task.TheVariants as task
use Rattle.sd_drive.specs.declared.recovery.Next.{Next}
use Rattle.sd_drive.specs.declared.recovery.Next.TheVariants as nexts

-- the event moves a page
abbrev pub IsHelp : Event → Type 0
IsHelp (event.Ask i p mode) = Unit {0}
IsHelp (event.Give i p) = Unit {0}
IsHelp (event.Take i p) = Unit {0}
IsHelp (event.Evict i p) = Unit {0}
IsHelp (event.Flush i p) = Unit {0}
IsHelp e = ⊥

-- A complex that is open stays open, and recoveries that are under way go on.
abbrev pub RestsOpen : {G : Type 0} → Option (Body G) → Option (Body G) → Type 0
RestsOpen (Some (Body.Open old)) (Some (Body.Open new)) = LeavesRest (parts old) (parts new)
RestsOpen (Some (Body.Open old)) new = ⊥
RestsOpen old new = Unit {0}

-- ---- rounds of a recovery

-- the rounds of steps and pulls that are left at most of the recovery of i
abbrev pub rounds_in : {G : Type 0} → (G → DeviceImages) → Option (Body G) → ℕ → ℕ
rounds_in seen None i = 0
rounds_in seen (Some (Body.Open c)) i = rounds_left (seen c.rig) (parts c) i
rounds_in seen (Some (Body.Closed rig shape)) i = 0

-- where another round follows, the number is less
abbrev pub Lowers : Next → ℕ → ℕ → Type 0
Lowers (nexts.Again left) old new = new < old
Lowers (nexts.Over how) old new = Unit {0}

-- instance `by` recovers i, and an undo on page p is next
abbrev pub UndoesNext : Parts → ℕ → ℕ → ℕ → Type 0
UndoesNext c i by p = (t : TxnId) × IsNext c i (task.Undo t p) × (status_at c i ≡ S.Recovering by)

-- so it is in an open complex
abbrev pub UndoesNextIn : {G : Type 0} → Option (Body G) → ℕ → ℕ → ℕ → Type 0
UndoesNextIn None i by p = ⊥
UndoesNextIn (Some (Body.Open c)) i by p = UndoesNext (parts c) i by p
UndoesNextIn (Some (Body.Closed rig shape)) i by p = ⊥

-- and `by` hasn't that page alone
abbrev pub LacksNextIn : {G : Type 0} → Option (Body G) → ℕ → ℕ → ℕ → Type 0
LacksNextIn None i by p = ⊥
LacksNextIn (Some (Body.Open c)) i by p = UndoesNext (parts c) i by p × (has_next (parts c) i ≡ false)
LacksNextIn (Some (Body.Closed rig shape)) i by p = ⊥
