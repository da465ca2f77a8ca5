-- What an answer leaves.
use Rattle.std.specs.Prelude.{◌≡◌, Bool, true, false}
use Rattle.sd_model.specs.declared.event.Event.{Event}
use Rattle.sd_model.specs.declared.event.Reply.{Reply}
use Rattle.sd_model.specs.State.{State}
use Rattle.sd_model.specs.Step.{Row}

-- whether an answer may follow where nothing refuses the event, and what it leaves
abbrev pub Answers : Bool → State → Event → Reply → State → Type 0
Answers true m e reply m' = Row m e reply m'
Answers false m e reply m' = ((m1 : State) → Row m e reply m1 → ⊥) × (m' ≡ m)
