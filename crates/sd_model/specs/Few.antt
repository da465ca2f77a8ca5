-- How many transactions an instance has that may begin a checkpoint.
use Rattle.std.specs.Prelude.{ℕ, ◌≤◌}
use Rattle.sd_model.specs.declared.event.Event.{Event}
use Rattle.sd_model.specs.declared.event.Reply.{Reply}
use Rattle.sd_model.specs.State.{State}
use Rattle.sd_model.specs.Applies.{TakesChecks, count_of}
use Rattle.sd_model.specs.Lives.{LivesAreSound}
use Rattle.sd_model.specs.Listed.{Listed}
use Rattle.sd_model.specs.Step.{Step}

-- An instance that is up or restarting has at most 64 unresolved transactions.
abbrev pub Few : State → Type 0
Few m = (i : ℕ) → TakesChecks (m.inst i).status → count_of m i ≤ 64

-- Each step keeps it.
abbrev pub FewSteps : Type 0
FewSteps = (m : State) (e : Event) (reply : Reply) (m' : State) → Step m e reply m' → LivesAreSound m → Listed m → Few m → Few m'
