-- Which of some causes is the first that applies.
use Rattle.std.specs.Prelude.{◌≡◌, true, List}
use Rattle.sd_model.specs.declared.cause.Cause.{Cause}
use Rattle.sd_model.specs.declared.event.Event.{Event}
use Rattle.sd_model.specs.State.{State}
use Rattle.sd_model.specs.Causes.{has_cause, before}
use Rattle.sd_model.specs.Applies.{PassesAll, Says, First}

-- the cause is the first of these that applies
abbrev pub FirstOf : State → Event → Cause → List Cause → Type 0
FirstOf m e c causes = (has_cause c causes ≡ true) × PassesAll m e (before c causes) × Says m e c

-- the cause is one of these, and the first that applies
abbrev pub IsFirstOf : State → Event → Cause → List Cause → Type 0
IsFirstOf m e c causes = (has_cause c causes ≡ true) × First m e c

-- none of these causes is the first that applies
abbrev pub NoneFirst : State → Event → List Cause → Type 0
NoneFirst m e causes = (c : Cause) → IsFirstOf m e c causes → ⊥
