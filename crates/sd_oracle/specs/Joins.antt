-- How joins that failed are counted.
use Rattle.std.specs.Prelude.{◌<◌}
use Rattle.sd_model.specs.declared.event.Event.{Event}
use Rattle.sd_model.specs.declared.event.Event.TheVariants.{Join}
use Rattle.sd_model.specs.State.{State}

-- what a reply of the event is judged by: the count of joins that failed has room for one more
abbrev pub IsCountable : State → Event → Type 0
IsCountable m (Join i) = (m.inst i).failed < 18446744073709551615
IsCountable m e = Unit {0}
