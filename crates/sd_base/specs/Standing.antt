-- How an instance stands, by its status: whether it is active, up or down.
use Rattle.std.specs.Prelude.{ℕ, Bool, true, false, eqb}
use Rattle.sd_base.specs.declared.place.Status.{Status}
use Rattle.sd_base.specs.declared.place.Status.TheVariants as S

-- an instance in this status may have pages
abbrev pub active_as : ℕ → Status → Bool
active_as i S.Up = true
active_as i S.Down = false
active_as i (S.Recovering by) = eqb by i
active_as i S.Clean = false
active_as i S.Restarting = true
active_as i S.Closed = false

abbrev pub is_up : Status → Bool
is_up S.Up = true
is_up S.Down = false
is_up (S.Recovering by) = false
is_up S.Clean = false
is_up S.Restarting = false
is_up S.Closed = false

abbrev pub is_down : Status → Bool
is_down S.Up = false
is_down S.Down = true
is_down (S.Recovering by) = false
is_down S.Clean = false
is_down S.Restarting = false
is_down S.Closed = false
