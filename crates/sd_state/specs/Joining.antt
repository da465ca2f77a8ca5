-- An instance comes up: the end of a join.
use Rattle.std.specs.Prelude.{ℕ, ◌-◌, slice_set}
use Rattle.sd_base.specs.declared.place.Status.TheVariants as S
use Rattle.sd_state.specs.Parts.{Parts}

-- instance i is up
abbrev pub with_joined : ℕ → Parts → Parts
with_joined i c = record c { statuses = slice_set c.statuses (i - 1) S.Up }
