-- Two states of one log between forces.
use Rattle.std.specs.Prelude.{◌≡◌}
use Rattle.sd_log.specs.Logs.{LogState}

-- only the tail differs
pub record AreSame (old new : LogState) : Type 0 where
  pub inst : new.inst ≡ old.inst
  pub start : new.start ≡ old.start
  pub gate : new.gate ≡ old.gate
  pub groups : new.groups ≡ old.groups
