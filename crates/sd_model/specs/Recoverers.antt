-- Who recovers an instance: the instance itself, or one that is up.
use Rattle.std.specs.Prelude.{◌≡◌, ◌⊎◌, ℕ}
use Rattle.sd_base.specs.declared.place.Status.TheVariants.{Up, Recovering}
use Rattle.sd_model.specs.State.{State}
use Rattle.sd_model.specs.Applies.{IsActive}

pub record Recoverers (m : State) : Type 0 where
  pub each : (i by : ℕ) → (m.inst i).status ≡ Recovering by → (by ≡ i) ⊎ ((m.inst by).status ≡ Up)

-- whoever recovers an instance is active: it may hold pages, and it may fall
abbrev pub RecovererIsActive : Type 0
RecovererIsActive = (m : State) → Recoverers m → (i by : ℕ) → (m.inst i).status ≡ Recovering by → IsActive by (m.inst by).status
