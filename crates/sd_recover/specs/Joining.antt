-- Why an instance may not join.
use Rattle.std.specs.Prelude.{◌≡◌, ◌⊎◌, ℕ}
use Rattle.sd_base.specs.declared.place.Status.{Status}
use Rattle.sd_base.specs.declared.place.Status.TheVariants as S
use Rattle.sd_base.specs.declared.refusal.Refusal.{Refusal}
use Rattle.sd_base.specs.declared.refusal.Refusal.TheVariants as R
use Rattle.sd_state.specs.Parts.{Parts, status_at}

-- an instance in this status has nothing to recover, and isn't up
abbrev pub MayStart : Status → Type 0
MayStart s = (s ≡ S.Clean) ⊎ (s ≡ S.Restarting)

-- one in this status is still to be recovered; in a closed complex each is
abbrev pub IsUnrecovered : Status → Type 0
IsUnrecovered S.Up = ⊥
IsUnrecovered S.Down = Unit {0}
IsUnrecovered (S.Recovering by) = Unit {0}
IsUnrecovered S.Clean = ⊥
IsUnrecovered S.Restarting = ⊥
IsUnrecovered S.Closed = Unit {0}

-- instance i may not join for this cause, and no cause before it applies
abbrev pub StaysOut : Parts → ℕ → Refusal → Type 0
StaysOut c i (R.NotDown status) = (status ≡ status_at c i) × (status_at c i ≡ S.Up)
StaysOut c i (R.NotRecovered status) = (status ≡ status_at c i) × IsUnrecovered (status_at c i)
StaysOut c i n = ⊥
