-- Where transactions stand, and how their instances do.
use Rattle.std.specs.Prelude.{◌≡◌, ℕ}
use Rattle.sd_base.specs.declared.ids.TxnId.{TxnId}
use Rattle.sd_model.specs.declared.act.Life.{Life}
use Rattle.sd_model.specs.declared.act.Life.TheVariants.{Gone, Running, Retained, Rolling, Doubt}
use Rattle.sd_base.specs.declared.place.Status.{Status}
use Rattle.sd_base.specs.declared.place.Status.TheVariants.{Up, Down, Recovering, Clean, Restarting, Closed}
use Rattle.sd_model.specs.State.{State}

abbrev pub MayRun : Status → Type 0
MayRun Up = Unit {0}
MayRun Down = ⊥
MayRun Clean = ⊥
MayRun Restarting = ⊥
MayRun Closed = ⊥
MayRun (Recovering by) = ⊥

abbrev pub IsFallen : Status → Type 0
IsFallen Up = ⊥
IsFallen Down = Unit {0}
IsFallen Clean = ⊥
IsFallen Restarting = ⊥
IsFallen Closed = Unit {0}
IsFallen (Recovering by) = Unit {0}

-- one that runs or rolls is of an instance that is up, a loser or a doubtful one of one that isn't recovered
abbrev pub SuitsStatus : Life → Status → Type 0
SuitsStatus Gone s = Unit {0}
SuitsStatus Running s = MayRun s
SuitsStatus Retained s = IsFallen s
SuitsStatus (Doubt cut) s = IsFallen s
SuitsStatus (Rolling to) s = MayRun s

abbrev pub IsDoubt : Life → Type 0
IsDoubt Gone = ⊥
IsDoubt Running = ⊥
IsDoubt Retained = ⊥
IsDoubt (Doubt cut) = Unit {0}
IsDoubt (Rolling to) = ⊥

pub record LivesAreSound (m : State) : Type 0 where
  pub stands : (t : TxnId) → SuitsStatus (m.part t).life (m.inst t.inst).status
  -- an instance has at most one in doubt
  pub one : (t u : TxnId) → IsDoubt (m.part t).life → IsDoubt (m.part u).life → t.inst ≡ u.inst → t ≡ u
  -- a complex is closed as a whole
  pub shut : (i : ℕ) → (m.inst i).status ≡ Closed → (m.inst 1).status ≡ Closed
