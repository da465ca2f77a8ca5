-- A run: entries that lead from one state to another, each by a step.
use Rattle.std.specs.Prelude.{◌≡◌, ◌⊎◌, List, [], ◌∷◌}
use Rattle.sd_base.specs.declared.ids.TxnId.{TxnId}
use Rattle.sd_model.specs.declared.event.Entry.{Entry}
use Rattle.sd_model.specs.declared.act.Life.TheVariants as Life
use Rattle.sd_model.specs.State.{State}
use Rattle.sd_model.specs.Step.{Step}

abbrev pub Run : State → List Entry → State → Type 0
Run m [] m' = m ≡ m'
Run m (e ∷ es) m' = (m1 : State) × Step m e.event e.reply m1 × Run m1 es m'

-- nothing is committed yet, and nothing that is there may commit
pub record IsOpening (m : State) : Type 0 where
  pub done : m.done ≡ []
  pub losers : (t : TxnId) → ((m.part t).life ≡ Life.Gone) ⊎ ((m.part t).life ≡ Life.Retained)
