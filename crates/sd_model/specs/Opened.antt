-- A complex as it is opened from devices.
use Rattle.std.specs.Prelude.{◌≡◌, ◌⊎◌, ℕ, ◌≤◌, []}
use Rattle.sd_base.specs.declared.ids.TxnId.{TxnId}
use Rattle.sd_base.specs.declared.place.Status.{Status}
use Rattle.sd_base.specs.declared.place.Status.TheVariants.{Down, Clean}
use Rattle.sd_model.specs.declared.act.Life.TheVariants.{Retained}
use Rattle.sd_model.specs.State.{State, fresh}
use Rattle.sd_model.specs.Changes.{HasLoser}
use Rattle.sd_model.specs.Run.{IsOpening}
use Rattle.sd_model.specs.Listed.{IsAmong, NoneTwice}

-- No instance is up, is being recovered, restarts or is closed: each with a loser is down, and the others are all
-- clean, or, where a page is lost, all down.
pub record IsOpened (m : State) : Type 0 where
  pub opening : IsOpening m
  pub losers : (t : TxnId) → (m.part t).life ≡ Retained → IsAmong t m.begun
  pub once : NoneTwice m.begun
  pub epochs : (t : TxnId) → IsAmong t m.begun → t.epoch ≤ (m.inst t.inst).epoch
  pub cuts : m.cuts ≡ []
  pub marks : (t : TxnId) → (m.part t).marks ≡ []
  pub down : (i : ℕ) → HasLoser m i → (m.inst i).status ≡ Down
  pub others : (s : Status) × ((s ≡ Clean) ⊎ (s ≡ Down)) × ((i : ℕ) → (HasLoser m i → ⊥) → (m.inst i).status ≡ s)

-- a complex on blank devices is opened so
abbrev pub FreshIsOpened : Type 0
FreshIsOpened = IsOpened fresh

-- what holds of each complex that is opened so
abbrev pub OpenedIs : (State → Type 0) → Type 0
OpenedIs P = (m : State) → IsOpened m → P m
