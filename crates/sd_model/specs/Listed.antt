-- Who is there: the lists of those that began, and of those whose commit was cut.
use Rattle.std.specs.Prelude.{◌≡◌, ◌≢◌, ◌⊎◌, ℕ, ◌<◌, ◌≤◌, List, [], ◌∷◌}
use Rattle.sd_base.specs.declared.ids.TxnId.{TxnId}
use Rattle.sd_base.specs.declared.place.Status.TheVariants.{Up}
use Rattle.sd_model.specs.declared.act.Inst.{Inst}
use Rattle.sd_model.specs.declared.act.Life.{Life}
use Rattle.sd_model.specs.declared.act.Life.TheVariants.{Gone, Running, Retained, Rolling, Doubt}
use Rattle.sd_model.specs.State.{State}
use Rattle.sd_model.specs.Lives.{IsDoubt}

-- t stands in the list
abbrev pub IsAmong : TxnId → List TxnId → Type 0
IsAmong t [] = ⊥
IsAmong t (u ∷ us) = (t ≡ u) ⊎ IsAmong t us

-- nobody stands in the list twice
abbrev pub NoneTwice : List TxnId → Type 0
NoneTwice [] = Unit {0}
NoneTwice (t ∷ ts) = (IsAmong t ts → ⊥) × NoneTwice ts

-- it runs or rolls back
abbrev pub IsAtWork : Life → Type 0
IsAtWork Gone = ⊥
IsAtWork Running = Unit {0}
IsAtWork Retained = ⊥
IsAtWork (Rolling to) = Unit {0}
IsAtWork (Doubt cut) = ⊥

-- t's epoch is below its instance's, or is it, and then t's number is at most the begins while the instance is up.
-- The begins of an instance that isn't up bound no number: nothing begins there before a join, which raises the epoch.
abbrev pub Below : (ℕ → Inst) → TxnId → Type 0
Below f t = (t.epoch < (f t.inst).epoch) ⊎ ((t.epoch ≡ (f t.inst).epoch) × ((f t.inst).status ≡ Up → t.seq ≤ (f t.inst).begins))

abbrev pub EachBelow : (ℕ → Inst) → List TxnId → Type 0
EachBelow f [] = Unit {0}
EachBelow f (t ∷ ts) = Below f t × EachBelow f ts

pub record Listed (m : State) : Type 0 where
  pub bounds : EachBelow m.inst m.begun
  -- whoever is there began or was found open
  pub there : (t : TxnId) → (m.part t).life ≢ Gone → IsAmong t m.begun
  pub once : NoneTwice m.begun
  -- whoever is in doubt was cut
  pub doubts : (t : TxnId) → IsDoubt (m.part t).life → IsAmong t m.cuts
  pub cut_once : NoneTwice m.cuts
  -- whoever was cut began, and works no more
  pub cut_begun : (t : TxnId) → IsAmong t m.cuts → IsAmong t m.begun
  pub cut_rests : (t : TxnId) → IsAmong t m.cuts → IsAtWork (m.part t).life → ⊥
