-- A mark is at most the number of live puts, and so is the target of a rollback.
use Rattle.std.specs.Prelude.{ℕ, ◌≤◌, List, [], ◌∷◌, None, Some, length}
use Rattle.sd_base.specs.declared.ids.TxnId.{TxnId}
use Rattle.sd_model.specs.declared.act.Life.{Life}
use Rattle.sd_model.specs.declared.act.Life.TheVariants.{Gone, Running, Retained, Rolling, Doubt}
use Rattle.sd_model.specs.Acts.{live}
use Rattle.sd_model.specs.State.{State, Part}

abbrev pub AtMost : ℕ → List (List ℕ × ℕ) → Type 0
AtMost n [] = Unit {0}
AtMost n (x ∷ marks) = (x.1 ≤ n) × AtMost n marks

abbrev pub Goes : ℕ → Life → Type 0
Goes n Gone = Unit {0}
Goes n Running = Unit {0}
Goes n Retained = Unit {0}
Goes n (Doubt cut) = Unit {0}
Goes n (Rolling None) = Unit {0}
Goes n (Rolling (Some k)) = k ≤ n

pub record Sized (p : Part) : Type 0 where
  pub marks : AtMost (length (live p.acts)) p.marks
  pub target : Goes (length (live p.acts)) p.life

pub record Marked (m : State) : Type 0 where
  pub sized : (t : TxnId) → Sized (m.part t)
