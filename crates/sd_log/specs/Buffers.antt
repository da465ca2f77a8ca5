-- What contracts see of the memory for a tail, and a tail as it comes onto the device.
use Rattle.std.specs.Prelude.{ℕ, List, [], ◌∷◌, ◌++◌, length}
use Rattle.sd_logrec.specs.Spelling.{four}

-- of how many bytes a tail finds memory
pub record BufferState : Type 0 where
  pub room : ℕ

-- what comes onto the device behind a group's gate: the length, the records, and the next gate, which is closed
abbrev pub framed : List ℕ → List ℕ
framed text = four (length text) ++ (text ++ 0 ∷ [])
