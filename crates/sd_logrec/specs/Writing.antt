-- Writing at the end of a Vec that has room.
use Rattle.std.specs.Prelude.{◌≡◌, ◌+◌, ◌≤◌, ℕ, List, ◌++◌, length, vec_len, vec_capacity}
use Rattle.std.specs.Global.{Vec}

-- there is room for these bytes, without memory
abbrev pub HasRoom : Vec ℕ → List ℕ → Type 0
HasRoom out piece = vec_len out + length piece ≤ vec_capacity out

-- the bytes stand behind what was there, and the capacity didn't shrink
pub record Appends (old new : Vec ℕ) (piece : List ℕ) : Type 0 where
  pub items : new.items ≡ old.items ++ piece
  pub len : vec_len new ≡ vec_len old + length piece
  pub capacity : vec_capacity old ≤ vec_capacity new
