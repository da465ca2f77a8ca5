-- Bytes of which a front is kept: those behind it are zeros.
use Rattle.std.specs.Prelude.{ℕ, ◌-◌, ◌≤◌, List, ◌++◌, length}
use Rattle.sd_rig.specs.Disk.{copies}

-- these, and zeros behind them up to this length
abbrev pub filled : ℕ → List ℕ → List ℕ
filled len kept = kept ++ copies (len - length kept) 0

-- What is kept lies within the length, for which there is room.
pub record IsFront (len : ℕ) (kept : List ℕ) (memory : ℕ) : Type 0 where
  pub within : length kept ≤ len
  pub room : len ≤ memory
