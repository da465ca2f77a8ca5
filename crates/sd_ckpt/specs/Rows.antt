-- Rows of a checkpoint's table of transactions.
use Rattle.std.specs.Prelude.{ℕ, ◌^◌, ◌<◌, ◌≤◌}
use Rattle.sd_base.specs.declared.ids.TxnId.{TxnId}
use Rattle.sd_logrec.specs.Spelling.{Span}

-- the entry of a map as a row
abbrev pub flat_row : TxnId × (ℕ × ℕ) → Span
flat_row e = (e.0, e.1.0, e.1.1)

-- The numbers of a row are in their ranges.
pub record IsInRange (s : Span) : Type 0 where
  pub low : 1 ≤ s.0.inst
  pub high : s.0.inst ≤ 8
  pub epoch : s.0.epoch < 2 ^ 32
  pub seq : s.0.seq < 2 ^ 32
  pub first : s.1 < 2 ^ 64
  pub last : s.2 < 2 ^ 64
