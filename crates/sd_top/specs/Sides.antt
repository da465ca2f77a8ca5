-- The two streams of a run, each as it is known from outside by what is left or written, where that is told, and by how often it
-- failed.
use Rattle.std.specs.Prelude.{ℕ, List, Option}

-- a source: the bytes that are left, and how often it failed
pub record SourceSide : Type 0 where
  pub left : Option (List ℕ)
  pub faults : ℕ

-- a sink: the bytes that were written, and how often it failed
pub record SinkSide : Type 0 where
  pub written : Option (List ℕ)
  pub faults : ℕ
