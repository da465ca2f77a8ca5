-- What was written to a sink.
use Rattle.std.specs.Prelude.{ℕ, ◌≤◌, List, length, take, Option}
use Rattle.sd_base.specs.Streams.{Appends}

-- a front of the text stands behind what was written before, where that is told
abbrev pub AppendsFront : Option (List ℕ) → List ℕ → Option (List ℕ) → Type 0
AppendsFront old text new = (n : ℕ) × (n ≤ length text) × Appends old (take n text) new
