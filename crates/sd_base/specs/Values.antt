-- What a record holds: the bytes of a value, or none.
use Rattle.std.specs.Prelude.{ℕ, List, Option, None, Some, length}

-- how many bytes it has, 0 of none
abbrev pub size : Option (List ℕ) → ℕ
size None = 0
size (Some bytes) = length bytes
