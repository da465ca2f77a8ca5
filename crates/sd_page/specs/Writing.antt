-- Writing a piece into bytes.
use Rattle.std.specs.Prelude.{ℕ, ◌+◌, List, ◌++◌, length, take, drop}

-- the bytes with this piece from a place on
abbrev pub pasted : List ℕ → ℕ → List ℕ → List ℕ
pasted bytes at piece = take at bytes ++ (piece ++ drop (at + length piece) bytes)
