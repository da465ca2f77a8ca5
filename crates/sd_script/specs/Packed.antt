-- A name as a number.
use Rattle.std.specs.Prelude.{ℕ, ◌+◌, ◌*◌, List, [], ◌∷◌, reverse}

-- the number of these digits to the base 256, the lowest first
abbrev pub number_from_lowest : List ℕ → ℕ
number_from_lowest [] = 0
number_from_lowest (digit ∷ digits) = digit + 256 * number_from_lowest digits

-- the number of a name, the first byte the highest
abbrev pub packed_of : List ℕ → ℕ
packed_of name = number_from_lowest (reverse name)
