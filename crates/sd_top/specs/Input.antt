-- What was taken from a source.
use Rattle.std.specs.Prelude.{◌≡◌, ℕ, List, [], ◌++◌, Option, None, Some}

-- the text is what was taken, where the source tells its bytes
abbrev pub Taken : Option (List ℕ) → List ℕ → Option (List ℕ) → Type 0
Taken None text new = new ≡ None
Taken (Some left) text new = (rest : List ℕ) × (left ≡ text ++ rest) × (new ≡ Some rest)

-- nothing is left, where the source tells its bytes
abbrev pub IsAtEnd : Option (List ℕ) → Type 0
IsAtEnd None = Unit {0}
IsAtEnd (Some left) = left ≡ []
