-- What streams give and take, and when their count of faults rose.
use Rattle.std.specs.Prelude.{◌≡◌, ℕ, ◌+◌, ◌<◌, ◌≤◌, min, List, [], ◌++◌, length, take, Option, None, Some}

-- A count of faults rose, or stands at the greatest u64, where a further fault doesn't raise it.
abbrev pub Rises : ℕ → ℕ → Type 0
Rises old new = min (old + 1) 18446744073709551615 ≤ new

-- The front n of out were next in the input, where it is told, and the rest is still to come.
-- None at all is the end of the input, if out had room.
abbrev pub Gives : Option (List ℕ) → ℕ → List ℕ → Option (List ℕ) → Type 0
Gives None n out new = new ≡ None
Gives (Some left) n out new = (rest : List ℕ) × (left ≡ take n out ++ rest) × (new ≡ Some rest) × (n ≡ 0 → 0 < length out → rest ≡ [])

-- The piece stands behind what was written before, where that is told.
abbrev pub Appends : Option (List ℕ) → List ℕ → Option (List ℕ) → Type 0
Appends None piece new = new ≡ None
Appends (Some text) piece new = new ≡ Some (text ++ piece)

-- A source in memory: what is left, its calls so far, the numbers of the calls that are to fail, its faults.
pub record Supply : Type 0 where
  pub left : List ℕ
  pub calls : ℕ
  pub failing : List ℕ
  pub faults : ℕ

-- A sink in memory: what was written, how many more bytes it has room for, and the rest as of a source.
pub record Store : Type 0 where
  pub text : List ℕ
  pub room : ℕ
  pub calls : ℕ
  pub failing : List ℕ
  pub faults : ℕ

-- the number of the next call; it stays at the greatest u64
abbrev pub next_call : ℕ → ℕ
next_call calls = min (calls + 1) 18446744073709551615
