-- The ordinal at a key.
use Rattle.std.specs.Prelude.{ℕ, List, Option}
use Rattle.std.specs.Option.{option_or}
use Rattle.std.specs.Ordering.{nat_cmp}
use Rattle.std.specs.BTreeMap.{BTreeMap, get, is_at}
use Rattle.std.specs.Map.{lookup}

-- the ordinal at a key: among those that rise, else among the others
abbrev pub ordinal_at : List (ℕ × ℕ) → BTreeMap ℕ ℕ → ℕ → Option ℕ
ordinal_at rising others key = option_or (lookup (is_at (nat_cmp key)) rising) (get nat_cmp others key)
