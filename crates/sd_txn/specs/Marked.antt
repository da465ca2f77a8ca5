-- Marks as the table keeps them: under their names, and in an order in which their numbers don't fall.
use Rattle.std.specs.Prelude.{ℕ, ◌-◌, ◌≤◌, Bool, false, List, [], ◌∷◌, length, map, nat_lt, slice_get}
use Rattle.std.specs.List.{AllByRecursion}
use Rattle.std.specs.Option.{option_map_or}

-- the marks of a map whose keys are these bytes
abbrev pub named : {K : Type 0} → (K → List ℕ) → List (K × ℕ) → List (List ℕ × ℕ)
named bytes marks = map (λ mark. (bytes mark.0, mark.1)) marks

-- no number is below an earlier one
abbrev pub AreRising : List (List ℕ × ℕ) → Type 0
AreRising [] = Unit {0}
AreRising (mark ∷ marks) = AllByRecursion (λ later. mark.1 ≤ later.1) marks × AreRising marks

-- the marks of a transaction with so many open records
pub record AreMarks (marks : List (List ℕ × ℕ)) (depth : ℕ) : Type 0 where
  pub rising : AreRising marks
  pub within : AllByRecursion (λ mark. mark.1 ≤ depth) marks

-- the last mark is above a number
abbrev pub ends_above : ℕ → List (List ℕ × ℕ) → Bool
ends_above left marks = option_map_or (λ mark. nat_lt left mark.1) (slice_get marks (length marks - 1)) false
