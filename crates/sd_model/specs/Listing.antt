-- The rows of a list of a page.
use Rattle.std.specs.Prelude.{◌≡◌, ℕ, ◌<◌, List, [], ◌∷◌}
use Rattle.sd_base.specs.declared.ids.Rid.{Rid}
use Rattle.sd_model.specs.Tables.{Contents, contents}

abbrev pub AreIn : ℕ → List (Rid × List ℕ) → Type 0
AreIn p [] = Unit {0}
AreIn p (row ∷ rows) = (row.0.page ≡ p) × AreIn p rows

-- the first row's slot, if there is one, is above this one
abbrev pub StartsAbove : ℕ → List (Rid × List ℕ) → Type 0
StartsAbove slot [] = Unit {0}
StartsAbove slot (row ∷ rows) = slot < row.0.slot

-- the slots rise
abbrev pub AreRising : List (Rid × List ℕ) → Type 0
AreRising [] = Unit {0}
AreRising (row ∷ rows) = StartsAbove row.0.slot rows × AreRising rows

-- the rows are the records of the page, rising by slot, each with its value
pub record AreRows (p : ℕ) (table : Contents) (rows : List (Rid × List ℕ)) : Type 0 where
  pub inside : AreIn p rows
  pub rising : AreRising rows
  pub same : (r : Rid) → r.page ≡ p → contents rows r ≡ table r
