-- The LSN of the first record of a chain above the LSN of a page's disk image.
use Rattle.std.specs.Prelude.{ℕ, ◌<◌, ◌≤◌, ◌==◌, IsTrue, List, Option, None, Some}
use Rattle.std.specs.List.{list_any}
use Rattle.sd_logrec.specs.View.{Rec}
use Rattle.sd_chain.specs.Records.{Each}

-- l is the LSN of a record of the chain above the floor, and none of these has a lower one
pub record IsLeastAbove (chain : List Rec) (floor l : ℕ) : Type 0 where
  pub above : floor < l
  pub there : IsTrue (list_any (λ x. x.lsn == l) chain)
  pub least : Each (λ x. floor < x.lsn → l ≤ x.lsn) chain

-- none where no record of the chain is above the floor
abbrev pub IsFirstAbove : List Rec → ℕ → Option ℕ → Type 0
IsFirstAbove chain floor None = Each (λ x. x.lsn ≤ floor) chain
IsFirstAbove chain floor (Some l) = IsLeastAbove chain floor l
