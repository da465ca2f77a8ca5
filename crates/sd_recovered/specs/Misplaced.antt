-- The records that the ones so far show to be misplaced, and the least index among them. One that begins late isn't among
-- them: its transaction may yet be closed.
use Rattle.std.specs.Prelude.{◌≡◌, ◌⊎◌, ℕ, ◌≤◌, true, List, Option, None, Some, IfSome, slice_get, take}
use Rattle.sd_logrec.specs.View.{Rec}
use Rattle.sd_chain.specs.Order.{Sofar, after_all, none_yet, speaks}
use Rattle.sd_chain.specs.Faults.{GoesOn, LeavesOpen, Skips, UndoesOther}

-- what is wrong with a record, behind this one's
abbrev pub IsWrongYet : List Rec → ℕ → Sofar → Rec → Type 0
IsWrongYet xs k sofar x = GoesOn xs k x ⊎ (Skips sofar x ⊎ (LeavesOpen sofar x ⊎ UndoesOther xs sofar x))

-- The record of this index isn't in its transaction's order.
pub record IsOff (xs : List Rec) (k : ℕ) : Type 0 where
  pub here : Rec
  pub there : slice_get xs k ≡ Some here
  pub own : speaks here.kind ≡ true
  pub wrong : IsWrongYet xs k (after_all here.txn none_yet (take k xs)) here

-- this index or a lower one is told
abbrev pub Covers : Option ℕ → ℕ → Type 0
Covers None j = ⊥
Covers (Some k) j = k ≤ j

-- The least index of those that are off.
pub record IsLeast (xs : List Rec) (least : Option ℕ) : Type 0 where
  pub hit : IfSome least (IsOff xs)
  pub covers : (j : ℕ) → IsOff xs j → Covers least j

-- The least index that is off with one record more, and wasn't.
pub record Finds (xs more : List Rec) (found : Option ℕ) : Type 0 where
  pub hit : IfSome found (IsOff more)
  pub others : (j : ℕ) → IsOff more j → IsOff xs j ⊎ Covers found j
