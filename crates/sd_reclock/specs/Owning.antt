-- The lowest of the transactions of which something holds.
use Rattle.std.specs.Prelude.{◌≡◌, ◌⊎◌, Option, Some}
use Rattle.sd_base.specs.declared.ids.TxnId.{TxnId}
use Rattle.sd_base.specs.Ids.{IsBelow}

-- o is a transaction of which P holds, and no other such is below it; where P holds of one, o is there
pub record IsLow (P : TxnId → Type 0) (o : Option TxnId) : Type 0 where
  pub holds : (t : TxnId) → o ≡ Some t → P t
  pub least : (u : TxnId) → P u → (s : TxnId) × (o ≡ Some s) × (IsBelow u s → ⊥)

-- the lower of two, either of which may be missing
abbrev pub IsLowerOf : Option TxnId → Option TxnId → Option TxnId → Type 0
IsLowerOf first second o = IsLow (λ t. (first ≡ Some t) ⊎ (second ≡ Some t)) o
