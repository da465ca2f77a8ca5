-- Rising transactions, and how far a walk over the losers of a log has come.
use Rattle.std.specs.Prelude.{◌≡◌, ℕ, ◌<◌, List, [], ◌∷◌, Some, slice_get}
use Rattle.sd_base.specs.declared.ids.TxnId.{TxnId}
use Rattle.sd_base.specs.Ids.{IsBelow}
use Rattle.sd_chain.specs.Records.{Each}
use Rattle.sd_recovered.specs.declared.losers.Loser.{Loser}

-- each is below the next ones
abbrev pub AreRising : List TxnId → Type 0
AreRising [] = Unit {0}
AreRising (t ∷ ts) = Each (IsBelow t) ts × AreRising ts

-- each loser in front of this index is below the transaction
abbrev pub AreBelow : List Loser → ℕ → TxnId → Type 0
AreBelow losers next t = (k : ℕ) (loser : Loser) → k < next → slice_get losers k ≡ Some loser → IsBelow loser.txn t

-- The first loser that isn't below the transaction has this index; where there is none, it lies behind all.
pub record IsNext (losers : List Loser) (next : ℕ) (t : TxnId) : Type 0 where
  pub front : AreBelow losers next t
  pub here : (loser : Loser) → slice_get losers next ≡ Some loser → IsBelow loser.txn t → ⊥
