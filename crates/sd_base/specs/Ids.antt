-- When two records or two transactions are the same, and the order of transactions.
use Rattle.std.specs.Prelude.{◌≡◌, ◌⊎◌, ◌<◌, ℕ, Bool, eqb, ◌&&◌}
use Rattle.sd_base.specs.declared.ids.TxnId.{TxnId}
use Rattle.sd_base.specs.declared.ids.Rid.{Rid}

unfoldable pub same_txn : TxnId → TxnId → Bool
same_txn a b = eqb a.inst b.inst && (eqb a.epoch b.epoch && eqb a.seq b.seq)

unfoldable pub same_rid : Rid → Rid → Bool
same_rid a b = eqb a.page b.page && eqb a.slot b.slot

-- by instance, then by epoch, then by number in it
abbrev pub IsBelow : TxnId → TxnId → Type 0
IsBelow t u = (t.inst < u.inst) ⊎ ((t.inst ≡ u.inst) × ((t.epoch < u.epoch) ⊎ ((t.epoch ≡ u.epoch) × (t.seq < u.seq))))
