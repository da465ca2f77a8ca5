-- Two transactions or two records are the same, or not. It serves last_changes.rt, and what undoing all gives.
use Rattle.std.proofs.Common.{◌≡◌, Bool, true, false, eqb, ◌&&◌, refl, eqb-true}
use Rattle.std.specs.Ordering.{is_eq}
use Rattle.sd_base.specs.declared.ids.Rid.{Rid}
use Rattle.sd_base.specs.declared.ids.TxnId.{TxnId}
use Rattle.sd_base.specs.contracts.ids.RidOrd.TheImpl.{cmp-value}
use Rattle.sd_base.specs.contracts.ids.TxnIdPartialEq.TheImpl.{eq-value}
use Rattle.sd_base.specs.Ids.{same_rid, same_txn}
use Rattle.sd_base.proofs.Orders.{rid_is_eq}

-- the comparisons of the code are those of the contracts
pub same-eq : (t u : TxnId) → eq-value.it t u ≡ same_txn t u
unfolding same_txn
same-eq t u = refl

pub same-cmp : (a b : Rid) → is_eq (cmp-value.it a b) ≡ (eqb a.page b.page && eqb a.slot b.slot)
unfolding same_rid
same-cmp a b = rid_is_eq a b

pub same_rid-by : (a b : Rid) → same_rid a b ≡ (eqb a.page b.page && eqb a.slot b.slot)
unfolding same_rid
same_rid-by a b = refl

pub both : (a b : Bool) → (a && b) ≡ true → (a ≡ true) × (b ≡ true)
both true b e = (refl, e)
both false b e = absurd (cc)

pub same_rid-is : (a b : Rid) → (eqb a.page b.page && eqb a.slot b.slot) ≡ true → a ≡ b
same_rid-is a b e =
    let h = both (eqb a.page b.page) (eqb a.slot b.slot) e in
    λ i. record { page = eqb-true a.page b.page h.0 i; slot = eqb-true a.slot b.slot h.1 i }
