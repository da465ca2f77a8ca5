-- The one cycle that is told. It serves the goals of watch.rt.
use Rattle.std.proofs.Common.{◌≡◌, ◌↔◌, Bool, true, IsTrue, List, subst}
use Rattle.std.specs.Bool.{Decides}
use Rattle.sd_base.specs.declared.ids.TxnId.{TxnId}
use Rattle.sd_base.specs.Ids.{same_txn}
use Rattle.sd_base.specs.Waits.{Wait, Waits, IsDeadlock}
use Rattle.sd_model.specs.State.{State}
use Rattle.sd_model.specs.Waits.{stands}
use Rattle.sd_base.proofs.Orders.{same-txn, same-txn-is}
use Rattle.sd_model.proofs.WaitAnswers.{one-cycle}

pub same_txn-Decides : (a b : TxnId) → Decides (same_txn a b) (a ≡ b)
same_txn-Decides a b = (same-txn-is a b, λ e. subst (λ (x : TxnId). same_txn a x ≡ true) e (same-txn a))

pub is-that-cycle : (m : State) (waits : Waits) (t : TxnId) (wait : Wait) (found cycle : List TxnId) (b : Bool)
    → IsDeadlock (stands m) waits t wait found → IsTrue b ↔ (found ≡ cycle) → IsTrue b ↔ IsDeadlock (stands m) waits t wait cycle
is-that-cycle m waits t wait found cycle b d same = (
  λ h. subst (IsDeadlock (stands m) waits t wait) (same.0 h) d,
  λ other. same.1 (one-cycle (stands m) waits t wait found cycle d other),
)
