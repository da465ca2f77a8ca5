-- What one more record does to a stack.
use Rattle.std.proofs.Common.{◌≡◌, ◌≢◌, List, [], ◌∷◌, ◌++◌, refl}
use Rattle.sd_logrec.specs.View.{Rec}
use Rattle.sd_base.specs.declared.ids.TxnId.{TxnId}
use Rattle.sd_chain.specs.Records.{step, stack_from, stack, moved}
use Rattle.sd_base.proofs.SameIds.{eq-same, ne-same}

pub stack_from-append : (t : TxnId) (stk xs ys : List Rec) → stack_from t stk (xs ++ ys) ≡ stack_from t (stack_from t stk xs) ys
stack_from-append t stk [] ys = refl
stack_from-append t stk (x ∷ xs) ys = stack_from-append t (step t stk x) xs ys

pub stack-push : (t : TxnId) (log : List Rec) (y : Rec) → stack t (log ++ y ∷ []) ≡ step t (stack t log) y
stack-push t log y = stack_from-append t [] log (y ∷ [])

pub step-other : (t : TxnId) (stk : List Rec) (y : Rec) → y.txn ≢ t → step t stk y ≡ stk
step-other t stk y ne = rw (ne-same y.txn t ne) refl

pub step-own : (t : TxnId) (stk : List Rec) (y : Rec) → y.txn ≡ t → step t stk y ≡ moved y.kind y stk
step-own t stk y e = rw (eq-same y.txn t e) refl
