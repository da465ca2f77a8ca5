use Rattle.std.proofs.Common.{Bool, Some, sym, subst, ap, ◌∙◌}
use Rattle.std.specs.List.{IsDistinct}
use Rattle.std.specs.Map.{keys_of}
use Rattle.sd_base.specs.declared.ids.TxnId.{TxnId}
use Rattle.sd_txn.proofs.Keyed.{same-eq, same_txn-is, tests}
use Rattle.sd_txn.proofs.list.is_newest.Goals as goal

pub returns-in-Some-clause-last : goal.returns-in-Some-clause-last
returns-in-Some-clause-last c = λ h. (
  c.in-Some._txn.now,
  sym c.in-Some.ensures.entry
      ∙ ap (λ (u : TxnId). Some (u, c.in-Some._txn.now)) (same_txn-is c.in-Some.last.now c.args.t.now (sym (same-eq c.in-Some.last.now c.args.t.now) ∙ sym c.eq.ensures ∙ h)),
)

pub returns-in-Some-clause-once : goal.returns-in-Some-clause-once
returns-in-Some-clause-once c = subst (λ (eq : TxnId → TxnId → Bool). IsDistinct eq (keys_of c.args.txns.now.entries)) tests c.len-once.ensures.unique

pub returns-in-None-clause-once : goal.returns-in-None-clause-once
returns-in-None-clause-once c = subst (λ (eq : TxnId → TxnId → Bool). IsDistinct eq (keys_of c.args.txns.now.entries)) tests c.len-once.ensures.unique
