use Rattle.std.proofs.Common.{Bool, sym, subst, ◌∙◌}
use Rattle.std.specs.List.{IsDistinct}
use Rattle.std.specs.Map.{keys_of}
use Rattle.sd_base.specs.declared.ids.TxnId.{TxnId}
use Rattle.sd_txn.proofs.Keyed.{same-eq, tests, lookup-last}
use Rattle.sd_txn.proofs.list.newest.Goals as goal

pub returns-in-Some : goal.returns-in-Some
returns-in-Some c =
    let es = c.args.txns.now.entries in
    let once = subst (λ (eq : TxnId → TxnId → Bool). IsDistinct eq (keys_of es)) tests c.len-once.ensures.unique in
    lookup-last c.args.t.now c.in-Some.last.now c.in-Some.txn.now es once (sym c.in-Some.ensures.entry)
    (sym (same-eq c.in-Some.last.now c.args.t.now) ∙ sym c.eq.ensures ∙ c.if-eq.true)
