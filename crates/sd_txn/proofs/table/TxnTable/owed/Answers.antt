use Rattle.std.proofs.Common.{◌≡◌, ◌+◌, ◌-◌, ◌^◌, min, sym, ap, ◌∙◌}
use Rattle.sd_txn.specs.Owing.{owed_of}
use Rattle.sd_txn.proofs.Sums.{owed-is}
use Rattle.sd_txn.proofs.table.TxnTable.owed.Goals as goal

pub returns : goal.returns
returns c =
    let ok = c.self.invariant in
    let sum : c.self.inside.owed.spans + c.self.inside.owed.records ≡ owed_of c.args.self.now =
    (λ i. ok.spans i + ok.records i) ∙ sym (owed-is c.self.inside.txns) ∙ ap owed_of c.self.view_is in
    c.count.ensures ∙ ap (λ n. min n (2 ^ 64 - 1)) sum
