use Rattle.std.proofs.Common.{◌≡◌, ◌+◌, ◌*◌, ◌-◌, ◌^◌, min, sym, ap, ◌∙◌}
use Rattle.sd_txn.specs.Owing.{reserve_of}
use Rattle.sd_txn.proofs.Sums.{reserve-is}
use Rattle.sd_txn.proofs.table.TxnTable.reserve.Goals as goal

pub returns : goal.returns
returns c =
    let ok = c.self.invariant in
    let sum : 31 * c.self.inside.owed.spans + c.self.inside.owed.undo ≡ reserve_of c.args.self.now =
    (λ i. 31 * ok.spans i + ok.undo i) ∙ sym (reserve-is c.self.inside.txns) ∙ ap reserve_of c.self.view_is in
    c.bytes.ensures ∙ ap (λ n. min n (2 ^ 64 - 1)) sum
