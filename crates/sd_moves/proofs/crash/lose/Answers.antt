use Rattle.std.proofs.Common.{◌≡◌, ◌<◌, ℕ, List, get_or, length, sym, ap, ◌∙◌, subst, arith}
use Rattle.std.proofs.lemmas.List.{length-map}
use Rattle.sd_base.specs.declared.ids.TxnId.{TxnId}
use Rattle.sd_txn.specs.Transactions.{Transaction, Transactions, ids}
use Rattle.sd_moves.proofs.FallRows.{HaveLost, all-lost, none-lost, one-lost}
use Rattle.sd_moves.proofs.crash.lose.Goals as goal

-- as many as the table has
rows-of : (table : Transactions) (n : ℕ) → n ≡ length table.unresolved → n ≡ length (ids table)
rows-of table n is = is ∙ sym (length-map table.unresolved (λ (x : TxnId × Transaction). x.0))

pub loop-n-init : goal.loop-n-init
loop-n-init c = none-lost c.args.table.now

pub loop-n-preserved : goal.loop-n-preserved
loop-n-preserved c =
    let old : Transactions = c.args.table.now in
    let now : Transactions = c.loop-n.table in
    let t : TxnId = c.index-unresolved-n.result in
    let h : HaveLost c.loop-n.n old now = c.loop-n.invariant in
    let many = rows-of old c.count-n-end.result c.count-n-end.ensures in
    let small : c.loop-n.n < length (ids now) = subst (λ (xs : List TxnId). c.loop-n.n < length xs) (sym h.order.same_ids)
    (omega (arith, many, c.loop-n-test.true)) in
    let at : t ≡ get_or (ids now) c.loop-n.n t = c.index-unresolved-n.is ∙ ap (λ (xs : List TxnId). get_or xs c.loop-n.n t) c.unresolved.ensures in
    one-lost c.loop-n.n old now c.lose_row.new.table t h small at c.lose_row.ensures.row c.lose_row.ensures.others c.lose_row.ensures.order

pub returns : goal.returns
returns c =
    let old : Transactions = c.args.table.now in
    let many = rows-of old c.count-n-end.result c.count-n-end.ensures in
    let all : c.loop-n.n ≡ length (ids old) = omega (arith, many, c.loop-n-test.false, c.loop-n.auto.n-end) in
    all-lost old c.loop-n.table (subst (λ (n : ℕ). HaveLost n old c.loop-n.table) all c.loop-n.invariant)
