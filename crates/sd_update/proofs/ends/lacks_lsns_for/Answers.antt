use Rattle.std.proofs.Common.{◌≡◌, ℕ, ◌+◌, ◌-◌, ◌^◌, ◌≤◌, max, min, get_or, ap, ◌∙◌, arith, rules}
use Rattle.sd_txn.specs.Owing.{owed_of}
use Rattle.sd_txn.specs.Transactions.{Transactions}
use Rattle.sd_state.specs.Complexes.{parts}
use Rattle.sd_state.specs.Parts.{Parts, owed_at, txns_at}
use Rattle.sd_state.specs.Sums.{great_of, owed_where}
use Rattle.sd_state.proofs.Summed.{passes}
use Rattle.sd_state.proofs.Items.{item-is}
use Rattle.sd_update.proofs.ends.lacks_lsns_for.Goals as goal

pub returns : goal.returns
returns g c =
    let p : Parts = parts c.args.c.now in
    let i : ℕ = c.args.i in
    let low : 1 ≤ i = omega (arith, c.get.ensures.value, c.get.ensures.low) in
    let high : i ≤ 8 = omega (arith, c.get.ensures.value, c.get.ensures.high) in
    let place : c.get.result - 1 ≡ i - 1 = ap (λ n. n - 1) c.get.ensures.value in
    let was : owed_at p i ≡ c.index.result.now = item-is 0 p.owed i c.index.result.now low high c.requires.shape.owed
    (c.index.ensures ∙ ap (λ n. get_or p.owed n c.index.result.now) place) in
    let told : c.owed.result ≡ min (owed_of (txns_at p i)) (2 ^ 64 - 1) = c.owed.ensures
    ∙ ap (λ (table : Transactions). min (owed_of table) (2 ^ 64 - 1)) c.txns.ensures in
    let few = c.requires.few in
    let most : c.max-own.result ≡ max c.index.result.now c.owed.result = search rules in
    let own : c.max-own.result ≡ max (owed_at p i) (owed_of (txns_at p i)) = omega (arith, most, was, told, few) in
    let owes = c.owed_where-owed.ensures ∙ ap (λ n. min (owed_where i n p) (2 ^ 64 - 1)) own in
    passes (great_of p) (owed_where i (max (owed_at p i) (owed_of (txns_at p i))) p) c.saturating_add.result c.owed_where-owed.result
    c.saturating_add-2.result (c.saturating_add.ensures ∙ ap (λ n. min (n + 1) (2 ^ 64 - 1)) c.great.ensures) owes c.saturating_add-2.ensures
