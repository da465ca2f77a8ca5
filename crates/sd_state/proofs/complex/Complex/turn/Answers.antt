use Rattle.std.proofs.Common.{◌≡◌, ℕ, ◌-◌, ◌≤◌, sym, ap, ◌∙◌, subst, arith, slice_set}
use Rattle.std.specs.List.{IsDistinct}
use Rattle.std.specs.Prelude.{option_map}
use Rattle.sd_base.specs.Ids.{same_txn}
use Rattle.sd_state.specs.Complexes.{parts}
use Rattle.sd_state.specs.Parts.{Parts, txns_at}
use Rattle.sd_txn.specs.Transactions.{OthersStay, SameOrder, Transactions, ids, txn_at, with_state}
use Rattle.sd_state.proofs.Answered.{table-lent, table-set, turned-parts}
use Rattle.sd_state.proofs.complex.Complex.turn.Goals as goal

pub returns-clause-parts : goal.returns-clause-parts
returns-clause-parts g c =
    let p : Parts = parts c.args.self.now in
    let i : ℕ = c.args.t.now.inst in
    let low : 1 ≤ i = omega (arith, c.get.ensures.value, c.get.ensures.low) in
    let high : i ≤ 8 = omega (arith, c.get.ensures.value, c.get.ensures.high) in
    let place : c.get.result - 1 ≡ i - 1 = ap (λ n. n - 1) c.get.ensures.value in
    let eight = c.requires.shape.txns in
    turned-parts p i (c.get.result - 1) c.set.new.self low high eight place

pub returns-clause-once : goal.returns-clause-once
returns-clause-once g c =
    let p : Parts = parts c.args.self.now in
    let i : ℕ = c.args.t.now.inst in
    let low : 1 ≤ i = omega (arith, c.get.ensures.value, c.get.ensures.low) in
    let high : i ≤ 8 = omega (arith, c.get.ensures.value, c.get.ensures.high) in
    let place : c.get.result - 1 ≡ i - 1 = ap (λ n. n - 1) c.get.ensures.value in
    let eight = c.requires.shape.txns in
    subst (λ (tb : Transactions). IsDistinct same_txn (ids tb))
    (sym (table-lent p i (c.get.result - 1) c.index.result.now low high eight place c.index.ensures)) c.keeps.ensures.once

pub returns-clause-row : goal.returns-clause-row
returns-clause-row g c =
    let p : Parts = parts c.args.self.now in
    let i : ℕ = c.args.t.now.inst in
    let low : 1 ≤ i = omega (arith, c.get.ensures.value, c.get.ensures.low) in
    let high : i ≤ 8 = omega (arith, c.get.ensures.value, c.get.ensures.high) in
    let place : c.get.result - 1 ≡ i - 1 = ap (λ n. n - 1) c.get.ensures.value in
    let eight = c.requires.shape.txns in
    let told : txns_at p i ≡ c.index_mut.result.now =
    table-lent p i (c.get.result - 1) c.index_mut.result.now low high eight place c.index_mut.ensures.value in
    let new : txns_at (record p { txns = slice_set p.txns (c.get.result - 1) c.set.new.self }) i ≡ c.set.new.self =
    table-set p i (c.get.result - 1) c.set.new.self low high eight place in
    ap (λ (tb : Transactions). txn_at tb c.args.t.now) new ∙ c.set.ensures.changed
    ∙ ap (λ (tb : Transactions). option_map (with_state c.args.state) (txn_at tb c.args.t.now)) (sym told)

pub returns-clause-others : goal.returns-clause-others
returns-clause-others g c =
    let p : Parts = parts c.args.self.now in
    let i : ℕ = c.args.t.now.inst in
    let low : 1 ≤ i = omega (arith, c.get.ensures.value, c.get.ensures.low) in
    let high : i ≤ 8 = omega (arith, c.get.ensures.value, c.get.ensures.high) in
    let place : c.get.result - 1 ≡ i - 1 = ap (λ n. n - 1) c.get.ensures.value in
    let eight = c.requires.shape.txns in
    let told : txns_at p i ≡ c.index_mut.result.now =
    table-lent p i (c.get.result - 1) c.index_mut.result.now low high eight place c.index_mut.ensures.value in
    let new : txns_at (record p { txns = slice_set p.txns (c.get.result - 1) c.set.new.self }) i ≡ c.set.new.self =
    table-set p i (c.get.result - 1) c.set.new.self low high eight place in
    subst (λ (tb : Transactions). OthersStay (txns_at p i) tb c.args.t.now) (sym new)
    (subst (λ (tb : Transactions). OthersStay tb c.set.new.self c.args.t.now) (sym told) c.set.ensures.others)

pub returns-clause-order : goal.returns-clause-order
returns-clause-order g c =
    let p : Parts = parts c.args.self.now in
    let i : ℕ = c.args.t.now.inst in
    let low : 1 ≤ i = omega (arith, c.get.ensures.value, c.get.ensures.low) in
    let high : i ≤ 8 = omega (arith, c.get.ensures.value, c.get.ensures.high) in
    let place : c.get.result - 1 ≡ i - 1 = ap (λ n. n - 1) c.get.ensures.value in
    let eight = c.requires.shape.txns in
    let told : txns_at p i ≡ c.index_mut.result.now =
    table-lent p i (c.get.result - 1) c.index_mut.result.now low high eight place c.index_mut.ensures.value in
    let new : txns_at (record p { txns = slice_set p.txns (c.get.result - 1) c.set.new.self }) i ≡ c.set.new.self =
    table-set p i (c.get.result - 1) c.set.new.self low high eight place in
    subst (λ (tb : Transactions). SameOrder (txns_at p i) tb) (sym new)
    (subst (λ (tb : Transactions). SameOrder tb c.set.new.self) (sym told) c.set.ensures.order)
