use Rattle.std.proofs.Common.{◌≡◌, ℕ, ◌-◌, ◌≤◌, ◌∙◌, sym, ap, subst, arith, slice_set}
use Rattle.sd_base.specs.declared.ids.TxnId.{TxnId}
use Rattle.sd_model.specs.State.{State, cut_commit}
use Rattle.sd_txn.specs.Transactions.{IsUnresolved, Transactions}
use Rattle.sd_state.specs.Complexes.{parts}
use Rattle.sd_state.specs.Good.{Good}
use Rattle.sd_state.specs.Parts.{IsShape, Parts, txns_at}
use Rattle.sd_state.specs.Values.{Pending}
use Rattle.sd_moves.specs.Falling.{AreCut, IsFallen, with_fallen}
use Rattle.sd_moves.proofs.FallDown.{cut-good, runs-unresolved}
use Rattle.sd_moves.proofs.FallFinal.{final-fallen, final-good, final-is, final-parts, table-is, table-was}
use Rattle.sd_moves.proofs.crash.cut.Goals as goal

pub doubt-requires : goal.doubt-requires
doubt-requires g c =
    let t : TxnId = c.args.t.now in
    let i : ℕ = t.inst in
    let low : 1 ≤ i = omega (arith, c.get.ensures.value, c.get.ensures.low) in
    let high : i ≤ 8 = omega (arith, c.get.ensures.value, c.get.ensures.high) in
    let n : ℕ = c.get.result - 1 in
    let place : n ≡ i - 1 = ap (λ (k : ℕ). k - 1) c.get.ensures.value in
    let good = c.requires.good in
    let old : Parts = parts c.args.c.now in
    let x : Parts = parts c.fall.new.c in
    let lent : Transactions = c.index_mut.result.now in
    subst (λ (tb : Transactions). IsUnresolved tb t)
    (table-was i n lent old x low high good.1.shape place c.fall.ensures.parts lent c.index_mut.ensures.value)
    (runs-unresolved (g.G.Rig.seen c.args.c.now.rig) (g.G.Rig.leaves c.args.c.now.rig) old good.0 t low high good.1)

pub returns-clause-good : goal.returns-clause-good
returns-clause-good g c m good =
    let t : TxnId = c.args.t.now in
    let i : ℕ = t.inst in
    let low : 1 ≤ i = omega (arith, c.get.ensures.value, c.get.ensures.low) in
    let high : i ≤ 8 = omega (arith, c.get.ensures.value, c.get.ensures.high) in
    let n : ℕ = c.get.result - 1 in
    let place : n ≡ i - 1 = ap (λ (k : ℕ). k - 1) c.get.ensures.value in
    let old : Parts = parts c.args.c.now in
    let x : Parts = parts c.fall.new.c in
    let table : Transactions = c.doubt.new.table in
    let shape : IsShape old = c.requires.good.1.shape in
    let left = c.fall.ensures.parts in
    let is = final-is i n table old x low high shape place left in
    let rows : AreCut t (txns_at old i) table = subst (λ (tb : Transactions). AreCut t tb table)
    (sym (table-was i n table old x low high shape place left c.index_mut.result.now c.index_mut.ensures.value)) c.doubt.ensures in
    let seen = g.G.Rig.seen c.args.c.now.rig in
    let leaves = g.G.Rig.leaves c.args.c.now.rig in
    let then : State = cut_commit t m in
    subst (λ rig. Good (g.G.Rig.seen rig) (g.G.Rig.leaves rig) Pending.Idle (record x { txns = slice_set x.txns n table }) then)
    (sym c.fall.ensures.rig)
    (subst (λ (p : Parts). Good seen leaves Pending.Idle p then) (sym is)
    (final-good i n table old x low high shape place left seen leaves (Pending.Commits t) m then good
    (cut-good t table left.mid old seen leaves m low high c.requires.due left.left rows good)))

pub returns-clause-parts : goal.returns-clause-parts
returns-clause-parts g c =
    let t : TxnId = c.args.t.now in
    let i : ℕ = t.inst in
    let low : 1 ≤ i = omega (arith, c.get.ensures.value, c.get.ensures.low) in
    let high : i ≤ 8 = omega (arith, c.get.ensures.value, c.get.ensures.high) in
    let n : ℕ = c.get.result - 1 in
    let place : n ≡ i - 1 = ap (λ (k : ℕ). k - 1) c.get.ensures.value in
    let old : Parts = parts c.args.c.now in
    let x : Parts = parts c.fall.new.c in
    let table : Transactions = c.doubt.new.table in
    let shape : IsShape old = c.requires.good.1.shape in
    let left = c.fall.ensures.parts in
    let is = final-is i n table old x low high shape place left in
    subst (λ (p : Parts). p ≡ with_fallen i p old) (sym is) (final-parts i n table old x low high shape place left)

pub returns-clause-fallen : goal.returns-clause-fallen
returns-clause-fallen g c =
    let t : TxnId = c.args.t.now in
    let i : ℕ = t.inst in
    let low : 1 ≤ i = omega (arith, c.get.ensures.value, c.get.ensures.low) in
    let high : i ≤ 8 = omega (arith, c.get.ensures.value, c.get.ensures.high) in
    let n : ℕ = c.get.result - 1 in
    let place : n ≡ i - 1 = ap (λ (k : ℕ). k - 1) c.get.ensures.value in
    let old : Parts = parts c.args.c.now in
    let x : Parts = parts c.fall.new.c in
    let table : Transactions = c.doubt.new.table in
    let shape : IsShape old = c.requires.good.1.shape in
    let left = c.fall.ensures.parts in
    let is = final-is i n table old x low high shape place left in
    subst (IsFallen i old) (sym is) (final-fallen i n table old x low high shape place left)

pub returns-clause-rows : goal.returns-clause-rows
returns-clause-rows g c =
    let t : TxnId = c.args.t.now in
    let i : ℕ = t.inst in
    let low : 1 ≤ i = omega (arith, c.get.ensures.value, c.get.ensures.low) in
    let high : i ≤ 8 = omega (arith, c.get.ensures.value, c.get.ensures.high) in
    let n : ℕ = c.get.result - 1 in
    let place : n ≡ i - 1 = ap (λ (k : ℕ). k - 1) c.get.ensures.value in
    let old : Parts = parts c.args.c.now in
    let x : Parts = parts c.fall.new.c in
    let table : Transactions = c.doubt.new.table in
    let shape : IsShape old = c.requires.good.1.shape in
    let left = c.fall.ensures.parts in
    let is = final-is i n table old x low high shape place left in
    let there : txns_at (record x { txns = slice_set x.txns n table }) i ≡ table =
    ap (λ (p : Parts). txns_at p i) is ∙ table-is i n table old x low high shape place left in
    subst (AreCut t (txns_at old i)) (sym there) (subst (λ (tb : Transactions). AreCut t tb table)
    (sym (table-was i n table old x low high shape place left c.index_mut.result.now c.index_mut.ensures.value)) c.doubt.ensures)
