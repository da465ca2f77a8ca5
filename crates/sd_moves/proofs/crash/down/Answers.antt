use Rattle.std.proofs.Common.{◌≡◌, ℕ, ◌-◌, ◌≤◌, ◌∙◌, sym, ap, subst, arith, slice_set}
use Rattle.sd_model.specs.Refusing.{counted}
use Rattle.sd_model.specs.State.{State, fall}
use Rattle.sd_model.specs.declared.event.Event.TheVariants.{Join}
use Rattle.sd_txn.specs.Transactions.{Transactions}
use Rattle.sd_state.specs.Complexes.{parts}
use Rattle.sd_state.specs.Good.{Good}
use Rattle.sd_state.specs.Parts.{IsShape, Parts, txns_at}
use Rattle.sd_state.specs.Values.{Pending}
use Rattle.sd_moves.specs.Falling.{AreLost, IsFallen, with_fallen}
use Rattle.sd_moves.proofs.FallDown.{down-good, started-good}
use Rattle.sd_moves.proofs.FallFinal.{final-fallen, final-good, final-is, final-parts, table-is, table-was}
use Rattle.sd_moves.proofs.crash.down.Goals as goal

pub returns-clause-good : goal.returns-clause-good
returns-clause-good g c m good =
    let i : ℕ = c.args.i in
    let low : 1 ≤ i = omega (arith, c.get.ensures.value, c.get.ensures.low) in
    let high : i ≤ 8 = omega (arith, c.get.ensures.value, c.get.ensures.high) in
    let n : ℕ = c.get.result - 1 in
    let place : n ≡ i - 1 = ap (λ (k : ℕ). k - 1) c.get.ensures.value in
    let old : Parts = parts c.args.c.now in
    let x : Parts = parts c.fall.new.c in
    let table : Transactions = c.lose.new.table in
    let shape : IsShape old = c.requires.good.2.shape in
    let left = c.fall.ensures.parts in
    let is = final-is i n table old x low high shape place left in
    let rows : AreLost (txns_at old i) table = subst (λ (tb : Transactions). AreLost tb table)
    (sym (table-was i n table old x low high shape place left c.index_mut.result.now c.index_mut.ensures.value)) c.lose.ensures in
    let seen = g.G.Rig.seen c.args.c.now.rig in
    let leaves = g.G.Rig.leaves c.args.c.now.rig in
    subst (λ rig. Good (g.G.Rig.seen rig) (g.G.Rig.leaves rig) Pending.Idle (record x { txns = slice_set x.txns n table }) (fall i m))
    (sym c.fall.ensures.rig)
    (subst (λ (p : Parts). Good seen leaves Pending.Idle p (fall i m)) (sym is)
    (final-good i n table old x low high shape place left seen leaves Pending.Idle m (fall i m) good
    (down-good i table left.mid old seen leaves m low high c.requires.due left.left rows good)))

pub returns-clause-started : goal.returns-clause-started
returns-clause-started g c m good =
    let i : ℕ = c.args.i in
    let low : 1 ≤ i = omega (arith, c.get.ensures.value, c.get.ensures.low) in
    let high : i ≤ 8 = omega (arith, c.get.ensures.value, c.get.ensures.high) in
    let n : ℕ = c.get.result - 1 in
    let place : n ≡ i - 1 = ap (λ (k : ℕ). k - 1) c.get.ensures.value in
    let old : Parts = parts c.args.c.now in
    let x : Parts = parts c.fall.new.c in
    let table : Transactions = c.lose.new.table in
    let shape : IsShape old = c.requires.good.2.shape in
    let left = c.fall.ensures.parts in
    let is = final-is i n table old x low high shape place left in
    let rows : AreLost (txns_at old i) table = subst (λ (tb : Transactions). AreLost tb table)
    (sym (table-was i n table old x low high shape place left c.index_mut.result.now c.index_mut.ensures.value)) c.lose.ensures in
    let seen = g.G.Rig.seen c.args.c.now.rig in
    let leaves = g.G.Rig.leaves c.args.c.now.rig in
    let then : State = fall i (counted (Join i) m) in
    subst (λ rig. Good (g.G.Rig.seen rig) (g.G.Rig.leaves rig) Pending.Idle (record x { txns = slice_set x.txns n table }) then)
    (sym c.fall.ensures.rig)
    (subst (λ (p : Parts). Good seen leaves Pending.Idle p then) (sym is)
    (final-good i n table old x low high shape place left seen leaves (Pending.Starts i) m then good
    (started-good i table left.mid old seen leaves m low high c.requires.due left.left rows good)))

pub returns-clause-parts : goal.returns-clause-parts
returns-clause-parts g c =
    let i : ℕ = c.args.i in
    let low : 1 ≤ i = omega (arith, c.get.ensures.value, c.get.ensures.low) in
    let high : i ≤ 8 = omega (arith, c.get.ensures.value, c.get.ensures.high) in
    let n : ℕ = c.get.result - 1 in
    let place : n ≡ i - 1 = ap (λ (k : ℕ). k - 1) c.get.ensures.value in
    let old : Parts = parts c.args.c.now in
    let x : Parts = parts c.fall.new.c in
    let table : Transactions = c.lose.new.table in
    let shape : IsShape old = c.requires.good.2.shape in
    let left = c.fall.ensures.parts in
    let is = final-is i n table old x low high shape place left in
    subst (λ (p : Parts). p ≡ with_fallen i p old) (sym is) (final-parts i n table old x low high shape place left)

pub returns-clause-fallen : goal.returns-clause-fallen
returns-clause-fallen g c =
    let i : ℕ = c.args.i in
    let low : 1 ≤ i = omega (arith, c.get.ensures.value, c.get.ensures.low) in
    let high : i ≤ 8 = omega (arith, c.get.ensures.value, c.get.ensures.high) in
    let n : ℕ = c.get.result - 1 in
    let place : n ≡ i - 1 = ap (λ (k : ℕ). k - 1) c.get.ensures.value in
    let old : Parts = parts c.args.c.now in
    let x : Parts = parts c.fall.new.c in
    let table : Transactions = c.lose.new.table in
    let shape : IsShape old = c.requires.good.2.shape in
    let left = c.fall.ensures.parts in
    let is = final-is i n table old x low high shape place left in
    subst (IsFallen i old) (sym is) (final-fallen i n table old x low high shape place left)

pub returns-clause-rows : goal.returns-clause-rows
returns-clause-rows g c =
    let i : ℕ = c.args.i in
    let low : 1 ≤ i = omega (arith, c.get.ensures.value, c.get.ensures.low) in
    let high : i ≤ 8 = omega (arith, c.get.ensures.value, c.get.ensures.high) in
    let n : ℕ = c.get.result - 1 in
    let place : n ≡ i - 1 = ap (λ (k : ℕ). k - 1) c.get.ensures.value in
    let old : Parts = parts c.args.c.now in
    let x : Parts = parts c.fall.new.c in
    let table : Transactions = c.lose.new.table in
    let shape : IsShape old = c.requires.good.2.shape in
    let left = c.fall.ensures.parts in
    let is = final-is i n table old x low high shape place left in
    let there : txns_at (record x { txns = slice_set x.txns n table }) i ≡ table =
    ap (λ (p : Parts). txns_at p i) is ∙ table-is i n table old x low high shape place left in
    subst (AreLost (txns_at old i)) (sym there) (subst (λ (tb : Transactions). AreLost tb table)
    (sym (table-was i n table old x low high shape place left c.index_mut.result.now c.index_mut.ensures.value)) c.lose.ensures)
