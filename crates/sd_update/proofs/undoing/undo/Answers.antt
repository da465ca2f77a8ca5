use Rattle.std.proofs.Common.{◌≡◌, ℕ, ◌-◌, ◌≤◌, get_or, sym, ap, ◌∙◌, subst, arith}
use Rattle.sd_log.specs.Logs.{AreSpelled, LogState, scanned}
use Rattle.sd_model.specs.Changes.{undid}
use Rattle.sd_chain.specs.Records.{home}
use Rattle.sd_txn.specs.Transactions.{Transactions}
use Rattle.sd_state.specs.Complexes.{parts}
use Rattle.sd_state.specs.Good.{Good}
use Rattle.sd_state.specs.Parts.{Parts, log_at, no_txns, txns_at}
use Rattle.sd_state.specs.Values.{Pending}
use Rattle.sd_state.proofs.Answered.{log-lent}
use Rattle.sd_state.proofs.Items.{item-is}
use Rattle.sd_update.proofs.UndoneCalls.{KeepsTable, can-undo, good-undone}
use Rattle.sd_update.proofs.undoing.undo.Goals as goal

pub undo_top-requires : goal.undo_top-requires
undo_top-requires g c =
    let p : Parts = parts c.args.c.now in
    let t = c.args.t.now in
    let i : ℕ = home t in
    let rig = c.args.c.now.rig in
    let low : 1 ≤ i = omega (arith, c.get.ensures.value, c.get.ensures.low) in
    let high : i ≤ 8 = omega (arith, c.get.ensures.value, c.get.ensures.high) in
    let place : c.get.result - 1 ≡ i - 1 = ap (λ n. n - 1) c.get.ensures.value in
    let table : Transactions = c.index.result.now in
    let table_is : txns_at p i ≡ table = item-is no_txns p.txns i table low high c.requires.good.2.shape.txns
    (c.index.ensures ∙ ap (λ (n : ℕ). get_or p.txns n table) place) in
    let keeps : KeepsTable t (txns_at p i) = subst (KeepsTable t) (sym table_is)
    (record { once = c.keeps.ensures.once; marks = c.keeps.ensures.marks t }) in
    let log : LogState = c.index-2.result.now in
    let log_is : log_at p i ≡ log = log-lent p i (c.get.result - 1) log low high c.requires.good.2.shape.logs place c.index-2.ensures in
    record {
      can = can-undo t (g.G.Rig.seen rig) (g.G.Rig.leaves rig) p c.requires.good.0 c.requires.good.1 c.requires.good.2 c.requires.good.3
          low high c.requires.idle c.requires.up c.requires.holds keeps
          (subst (λ (l : LogState). AreSpelled (scanned l)) (sym log_is) c.keeps-2.ensures.spelled);
    }

pub returns-clause-good : goal.returns-clause-good
returns-clause-good g c m to good rolls =
    let p : Parts = parts c.args.c.now in
    let t = c.args.t.now in
    let i : ℕ = home t in
    let rig = c.args.c.now.rig in
    let low : 1 ≤ i = omega (arith, c.get.ensures.value, c.get.ensures.low) in
    let high : i ≤ 8 = omega (arith, c.get.ensures.value, c.get.ensures.high) in
    let place : c.get.result - 1 ≡ i - 1 = ap (λ n. n - 1) c.get.ensures.value in
    let table : Transactions = c.index.result.now in
    let table_is : txns_at p i ≡ table = item-is no_txns p.txns i table low high good.shape.txns
    (c.index.ensures ∙ ap (λ (n : ℕ). get_or p.txns n table) place) in
    let keeps : KeepsTable t (txns_at p i) = subst (KeepsTable t) (sym table_is)
    (record { once = c.keeps.ensures.once; marks = c.keeps.ensures.marks t }) in
    let new : Parts = parts c.undo_top.new.c in
    subst (λ r. Good (g.G.Rig.seen r) (g.G.Rig.leaves r) Pending.Idle new (undid t m)) (sym c.undo_top.ensures.rig)
    (good-undone t (g.G.Rig.seen rig) (g.G.Rig.leaves rig) p m to good rolls low high c.requires.idle c.requires.up c.requires.holds keeps
    new c.undo_top.ensures.made)
