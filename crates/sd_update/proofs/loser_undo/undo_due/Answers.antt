use Rattle.std.proofs.Common.{◌≡◌, ℕ, ◌-◌, ◌≤◌, get_or, sym, ap, ◌∙◌, subst, arith}
use Rattle.std.specs.List.{IsDistinct}
use Rattle.sd_base.specs.Ids.{same_txn}
use Rattle.sd_log.specs.Logs.{AreSpelled, LogState, scanned}
use Rattle.sd_chain.specs.Records.{home}
use Rattle.sd_txn.specs.Transactions.{Transactions, ids}
use Rattle.sd_state.specs.Complexes.{parts}
use Rattle.sd_state.specs.Parts.{Parts, log_at, no_txns, txns_at}
use Rattle.sd_state.proofs.Answered.{log-lent}
use Rattle.sd_state.proofs.Items.{item-is}
use Rattle.sd_update.proofs.UndoneForCalls.{can-undo-for, good-undone-for, on-made}
use Rattle.sd_update.proofs.loser_undo.undo_due.Goals as goal

pub undo_for-requires : goal.undo_for-requires
undo_for-requires g c =
    let p : Parts = parts c.args.c.now in
    let t = c.args.t.now in
    let i : ℕ = home t in
    let a : ℕ = c.args.by in
    let rig = c.args.c.now.rig in
    let a_low : 1 ≤ a = c.keeps.ensures.low in
    let a_high : a ≤ 8 = c.keeps.ensures.high in
    let low : 1 ≤ i = omega (arith, c.get.ensures.value, c.get.ensures.low) in
    let high : i ≤ 8 = omega (arith, c.get.ensures.value, c.get.ensures.high) in
    let place : c.get.result - 1 ≡ i - 1 = ap (λ n. n - 1) c.get.ensures.value in
    let table : Transactions = c.index.result.now in
    let table_is : txns_at p i ≡ table = item-is no_txns p.txns i table low high c.requires.good.1.shape.txns
    (c.index.ensures ∙ ap (λ (n : ℕ). get_or p.txns n table) place) in
    let once : IsDistinct same_txn (ids (txns_at p i)) = subst (λ (tb : Transactions). IsDistinct same_txn (ids tb)) (sym table_is)
    c.keeps-2.ensures.once in
    let log : LogState = c.index-2.result.now in
    let log_is : log_at p i ≡ log = log-lent p i (c.get.result - 1) log low high c.requires.good.1.shape.logs place c.index-2.ensures in
    record {
      can = can-undo-for a t (g.G.Rig.seen rig) (g.G.Rig.leaves rig) p c.requires.good.0 c.requires.good.1 c.requires.may low high
          a_low a_high once (subst (λ (l : LogState). AreSpelled (scanned l)) (sym log_is) c.keeps-3.ensures.spelled);
    }

pub returns-clause-good : goal.returns-clause-good
returns-clause-good g c m good =
    let p : Parts = parts c.args.c.now in
    let t = c.args.t.now in
    let i : ℕ = home t in
    let a : ℕ = c.args.by in
    let rig = c.args.c.now.rig in
    let a_low : 1 ≤ a = c.keeps.ensures.low in
    let a_high : a ≤ 8 = c.keeps.ensures.high in
    let low : 1 ≤ i = omega (arith, c.get.ensures.value, c.get.ensures.low) in
    let high : i ≤ 8 = omega (arith, c.get.ensures.value, c.get.ensures.high) in
    let place : c.get.result - 1 ≡ i - 1 = ap (λ n. n - 1) c.get.ensures.value in
    let table : Transactions = c.index.result.now in
    let table_is : txns_at p i ≡ table = item-is no_txns p.txns i table low high good.shape.txns
    (c.index.ensures ∙ ap (λ (n : ℕ). get_or p.txns n table) place) in
    let once : IsDistinct same_txn (ids (txns_at p i)) = subst (λ (tb : Transactions). IsDistinct same_txn (ids tb)) (sym table_is)
    c.keeps-2.ensures.once in
    on-made c.undo_for.result (λ made. good-undone-for a t (g.G.Rig.seen rig) (g.G.Rig.leaves rig) p m good c.requires.may low high a_low a_high
    once (parts c.undo_for.new.c) c.requires.own made) c.undo_for.ensures.made
