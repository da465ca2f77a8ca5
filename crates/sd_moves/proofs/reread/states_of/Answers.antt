use Rattle.std.proofs.Common.{BTreeMap, ◌≡◌, ◌≤◌, ◌∙◌, List, Some, ap, arith, cond, length, subst, sym, refl}
use Rattle.std.specs.Prelude.{slice_get}
use Rattle.std.specs.Map.{lookup}
use Rattle.std.proofs.lemmas.Option.{slice_get_read}
use Rattle.sd_base.proofs.Orders.{put-txn}
use Rattle.sd_base.specs.Ids.{same_txn}
use Rattle.sd_base.specs.declared.ids.TxnId.{TxnId}
use Rattle.sd_txn.specs.Transactions.{ids}
use Rattle.sd_txn.specs.declared.state.TxnState.{TxnState}
use Rattle.sd_moves.proofs.SettledStanding.{Who, has-all, has-more, stands-there}
use Rattle.sd_moves.proofs.reread.states_of.Goals as goal
use Rattle.sd_moves.proofs.reread.states_of.Goals.{in-Some+in_ok-insert, in_default}

pub loop-t-preserved : goal.loop-t-preserved
loop-t-preserved c =
    let table = c.args.table.now in
    let k = c.loop-t.t-index in
    let t : TxnId = c.t-item.result in
    let items : List TxnId = c.unresolved-t-items.result.now in
    let there : slice_get (ids table) k ≡ Some t = ap (λ (ts : List TxnId). slice_get ts k) (sym c.unresolved-t-items.ensures)
    ∙ slice_get_read items (length items) k t refl c.loop-t-test.true c.t-item.is in
    elim c.match-state.branch [
      | in-Some+in_ok-insert w ↦
          has-more table k c.loop-t.states.entries c.match-state.states.entries t w.in-Some.state c.loop-t.invariant there
          (sym c.state.ensures.value ∙ w.in-Some.is)
          (λ u. subst (λ (rows : List Who). lookup (same_txn u) rows ≡ cond (same_txn t u) (Some w.in-Some.state) (lookup (same_txn u) c.loop-t.states.entries)) (sym (ap (λ (m : BTreeMap TxnId TxnState). m.entries) w.states-is))
          (put-txn t u (Some w.in-Some.state) c.loop-t.states.entries w.insert.new.self.entries (w.in_ok-insert.ensures.updates.0 u)))
      | in_default w ↦ absurd (stands-there table k t there (sym c.state.ensures.value ∙ w.in_default.is))
    ]

pub returns : goal.returns
returns c =
    let table = c.args.table.now in
    let items : List TxnId = c.unresolved-t-items.result.now in
    let low : length items ≤ c.loop-t.t-index = c.loop-t-test.false in
    let high : c.loop-t.t-index ≤ length items = c.loop-t.auto.t-index-end in
    let whole : c.loop-t.t-index ≡ length items = omega arith in
    has-all table c.loop-t.t-index c.loop-t.states.entries c.loop-t.invariant
    (whole ∙ ap (λ (ts : List TxnId). length ts) c.unresolved-t-items.ensures)
