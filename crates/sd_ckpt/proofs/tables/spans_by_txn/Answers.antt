use Rattle.std.proofs.Common.{BTreeMap, ◌≡◌, ◌+◌, ◌≤◌, ◌∙◌, Bool, true, false, List, Some, ℕ, ap, arith, cond, length, subst, sym, refl}
use Rattle.std.specs.Prelude.{slice_get, is_some, if◌then◌else◌}
use Rattle.std.specs.Map.{lookup}
use Rattle.std.proofs.lemmas.List.{length-map}
use Rattle.std.proofs.lemmas.Option.{slice_get_read}
use Rattle.sd_base.proofs.Orders.{put-txn}
use Rattle.sd_base.specs.Ids.{same_txn}
use Rattle.sd_base.specs.declared.ids.TxnId.{TxnId}
use Rattle.sd_txn.specs.Transactions.{Transaction, ids}
use Rattle.sd_ckpt.proofs.TableRows.{Entry, HasSpans, all-spans, more-spans, same-spans}
use Rattle.sd_ckpt.proofs.tables.spans_by_txn.Goals as goal
use Rattle.sd_ckpt.proofs.tables.spans_by_txn.Goals.{in-Some+in_ok-insert, in_default}

pub loop-t-preserved : goal.loop-t-preserved
loop-t-preserved c =
    let table = c.args.txns.now in
    let k = c.loop-t.t-index in
    let t : TxnId = c.t-item.result in
    let items : List TxnId = c.unresolved-t-items.result.now in
    let there : slice_get (ids table) k ≡ Some t = ap (λ (ts : List TxnId). slice_get ts k) (sym c.unresolved-t-items.ensures)
    ∙ slice_get_read items (length items) k t refl c.loop-t-test.true c.t-item.is in
    let old : List Entry = c.loop-t.spans.entries in
    let few : length old ≤ k = c.loop-t.invariant.1 in
    elim c.match-span.branch [
      | in-Some+in_ok-insert w ↦ (
        more-spans table k old t c.loop-t.invariant.0 there c.match-span.spans.entries w.in-Some.span
            (sym c.span.ensures ∙ w.in-Some.is)
            (λ u. subst (λ (rows : List Entry). lookup (same_txn u) rows ≡ cond (same_txn t u) (Some w.in-Some.span) (lookup (same_txn u) old))
            (sym (ap (λ (m : BTreeMap TxnId (ℕ × ℕ)). m.entries) w.spans-is))
            (put-txn t u (Some w.in-Some.span) old w.insert.new.self.entries (w.in_ok-insert.ensures.updates.0 u))),
        (let len = w.in_ok-insert.ensures.len in
            let same = ap (λ (m : BTreeMap TxnId (ℕ × ℕ)). length m.entries) w.spans-is in
            let one = at-most-one (is_some w.in_ok-insert.field-0) in omega (arith, len, same, one, few)),
      )
      | in_default w ↦ (
        subst (HasSpans table (k + 1)) (sym (ap (λ (m : BTreeMap TxnId (ℕ × ℕ)). m.entries) w.spans-is))
            (same-spans table k old t c.loop-t.invariant.0 there (sym c.span.ensures ∙ w.in_default.is)),
        (let same = ap (λ (m : BTreeMap TxnId (ℕ × ℕ)). length m.entries) w.spans-is in omega (arith, few, same)),
      )
    ]
  where
    at-most-one : (b : Bool) → (if b then 0 else 1) ≤ 1
    at-most-one true = omega arith
    at-most-one false = omega arith

pub returns-clause-spans : goal.returns-clause-spans
returns-clause-spans c =
    let table = c.args.txns.now in
    let items : List TxnId = c.unresolved-t-items.result.now in
    let low : length items ≤ c.loop-t.t-index = c.loop-t-test.false in
    let high : c.loop-t.t-index ≤ length items = c.loop-t.auto.t-index-end in
    let whole : c.loop-t.t-index ≡ length items = omega arith in
    all-spans table c.loop-t.t-index c.loop-t.spans.entries c.loop-t.invariant.0
    (whole ∙ ap (λ (ts : List TxnId). length ts) c.unresolved-t-items.ensures)

pub returns-clause-few : goal.returns-clause-few
returns-clause-few c =
    let items : List TxnId = c.unresolved-t-items.result.now in
    let high : c.loop-t.t-index ≤ length items = c.loop-t.auto.t-index-end in
    let all = ap (λ (ts : List TxnId). length ts) c.unresolved-t-items.ensures in
    let few = c.loop-t.invariant.1 in
    let long = length-map c.args.txns.now.unresolved (λ (row : TxnId × Transaction). row.0) in
    omega (arith, high, all, few, long)
