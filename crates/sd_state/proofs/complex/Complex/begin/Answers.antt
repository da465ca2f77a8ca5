use Rattle.std.proofs.Common.{◌≡◌, ◌⊎◌, ℕ, ◌-◌, ◌≤◌, List, get_or, sym, ap, ◌∙◌, subst, arith, slice_set}
use Rattle.std.specs.List.{IsDistinct}
use Rattle.std.proofs.lemmas.List.{get_or-set_same}
use Rattle.std.proofs.lemmas.Result.{err_from_is_err_and}
use Rattle.sd_base.specs.Ids.{same_txn}
use Rattle.sd_base.specs.declared.ids.TxnId.{TxnId}
use Rattle.sd_base.specs.declared.refusal.Refusal.TheVariants as R
use Rattle.sd_model.specs.State.{began}
use Rattle.sd_reclock.specs.Locks.{LockTable}
use Rattle.sd_state.specs.Complexes.{parts}
use Rattle.sd_state.specs.Good.{Good}
use Rattle.sd_state.specs.Parts.{Parts, epoch_at, no_txns, txns_at}
use Rattle.sd_state.specs.Values.{Pending}
use Rattle.sd_txn.specs.Transactions as txns
use Rattle.sd_txn.specs.Transactions.{OthersStay, Transactions, txn_at}
use Rattle.sd_txn.specs.Owing.{owed_of, reserve_of}
use Rattle.sd_txn.specs.declared.state.TxnState.{TxnState}
use Rattle.std.specs.Prelude.{None}
use Rattle.sd_state.proofs.Answered.{err-if, err-if_no, on-err, passed-on, same-set, table-lent, table-set, worked-parts}
use Rattle.sd_state.proofs.Items.{item-is}
use Rattle.sd_state.proofs.WorkingBegins.{Begins, begins-good, begins-next, end-told, many-told}
use Rattle.sd_state.proofs.complex.Complex.begin.Goals as goal

pub returns-clause-good : goal.returns-clause-good
returns-clause-good g c m good =
    let p : Parts = parts c.args.self.now in
    let i : ℕ = c.args.i in
    let t : TxnId = c.in_ok-t.t in
    let low : 1 ≤ i = omega (arith, c.get.ensures.value, c.get.ensures.low) in
    let high : i ≤ 8 = omega (arith, c.get.ensures.value, c.get.ensures.high) in
    let place : c.get.result - 1 ≡ i - 1 = ap (λ n. n - 1) c.get.ensures.value in
    let old : Transactions = c.index_mut.result.now in
    let table : Transactions = c.begin.new.self in
    let locks : LockTable = c.release_all.new.self in
    let seen = g.G.Rig.seen c.args.self.now.rig in
    let leaves = g.G.Rig.leaves c.args.self.now.rig in
    let told : txns_at p i ≡ old = item-is no_txns p.txns i old low high good.shape.txns
    (c.index_mut.ensures.value ∙ ap (λ n. get_or p.txns n old) place) in
    let epoch : epoch_at p i ≡ c.index-epoch.result.now = item-is 0 p.epochs i c.index-epoch.result.now low high good.shape.epochs
    (c.index-epoch.ensures ∙ ap (λ n. get_or p.epochs n c.index-epoch.result.now) place) in
    let is : t ≡ txns.next_txn (txns_at p i) (epoch_at p i) = c.in_ok-t.ensures.begun
    ∙ sym (ap (λ (tb : Transactions). txns.next_txn tb c.index-epoch.result.now) told) ∙ sym (ap (txns.next_txn (txns_at p i)) epoch) in
    let eight = good.shape.txns in
    let same : c.index.result.now ≡ table = c.index.ensures
    ∙ get_or-set_same p.txns (c.get.result - 1) table c.index.result.now (omega (arith, place, low, high, eight)) in
    let once : IsDistinct same_txn (txns.ids table) = subst (λ (tb : Transactions). IsDistinct same_txn (txns.ids tb)) same c.keeps.ensures.once in
    let begins : Begins i t table locks p = record {
      low = low;
      high = high;
      idle = c.requires.idle;
      up = c.requires.up;
      is = is;
      row = c.in_ok-t.ensures.runs;
      others = subst (λ (tb : Transactions). OthersStay tb table t) (sym told) c.in_ok-t.ensures.others;
      counted = c.in_ok-t.ensures.counted
          ∙ sym (ap (λ (tb : Transactions). record tb { epoch = c.index-epoch.result.now; begins = t.seq; unresolved = table.unresolved }) told)
          ∙ sym (ap (λ (e : ℕ). record (txns_at p i) { epoch = e; begins = t.seq; unresolved = table.unresolved }) epoch);
      owes = subst (λ (tb : Transactions). txn_at tb t ≡ None → owed_of table ≡ owed_of tb) (sym told)
          (λ none. c.owed_by_begin.ensures.owed old table t TxnState.Running once none c.in_ok-t.ensures.runs
          c.in_ok-t.ensures.others (c.in_ok-t.ensures.last none));
      reserves = subst (λ (tb : Transactions). txn_at tb t ≡ None → reserve_of table ≡ reserve_of tb) (sym told)
          (λ none. c.owed_by_begin.ensures.reserve old table t TxnState.Running once none c.in_ok-t.ensures.runs
          c.in_ok-t.ensures.others (c.in_ok-t.ensures.last none));
      released = c.release_all.ensures.locks;
    } in
    let own : t.inst ≡ i = ap (λ (u : TxnId). u.inst) is ∙ good.shape.own_txns i low high in (
      begins-next i t table locks seen leaves p m good begins,
      subst (λ (n : ℕ). Good seen leaves Pending.Idle (record p { txns = slice_set p.txns n table; locks = locks }) (began i t m)) (sym place)
          (begins-good i t own table locks seen leaves p m good begins),
    )

pub returns-clause-parts : goal.returns-clause-parts
returns-clause-parts g c =
    let p : Parts = parts c.args.self.now in
    let i : ℕ = c.args.i in
    let low : 1 ≤ i = omega (arith, c.get.ensures.value, c.get.ensures.low) in
    let high : i ≤ 8 = omega (arith, c.get.ensures.value, c.get.ensures.high) in
    let place : c.get.result - 1 ≡ i - 1 = ap (λ n. n - 1) c.get.ensures.value in
    let shape = c.requires.good.1.shape in
    worked-parts p i (c.get.result - 1) c.begin.new.self c.release_all.new.self low high shape.txns place

pub returns-clause-runs : goal.returns-clause-runs
returns-clause-runs g c =
    let p : Parts = parts c.args.self.now in
    let i : ℕ = c.args.i in
    let low : 1 ≤ i = omega (arith, c.get.ensures.value, c.get.ensures.low) in
    let high : i ≤ 8 = omega (arith, c.get.ensures.value, c.get.ensures.high) in
    let place : c.get.result - 1 ≡ i - 1 = ap (λ n. n - 1) c.get.ensures.value in
    let shape = c.requires.good.1.shape in
    ap (λ (tb : Transactions). txn_at tb c.in_ok-t.t) (table-set p i (c.get.result - 1) c.begin.new.self low high shape.txns place)
    ∙ c.in_ok-t.ensures.runs

pub returns-clause-others : goal.returns-clause-others
returns-clause-others g c =
    let p : Parts = parts c.args.self.now in
    let i : ℕ = c.args.i in
    let low : 1 ≤ i = omega (arith, c.get.ensures.value, c.get.ensures.low) in
    let high : i ≤ 8 = omega (arith, c.get.ensures.value, c.get.ensures.high) in
    let place : c.get.result - 1 ≡ i - 1 = ap (λ n. n - 1) c.get.ensures.value in
    let shape = c.requires.good.1.shape in
    let told : txns_at p i ≡ c.index_mut.result.now =
    table-lent p i (c.get.result - 1) c.index_mut.result.now low high shape.txns place c.index_mut.ensures.value in
    let table : Transactions = c.begin.new.self in
    subst (λ (tb : Transactions). OthersStay (txns_at p i) tb c.in_ok-t.t)
    (sym (table-set p i (c.get.result - 1) table low high shape.txns place))
    (subst (λ (tb : Transactions). OthersStay tb table c.in_ok-t.t) (sym told) c.in_ok-t.ensures.others)

pub returns-clause-locks : goal.returns-clause-locks
returns-clause-locks g c = c.release_all.ensures.locks

pub returns-clause-waits : goal.returns-clause-waits
returns-clause-waits g c = c.release_all.ensures.waits

pub returns-clause-many : goal.returns-clause-many
returns-clause-many g c =
    let p : Parts = parts c.args.self.now in
    let i : ℕ = c.args.i in
    let low : 1 ≤ i = omega (arith, c.get.ensures.value, c.get.ensures.low) in
    let high : i ≤ 8 = omega (arith, c.get.ensures.value, c.get.ensures.high) in
    let place : c.get.result - 1 ≡ i - 1 = ap (λ n. n - 1) c.get.ensures.value in
    let shape = c.requires.good.1.shape in
    let told : txns_at p i ≡ c.index_mut.result.now =
    table-lent p i (c.get.result - 1) c.index_mut.result.now low high shape.txns place c.index_mut.ensures.value in
    many-told c.begin.result _ c.index_mut.result.now (txns_at p i) c.in_ok-t.was told c.begin.ensures.many

pub returns-clause-end : goal.returns-clause-end
returns-clause-end g c =
    let p : Parts = parts c.args.self.now in
    let i : ℕ = c.args.i in
    let low : 1 ≤ i = omega (arith, c.get.ensures.value, c.get.ensures.low) in
    let high : i ≤ 8 = omega (arith, c.get.ensures.value, c.get.ensures.high) in
    let place : c.get.result - 1 ≡ i - 1 = ap (λ n. n - 1) c.get.ensures.value in
    let shape = c.requires.good.1.shape in
    let told : txns_at p i ≡ c.index_mut.result.now =
    table-lent p i (c.get.result - 1) c.index_mut.result.now low high shape.txns place c.index_mut.ensures.value in
    let epoch : epoch_at p i ≡ c.index-epoch.result.now = item-is 0 p.epochs i c.index-epoch.result.now low high shape.epochs
    (c.index-epoch.ensures ∙ ap (λ n. get_or p.epochs n c.index-epoch.result.now) place) in
    end-told c.begin.result _ c.index_mut.result.now (txns_at p i) c.index-epoch.result.now (epoch_at p i) c.in_ok-t.was told epoch
    c.begin.ensures.end

pub returns-in_err-t-clause-good : goal.returns-in_err-t-clause-good
returns-in_err-t-clause-good g c =
    let e = err_from_is_err_and c.from_residual.result c.from_residual.ensures.1 in
    err-if_no c.from_residual.result e.0 _ e.1

pub returns-in_err-t-clause-parts : goal.returns-in_err-t-clause-parts
returns-in_err-t-clause-parts g c =
    let e = err_from_is_err_and c.from_residual.result c.from_residual.ensures.1 in
    err-if_no c.from_residual.result e.0 _ e.1

pub returns-in_err-t-clause-runs : goal.returns-in_err-t-clause-runs
returns-in_err-t-clause-runs g c =
    let e = err_from_is_err_and c.from_residual.result c.from_residual.ensures.1 in
    err-if_no c.from_residual.result e.0 _ e.1

pub returns-in_err-t-clause-others : goal.returns-in_err-t-clause-others
returns-in_err-t-clause-others g c =
    let e = err_from_is_err_and c.from_residual.result c.from_residual.ensures.1 in
    err-if_no c.from_residual.result e.0 _ e.1

pub returns-in_err-t-clause-locks : goal.returns-in_err-t-clause-locks
returns-in_err-t-clause-locks g c =
    let e = err_from_is_err_and c.from_residual.result c.from_residual.ensures.1 in
    err-if_no c.from_residual.result e.0 _ e.1

pub returns-in_err-t-clause-waits : goal.returns-in_err-t-clause-waits
returns-in_err-t-clause-waits g c =
    let e = err_from_is_err_and c.from_residual.result c.from_residual.ensures.1 in
    err-if_no c.from_residual.result e.0 _ e.1

pub returns-in_err-t-clause-err : goal.returns-in_err-t-clause-err
returns-in_err-t-clause-err g c =
    let p : Parts = parts c.args.self.now in
    let table : Transactions = c.index_mut.result.now in
    on-err c.from_residual.result _ (ap (λ (tables : List Transactions). record p { txns = tables })
    (same-set p.txns (c.get.result - 1) table c.begin.new.self c.index_mut.ensures.value c.in_err-t.ensures.err))

pub returns-in_err-t-clause-many : goal.returns-in_err-t-clause-many
returns-in_err-t-clause-many g c =
    let p : Parts = parts c.args.self.now in
    let i : ℕ = c.args.i in
    let low : 1 ≤ i = omega (arith, c.get.ensures.value, c.get.ensures.low) in
    let high : i ≤ 8 = omega (arith, c.get.ensures.value, c.get.ensures.high) in
    let place : c.get.result - 1 ≡ i - 1 = ap (λ n. n - 1) c.get.ensures.value in
    let shape = c.requires.good.1.shape in
    let told : txns_at p i ≡ c.index_mut.result.now =
    table-lent p i (c.get.result - 1) c.index_mut.result.now low high shape.txns place c.index_mut.ensures.value in
    let e = err_from_is_err_and c.from_residual.result c.from_residual.ensures.1 in
    let is = passed-on c.begin.result c.from_residual.result e.0 c.in_err-t.field-0.0 c.in_err-t.was e.1 e.2 in
    many-told c.begin.result c.from_residual.result c.index_mut.result.now (txns_at p i) is told c.begin.ensures.many

pub returns-in_err-t-clause-end : goal.returns-in_err-t-clause-end
returns-in_err-t-clause-end g c =
    let p : Parts = parts c.args.self.now in
    let i : ℕ = c.args.i in
    let low : 1 ≤ i = omega (arith, c.get.ensures.value, c.get.ensures.low) in
    let high : i ≤ 8 = omega (arith, c.get.ensures.value, c.get.ensures.high) in
    let place : c.get.result - 1 ≡ i - 1 = ap (λ n. n - 1) c.get.ensures.value in
    let shape = c.requires.good.1.shape in
    let told : txns_at p i ≡ c.index_mut.result.now =
    table-lent p i (c.get.result - 1) c.index_mut.result.now low high shape.txns place c.index_mut.ensures.value in
    let epoch : epoch_at p i ≡ c.index-epoch.result.now = item-is 0 p.epochs i c.index-epoch.result.now low high shape.epochs
    (c.index-epoch.ensures ∙ ap (λ n. get_or p.epochs n c.index-epoch.result.now) place) in
    let e = err_from_is_err_and c.from_residual.result c.from_residual.ensures.1 in
    let is = passed-on c.begin.result c.from_residual.result e.0 c.in_err-t.field-0.0 c.in_err-t.was e.1 e.2 in
    end-told c.begin.result c.from_residual.result c.index_mut.result.now (txns_at p i) c.index-epoch.result.now (epoch_at p i) is told
    epoch c.begin.ensures.end

pub returns-in_err-t-clause-only : goal.returns-in_err-t-clause-only
returns-in_err-t-clause-only g c =
    let e = err_from_is_err_and c.from_residual.result c.from_residual.ensures.1 in
    err-if c.from_residual.result e.0 c.in_err-t.field-0.0 (λ n. (n ≡ R.TooManyTxns) ⊎ ((n ≡ R.LsnEnd) ⊎ (n ≡ R.Memory))) e.1 e.2
    c.in_err-t.ensures.only
