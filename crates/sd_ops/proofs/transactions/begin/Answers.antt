use Rattle.std.proofs.Common.{◌≡◌, ◌<◌, ◌≤◌, ℕ, sym, ap, ◌∙◌, subst, arith, length, refl}
use Rattle.std.specs.Prelude.{Result, Err}
use Rattle.std.proofs.lemmas.Result.{err_from_is_err_and}
use Rattle.std.specs.List.{IsDistinct}
use Rattle.sd_base.specs.Ids.{same_txn}
use Rattle.sd_base.specs.declared.ids.TxnId.{TxnId}
use Rattle.sd_base.specs.declared.refusal.Refusal.{Refusal}
use Rattle.sd_base.specs.declared.refusal.Refusal.TheVariants as R
use Rattle.sd_model.specs.declared.event.Event.TheVariants.{Begin}
use Rattle.sd_txn.specs.Transactions.{Transactions, ids}
use Rattle.sd_state.specs.Complexes.{parts}
use Rattle.sd_state.specs.Parts.{txns_at}
use Rattle.sd_world.specs.Serving.{Telling, began_reply, telling}
use Rattle.sd_fits.specs.Serving.{Serving}
use Rattle.sd_ops.proofs.Begins.{begun-served, down-served, refused-served}
use Rattle.sd_ops.specs.Leaving.{TableLeaves}
use Rattle.sd_ops.proofs.Leaving.{locks-same, working-untouched}
use Rattle.sd_ops.proofs.Logging.{by-err}
use Rattle.sd_ops.proofs.transactions.begin.Goals as goal

pub returns-in_err-expect_up-clause-served : goal.returns-in_err-expect_up-clause-served
returns-in_err-expect_up-clause-served g c =
    let tell : Telling _ = telling g.G.Rig.seen g.G.Rig.leaves g.G.Rig.moment g.G.Rig.since g.G.Rig.faults in
    let p = err_from_is_err_and c.from_residual.result c.from_residual.ensures.1 in
    let a = c.in_err-expect_up.ensures in
    let is : c.from_residual.result ≡ Err R.Down = p.1 ∙ ap (λ (n : Refusal). Err n) (p.2 ∙ a.only) in
    subst (λ (r : Result TxnId Refusal). Serving tell (Begin c.args.i) (began_reply r) c.args.c.now c.args.c.now) (sym is)
    (down-served tell c.args.i c.args.c.now a.low a.high (λ img s. g.met.G.Rig.only_now c.args.c.now.rig img s) a.down)

pub returns-in_err-t-clause-served : goal.returns-in_err-t-clause-served
returns-in_err-t-clause-served g c =
    let tell : Telling _ = telling g.G.Rig.seen g.G.Rig.leaves g.G.Rig.moment g.G.Rig.since g.G.Rig.faults in
    let old = c.args.c.now in
    let p = err_from_is_err_and c.from_residual-in_err-t.result c.from_residual-in_err-t.ensures.1 in
    let n : Refusal = c.in_err-t.field-0.0 in
    let a = c.in_err-t.ensures in
    let up = c.in_ok-expect_up.ensures in
    let once : IsDistinct same_txn (ids (txns_at (parts old) c.args.i)) =
    subst (λ (tb : Transactions). IsDistinct same_txn (ids tb)) c.txns.ensures c.keeps.ensures.once in
    let is : c.from_residual-in_err-t.result ≡ Err n = p.1 ∙ ap (λ (k : Refusal). Err k) p.2 in
    subst (λ (r : Result TxnId Refusal). Serving tell (Begin c.args.i) (began_reply r) old c.begin.new.self) (sym is)
    (refused-served tell c.args.i old c.begin.new.self (record {
      low = up.low;
      high = up.high;
      same = c.begin.ensures.rig;
      now = λ img s. g.met.G.Rig.only_now old.rig img s;
      up = up.up;
      once = once;
    }) n a.err (λ e. a.many.0 (ap (λ (k : Refusal). Err k) e)) (λ e. a.end.0 (ap (λ (k : Refusal). Err k) e)) a.only)

pub returns-clause-served : goal.returns-clause-served
returns-clause-served g c =
    let tell : Telling _ = telling g.G.Rig.seen g.G.Rig.leaves g.G.Rig.moment g.G.Rig.since g.G.Rig.faults in
    let old = c.args.c.now in
    let a = c.in_ok-t.ensures in
    let up = c.in_ok-expect_up.ensures in
    let once : IsDistinct same_txn (ids (txns_at (parts old) c.args.i)) =
    subst (λ (tb : Transactions). IsDistinct same_txn (ids tb)) c.txns.ensures c.keeps.ensures.once in
    let few : length (txns_at (parts old) c.args.i).unresolved < 64 = under _ (λ many. let clash = a.many.1 many in absurd (cc)) in
    begun-served tell c.args.i old c.begin.new.self (record {
      low = up.low;
      high = up.high;
      same = a.rig;
      now = λ img s. g.met.G.Rig.only_now old.rig img s;
      up = up.up;
      once = once;
    }) c.in_ok-t.t c.keeps-2.ensures.seq few (record { is = a.parts; row = a.runs; others = a.others; waits = a.waits }) a.good
  where
    under : (n : ℕ) → (64 ≤ n → ⊥) → n < 64
    under n not = omega arith

pub returns-in_err-expect_up-clause-untouched : goal.returns-in_err-expect_up-clause-untouched
returns-in_err-expect_up-clause-untouched g c =
    let old = parts c.args.c.now in
    let e = err_from_is_err_and c.from_residual.result c.from_residual.ensures.1 in
    by-err (λ (x : Result TxnId Refusal). TableLeaves x old old) c.from_residual.result e.0 e.0 e.1 refl (locks-same old old refl)

pub returns-in_err-t-clause-untouched : goal.returns-in_err-t-clause-untouched
returns-in_err-t-clause-untouched g c =
    let old = parts c.args.c.now in
    let new = parts c.begin.new.self in
    let e = err_from_is_err_and c.from_residual-in_err-t.result c.from_residual-in_err-t.ensures.1 in
    by-err (λ (x : Result TxnId Refusal). TableLeaves x old new) c.from_residual-in_err-t.result e.0 e.0 e.1 refl
    (locks-same old new c.in_err-t.ensures.err)

pub returns-clause-untouched : goal.returns-clause-untouched
returns-clause-untouched g c =
    let new = parts c.begin.new.self in
    working-untouched c.args.i (txns_at new c.args.i) new.locks (parts c.args.c.now) new c.in_ok-t.ensures.parts
