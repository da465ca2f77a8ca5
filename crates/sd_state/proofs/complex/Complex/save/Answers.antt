use Rattle.std.proofs.Common.{◌≤◌, List, sym, ap, subst, ◌∙◌}
use Rattle.std.specs.Prelude.{Err, Ok, OnOk, Result}
use Rattle.sd_base.proofs.Results.{on_err}
use Rattle.sd_model.specs.Changes.{marked}
use Rattle.sd_txn.specs.Transactions.{Transactions}
use Rattle.sd_state.specs.Complexes.{parts}
use Rattle.sd_state.specs.Good.{Good}
use Rattle.sd_state.specs.Parts.{Parts, no_txns, txns_at}
use Rattle.sd_state.specs.Values.{Pending}
use Rattle.sd_state.specs.Working.{with_txns}
use Rattle.sd_state.proofs.SameTables.{table-same}
use Rattle.sd_state.proofs.Items.{item-same}
use Rattle.sd_state.proofs.Recovers.{up-there}
use Rattle.sd_state.proofs.WorkingTurns.{save-good}
use Rattle.sd_state.proofs.complex.Complex.save.Goals as goal

-- what follows from two things that hold of an answer
both-so : {T E : Type 0} (r : Result T E) (P Q R : Type 0) → (P → Q → R) → OnOk r P → OnOk r Q → OnOk r R
both-so (Ok x) P Q R f p q = f p q
both-so (Err e) P Q R f p q = tt

pub returns-clause-good : goal.returns-clause-good
returns-clause-good g c =
    let old : Parts = parts c.args.self.now in
    let new : Parts = parts c.set_mark.new.self in
    let t = c.args.t.now in
    let e = c.set_mark.ensures in
    let table : Transactions = txns_at new t.inst in
    let rig = c.args.self.now.rig in
    both-so c.set_mark.result _ _ _ (λ row number m good.
    subst (λ rig. Good (g.G.Rig.seen rig) (g.G.Rig.leaves rig) Pending.Idle new (marked t c.args.mark m)) (sym e.rig)
    (subst (λ (p : Parts). Good (g.G.Rig.seen rig) (g.G.Rig.leaves rig) Pending.Idle p (marked t c.args.mark m)) (sym e.parts)
    (save-good t c.args.mark table (g.G.Rig.seen rig) (g.G.Rig.leaves rig) old m good (record {
      idle = c.requires.idle;
      up = c.requires.up;
      once = e.once;
      changed = row;
      number = number;
      others = e.others;
      order = e.order;
    }) c.requires.runs))) e.row e.number

pub returns-clause-err : goal.returns-clause-err
returns-clause-err g c =
    let old : Parts = parts c.args.self.now in
    let e = c.set_mark.ensures in
    let t = c.args.t.now in
    let low : 1 ≤ t.inst = (up-there old c.requires.good.1.shape.statuses t.inst c.requires.up).0 in
    on_err c.set_mark.result _ _
    (λ own. e.parts ∙ ap (λ (tb : Transactions). with_txns t.inst tb old)
    (table-same (txns_at old t.inst) (txns_at (parts c.set_mark.new.self) t.inst) t e.once own e.others e.order)
    ∙ ap (λ (tables : List Transactions). record old { txns = tables }) (item-same no_txns old.txns t.inst low)) e.stays
