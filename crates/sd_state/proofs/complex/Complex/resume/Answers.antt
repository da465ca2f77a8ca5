use Rattle.std.proofs.Common.{sym, subst}
use Rattle.sd_model.specs.State.{turned}
use Rattle.sd_model.specs.declared.act.Life.{Life}
use Rattle.sd_state.specs.Complexes.{parts}
use Rattle.sd_state.specs.Good.{Good}
use Rattle.sd_state.specs.Parts.{Parts, txns_at}
use Rattle.sd_state.specs.Values.{Pending}
use Rattle.sd_txn.specs.Transactions.{Transactions}
use Rattle.sd_txn.specs.declared.state.TxnState.{TxnState}
use Rattle.sd_state.proofs.WorkingTurns.{IsTurned, resume-good}
use Rattle.sd_state.proofs.complex.Complex.resume.Goals as goal

pub returns-clause-good : goal.returns-clause-good
returns-clause-good g c m good =
    let old : Parts = parts c.args.self.now in
    let new : Parts = parts c.turn.new.self in
    let t = c.args.t.now in
    let table : Transactions = txns_at new t.inst in
    let seen = g.G.Rig.seen c.args.self.now.rig in
    let leaves = g.G.Rig.leaves c.args.self.now.rig in
    let is : IsTurned t (TxnState.Running) table old = record {
      idle = c.requires.idle;
      up = c.requires.up;
      once = c.turn.ensures.once;
      changed = c.turn.ensures.row;
      others = c.turn.ensures.others;
      order = c.turn.ensures.order;
    } in
    subst (λ rig. Good (g.G.Rig.seen rig) (g.G.Rig.leaves rig) Pending.Idle new (turned t (Life.Running) m)) (sym c.turn.ensures.rig)
    (subst (λ (p : Parts). Good seen leaves Pending.Idle p (turned t (Life.Running) m)) (sym c.turn.ensures.parts)
    (resume-good t table seen leaves old m good c.requires.reached.0 is c.requires.reached.1 c.requires.reached.2))
