use Rattle.std.proofs.Common.{◌↔◌, sym, subst}
use Rattle.std.specs.Prelude.{IsTrue}
use Rattle.sd_model.specs.declared.event.Event.{Event}
use Rattle.sd_world.specs.Serving.{Telling, telling}
use Rattle.sd_hall.specs.Owed.{IsOwed}
use Rattle.sd_hall.proofs.Answering.{none-owed}
use Rattle.sd_hall.proofs.Owing.{runs-owed, undo-owed, up-owed}
use Rattle.sd_hall.proofs.ledger.is_owed.Goals as goal

pub returns-in-Commit : goal.returns-in-Commit
returns-in-Commit g c =
    let tell : Telling _ = telling g.G.Rig.seen g.G.Rig.leaves g.G.Rig.moment g.G.Rig.since g.G.Rig.faults in
    let told = c.is_running.ensures in
    λ w f. subst (λ (e : Event). IsTrue c.is_running.result ↔ IsOwed w e) (sym c.in-Commit.is)
    (runs-owed tell c.args.c.now w f c.is_running.result c.in-Commit.txn told.low told.high told.runs)

pub returns-in-Undo : goal.returns-in-Undo
returns-in-Undo g c =
    let tell : Telling _ = telling g.G.Rig.seen g.G.Rig.leaves g.G.Rig.moment g.G.Rig.since g.G.Rig.faults in
    let told = c.is_undoable.ensures in
    λ w f. subst (λ (e : Event). IsTrue c.is_undoable.result ↔ IsOwed w e) (sym c.in-Undo.is)
    (undo-owed tell c.args.c.now w f c.is_undoable.result c.in-Undo.txn told.low told.high told.rolls)

pub returns-in-Fail : goal.returns-in-Fail
returns-in-Fail g c =
    let tell : Telling _ = telling g.G.Rig.seen g.G.Rig.leaves g.G.Rig.moment g.G.Rig.since g.G.Rig.faults in
    let told = c.is_up.ensures in
    λ w f. subst (λ (e : Event). IsTrue c.is_up.result ↔ IsOwed w e) (sym c.in-Fail.is)
    (up-owed tell c.args.c.now w f c.is_up.result c.in-Fail.inst told.low told.high told.up)

pub returns-in_default : goal.returns-in_default
returns-in_default g c = λ w f. (
  (λ is. absurd (cc)),
  (λ owed. absurd (none-owed w c.args.e.now c.in_default.not-Commit c.in_default.not-Undo c.in_default.not-Fail
      owed)),
)
