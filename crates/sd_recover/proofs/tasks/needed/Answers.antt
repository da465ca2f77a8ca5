use Rattle.std.proofs.Common.{subst}
use Rattle.sd_state.specs.Complexes.{parts}
use Rattle.sd_recover.specs.Tasks.{IsNext}
use Rattle.sd_recover.proofs.Awaited.{undo-needed}
use Rattle.sd_recover.proofs.tasks.needed.Goals as goal

pub returns-in-Undo-clause-claimed : goal.returns-in-Undo-clause-claimed
returns-in-Undo-clause-claimed g c = λ w by f recovers.
    let n = c.keeps.ensures in
    let rig = c.args.c.now.rig in
    undo-needed c.args.i c.in-Undo.page c.in-Undo.txn (g.G.Rig.seen rig) (g.G.Rig.leaves rig) (parts c.args.c.now) w f n.low n.high by recovers
    (subst (IsNext (parts c.args.c.now) c.args.i) c.in-Undo.is c.next_task.ensures.next)
