use Rattle.std.proofs.Common.{◌≡◌, rules}
use Rattle.sd_crew.specs.declared.worker.Worker.{Worker}
use Rattle.sd_crew.specs.Worked.{HasWorked}
use Rattle.sd_crew.proofs.Working.{related-by}
use Rattle.sd_crew.proofs.worker.work.Goals as goal

pub returns-clause-worked : goal.returns-clause-worked
returns-clause-worked g c k d lt =
    let changed = (c.for_each_mut.ensures k d lt).1 in
    let done : (changed.after_call.now.inst ≡ changed.argument.now.inst)
    × HasWorked g.V.Shift.history g.V.Shift.stands g.V.Shift.turns changed.argument.now.pass.seat.me.0
    changed.argument.now.inst changed.after_call.now.pass.seat.me.0
    = search rules in
    related-by
    (λ (old new : Worker g.row.V.Denot g.row.V-Entry.Denot g.V.Shift). (new.inst ≡ old.inst)
    × HasWorked g.V.Shift.history g.V.Shift.stands g.V.Shift.turns old.pass.seat.me.0 old.inst new.pass.seat.me.0)
    _ _ _ _ changed.argument_is changed.left done
