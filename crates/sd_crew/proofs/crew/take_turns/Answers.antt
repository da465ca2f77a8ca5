use Rattle.std.proofs.Common.{◌≡◌, ◌∙◌, List, length, ap, sym, subst, rules}
use Rattle.sd_crew.specs.declared.worker.Worker.{Worker}
use Rattle.sd_crew.specs.Worked.{NumberedFrom}
use Rattle.sd_crew.proofs.Crews.{each-worked}
use Rattle.sd_crew.proofs.crew.take_turns.Goals as goal

pub returns-clause-worked : goal.returns-clause-worked
returns-clause-worked g c =
    let same : c.as_mut_slice.result.now ≡ c.hand_out.new.workers.items = search rules in
    each-worked g.V.Shift.history g.V.Shift.stands g.V.Shift.turns c.as_mut_slice.result.now c.work.new.workers _ (λ w. w.inst)
    (λ w. w.pass.seat.me.0) (ap length same ∙ c.hand_out.ensures.count)
    (subst (λ (ws : List (Worker g.row.V.Denot g.row.V-Entry.Denot g.V.Shift)). NumberedFrom (λ w. w.inst) 0 ws) (sym same)
    c.hand_out.ensures.numbered) c.work.ensures.worked
