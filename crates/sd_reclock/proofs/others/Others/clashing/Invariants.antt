use Rattle.sd_reclock.proofs.Clashing.{IsGathered}
use Rattle.sd_reclock.proofs.others.Others.clashing.Given as goal

abbrev pub invariant-loop-t : goal.invariant-loop-t
invariant-loop-t l =
    (goal.iterator-loop-t).can_next l.t-iterator ×
    (goal.iterator-loop-t).is_finite l.t-iterator ×
    IsGathered l.not l.mode l.initial.t-iterator l.t-iterator l.all.items
