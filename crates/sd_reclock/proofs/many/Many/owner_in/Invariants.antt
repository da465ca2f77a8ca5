use Rattle.sd_reclock.proofs.Ranging.{IsSeen}
use Rattle.sd_reclock.proofs.many.Many.owner_in.Given as goal

abbrev pub invariant-loop-rid : goal.invariant-loop-rid
invariant-loop-rid l =
    (goal.iterator-loop-rid).can_next l.rid-iterator ×
    (goal.iterator-loop-rid).is_finite l.rid-iterator ×
    IsSeen l.p l.initial.rid-iterator l.rid-iterator l.lowest
