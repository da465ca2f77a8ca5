use Rattle.sd_state.specs.Complexes.{parts}
use Rattle.sd_ops.specs.Vacancies.{NoneUsable}
use Rattle.sd_ops.proofs.inserting.dead_slot.Given as goal

abbrev pub invariant-loop-slot : goal.invariant-loop-slot
invariant-loop-slot g l = NoneUsable l.image l.t l.p l.capacity (parts l.c) l.slot
