use Rattle.std.proofs.Common.{◌≡◌}
use Rattle.sd_moves.specs.Falling.{HaveFallen}
use Rattle.sd_state.specs.Complexes.{parts}
use Rattle.sd_moves.proofs.crash.fall_with.Given as goal

abbrev pub invariant-loop-at : goal.invariant-loop-at
invariant-loop-at g l = HaveFallen l.i l.at (parts l.fn.c) (parts l.c) × (l.c.rig ≡ l.fn.c.rig)
