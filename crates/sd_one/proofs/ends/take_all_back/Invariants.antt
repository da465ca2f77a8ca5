use Rattle.sd_state.specs.Complexes.{parts}
use Rattle.sd_one.specs.Ready.{IsReady}
use Rattle.sd_one.proofs.ends.take_all_back.Given as goal

abbrev pub invariant-loop : goal.invariant-loop
invariant-loop g l = IsReady (g.G.Rig.seen l.c.rig) (g.G.Rig.leaves l.c.rig) (parts l.c)
