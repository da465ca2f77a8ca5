use Rattle.sd_state.specs.Complexes.{parts}
use Rattle.sd_one.specs.Ready.{IsReady}
use Rattle.sd_tests_complex.proofs.works.crowd.Given as goal

abbrev pub invariant-loop-n : goal.invariant-loop-n
invariant-loop-n g l = IsReady (g.G.Rig.seen l.c.rig) (g.G.Rig.leaves l.c.rig) (parts l.c)
