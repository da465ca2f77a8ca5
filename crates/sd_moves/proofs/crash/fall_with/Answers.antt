use Rattle.std.proofs.Common.{◌∙◌, arith}
use Rattle.sd_state.specs.Complexes.{parts}
use Rattle.sd_moves.proofs.FallSteps.{fallen-more}
use Rattle.sd_moves.proofs.crash.fall_with.Goals as goal

pub loop-at-preserved : goal.loop-at-preserved
loop-at-preserved g c = (
  fallen-more c.args.i c.loop-at.at (parts c.args.c.now) (parts c.loop-at.c) (parts c.fall_at.new.c) (omega (arith, c.loop-at-test.true))
      c.loop-at.invariant.0 c.fall_at.ensures.parts,
  c.fall_at.ensures.rig ∙ c.loop-at.invariant.1,
)
