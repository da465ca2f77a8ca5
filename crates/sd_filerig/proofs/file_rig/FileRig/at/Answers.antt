use Rattle.std.proofs.Common.{◌∙◌, subst, sym}
use Rattle.sd_filerig.specs.Mirror.{IsStable}
use Rattle.sd_filerig.proofs.Stable.{stable_loaded}
use Rattle.sd_filerig.proofs.file_rig.FileRig.at.Goals as goal

pub loop-dev-preserved : goal.loop-dev-preserved
loop-dev-preserved c = (
  stable_loaded c.loop-dev.memory c.load.new.self c.loop-dev.dev c.deref.result.now c.loop-dev.invariant.0 c.in_ok-load.ensures.bytes c.in_ok-load.ensures.durable c.in_ok-load.ensures.others,
  c.load.ensures.faults ∙ c.loop-dev.invariant.1,
)

pub returns-clause-stable : goal.returns-clause-stable
returns-clause-stable c = subst IsStable (sym c.of.ensures) c.loop-dev.invariant.0
