use Rattle.std.proofs.Common.{◌≡◌}
use Rattle.sd_rig.specs.Rigs.{fault_count}
use Rattle.sd_filerig.specs.Mirror.{IsStable}
use Rattle.sd_filerig.proofs.file_rig.FileRig.at.Given as goal

abbrev pub invariant-loop-dev : goal.invariant-loop-dev
invariant-loop-dev l = IsStable l.memory × (fault_count l.memory ≡ 0)
