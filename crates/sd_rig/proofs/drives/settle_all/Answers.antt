use Rattle.sd_rig.specs.Disk.{settled}
use Rattle.std.proofs.Common.{ap, ◌∙◌, sym}
use Rattle.sd_rig.proofs.Steps.{map_in_place}
use Rattle.sd_rig.proofs.drives.settle_all.Goals as goal

pub loop-i-preserved : goal.loop-i-preserved
loop-i-preserved c = map_in_place (settled c.args.pick) c.args.disks.now c.loop-i.disks c.loop-i.i c.index-disks-i.result c.settle.new.self c.loop-i-test.true c.loop-i.invariant c.index-disks-i.is (c.settle.ensures ∙ ap (settled c.args.pick) (sym c.index-disks-i.is))
