use Rattle.std.proofs.Common.{List, ℕ, ◌∙◌, subst}
use Rattle.sd_rig.specs.Devices.{LeavesOnly}
use Rattle.sd_rig.specs.Replay.{left_of}
use Rattle.sd_rig.proofs.Facts.{durable-at, loaded-seen, seen-synced}
use Rattle.sd_rig.proofs.memory_rig.MemRig.load.Goals as goal

pub returns-clause-bytes : goal.returns-clause-bytes
returns-clause-bytes c =
    let zero = c.args.self.now.drives in
    let one = c.write.new.self in
    let two = c.sync.new.self in
    seen-synced one.disks.items two.disks.items c.args.dev one.devices c.requires.device c.sync.ensures.made c.args.dev
    ∙ loaded-seen zero.disks.items one.disks.items c.args.dev c.args.image.now zero.devices c.requires.device c.requires.whole c.write.ensures.made

pub returns-clause-durable : goal.returns-clause-durable
returns-clause-durable c =
    let zero = c.args.self.now.drives in
    let one = c.write.new.self in
    let two = c.sync.new.self in
    let seen = loaded-seen zero.disks.items one.disks.items c.args.dev c.args.image.now zero.devices c.requires.device c.requires.whole c.write.ensures.made in
    subst (λ (bytes : List ℕ). LeavesOnly bytes (left_of two.disks.items c.args.dev)) seen
    (durable-at one.disks.items two.disks.items c.args.dev one.devices c.requires.device c.sync.ensures.made)
