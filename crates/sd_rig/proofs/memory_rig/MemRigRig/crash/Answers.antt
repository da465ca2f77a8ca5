use Rattle.std.proofs.Common.{sym, subst}
use Rattle.sd_rig.specs.History.{Crashed}
use Rattle.sd_rig.specs.Replay.{left_of}
use Rattle.sd_rig.proofs.Facts.{crash-durable, crash-left, step-either, time-either}
use Rattle.sd_rig.proofs.memory_rig.MemRigRig.crash.Goals as goal

pub returns-clause-left : goal.returns-clause-left
returns-clause-left c = crash-left c.args.pick c.args.self.now.drives.disks.items c.crash.new.self.disks.items c.args.self.now.drives.devices c.crash.ensures.disks

pub returns-clause-durable : goal.returns-clause-durable
returns-clause-durable c = crash-durable c.crash.new.self.disks.items c.crash.new.self.devices c.crash.ensures.settles

pub returns-clause-none_more : goal.returns-clause-none_more
returns-clause-none_more c d le bytes left =
    let s = c.args.self.now.drives in
    let n = c.crash.new.self in
    subst (left_of s.disks.items d) (sym ((crash-durable n.disks.items n.devices c.crash.ensures.settles d le bytes).0 left))
    (crash-left c.args.pick s.disks.items n.disks.items s.devices c.crash.ensures.disks d le)

pub returns-clause-time : goal.returns-clause-time
returns-clause-time c =
    time-either c.args.self.now.drives.history.events c.crash.new.self.history.events (Crashed c.args.pick) (λ n. n.event) (λ n. n.record_stays) c.crash.ensures.noted

pub returns-clause-step : goal.returns-clause-step
returns-clause-step c =
    let s = c.args.self.now.drives in
    let n = c.crash.new.self in
    step-either s.history.events n.history.events (Crashed c.args.pick) s.disks.items n.disks.items s.told n.told (λ n. n.event) (λ n. n.record_stays) c.crash.ensures.noted
