use Rattle.std.proofs.Common.{not}
use Rattle.sd_rig.specs.History.{Wrote}
use Rattle.sd_rig.proofs.Answered.{on_err, on_ok}
use Rattle.sd_rig.proofs.Facts.{elapses-noted, step-noted, tear-at, torn-at}
use Rattle.sd_rig.proofs.memory_rig.MemRigRig.write.Goals as goal

pub returns-clause-torn : goal.returns-clause-torn
returns-clause-torn c = on_ok c.answer.result _ (λ e.
    let s = c.args.self.now.drives in
    torn-at s.disks.items c.write.new.self.disks.items c.args.dev c.args.at c.args.bytes.now s.devices c.requires.device c.requires.range c.write.ensures.made)

pub returns-clause-torn_err : goal.returns-clause-torn_err
returns-clause-torn_err c =
    let s = c.args.self.now.drives in
    on_err c.answer.result _
    (tear-at s.disks.items c.write.new.self.disks.items c.args.dev c.args.at c.args.bytes.now s.devices c.requires.device c.requires.range c.write.ensures.made)

pub returns-clause-time : goal.returns-clause-time
returns-clause-time c =
    elapses-noted c.args.self.now.drives.history.events c.write.new.self.history.events
    (Wrote c.args.dev c.args.at c.args.bytes.now (not c.next_call-met.result)) c.write.ensures.event

pub returns-clause-step : goal.returns-clause-step
returns-clause-step c =
    let s = c.args.self.now.drives in
    let n = c.write.new.self in
    step-noted s.history.events n.history.events (Wrote c.args.dev c.args.at c.args.bytes.now (not c.next_call-met.result))
    s.disks.items n.disks.items c.write.ensures.event s.told n.told
