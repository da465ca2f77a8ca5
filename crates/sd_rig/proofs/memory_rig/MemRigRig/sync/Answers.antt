use Rattle.std.proofs.Common.{Bool, not, ap, sym, ◌∙◌}
use Rattle.sd_rig.specs.History.{Synced}
use Rattle.sd_rig.specs.Replay.{changed}
use Rattle.sd_rig.proofs.Answered.{on_ok}
use Rattle.sd_rig.proofs.Facts.{durable-at, elapses-noted, step-noted, sync-seen}
use Rattle.sd_rig.proofs.memory_rig.MemRigRig.sync.Goals as goal

pub returns-clause-durable : goal.returns-clause-durable
returns-clause-durable c = on_ok c.answer.result _ (λ e.
    let s = c.args.self.now.drives in
    durable-at s.disks.items c.sync.new.self.disks.items c.args.dev s.devices c.requires.device
    (c.sync.ensures.made ∙ ap (λ (ok : Bool). changed (Synced c.args.dev ok) s.disks.items) (sym c.answer.ensures.ok ∙ e)))

pub returns-clause-seen : goal.returns-clause-seen
returns-clause-seen c d =
    let s = c.args.self.now.drives in
    sync-seen s.disks.items c.sync.new.self.disks.items c.args.dev (not c.next_call-met.result) s.devices c.requires.device c.sync.ensures.made d

pub returns-clause-time : goal.returns-clause-time
returns-clause-time c =
    elapses-noted c.args.self.now.drives.history.events c.sync.new.self.history.events (Synced c.args.dev (not c.next_call-met.result))
    c.sync.ensures.event

pub returns-clause-step : goal.returns-clause-step
returns-clause-step c =
    let s = c.args.self.now.drives in
    let n = c.sync.new.self in
    step-noted s.history.events n.history.events (Synced c.args.dev (not c.next_call-met.result)) s.disks.items n.disks.items
    c.sync.ensures.event s.told n.told
