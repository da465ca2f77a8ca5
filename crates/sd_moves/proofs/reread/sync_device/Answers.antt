use Rattle.sd_rig.specs.Spans.{span-step}
use Rattle.sd_state.specs.Complexes.{parts}
use Rattle.sd_state.specs.Images.{Stands}
use Rattle.sd_state.specs.Values.{Pending}
use Rattle.sd_state.proofs.Standing.{left-stands}
use Rattle.sd_moves.proofs.SettleSynced.{synced-any, synced-less, unsynced-any, unsynced-less}
use Rattle.sd_moves.proofs.reread.sync_device.Goals as goal

pub returns-in_err-sync-clause-good : goal.returns-in_err-sync-clause-good
returns-in_err-sync-clause-good g c m good =
    let r = g.G.Rig in
    let old = c.args.c.now.rig in
    let new = c.sync.new.self in
    unsynced-any c.args.dev (r.seen old) (r.seen new) (r.leaves old) (r.leaves new) Pending.Idle (parts c.args.c.now) m
    c.requires.device good (λ d le. g.met.G.Rig.leaves_seen old d le) (λ d le. g.met.G.Rig.leaves_seen new d le)
    c.sync.ensures.seen c.sync.ensures.others_leave c.in_err-sync.ensures.stays

pub returns-in_err-sync-clause-images : goal.returns-in_err-sync-clause-images
returns-in_err-sync-clause-images g c m good =
    let r = g.G.Rig in
    let old = c.args.c.now.rig in
    let new = c.sync.new.self in
    span-step (r.moment old) (r.since new) (r.leaves old) (r.leaves new) (Stands m Pending.Idle) c.sync.ensures.step
    (λ img left. left-stands (r.leaves old) (r.seen old) img Pending.Idle (parts c.args.c.now) m good left)
    (λ img left. left-stands (r.leaves new) (r.seen new) img Pending.Idle (parts c.args.c.now) m
    (unsynced-any c.args.dev (r.seen old) (r.seen new) (r.leaves old) (r.leaves new) Pending.Idle (parts c.args.c.now) m
    c.requires.device good (λ d le. g.met.G.Rig.leaves_seen old d le) (λ d le. g.met.G.Rig.leaves_seen new d le)
    c.sync.ensures.seen c.sync.ensures.others_leave c.in_err-sync.ensures.stays) left)

pub returns-clause-good : goal.returns-clause-good
returns-clause-good g c m good =
    let r = g.G.Rig in
    let old = c.args.c.now.rig in
    let new = c.sync.new.self in
    synced-any c.args.dev (r.seen old) (r.seen new) (r.leaves old) (r.leaves new) Pending.Idle (parts c.args.c.now) m
    c.requires.device good (λ d le. g.met.G.Rig.leaves_seen old d le) (λ d le. g.met.G.Rig.leaves_seen new d le)
    c.sync.ensures.seen c.sync.ensures.others_leave c.in_ok-sync.ensures.durable

pub returns-clause-images : goal.returns-clause-images
returns-clause-images g c m good =
    let r = g.G.Rig in
    let old = c.args.c.now.rig in
    let new = c.sync.new.self in
    span-step (r.moment old) (r.since new) (r.leaves old) (r.leaves new) (Stands m Pending.Idle) c.sync.ensures.step
    (λ img left. left-stands (r.leaves old) (r.seen old) img Pending.Idle (parts c.args.c.now) m good left)
    (λ img left. left-stands (r.leaves new) (r.seen new) img Pending.Idle (parts c.args.c.now) m
    (synced-any c.args.dev (r.seen old) (r.seen new) (r.leaves old) (r.leaves new) Pending.Idle (parts c.args.c.now) m
    c.requires.device good (λ d le. g.met.G.Rig.leaves_seen old d le) (λ d le. g.met.G.Rig.leaves_seen new d le)
    c.sync.ensures.seen c.sync.ensures.others_leave c.in_ok-sync.ensures.durable) left)

pub returns-in_err-sync-clause-less : goal.returns-in_err-sync-clause-less
returns-in_err-sync-clause-less g c =
    let r = g.G.Rig in
    let old = c.args.c.now.rig in
    let new = c.sync.new.self in
    unsynced-less c.args.dev (r.seen old) (r.seen new) (r.leaves old) (r.leaves new) Pending.Idle (parts c.args.c.now) c.requires.good.0
    c.requires.device c.requires.good.1 (λ d le. g.met.G.Rig.leaves_seen old d le) (λ d le. g.met.G.Rig.leaves_seen new d le)
    c.sync.ensures.seen c.sync.ensures.others_leave c.in_err-sync.ensures.stays

pub returns-clause-less : goal.returns-clause-less
returns-clause-less g c =
    let r = g.G.Rig in
    let old = c.args.c.now.rig in
    let new = c.sync.new.self in
    synced-less c.args.dev (r.seen old) (r.seen new) (r.leaves old) (r.leaves new) Pending.Idle (parts c.args.c.now) c.requires.good.0
    c.requires.device c.requires.good.1 (λ d le. g.met.G.Rig.leaves_seen old d le) (λ d le. g.met.G.Rig.leaves_seen new d le)
    c.sync.ensures.seen c.sync.ensures.others_leave c.in_ok-sync.ensures.durable
