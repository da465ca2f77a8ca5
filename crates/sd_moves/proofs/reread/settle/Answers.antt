use Rattle.std.proofs.Common.{subst, sym}
use Rattle.sd_rig.specs.Devices.{Span}
use Rattle.sd_chain.specs.Logs.{Less}
use Rattle.sd_state.specs.Good.{Good}
use Rattle.sd_state.specs.Images.{Stands}
use Rattle.sd_state.specs.Parts.{Parts}
use Rattle.sd_state.specs.Values.{Pending}
use Rattle.sd_moves.proofs.SettledCalls.{span-still}
use Rattle.sd_moves.proofs.reread.settle.Goals as goal

-- once the device is synced

pub returns-then-is_err-clause-good_fallen : goal.returns-then-is_err-clause-good_fallen
returns-then-is_err-clause-good_fallen g c e m good =
    let r = g.G.Rig in
    let mid = c.sync_device.new.c in
    c.down.ensures.good m
    (subst (λ (x : Parts). Good (r.seen mid.rig) (r.leaves mid.rig) Pending.Idle x m) (sym c.sync_device.ensures.parts)
    (c.sync_device.ensures.good m good))

pub returns-then-is_err-clause-images : goal.returns-then-is_err-clause-images
returns-then-is_err-clause-images g c m good =
    let r = g.G.Rig in
    subst (λ rig. Span (r.moment c.args.c.now.rig) (r.since rig) (Stands m Pending.Idle)) (sym c.down.ensures.rig)
    (c.sync_device.ensures.images m good)

pub returns-in-Some-clause-good : goal.returns-in-Some-clause-good
returns-in-Some-clause-good g c ok m good =
    let r = g.G.Rig in
    let mid = c.sync_device.new.c in
    c.settle_log.ensures.good m
    (subst (λ (x : Parts). Good (r.seen mid.rig) (r.leaves mid.rig) Pending.Idle x m) (sym c.sync_device.ensures.parts)
    (c.sync_device.ensures.good m good))

pub returns-in-Some-clause-images : goal.returns-in-Some-clause-images
returns-in-Some-clause-images g c m good =
    let r = g.G.Rig in
    let old = c.args.c.now.rig in
    let mid = c.sync_device.new.c.rig in
    let new = c.settle_log.new.c.rig in
    span-still (r.moment old) (r.seen mid) (r.seen new) (r.leaves mid) (r.leaves new) (r.moment mid) (r.moment new) (r.since mid)
    (r.since new) c.settle_log.ensures.stays (Stands m Pending.Idle) (c.sync_device.ensures.images m good)

pub returns-in-None-clause-good : goal.returns-in-None-clause-good
returns-in-None-clause-good g c ok m good =
    let r = g.G.Rig in
    let mid = c.sync_device.new.c in
    c.unmark_disk.ensures.good m
    (subst (λ (x : Parts). Good (r.seen mid.rig) (r.leaves mid.rig) Pending.Idle x m) (sym c.sync_device.ensures.parts)
    (c.sync_device.ensures.good m good))

pub returns-in-None-clause-images : goal.returns-in-None-clause-images
returns-in-None-clause-images g c m good =
    let r = g.G.Rig in
    subst (λ rig. Span (r.moment c.args.c.now.rig) (r.since rig) (Stands m Pending.Idle)) (sym c.unmark_disk.ensures.rig)
    (c.sync_device.ensures.images m good)

pub returns-then-is_err-clause-less : goal.returns-then-is_err-clause-less
returns-then-is_err-clause-less g c =
    let r = g.G.Rig in
    subst (λ rig. Less (r.leaves c.args.c.now.rig) (r.leaves rig)) (sym c.down.ensures.rig) c.sync_device.ensures.less

pub returns-in-Some-clause-less : goal.returns-in-Some-clause-less
returns-in-Some-clause-less g c d bytes left =
    c.sync_device.ensures.less d bytes ((c.settle_log.ensures.stays.outcomes d bytes).0 left)

pub returns-in-None-clause-less : goal.returns-in-None-clause-less
returns-in-None-clause-less g c =
    let r = g.G.Rig in
    subst (λ rig. Less (r.leaves c.args.c.now.rig) (r.leaves rig)) (sym c.unmark_disk.ensures.rig) c.sync_device.ensures.less
