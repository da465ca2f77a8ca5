use Rattle.std.proofs.Common.{false}
use Rattle.sd_rig.specs.Spans.{span-step}
use Rattle.sd_state.specs.Complexes.{parts}
use Rattle.sd_state.specs.Images.{Stands}
use Rattle.sd_state.proofs.Standing.{left-stands}
use Rattle.sd_moves.specs.Putting.{with_loose_disk}
use Rattle.sd_moves.proofs.PutSynced.{synced-good, unsynced-good}
use Rattle.sd_moves.proofs.writing.settle_disk.Goals as goal

-- nothing happened
pub returns-then-not-index-clause-images : goal.returns-then-not-index-clause-images
returns-then-not-index-clause-images g c pend m good =
    let rig = c.args.c.now.rig in
    record {
      each = λ img since. left-stands (g.G.Rig.leaves rig) (g.G.Rig.seen rig) img pend (parts c.args.c.now) m good
          (g.met.G.Rig.only_now rig img since);
    }

pub returns-in_err-sync-clause-good : goal.returns-in_err-sync-clause-good
returns-in_err-sync-clause-good g c pend m good =
    let r = g.G.Rig in
    let old = c.args.c.now.rig in
    let new = c.sync.new.self in
    unsynced-good (r.seen old) (r.seen new) (r.leaves old) (r.leaves new) pend (parts c.args.c.now) m good
    (λ d le. g.met.G.Rig.leaves_seen old d le) (λ d le. g.met.G.Rig.leaves_seen new d le) c.sync.ensures.seen
    c.sync.ensures.others_leave c.in_err-sync.ensures.stays

pub returns-in_err-sync-clause-images : goal.returns-in_err-sync-clause-images
returns-in_err-sync-clause-images g c pend m good =
    let r = g.G.Rig in
    let old = c.args.c.now.rig in
    let new = c.sync.new.self in
    span-step (r.moment old) (r.since new) (r.leaves old) (r.leaves new) (Stands m pend) c.sync.ensures.step
    (λ img left. left-stands (r.leaves old) (r.seen old) img pend (parts c.args.c.now) m good left)
    (λ img left. left-stands (r.leaves new) (r.seen new) img pend (parts c.args.c.now) m
    (unsynced-good (r.seen old) (r.seen new) (r.leaves old) (r.leaves new) pend (parts c.args.c.now) m good
    (λ d le. g.met.G.Rig.leaves_seen old d le) (λ d le. g.met.G.Rig.leaves_seen new d le) c.sync.ensures.seen
    c.sync.ensures.others_leave c.in_err-sync.ensures.stays) left)

pub returns-clause-good : goal.returns-clause-good
returns-clause-good g c pend m good =
    let r = g.G.Rig in
    let old = c.args.c.now.rig in
    let new = c.sync.new.self in
    synced-good (r.seen old) (r.seen new) (r.leaves old) (r.leaves new) pend (parts c.args.c.now) m good
    (λ d le. g.met.G.Rig.leaves_seen old d le) (λ d le. g.met.G.Rig.leaves_seen new d le) c.sync.ensures.seen
    c.sync.ensures.others_leave c.in_ok-sync.ensures.durable

pub returns-clause-images : goal.returns-clause-images
returns-clause-images g c pend m good =
    let r = g.G.Rig in
    let old = c.args.c.now.rig in
    let new = c.sync.new.self in
    span-step (r.moment old) (r.since new) (r.leaves old) (r.leaves new) (Stands m pend) c.sync.ensures.step
    (λ img left. left-stands (r.leaves old) (r.seen old) img pend (parts c.args.c.now) m good left)
    (λ img left. left-stands (r.leaves new) (r.seen new) img pend (with_loose_disk false (parts c.args.c.now)) m
    (synced-good (r.seen old) (r.seen new) (r.leaves old) (r.leaves new) pend (parts c.args.c.now) m good
    (λ d le. g.met.G.Rig.leaves_seen old d le) (λ d le. g.met.G.Rig.leaves_seen new d le) c.sync.ensures.seen
    c.sync.ensures.others_leave c.in_ok-sync.ensures.durable) left)
