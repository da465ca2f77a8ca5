use Rattle.std.proofs.Common.{◌<◌, arith}
use Rattle.sd_state.specs.Complexes.{parts}
use Rattle.sd_state.proofs.LockReads.{named-well, seen-sound, unchanged-good, unchanged-stands}
use Rattle.sd_state.proofs.complex.Complex.read_disk.Goals as goal

pub image_of-image-requires-clause-well : goal.image_of-image-requires-clause-well
image_of-image-requires-clause-well g c =
    let rig = c.args.self.now.rig in
    let small : c.args.p < 1024 = omega (arith, c.get.ensures.value, c.get.ensures.range) in
    named-well c.args.p _ (g.G.Rig.seen rig 0) _
    (seen-sound (g.G.Rig.seen rig) (g.G.Rig.leaves rig) c.requires.good.0 (parts c.args.self.now) c.requires.good.1
    c.requires.good.2
    (g.met.G.Rig.leaves_seen rig 0 (omega arith)) c.args.p small)
    (omega (arith, c.get.ensures.value, c.from.ensures)) c.in_ok-chosen.ensures.body

pub returns-in_err-chosen-clause-good : goal.returns-in_err-chosen-clause-good
returns-in_err-chosen-clause-good g c pend m good =
    let old = c.args.self.now.rig in
    let new = c.choose.new.rig in
    unchanged-good (g.G.Rig.seen old) (g.G.Rig.seen new) (g.G.Rig.leaves old) (g.G.Rig.leaves new)
    (g.G.Rig.moment old) (g.G.Rig.moment new) (g.G.Rig.since old) (g.G.Rig.since new) c.choose.ensures.stays pend
    (parts c.args.self.now) m good
    (λ d le. g.met.G.Rig.leaves_seen new d le)

pub returns-in_err-chosen-clause-images : goal.returns-in_err-chosen-clause-images
returns-in_err-chosen-clause-images g c pend m good =
    let old = c.args.self.now.rig in
    let new = c.choose.new.rig in
    unchanged-stands (g.G.Rig.seen old) (g.G.Rig.seen new) (g.G.Rig.leaves old) (g.G.Rig.leaves new)
    (g.G.Rig.moment old) (g.G.Rig.moment new) (g.G.Rig.since old) (g.G.Rig.since new) c.choose.ensures.stays pend
    (parts c.args.self.now) m good
    (λ img since. g.met.G.Rig.only_now old img since)

pub returns-in_err-new-clause-good : goal.returns-in_err-new-clause-good
returns-in_err-new-clause-good g c pend m good =
    let old = c.args.self.now.rig in
    let new = c.choose.new.rig in
    unchanged-good (g.G.Rig.seen old) (g.G.Rig.seen new) (g.G.Rig.leaves old) (g.G.Rig.leaves new)
    (g.G.Rig.moment old) (g.G.Rig.moment new) (g.G.Rig.since old) (g.G.Rig.since new) c.choose.ensures.stays pend
    (parts c.args.self.now) m good
    (λ d le. g.met.G.Rig.leaves_seen new d le)

pub returns-in_err-new-clause-images : goal.returns-in_err-new-clause-images
returns-in_err-new-clause-images g c pend m good =
    let old = c.args.self.now.rig in
    let new = c.choose.new.rig in
    unchanged-stands (g.G.Rig.seen old) (g.G.Rig.seen new) (g.G.Rig.leaves old) (g.G.Rig.leaves new)
    (g.G.Rig.moment old) (g.G.Rig.moment new) (g.G.Rig.since old) (g.G.Rig.since new) c.choose.ensures.stays pend
    (parts c.args.self.now) m good
    (λ img since. g.met.G.Rig.only_now old img since)

pub returns-clause-good : goal.returns-clause-good
returns-clause-good g c pend m good =
    let old = c.args.self.now.rig in
    let new = c.choose.new.rig in
    unchanged-good (g.G.Rig.seen old) (g.G.Rig.seen new) (g.G.Rig.leaves old) (g.G.Rig.leaves new)
    (g.G.Rig.moment old) (g.G.Rig.moment new) (g.G.Rig.since old) (g.G.Rig.since new) c.choose.ensures.stays pend
    (parts c.args.self.now) m good
    (λ d le. g.met.G.Rig.leaves_seen new d le)

pub returns-clause-images : goal.returns-clause-images
returns-clause-images g c pend m good =
    let old = c.args.self.now.rig in
    let new = c.choose.new.rig in
    unchanged-stands (g.G.Rig.seen old) (g.G.Rig.seen new) (g.G.Rig.leaves old) (g.G.Rig.leaves new)
    (g.G.Rig.moment old) (g.G.Rig.moment new) (g.G.Rig.since old) (g.G.Rig.since new) c.choose.ensures.stays pend
    (parts c.args.self.now) m good
    (λ img since. g.met.G.Rig.only_now old img since)
