use Rattle.sd_state.specs.Complexes.{parts}
use Rattle.sd_state.specs.Values.{Pending}
use Rattle.sd_state.proofs.LockReads.{unchanged-good}
use Rattle.sd_one.proofs.Ready.{ready}
use Rattle.sd_one.proofs.starting.arm.Goals as goal

pub returns : goal.returns
returns g c =
    let old = c.args.c.now.rig in
    let new = c.arm.new.self in
    ready c.requires.idle (unchanged-good (g.G.Rig.seen old) (g.G.Rig.seen new) (g.G.Rig.leaves old) (g.G.Rig.leaves new)
    (g.G.Rig.moment old) (g.G.Rig.moment new) (g.G.Rig.since old) (g.G.Rig.since new) c.arm.ensures.stays Pending.Idle
    (parts c.args.c.now) c.requires.m c.requires.good (λ d le. g.met.G.Rig.leaves_seen new d le))
