use Rattle.std.proofs.Common.{refl}
use Rattle.sd_world.specs.Serving.{telling}
use Rattle.sd_recover.proofs.Armed.{armed}
use Rattle.sd_recover.proofs.arming.arm.Goals as goal

pub returns-clause-served : goal.returns-clause-served
returns-clause-served g c =
    let old = c.args.c.now in
    let tell = telling g.G.Rig.seen g.G.Rig.leaves g.G.Rig.moment g.G.Rig.since g.G.Rig.faults in
    let new = record old { rig = c.arm.new.self } in
    armed tell old new c.args.trouble (λ img since. g.met.G.Rig.only_now old.rig img since)
    (λ d le. g.met.G.Rig.leaves_seen new.rig d le) c.arm.ensures.stays refl c.arm.ensures.quiet
