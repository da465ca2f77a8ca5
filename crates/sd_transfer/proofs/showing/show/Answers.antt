use Rattle.sd_world.specs.Serving.{telling}
use Rattle.sd_transfer.proofs.Shown.{shown}
use Rattle.sd_transfer.proofs.showing.show.Goals as goal

pub returns : goal.returns
returns g c =
    let old = c.args.c.now in
    let tell = telling g.G.Rig.seen g.G.Rig.leaves g.G.Rig.moment g.G.Rig.since g.G.Rig.faults in
    record {
      served = shown tell old c.args.p (λ img since. g.met.G.Rig.only_now old.rig img since) c.entry-place.result
          c.newest_lsn-lsn.result c.entry-place.ensures c.newest_lsn-lsn.ensures;
    }
