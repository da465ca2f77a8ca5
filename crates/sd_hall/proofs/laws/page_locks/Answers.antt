use Rattle.std.specs.Prelude.{false}
use Rattle.sd_state.proofs.Standing.{one-may-update, each-copy-is-newest}
use Rattle.sd_state.specs.Complexes.{parts}
use Rattle.sd_state.specs.Values.{Pending}
use Rattle.sd_world.specs.Serving.{Telling, telling}
use Rattle.sd_hall.proofs.LedgerBodies.{open-fits}
use Rattle.sd_hall.proofs.laws.page_locks.Goals as goal

pub returns : goal.returns
returns g c =
    let tell : Telling _ = telling g.G.Rig.seen g.G.Rig.leaves g.G.Rig.moment g.G.Rig.since g.G.Rig.faults in
    let k = c.requires.kept.1 in
    let m = k.core.scene.state in
    let body = c.args.hall.now.body in
    record {
      one = λ x is. one-may-update (g.G.Rig.leaves x.rig) (g.G.Rig.seen x.rig) Pending.Idle (parts x) m
          (open-fits tell body k.core k.fits x is).good;
      held = λ x is p i has. (each-copy-is-newest (g.G.Rig.leaves x.rig) (g.G.Rig.seen x.rig) Pending.Idle (parts x) m
          (open-fits tell body k.core k.fits x is).good p i).0 has;
      newest = λ x is p i page at. (each-copy-is-newest (g.G.Rig.leaves x.rig) (g.G.Rig.seen x.rig) Pending.Idle (parts x) m
          (open-fits tell body k.core k.fits x is).good p i).1 page at;
      moving = λ x is p. ((open-fits tell body k.core k.fits x is).good.half (λ j. false)).coherent.moving p;
    }
