use Rattle.std.proofs.Common.{List, refl, sym, subst, arith}
use Rattle.sd_model.specs.declared.event.Entry.{Entry}
use Rattle.sd_recovered.specs.Devices.{IsRecovered}
use Rattle.sd_state.specs.Complexes.{parts}
use Rattle.sd_world.specs.Leading.{Leads}
use Rattle.sd_world.specs.Serving.{Telling, telling}
use Rattle.sd_fits.specs.Opened.{opening_core}
use Rattle.sd_hall.proofs.Opening.{opened-on, opening-fits}
use Rattle.sd_hall.proofs.LedgerOpening.{opening-few, opening-owes}
use Rattle.sd_hall.proofs.hall.Hall.open.Goals as goal

pub returns-clause-keeps : goal.returns-clause-keeps
returns-clause-keeps g c =
    let tell : Telling _ = telling g.G.Rig.seen g.G.Rig.leaves g.G.Rig.moment g.G.Rig.since g.G.Rig.faults in
    let old = c.args.rig in
    let frames = c.args.shape.frames in
    let x = c.in_ok-complex.complex in
    let k = c.in_ok-complex.ensures in
    let core = opening_core frames (g.G.Rig.seen old) in
    let size = g.met.G.Rig.whole old 0 (g.G.Rig.seen old 0) (omega arith) (g.met.G.Rig.leaves_seen old 0 (omega arith)) in
    let on = opened-on tell old x.rig k.calms frames (parts x) size k.settled k.opened in
    let none = opening-owes (g.G.Rig.seen old) in
    record {
      core = core;
      leads = subst (λ (es : List Entry). Leads core es core) (sym c.new.ensures.entries) refl;
      fits = opening-fits tell old x.rig k.calms frames (parts x) on;
      frames = refl;
      least = c.requires.least;
      most = c.requires.most;
      few = opening-few (g.G.Rig.seen old);
      counted = omega (arith, none);
      room = omega arith;
    }

pub returns-clause-recovered : goal.returns-clause-recovered
returns-clause-recovered g c =
    subst (λ table. IsRecovered (g.G.Rig.seen c.args.rig) table) (sym c.new.ensures.opening) c.in_ok-complex.ensures.recovered

pub returns-clause-first : goal.returns-clause-first
returns-clause-first g c =
    let tell : Telling _ = telling g.G.Rig.seen g.G.Rig.leaves g.G.Rig.moment g.G.Rig.since g.G.Rig.faults in
    let old = c.args.rig in
    let x = c.in_ok-complex.complex in
    let k = c.in_ok-complex.ensures in
    let size = g.met.G.Rig.whole old 0 (g.G.Rig.seen old 0) (omega arith) (g.met.G.Rig.leaves_seen old 0 (omega arith)) in
    let on = opened-on tell old x.rig k.calms c.args.shape.frames (parts x) size k.settled k.opened in
    λ p. (on.opened.pages p).first
