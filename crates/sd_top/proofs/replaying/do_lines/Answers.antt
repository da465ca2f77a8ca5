use Rattle.std.proofs.Common.{true}
use Rattle.sd_world.specs.Serving.{Telling, telling}
use Rattle.sd_drive.specs.Running.{told_as}
use Rattle.sd_top.specs.Opening.{opening}
use Rattle.sd_top.proofs.Answered.{driven_by, ended_by}
use Rattle.sd_top.proofs.replaying.do_lines.Goals as goal

pub close-book-requires : goal.close-book-requires
close-book-requires g c =
    let tell : Telling g.row.G.Denot = telling g.G.Rig.seen g.G.Rig.leaves g.G.Rig.moment g.G.Rig.since g.G.Rig.faults in
    let (rig, w, o) = c.requires.opened in
    let start = told_as (opening c.args.lines.now (g.G.Rig.seen rig) o.now c.args.driver.hall.book.opening) true in
    let driven = driven_by tell c.args.lines.now rig c.args.driver c.replay-done.new.self w c.replay-done.result o in
    let (last, there, all) = driven c.replay-done.ensures.told c.replay-done.ensures.memory in
    record { kept = (start.world.core, there.keeps) }

pub replay-done-requires-clause-at : goal.replay-done-requires-clause-at
replay-done-requires-clause-at g c =
    let (rig, w, o) = c.requires.opened in
    (told_as (opening c.args.lines.now (g.G.Rig.seen rig) o.now c.args.driver.hall.book.opening) true, w, o.reached)

pub returns : goal.returns
returns g c = λ rig w o.
    let tell : Telling g.row.G.Denot = telling g.G.Rig.seen g.G.Rig.leaves g.G.Rig.moment g.G.Rig.since g.G.Rig.faults in
    ended_by tell c.args.lines.now rig c.args.driver c.replay-done.new.self w _ (λ r dev le. g.met.G.Rig.leaves_seen r dev le) o
    c.replay-done.ensures.told c.replay-done.ensures.memory c.close-book.ensures.book c.close-book.ensures.rig
