use Rattle.std.proofs.Common.{refl}
use Rattle.std.proofs.lemmas.Result.{err_from_is_err_and}
use Rattle.sd_world.specs.Serving.{Telling, telling}
use Rattle.sd_drive.specs.Driving.{Cursor}
use Rattle.sd_drive.specs.Emptying.{stands_at}
use Rattle.sd_drive.proofs.Pools.{evict-breaks, evicted, opens-somewhere, stays-stops}
use Rattle.sd_drive.proofs.opening.Rise.evict.Goals as goal

pub open_by-requires-clause-at : goal.open_by-requires-clause-at
open_by-requires-clause-at g c =
    let tell : Telling g.row.G.Denot = telling g.G.Rig.seen g.G.Rig.leaves g.G.Rig.moment g.G.Rig.since g.G.Rig.faults in
    opens-somewhere tell c.args.self.now (stands_at (Cursor.Evicts c.args.inst c.args.page)) c.requires.at

pub open_by-requires-clause-alone : goal.open_by-requires-clause-alone
open_by-requires-clause-alone g c = λ m. refl

pub returns-in_err-open_by-clause-memory : goal.returns-in_err-open_by-clause-memory
returns-in_err-open_by-clause-memory g c =
    let tell : Telling g.row.G.Denot = telling g.G.Rig.seen g.G.Rig.leaves g.G.Rig.moment g.G.Rig.since g.G.Rig.faults in
    let p = err_from_is_err_and c.from_residual.result c.from_residual.ensures.1 in
    rw (p.1, p.2) (λ is. stays-stops tell c.args.self.now (Cursor.Evicts c.args.inst c.args.page) c.open_by.new.self (c.in_err-open_by.ensures.memory is))

pub returns-in_err-open_by-clause-breaks : goal.returns-in_err-open_by-clause-breaks
returns-in_err-open_by-clause-breaks g c =
    let tell : Telling g.row.G.Denot = telling g.G.Rig.seen g.G.Rig.leaves g.G.Rig.moment g.G.Rig.since g.G.Rig.faults in
    let p = err_from_is_err_and c.from_residual.result c.from_residual.ensures.1 in
    rw (p.1, p.2) (λ is. evict-breaks tell c.args.self.now c.open_by.new.self c.args.inst c.args.page (c.in_err-open_by.ensures.breaks is))

pub returns-clause-gone : goal.returns-clause-gone
returns-clause-gone g c =
    let tell : Telling g.row.G.Denot = telling g.G.Rig.seen g.G.Rig.leaves g.G.Rig.moment g.G.Rig.since g.G.Rig.faults in
    let h = c.in_ok-open_by.ensures.done in evicted tell c.args.self.now c.open_by.new.self c.args.inst c.args.page h.0 h.2
