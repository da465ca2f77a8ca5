use Rattle.std.proofs.Common.{◌+◌, sym, ◌∙◌}
use Rattle.sd_world.specs.Serving.{Telling, telling}
use Rattle.sd_drive.specs.Driving.{Cursor}
use Rattle.sd_drive.specs.Emptying.{copies_from, stands_at}
use Rattle.sd_drive.proofs.Helps.{on-ok-map}
use Rattle.sd_drive.proofs.Pools.{breaks-then, opens-fit, opens-in, opens-then, page-goes, page-stays, page-written, stops-then}
use Rattle.sd_drive.proofs.opening.Rise.let_go.Goals as goal

pub going_of-requires : goal.going_of-requires
going_of-requires g c =
    let tell : Telling g.row.G.Denot = telling g.G.Rig.seen g.G.Rig.leaves g.G.Rig.moment g.G.Rig.since g.G.Rig.faults in
    record { fits = opens-fit tell c.args.self.now (copies_from c.args.inst c.args.page) c.requires.at }

pub returns-in-Stays-clause-gone : goal.returns-in-Stays-clause-gone
returns-in-Stays-clause-gone g c =
    let tell : Telling g.row.G.Denot = telling g.G.Rig.seen g.G.Rig.leaves g.G.Rig.moment g.G.Rig.since g.G.Rig.faults in
    page-stays tell c.args.self.now c.args.inst c.args.page c.requires.low c.requires.high c.requires.range (sym c.going_of.ensures ∙ c.in-Stays.is)

pub evict-requires : goal.evict-requires
evict-requires g c =
    let tell : Telling g.row.G.Denot = telling g.G.Rig.seen g.G.Rig.leaves g.G.Rig.moment g.G.Rig.since g.G.Rig.faults in
    record {
      at = opens-in tell c.args.self.now c.args.self.now (copies_from c.args.inst c.args.page) (stands_at (Cursor.Evicts c.args.inst c.args.page))
          (page-goes tell c.args.self.now c.args.inst c.args.page c.requires.low c.requires.high c.requires.range (sym c.going_of.ensures ∙ c.in-Goes.is)) c.requires.at;
    }

pub returns-in-Goes-clause-gone : goal.returns-in-Goes-clause-gone
returns-in-Goes-clause-gone g c =
    let tell : Telling g.row.G.Denot = telling g.G.Rig.seen g.G.Rig.leaves g.G.Rig.moment g.G.Rig.since g.G.Rig.faults in
    on-ok-map c.evict.result _ _ (λ more. opens-then tell c.args.self.now c.args.self.now (copies_from c.args.inst c.args.page) (stands_at (Cursor.Evicts c.args.inst c.args.page))
    (page-goes tell c.args.self.now c.args.inst c.args.page c.requires.low c.requires.high c.requires.range (sym c.going_of.ensures ∙ c.in-Goes.is))
    c.evict.new.self (copies_from c.args.inst (c.args.page + 1)) more) c.evict.ensures.gone

pub returns-in-Goes-clause-memory : goal.returns-in-Goes-clause-memory
returns-in-Goes-clause-memory g c =
    let tell : Telling g.row.G.Denot = telling g.G.Rig.seen g.G.Rig.leaves g.G.Rig.moment g.G.Rig.since g.G.Rig.faults in
    λ is. stops-then tell c.args.self.now c.args.self.now (copies_from c.args.inst c.args.page) (stands_at (Cursor.Evicts c.args.inst c.args.page))
    (page-goes tell c.args.self.now c.args.inst c.args.page c.requires.low c.requires.high c.requires.range (sym c.going_of.ensures ∙ c.in-Goes.is)) c.evict.new.self (c.evict.ensures.memory is)

pub returns-in-Goes-clause-breaks : goal.returns-in-Goes-clause-breaks
returns-in-Goes-clause-breaks g c =
    let tell : Telling g.row.G.Denot = telling g.G.Rig.seen g.G.Rig.leaves g.G.Rig.moment g.G.Rig.since g.G.Rig.faults in
    λ is. breaks-then tell c.args.self.now c.args.self.now (copies_from c.args.inst c.args.page) (stands_at (Cursor.Evicts c.args.inst c.args.page))
    (page-goes tell c.args.self.now c.args.inst c.args.page c.requires.low c.requires.high c.requires.range (sym c.going_of.ensures ∙ c.in-Goes.is)) c.evict.new.self (c.evict.ensures.breaks is)

pub write_out-requires : goal.write_out-requires
write_out-requires g c =
    let tell : Telling g.row.G.Denot = telling g.G.Rig.seen g.G.Rig.leaves g.G.Rig.moment g.G.Rig.since g.G.Rig.faults in
    record {
      at = opens-in tell c.args.self.now c.args.self.now (copies_from c.args.inst c.args.page) (stands_at (Cursor.Flushes c.args.inst c.args.page))
          (page-written tell c.args.self.now c.args.inst c.args.page c.requires.low c.requires.high c.requires.range (sym c.going_of.ensures ∙ c.in-IsWritten.is)) c.requires.at;
    }

pub returns-in-IsWritten-clause-gone : goal.returns-in-IsWritten-clause-gone
returns-in-IsWritten-clause-gone g c =
    let tell : Telling g.row.G.Denot = telling g.G.Rig.seen g.G.Rig.leaves g.G.Rig.moment g.G.Rig.since g.G.Rig.faults in
    on-ok-map c.write_out.result _ _ (λ more. opens-then tell c.args.self.now c.args.self.now (copies_from c.args.inst c.args.page) (stands_at (Cursor.Flushes c.args.inst c.args.page))
    (page-written tell c.args.self.now c.args.inst c.args.page c.requires.low c.requires.high c.requires.range (sym c.going_of.ensures ∙ c.in-IsWritten.is))
    c.write_out.new.self (copies_from c.args.inst (c.args.page + 1)) more) c.write_out.ensures.gone

pub returns-in-IsWritten-clause-memory : goal.returns-in-IsWritten-clause-memory
returns-in-IsWritten-clause-memory g c =
    let tell : Telling g.row.G.Denot = telling g.G.Rig.seen g.G.Rig.leaves g.G.Rig.moment g.G.Rig.since g.G.Rig.faults in
    λ is. stops-then tell c.args.self.now c.args.self.now (copies_from c.args.inst c.args.page) (stands_at (Cursor.Flushes c.args.inst c.args.page))
    (page-written tell c.args.self.now c.args.inst c.args.page c.requires.low c.requires.high c.requires.range (sym c.going_of.ensures ∙ c.in-IsWritten.is)) c.write_out.new.self (c.write_out.ensures.memory is)

pub returns-in-IsWritten-clause-breaks : goal.returns-in-IsWritten-clause-breaks
returns-in-IsWritten-clause-breaks g c =
    let tell : Telling g.row.G.Denot = telling g.G.Rig.seen g.G.Rig.leaves g.G.Rig.moment g.G.Rig.since g.G.Rig.faults in
    λ is. breaks-then tell c.args.self.now c.args.self.now (copies_from c.args.inst c.args.page) (stands_at (Cursor.Flushes c.args.inst c.args.page))
    (page-written tell c.args.self.now c.args.inst c.args.page c.requires.low c.requires.high c.requires.range (sym c.going_of.ensures ∙ c.in-IsWritten.is)) c.write_out.new.self (c.write_out.ensures.breaks is)
