use Rattle.std.proofs.Common.{◌+◌, refl, ◌∙◌}
use Rattle.std.proofs.lemmas.Result.{err_from_is_err_and}
use Rattle.sd_world.specs.Serving.{Telling, telling}
use Rattle.sd_drive.specs.Driving.{Cursor}
use Rattle.sd_drive.specs.Emptying.{copies_from, stands_at}
use Rattle.sd_drive.proofs.Helps.{on-ok-map}
use Rattle.sd_drive.proofs.Pools.{breaks-then, flush-breaks, opens-in, opens-somewhere, opens-then, stays-stops, stops-then, written, written-not}
use Rattle.sd_drive.proofs.opening.Rise.write_out.Goals as goal

pub open_by-requires-clause-at : goal.open_by-requires-clause-at
open_by-requires-clause-at g c =
    let tell : Telling g.row.G.Denot = telling g.G.Rig.seen g.G.Rig.leaves g.G.Rig.moment g.G.Rig.since g.G.Rig.faults in
    opens-somewhere tell c.args.self.now (stands_at (Cursor.Flushes c.args.inst c.args.page)) c.requires.at

pub open_by-requires-clause-alone : goal.open_by-requires-clause-alone
open_by-requires-clause-alone g c = λ m. refl

pub returns-in_err-open_by-clause-memory : goal.returns-in_err-open_by-clause-memory
returns-in_err-open_by-clause-memory g c =
    let tell : Telling g.row.G.Denot = telling g.G.Rig.seen g.G.Rig.leaves g.G.Rig.moment g.G.Rig.since g.G.Rig.faults in
    let p = err_from_is_err_and c.from_residual.result c.from_residual.ensures.1 in
    rw (p.1, p.2) (λ is. stays-stops tell c.args.self.now (Cursor.Flushes c.args.inst c.args.page) c.open_by.new.self (c.in_err-open_by.ensures.memory is))

pub returns-in_err-open_by-clause-breaks : goal.returns-in_err-open_by-clause-breaks
returns-in_err-open_by-clause-breaks g c =
    let tell : Telling g.row.G.Denot = telling g.G.Rig.seen g.G.Rig.leaves g.G.Rig.moment g.G.Rig.since g.G.Rig.faults in
    let p = err_from_is_err_and c.from_residual.result c.from_residual.ensures.1 in
    rw (p.1, p.2) (λ is. flush-breaks tell c.args.self.now c.open_by.new.self c.args.inst c.args.page (c.in_err-open_by.ensures.breaks is))

pub returns-then-not-branch-clause-gone : goal.returns-then-not-branch-clause-gone
returns-then-not-branch-clause-gone g c =
    let tell : Telling g.row.G.Denot = telling g.G.Rig.seen g.G.Rig.leaves g.G.Rig.moment g.G.Rig.since g.G.Rig.faults in
    let h = c.in_ok-open_by.ensures.done in
    written-not tell c.args.self.now c.open_by.new.self c.args.inst c.args.page h.0 h.2 (h.1 ∙ c.if-not-branch.true)

pub evict-requires : goal.evict-requires
evict-requires g c =
    let tell : Telling g.row.G.Denot = telling g.G.Rig.seen g.G.Rig.leaves g.G.Rig.moment g.G.Rig.since g.G.Rig.faults in
    let h = c.in_ok-open_by.ensures.done in
    record {
      at = opens-in tell c.args.self.now c.open_by.new.self (stands_at (Cursor.Flushes c.args.inst c.args.page)) (stands_at (Cursor.Evicts c.args.inst c.args.page))
          (written tell c.args.self.now c.open_by.new.self c.args.inst c.args.page h.0 h.2 (h.1 ∙ c.if-not-branch.false)) c.requires.at;
    }

pub returns-clause-gone : goal.returns-clause-gone
returns-clause-gone g c =
    let tell : Telling g.row.G.Denot = telling g.G.Rig.seen g.G.Rig.leaves g.G.Rig.moment g.G.Rig.since g.G.Rig.faults in
    let h = c.in_ok-open_by.ensures.done in
    on-ok-map c.evict.result _ _ (λ more. opens-then tell c.args.self.now c.open_by.new.self (stands_at (Cursor.Flushes c.args.inst c.args.page)) (stands_at (Cursor.Evicts c.args.inst c.args.page))
    (written tell c.args.self.now c.open_by.new.self c.args.inst c.args.page h.0 h.2 (h.1 ∙ c.if-not-branch.false))
    c.evict.new.self (copies_from c.args.inst (c.args.page + 1)) more) c.evict.ensures.gone

pub returns-clause-memory : goal.returns-clause-memory
returns-clause-memory g c =
    let tell : Telling g.row.G.Denot = telling g.G.Rig.seen g.G.Rig.leaves g.G.Rig.moment g.G.Rig.since g.G.Rig.faults in
    let h = c.in_ok-open_by.ensures.done in
    λ is. stops-then tell c.args.self.now c.open_by.new.self (stands_at (Cursor.Flushes c.args.inst c.args.page)) (stands_at (Cursor.Evicts c.args.inst c.args.page))
    (written tell c.args.self.now c.open_by.new.self c.args.inst c.args.page h.0 h.2 (h.1 ∙ c.if-not-branch.false)) c.evict.new.self (c.evict.ensures.memory is)

pub returns-clause-breaks : goal.returns-clause-breaks
returns-clause-breaks g c =
    let tell : Telling g.row.G.Denot = telling g.G.Rig.seen g.G.Rig.leaves g.G.Rig.moment g.G.Rig.since g.G.Rig.faults in
    let h = c.in_ok-open_by.ensures.done in
    λ is. breaks-then tell c.args.self.now c.open_by.new.self (stands_at (Cursor.Flushes c.args.inst c.args.page)) (stands_at (Cursor.Evicts c.args.inst c.args.page))
    (written tell c.args.self.now c.open_by.new.self c.args.inst c.args.page h.0 h.2 (h.1 ∙ c.if-not-branch.false)) c.evict.new.self (c.evict.ensures.breaks is)
