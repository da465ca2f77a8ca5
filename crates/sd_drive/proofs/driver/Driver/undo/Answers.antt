use Rattle.std.proofs.Common.{refl, sym, ap, ◌∙◌}
use Rattle.std.proofs.lemmas.Result.{err_from_is_err_and}
use Rattle.sd_model.specs.declared.event.Event.TheVariants as event
use Rattle.sd_world.specs.Serving.{Telling, telling}
use Rattle.sd_model.specs.Replies.{is_step}
use Rattle.sd_drive.proofs.Operating.{came-some}
use Rattle.sd_drive.proofs.Undoing.{undo-due, undo-some, undone}
use Rattle.sd_drive.proofs.driver.Driver.undo.Goals as goal

pub operate-requires-clause-served : goal.operate-requires-clause-served
operate-requires-clause-served g c = tt

pub operate-requires-clause-due : goal.operate-requires-clause-due
operate-requires-clause-due g c =
    let tell : Telling _ = telling g.G.Rig.seen g.G.Rig.leaves g.G.Rig.moment g.G.Rig.since g.G.Rig.faults in
    undo-due tell c.args.self.now c.args.line.now c.args.txn.now c.requires.at

pub returns-in_err-operate-clause-memory : goal.returns-in_err-operate-clause-memory
returns-in_err-operate-clause-memory g c =
    let tell : Telling _ = telling g.G.Rig.seen g.G.Rig.leaves g.G.Rig.moment g.G.Rig.since g.G.Rig.faults in
    let p = err_from_is_err_and c.from_residual.result c.from_residual.ensures.1 in
    rw p.1 (undo-some tell c.args.self.now c.args.line.now c.args.txn.now (record c.args.self.now { hall = c.operate.new.hall })
    c.in_err-operate.ensures.memory)

pub last-requires : goal.last-requires
last-requires g c =
    let tell : Telling _ = telling g.G.Rig.seen g.G.Rig.leaves g.G.Rig.moment g.G.Rig.since g.G.Rig.faults in
    came-some tell c.args.self.now.hall c.operate.new.hall c.args.line.now.session c.args.line.now.number (event.Undo c.args.txn.now)
    c.in_ok-operate.ensures.done (undo-due tell c.args.self.now c.args.line.now c.args.txn.now c.requires.at)

pub returns-clause-undone : goal.returns-clause-undone
returns-clause-undone g c =
    let tell : Telling _ = telling g.G.Rig.seen g.G.Rig.leaves g.G.Rig.moment g.G.Rig.since g.G.Rig.faults in
    let i = c.keeps.ensures in
    undone tell c.args.self.now c.args.line.now c.args.txn.now (record c.args.self.now { hall = c.operate.new.hall }) (refl, refl) refl
    c.in_ok-operate.ensures.done c.is_step.result
    (λ before r noted. sym (ap is_step (c.last.ensures before _ noted)) ∙ sym c.is_step.ensures)
    i.low i.high c.requires.at
