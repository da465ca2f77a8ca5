use Rattle.std.proofs.Common.{Bool, ◌∙◌, subst}
use Rattle.std.proofs.lemmas.Result.{err_from_is_err_and}
use Rattle.sd_world.specs.Serving.{Telling, telling}
use Rattle.sd_drive.specs.Reaching.{Undoes}
use Rattle.sd_drive.proofs.Undoing.{at-last, at-next, at-rolls, at-some}
use Rattle.sd_drive.proofs.driver.Driver.undo_all.Goals as goal

pub undo-requires : goal.undo-requires
undo-requires g c =
    let tell : Telling _ = telling g.G.Rig.seen g.G.Rig.leaves g.G.Rig.moment g.G.Rig.since g.G.Rig.faults in
    record { at = at-rolls tell c.args.line.now c.args.txn.now c.args.self.now c.loop.self c.loop.invariant.on c.requires.at }

pub returns-in_err-undo-clause-memory : goal.returns-in_err-undo-clause-memory
returns-in_err-undo-clause-memory g c =
    let tell : Telling _ = telling g.G.Rig.seen g.G.Rig.leaves g.G.Rig.moment g.G.Rig.since g.G.Rig.faults in
    let p = err_from_is_err_and c.from_residual.result c.from_residual.ensures.1 in
    rw p.1 (at-some tell c.args.line.now c.args.txn.now c.args.self.now c.loop.self c.loop.invariant.on c.undo.new.self c.in_err-undo.ensures.memory)

pub loop-preserved : goal.loop-preserved
loop-preserved g c =
    let tell : Telling _ = telling g.G.Rig.seen g.G.Rig.leaves g.G.Rig.moment g.G.Rig.since g.G.Rig.faults in
    record {
      on = at-next tell c.args.line.now c.args.txn.now c.args.self.now c.loop.self c.loop.invariant.on c.undo.new.self
          (subst (λ (b : Bool). Undoes tell c.loop.self c.undo.new.self c.args.line.now c.args.txn.now b) c.if-branch.true c.in_ok-undo.ensures.undone);
      same = (c.undo.ensures.same.0 ∙ c.loop.invariant.same.0, c.undo.ensures.same.1 ∙ c.loop.invariant.same.1);
    }

pub returns-clause-driven : goal.returns-clause-driven
returns-clause-driven g c =
    let tell : Telling _ = telling g.G.Rig.seen g.G.Rig.leaves g.G.Rig.moment g.G.Rig.since g.G.Rig.faults in
    at-last tell c.args.line.now c.args.txn.now c.args.self.now c.loop.self c.loop.invariant.on c.undo.new.self
    (subst (λ (b : Bool). Undoes tell c.loop.self c.undo.new.self c.args.line.now c.args.txn.now b) c.if-branch.false c.in_ok-undo.ensures.undone)
