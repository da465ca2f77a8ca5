use Rattle.std.proofs.Common.{◌++◌, ◌∷◌, [], refl, ap, ◌∙◌}
use Rattle.std.specs.Prelude.{Option}
use Rattle.std.proofs.lemmas.Result.{err_from_is_err_and}
use Rattle.sd_base.specs.declared.ids.TxnId.{TxnId}
use Rattle.sd_model.specs.declared.event.Event.TheVariants as event
use Rattle.sd_world.specs.Serving.{Telling, telling}
use Rattle.sd_model.specs.Replies.{began_by}
use Rattle.sd_drive.proofs.Doing.{begin-came, begin-due, begin-lost, begin-some}
use Rattle.sd_drive.proofs.Operating.{came-some}
use Rattle.sd_drive.proofs.driver.Driver.begin.Goals as goal

pub operate-requires-clause-served : goal.operate-requires-clause-served
operate-requires-clause-served g c = tt

pub operate-requires-clause-due : goal.operate-requires-clause-due
operate-requires-clause-due g c =
    let tell : Telling _ = telling g.G.Rig.seen g.G.Rig.leaves g.G.Rig.moment g.G.Rig.since g.G.Rig.faults in
    let b = c.requires.begins in
    begin-due tell c.args.self.now c.args.line.now c.args.inst b.0 b.1 c.requires.at

pub returns-in_err-operate-clause-memory : goal.returns-in_err-operate-clause-memory
returns-in_err-operate-clause-memory g c =
    let tell : Telling _ = telling g.G.Rig.seen g.G.Rig.leaves g.G.Rig.moment g.G.Rig.since g.G.Rig.faults in
    let p = err_from_is_err_and c.from_residual.result c.from_residual.ensures.1 in
    let b = c.requires.begins in
    rw p.1 (begin-some tell c.args.self.now c.args.line.now c.args.inst b.0 b.1 (record c.args.self.now { hall = c.operate.new.hall }) c.in_err-operate.ensures.memory)

pub returns-in_err-push-clause-memory : goal.returns-in_err-push-clause-memory
returns-in_err-push-clause-memory g c =
    let tell : Telling _ = telling g.G.Rig.seen g.G.Rig.leaves g.G.Rig.moment g.G.Rig.since g.G.Rig.faults in
    let p = err_from_is_err_and c.from_residual-in_err-push.result c.from_residual-in_err-push.ensures.1 in
    let b = c.requires.begins in
    let mid = record c.args.self.now { hall = c.operate.new.hall } in
    rw p.1 (begin-lost tell c.args.self.now c.args.line.now c.args.inst b.0 b.1 mid
    (record c.args.self.now { hall = c.operate.new.hall; txns = c.push.new.self }) refl c.in_ok-operate.ensures.done)

pub last-requires : goal.last-requires
last-requires g c =
    let tell : Telling _ = telling g.G.Rig.seen g.G.Rig.leaves g.G.Rig.moment g.G.Rig.since g.G.Rig.faults in
    let b = c.requires.begins in
    came-some tell c.args.self.now.hall c.operate.new.hall c.args.line.now.session c.args.line.now.number (event.Begin c.args.inst)
    c.in_ok-operate.ensures.done (begin-due tell c.args.self.now c.args.line.now c.args.inst b.0 b.1 c.requires.at)

pub returns-clause-driven : goal.returns-clause-driven
returns-clause-driven g c =
    let tell : Telling _ = telling g.G.Rig.seen g.G.Rig.leaves g.G.Rig.moment g.G.Rig.since g.G.Rig.faults in
    let b = c.requires.begins in
    begin-came tell c.args.self.now c.args.line.now c.args.inst b.0 b.1 (record c.args.self.now { hall = c.operate.new.hall })
    (record c.args.self.now { hall = c.operate.new.hall; txns = c.push.new.self }) (refl, refl) refl c.in_ok-operate.ensures.done
    (λ before r noted. c.in_ok-push.ensures.items
    ∙ ap (λ (o : Option TxnId). c.args.self.now.txns.items ++ o ∷ []) (c.began-txn.ensures ∙ ap began_by (c.last.ensures before _ noted)))
