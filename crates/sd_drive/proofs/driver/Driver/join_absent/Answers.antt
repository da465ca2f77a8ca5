use Rattle.std.proofs.Common.{refl, sym, ap, ◌∙◌}
use Rattle.std.proofs.lemmas.Result.{err_from_is_err_and}
use Rattle.sd_model.specs.declared.event.Event.TheVariants as event
use Rattle.sd_world.specs.Serving.{Telling, telling}
use Rattle.sd_base.specs.Standing.{is_up}
use Rattle.sd_model.specs.Replies.{is_joined}
use Rattle.sd_drive.proofs.Joining.{joined, joins-due, joins-fit, joins-some, joins-up}
use Rattle.sd_drive.proofs.Operating.{came-some}
use Rattle.sd_drive.proofs.driver.Driver.join_absent.Goals as goal

pub status_of-requires : goal.status_of-requires
status_of-requires g c =
    let tell : Telling _ = telling g.G.Rig.seen g.G.Rig.leaves g.G.Rig.moment g.G.Rig.since g.G.Rig.faults in
    record { fits = joins-fit tell c.args.self.now c.args.line.now c.requires.joins c.args.inst c.requires.at }

pub returns-then-is_up-clause-joined : goal.returns-then-is_up-clause-joined
returns-then-is_up-clause-joined g c =
    let tell : Telling _ = telling g.G.Rig.seen g.G.Rig.leaves g.G.Rig.moment g.G.Rig.since g.G.Rig.faults in
    joins-up tell c.args.self.now c.args.line.now c.requires.joins c.args.inst c.requires.low c.requires.high c.requires.within
    (sym (ap is_up c.status_of.ensures) ∙ sym c.is_up.ensures ∙ c.if-is_up.true)

pub operate-requires-clause-due : goal.operate-requires-clause-due
operate-requires-clause-due g c =
    let tell : Telling _ = telling g.G.Rig.seen g.G.Rig.leaves g.G.Rig.moment g.G.Rig.since g.G.Rig.faults in
    joins-due tell c.args.self.now c.args.line.now c.requires.joins c.args.inst c.requires.low c.requires.high c.requires.within
    (sym (ap is_up c.status_of.ensures) ∙ sym c.is_up.ensures ∙ c.if-is_up.false) c.requires.at

pub returns-in_err-operate-clause-memory : goal.returns-in_err-operate-clause-memory
returns-in_err-operate-clause-memory g c =
    let tell : Telling _ = telling g.G.Rig.seen g.G.Rig.leaves g.G.Rig.moment g.G.Rig.since g.G.Rig.faults in
    let p = err_from_is_err_and c.from_residual.result c.from_residual.ensures.1 in
    rw p.1 (joins-some tell c.args.self.now c.args.line.now c.requires.joins c.args.inst c.requires.low c.requires.high c.requires.within
    (sym (ap is_up c.status_of.ensures) ∙ sym c.is_up.ensures ∙ c.if-is_up.false) (record c.args.self.now { hall = c.operate.new.hall })
    c.in_err-operate.ensures.memory)

pub last-requires : goal.last-requires
last-requires g c =
    let tell : Telling _ = telling g.G.Rig.seen g.G.Rig.leaves g.G.Rig.moment g.G.Rig.since g.G.Rig.faults in
    came-some tell c.args.self.now.hall c.operate.new.hall c.args.line.now.session c.args.line.now.number (event.Join c.args.inst)
    c.in_ok-operate.ensures.done
    (joins-due tell c.args.self.now c.args.line.now c.requires.joins c.args.inst c.requires.low c.requires.high c.requires.within
    (sym (ap is_up c.status_of.ensures) ∙ sym c.is_up.ensures ∙ c.if-is_up.false) c.requires.at)

pub returns-clause-joined : goal.returns-clause-joined
returns-clause-joined g c =
    let tell : Telling _ = telling g.G.Rig.seen g.G.Rig.leaves g.G.Rig.moment g.G.Rig.since g.G.Rig.faults in
    joined tell c.args.self.now c.args.line.now c.requires.joins c.args.inst c.requires.low c.requires.high c.requires.within
    (sym (ap is_up c.status_of.ensures) ∙ sym c.is_up.ensures ∙ c.if-is_up.false) (record c.args.self.now { hall = c.operate.new.hall })
    c.in_ok-operate.ensures.done (refl, refl) refl c.is_joined.result
    (λ before r noted. sym (ap is_joined (c.last.ensures before _ noted)) ∙ sym c.is_joined.ensures)
