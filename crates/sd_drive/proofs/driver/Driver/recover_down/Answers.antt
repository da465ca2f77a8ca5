use Rattle.std.proofs.Common.{None, refl, sym, ap, ◌∙◌, subst}
use Rattle.std.proofs.lemmas.Result.{err_from_is_err_and}
use Rattle.sd_world.specs.Serving.{Telling, telling}
use Rattle.sd_drive.specs.declared.recovery.Outcome.{Outcome}
use Rattle.sd_base.specs.Standing.{is_down}
use Rattle.sd_drive.specs.declared.recovery.Owner.{Owner}
use Rattle.sd_model.specs.declared.event.Event.TheVariants as event
use Rattle.sd_drive.specs.Driving.{Cursor}
use Rattle.sd_drive.specs.Recoveries.{DoesSome, DueOf, RecoversTo}
use Rattle.sd_drive.specs.Recovering.{owner_of}
use Rattle.sd_drive.proofs.Recovering.{recover-due, recover-some, recovered, recovers-fit, recovers-not, not-ended}
use Rattle.sd_drive.proofs.driver.Driver.recover_down.Goals as goal

pub status_of-requires : goal.status_of-requires
status_of-requires g c =
    let tell : Telling _ = telling g.G.Rig.seen g.G.Rig.leaves g.G.Rig.moment g.G.Rig.since g.G.Rig.faults in
    record { fits = recovers-fit tell c.args.self.now c.args.line.now c.requires.recovers c.args.inst c.requires.at }

pub returns-then-not-is_down-clause-recovered : goal.returns-then-not-is_down-clause-recovered
returns-then-not-is_down-clause-recovered g c =
    let tell : Telling _ = telling g.G.Rig.seen g.G.Rig.leaves g.G.Rig.moment g.G.Rig.since g.G.Rig.faults in
    recovers-not tell c.args.self.now c.args.line.now c.requires.recovers c.args.inst c.requires.low c.requires.high
    (sym (ap is_down c.status_of.ensures) ∙ sym c.is_down.ensures ∙ c.if-not-is_down.true)

pub recover-requires : goal.recover-requires
recover-requires g c =
    let tell : Telling _ = telling g.G.Rig.seen g.G.Rig.leaves g.G.Rig.moment g.G.Rig.since g.G.Rig.faults in
    record {
      at = subst (λ (of : Owner). DueOf tell c.args.self.now.hall of (Cursor.Recovers c.args.inst c.args.inst None) (event.RecoverBegin c.args.inst c.args.inst))
          (sym c.owner_of-of.ensures)
          (recover-due tell c.args.self.now c.args.line.now c.requires.recovers c.args.inst c.requires.low c.requires.high
          (sym (ap is_down c.status_of.ensures) ∙ sym c.is_down.ensures ∙ c.if-not-is_down.false) c.requires.at);
    }

pub returns-in_err-recover-clause-memory : goal.returns-in_err-recover-clause-memory
returns-in_err-recover-clause-memory g c =
    let tell : Telling _ = telling g.G.Rig.seen g.G.Rig.leaves g.G.Rig.moment g.G.Rig.since g.G.Rig.faults in
    let p = err_from_is_err_and c.from_residual.result c.from_residual.ensures.1 in
    rw p.1 (recover-some tell c.args.self.now c.args.line.now c.requires.recovers c.args.inst c.requires.low c.requires.high
    (sym (ap is_down c.status_of.ensures) ∙ sym c.is_down.ensures ∙ c.if-not-is_down.false) (record c.args.self.now { hall = c.recover.new.hall })
    (subst (λ (of : Owner). DoesSome tell c.args.self.now.hall c.recover.new.hall of (Cursor.Recovers c.args.inst c.args.inst None) (event.RecoverBegin c.args.inst c.args.inst))
    c.owner_of-of.ensures c.in_err-recover.ensures.memory))

pub returns-in-Ended-clause-recovered : goal.returns-in-Ended-clause-recovered
returns-in-Ended-clause-recovered g c =
    let tell : Telling _ = telling g.G.Rig.seen g.G.Rig.leaves g.G.Rig.moment g.G.Rig.since g.G.Rig.faults in
    recovered tell c.args.self.now c.args.line.now c.requires.recovers c.args.inst c.requires.low c.requires.high
    (sym (ap is_down c.status_of.ensures) ∙ sym c.is_down.ensures ∙ c.if-not-is_down.false) (record c.args.self.now { hall = c.recover.new.hall }) (refl, refl) refl
    (subst (λ (how : Outcome). RecoversTo tell c.args.self.now.hall c.recover.new.hall (owner_of c.args.line.now) c.args.inst c.args.inst None how) c.in-Ended.is
    (subst (λ (of : Owner). RecoversTo tell c.args.self.now.hall c.recover.new.hall of c.args.inst c.args.inst None c.in_ok-recover.field-0) c.owner_of-of.ensures
    c.in_ok-recover.ensures.recovered))

pub returns-in_default-clause-recovered : goal.returns-in_default-clause-recovered
returns-in_default-clause-recovered g c =
    let tell : Telling _ = telling g.G.Rig.seen g.G.Rig.leaves g.G.Rig.moment g.G.Rig.since g.G.Rig.faults in
    not-ended tell c.args.self.now c.args.line.now c.requires.recovers c.args.inst c.requires.low c.requires.high
    (sym (ap is_down c.status_of.ensures) ∙ sym c.is_down.ensures ∙ c.if-not-is_down.false) (record c.args.self.now { hall = c.recover.new.hall }) (refl, refl) refl c.in_ok-recover.field-0
    c.in_default.not-Ended
    (subst (λ (of : Owner). RecoversTo tell c.args.self.now.hall c.recover.new.hall of c.args.inst c.args.inst None c.in_ok-recover.field-0) c.owner_of-of.ensures
    c.in_ok-recover.ensures.recovered)
