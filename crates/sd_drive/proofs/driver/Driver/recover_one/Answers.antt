use Rattle.std.proofs.Common.{refl, sym, subst}
use Rattle.std.proofs.lemmas.Result.{err_from_is_err_and}
use Rattle.sd_model.specs.declared.event.Event.TheVariants as event
use Rattle.sd_world.specs.Serving.{Telling, telling}
use Rattle.sd_drive.specs.declared.recovery.Owner.{Owner}
use Rattle.sd_drive.specs.Driving.{Cursor}
use Rattle.sd_drive.specs.Recoveries.{DoesSome, DueOf, RecoversTo}
use Rattle.sd_drive.proofs.RecoveringOne.{one-driven, one-due-of, one-some}
use Rattle.sd_drive.proofs.driver.Driver.recover_one.Goals as goal

pub recover-requires : goal.recover-requires
recover-requires g c =
    let tell : Telling _ = telling g.G.Rig.seen g.G.Rig.leaves g.G.Rig.moment g.G.Rig.since g.G.Rig.faults in
    record {
      at = subst (λ (of : Owner). DueOf tell c.args.self.now.hall of (Cursor.Recovers c.args.inst c.args.by c.args.most) (event.RecoverBegin c.args.inst c.args.by))
          (sym c.owner_of.ensures)
          (one-due-of tell c.args.self.now c.args.line.now c.args.inst c.args.by c.args.most c.requires.recovers c.requires.at);
    }

pub returns-in_err-_how-clause-memory : goal.returns-in_err-_how-clause-memory
returns-in_err-_how-clause-memory g c =
    let tell : Telling _ = telling g.G.Rig.seen g.G.Rig.leaves g.G.Rig.moment g.G.Rig.since g.G.Rig.faults in
    let p = err_from_is_err_and c.from_residual.result c.from_residual.ensures.1 in
    rw p.1 (one-some tell c.args.self.now c.args.line.now c.args.inst c.args.by c.args.most c.requires.recovers (record c.args.self.now { hall = c.recover.new.hall })
    (subst (λ (of : Owner). DoesSome tell c.args.self.now.hall c.recover.new.hall of (Cursor.Recovers c.args.inst c.args.by c.args.most) (event.RecoverBegin c.args.inst c.args.by))
    c.owner_of.ensures c.in_err-_how.ensures.memory))

pub returns-clause-driven : goal.returns-clause-driven
returns-clause-driven g c =
    let tell : Telling _ = telling g.G.Rig.seen g.G.Rig.leaves g.G.Rig.moment g.G.Rig.since g.G.Rig.faults in
    one-driven tell c.args.self.now c.args.line.now c.args.inst c.args.by c.args.most c.requires.recovers (record c.args.self.now { hall = c.recover.new.hall })
    c.in_ok-_how._how (refl, refl) refl
    (subst (λ (of : Owner). RecoversTo tell c.args.self.now.hall c.recover.new.hall of c.args.inst c.args.by c.args.most c.in_ok-_how._how) c.owner_of.ensures
    c.in_ok-_how.ensures.recovered)
