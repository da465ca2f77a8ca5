use Rattle.std.proofs.Common.{None, refl, sym, ap, ◌∙◌, subst}
use Rattle.sd_world.specs.Serving.{Telling, telling}
use Rattle.sd_drive.specs.declared.recovery.Outcome.{Outcome}
use Rattle.sd_base.specs.Standing.{is_down}
use Rattle.sd_drive.specs.Recoveries.{RecoversTo}
use Rattle.sd_drive.proofs.Openings.{opening-owner, restart-broken, restart-fits, restart-in, restart-not, restart-some, restart-then}
use Rattle.sd_drive.proofs.opening.Rise.restart.Goals as goal

pub status_of-requires : goal.status_of-requires
status_of-requires g c =
    let tell : Telling g.row.G.Denot = telling g.G.Rig.seen g.G.Rig.leaves g.G.Rig.moment g.G.Rig.since g.G.Rig.faults in
    record { fits = restart-fits tell c.args.self.now c.args.inst c.requires.low c.requires.high c.requires.at }

pub returns-then-not-is_down-clause-restarted : goal.returns-then-not-is_down-clause-restarted
returns-then-not-is_down-clause-restarted g c =
    let tell : Telling g.row.G.Denot = telling g.G.Rig.seen g.G.Rig.leaves g.G.Rig.moment g.G.Rig.since g.G.Rig.faults in
    restart-not tell c.args.self.now c.args.inst c.requires.low c.requires.high
    (sym (ap is_down c.status_of.ensures) ∙ sym c.is_down.ensures ∙ c.if-not-is_down.true)

pub recover-requires : goal.recover-requires
recover-requires g c =
    let tell : Telling g.row.G.Denot = telling g.G.Rig.seen g.G.Rig.leaves g.G.Rig.moment g.G.Rig.since g.G.Rig.faults in
    record {
      at = restart-in tell c.args.self.now c.args.inst c.requires.low c.requires.high
          (sym (ap is_down c.status_of.ensures) ∙ sym c.is_down.ensures ∙ c.if-not-is_down.false) c.requires.at;
    }

pub returns-in_err-recover-clause-memory : goal.returns-in_err-recover-clause-memory
returns-in_err-recover-clause-memory g c = λ is.
    let tell : Telling g.row.G.Denot = telling g.G.Rig.seen g.G.Rig.leaves g.G.Rig.moment g.G.Rig.since g.G.Rig.faults in
    restart-some tell c.args.self.now c.args.inst c.requires.low c.requires.high (sym (ap is_down c.status_of.ensures) ∙ sym c.is_down.ensures ∙ c.if-not-is_down.false)
    (record c.args.self.now { hall = c.recover.new.hall }) c.in_err-recover.ensures.memory

pub returns-in-Broken-clause-breaks : goal.returns-in-Broken-clause-breaks
returns-in-Broken-clause-breaks g c = λ is.
    let tell : Telling g.row.G.Denot = telling g.G.Rig.seen g.G.Rig.leaves g.G.Rig.moment g.G.Rig.since g.G.Rig.faults in
    restart-broken tell c.args.self.now c.args.inst c.requires.low c.requires.high (sym (ap is_down c.status_of.ensures) ∙ sym c.is_down.ensures ∙ c.if-not-is_down.false)
    (record c.args.self.now { hall = c.recover.new.hall })
    (subst (λ (how : Outcome). RecoversTo tell c.args.self.now.hall c.recover.new.hall opening-owner c.args.inst c.args.inst None how) c.in-Broken.is c.in_ok-recover.ensures.recovered)

pub returns-in_default-clause-restarted : goal.returns-in_default-clause-restarted
returns-in_default-clause-restarted g c =
    let tell : Telling g.row.G.Denot = telling g.G.Rig.seen g.G.Rig.leaves g.G.Rig.moment g.G.Rig.since g.G.Rig.faults in
    restart-then tell c.args.self.now c.args.inst c.requires.low c.requires.high (sym (ap is_down c.status_of.ensures) ∙ sym c.is_down.ensures ∙ c.if-not-is_down.false)
    (record c.args.self.now { hall = c.recover.new.hall }) (refl, refl) c.in_ok-recover.field-0 c.in_default.not-Broken c.in_ok-recover.ensures.recovered
