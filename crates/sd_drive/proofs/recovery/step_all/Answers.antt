use Rattle.std.proofs.Common.{inl, refl, subst}
use Rattle.std.proofs.lemmas.Result.{err_from_is_err_and}
use Rattle.sd_world.specs.Serving.{Telling, telling}
use Rattle.sd_drive.specs.declared.recovery.Next.{Next}
use Rattle.sd_drive.specs.Recoveries.{StepsAs}
use Rattle.sd_drive.specs.Resting.{Lowers, rounds_in}
use Rattle.sd_drive.proofs.Recovered.{steps-in, steps-last, steps-next, steps-some}
use Rattle.sd_drive.proofs.recovery.step_all.Goals as goal

pub loop-next-init : goal.loop-next-init
loop-next-init g c = record { on = λ start w work rest k due. (w, k, inl (refl, refl)) }

pub step-requires : goal.step-requires
step-requires g c =
    let tell : Telling _ = telling g.G.Rig.seen g.G.Rig.leaves g.G.Rig.moment g.G.Rig.since g.G.Rig.faults in
    record { at = steps-in tell c.args.of c.args.inst c.args.most c.loop-next.left c.args.hall.now c.loop-next.hall c.loop-next.invariant.on c.requires.at }

pub returns-in_err-next-clause-memory : goal.returns-in_err-next-clause-memory
returns-in_err-next-clause-memory g c =
    let tell : Telling _ = telling g.G.Rig.seen g.G.Rig.leaves g.G.Rig.moment g.G.Rig.since g.G.Rig.faults in
    let p = err_from_is_err_and c.from_residual.result c.from_residual.ensures.1 in
    rw p.1 (steps-some tell c.args.of c.args.inst c.args.most c.loop-next.left c.args.hall.now c.loop-next.hall c.loop-next.invariant.on c.step.new.hall
    c.in_err-next.ensures.memory)

pub returns-in-Over-clause-recovered : goal.returns-in-Over-clause-recovered
returns-in-Over-clause-recovered g c =
    let tell : Telling _ = telling g.G.Rig.seen g.G.Rig.leaves g.G.Rig.moment g.G.Rig.since g.G.Rig.faults in
    steps-last tell c.args.of c.args.inst c.args.most c.loop-next.left c.args.hall.now c.loop-next.hall c.loop-next.invariant.on c.step.new.hall c.in-Over.how
    (subst (λ (next : Next). StepsAs tell c.loop-next.hall c.step.new.hall c.args.of c.args.inst c.loop-next.left next) c.in-Over.is c.in_ok-next.ensures.stepped)

pub loop-next-preserved : goal.loop-next-preserved
loop-next-preserved g c =
    let tell : Telling _ = telling g.G.Rig.seen g.G.Rig.leaves g.G.Rig.moment g.G.Rig.since g.G.Rig.faults in
    record {
      on = steps-next tell c.args.of c.args.inst c.args.most c.loop-next.left c.args.hall.now c.loop-next.hall c.loop-next.invariant.on c.step.new.hall
          c.in-Again.then
          (subst (λ (next : Next). StepsAs tell c.loop-next.hall c.step.new.hall c.args.of c.args.inst c.loop-next.left next) c.in-Again.is c.in_ok-next.ensures.stepped);
    }

pub loop-next-smaller : goal.loop-next-smaller
loop-next-smaller g c =
    subst (λ (next : Next). Lowers next (rounds_in g.G.Rig.seen c.loop-next.hall.body c.args.inst) (rounds_in g.G.Rig.seen c.step.new.hall.body c.args.inst))
    c.in-Again.is c.in_ok-next.ensures.nearer
