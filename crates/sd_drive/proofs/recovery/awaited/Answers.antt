use Rattle.std.proofs.Common.{◌≡◌, sym, ◌∙◌, subst}
use Rattle.std.specs.Prelude.{IfSome}
use Rattle.sd_base.specs.declared.place.Status.TheVariants as S
use Rattle.sd_world.specs.Serving.{Telling, telling}
use Rattle.sd_drive.specs.Recoveries.{Waits}
use Rattle.sd_drive.specs.Resting.{UndoesNextIn}
use Rattle.sd_drive.proofs.Bodies.{open-is, open-shape, shut-is}
use Rattle.sd_drive.proofs.recovery.awaited.Goals as goal

pub awaited_in-requires : goal.awaited_in-requires
awaited_in-requires g c =
    let tell : Telling _ = telling g.G.Rig.seen g.G.Rig.leaves g.G.Rig.moment g.G.Rig.since g.G.Rig.faults in
    let f = c.requires.fits in record { shape = open-shape tell c.args.hall.now.body c.in-Some.c.now c.in-Some.ensures f.0 f.1 }

pub returns-in-Some-clause-waits : goal.returns-in-Some-clause-waits
returns-in-Some-clause-waits g c =
    let tell : Telling _ = telling g.G.Rig.seen g.G.Rig.leaves g.G.Rig.moment g.G.Rig.since g.G.Rig.faults in
    subst (λ b. Waits tell b c.args.inst c.awaited_in.result) (sym (open-is tell c.args.hall.now.body c.in-Some.c.now c.in-Some.ensures)) c.awaited_in.ensures.waits

pub returns-in-Some-clause-next : goal.returns-in-Some-clause-next
returns-in-Some-clause-next g c =
    let tell : Telling _ = telling g.G.Rig.seen g.G.Rig.leaves g.G.Rig.moment g.G.Rig.since g.G.Rig.faults in
    subst (λ b. IfSome c.awaited_in.result (λ x. UndoesNextIn b c.args.inst x.0 x.1)) (sym (open-is tell c.args.hall.now.body c.in-Some.c.now c.in-Some.ensures))
    c.awaited_in.ensures.next

pub returns-in-None-clause-waits : goal.returns-in-None-clause-waits
returns-in-None-clause-waits g c = λ w by fits awaits is.
    let tell : Telling _ = telling g.G.Rig.seen g.G.Rig.leaves g.G.Rig.moment g.G.Rig.since g.G.Rig.faults in
    let shut : S.Closed ≡ S.Recovering by = sym (shut-is tell c.args.hall.now.body c.in-None.ensures w fits c.args.inst) ∙ is in absurd (cc)
