use Rattle.std.proofs.Common.{◌≡◌, refl, ap, subst}
use Rattle.std.specs.Prelude.{Some}
use Rattle.sd_model.specs.declared.event.Event.{Event}
use Rattle.sd_model.specs.declared.event.Event.TheVariants as event
use Rattle.sd_model.specs.declared.event.Reply.{Reply}
use Rattle.sd_model.specs.declared.event.Reply.TheVariants as reply
use Rattle.sd_world.specs.Serving.{Telling, telling}
use Rattle.sd_hall.specs.Served.{IsHelping, IsOfPlace}
use Rattle.sd_hall.proofs.Answering.{served-as}
use Rattle.sd_hall.proofs.dispatch.serve_place.Goals as goal

pub unreachable-requires : goal.unreachable-requires
unreachable-requires g c = none c.args.e.now c.requires.place refl
  where
    none : (e : Event) → IsOfPlace e → c.args.e.now ≡ e → ⊥
    none (event.Ask i p mode) of is = c.in_default.not-Ask i p mode is
    none (event.Give i p) of is = c.in_default.not-Give i p is
    none (event.Take i p) of is = c.in_default.not-Take i p is
    none (event.Evict i p) of is = c.in_default.not-Evict i p is
    none (event.Flush i p) of is = c.in_default.not-Flush i p is
    none (event.Force i) of is = c.in_default.not-Force i is
    none (event.CheckBegin i) of is = c.in_default.not-CheckBegin i is
    none (event.CheckEnd i) of is = c.in_default.not-CheckEnd i is
    none (event.RecoverBegin i by) of is = c.in_default.not-RecoverBegin i by is
    none (event.Join i) of is = c.in_default.not-Join i is
    none (event.Arm trouble) of is = c.in_default.not-Arm trouble is
    none (event.Show p) of is = c.in_default.not-Show p is
    none e of is = of

pub returns-in-Ask-clause-served : goal.returns-in-Ask-clause-served
returns-in-Ask-clause-served g c =
    let tell : Telling _ = telling g.G.Rig.seen g.G.Rig.leaves g.G.Rig.moment g.G.Rig.since g.G.Rig.faults in
    served-as tell c.args.c.now c.ask.new.c _ _ _ _ c.in-Ask.is c.as_asked.ensures c.ask.ensures.served

pub returns-in-Give-clause-served : goal.returns-in-Give-clause-served
returns-in-Give-clause-served g c =
    let tell : Telling _ = telling g.G.Rig.seen g.G.Rig.leaves g.G.Rig.moment g.G.Rig.since g.G.Rig.faults in
    served-as tell c.args.c.now c.give.new.c _ _ _ _ c.in-Give.is c.as_gave.ensures c.give.ensures.served

pub returns-in-Take-clause-served : goal.returns-in-Take-clause-served
returns-in-Take-clause-served g c =
    let tell : Telling _ = telling g.G.Rig.seen g.G.Rig.leaves g.G.Rig.moment g.G.Rig.since g.G.Rig.faults in
    served-as tell c.args.c.now c.take.new.c _ _ _ _ c.in-Take.is c.as_did.ensures c.take.ensures.served

pub returns-in-Evict-clause-served : goal.returns-in-Evict-clause-served
returns-in-Evict-clause-served g c =
    let tell : Telling _ = telling g.G.Rig.seen g.G.Rig.leaves g.G.Rig.moment g.G.Rig.since g.G.Rig.faults in
    served-as tell c.args.c.now c.evict.new.c _ _ _ _ c.in-Evict.is c.as_did-in-Evict.ensures c.evict.ensures.served

pub returns-in-Flush-clause-served : goal.returns-in-Flush-clause-served
returns-in-Flush-clause-served g c =
    let tell : Telling _ = telling g.G.Rig.seen g.G.Rig.leaves g.G.Rig.moment g.G.Rig.since g.G.Rig.faults in
    served-as tell c.args.c.now c.write_page.new.c _ _ _ _ c.in-Flush.is c.as_did-in-Flush.ensures c.write_page.ensures.served

pub returns-in-Force-clause-served : goal.returns-in-Force-clause-served
returns-in-Force-clause-served g c =
    let tell : Telling _ = telling g.G.Rig.seen g.G.Rig.leaves g.G.Rig.moment g.G.Rig.since g.G.Rig.faults in
    served-as tell c.args.c.now c.force.new.c _ _ _ _ c.in-Force.is c.as_did-in-Force.ensures c.force.ensures.served

pub returns-in-CheckBegin-clause-served : goal.returns-in-CheckBegin-clause-served
returns-in-CheckBegin-clause-served g c =
    let tell : Telling _ = telling g.G.Rig.seen g.G.Rig.leaves g.G.Rig.moment g.G.Rig.since g.G.Rig.faults in
    served-as tell c.args.c.now c.check_begin.new.c _ _ _ _ c.in-CheckBegin.is c.as_did-in-CheckBegin.ensures c.check_begin.ensures.served

pub returns-in-CheckEnd-clause-served : goal.returns-in-CheckEnd-clause-served
returns-in-CheckEnd-clause-served g c =
    let tell : Telling _ = telling g.G.Rig.seen g.G.Rig.leaves g.G.Rig.moment g.G.Rig.since g.G.Rig.faults in
    served-as tell c.args.c.now c.check_end.new.c _ _ _ _ c.in-CheckEnd.is c.as_did-in-CheckEnd.ensures c.check_end.ensures.served

pub returns-in-RecoverBegin-clause-served : goal.returns-in-RecoverBegin-clause-served
returns-in-RecoverBegin-clause-served g c =
    let tell : Telling _ = telling g.G.Rig.seen g.G.Rig.leaves g.G.Rig.moment g.G.Rig.since g.G.Rig.faults in
    served-as tell c.args.c.now c.recover_begin.new.c _ _ _ _ c.in-RecoverBegin.is c.as_did-in-RecoverBegin.ensures c.recover_begin.ensures.served

pub returns-in-Join-clause-served : goal.returns-in-Join-clause-served
returns-in-Join-clause-served g c =
    let tell : Telling _ = telling g.G.Rig.seen g.G.Rig.leaves g.G.Rig.moment g.G.Rig.since g.G.Rig.faults in
    served-as tell c.args.c.now c.join.new.c _ _ _ _ c.in-Join.is c.as_joined.ensures c.join.ensures.served

pub returns-in-Arm-clause-served : goal.returns-in-Arm-clause-served
returns-in-Arm-clause-served g c =
    let tell : Telling _ = telling g.G.Rig.seen g.G.Rig.leaves g.G.Rig.moment g.G.Rig.since g.G.Rig.faults in
    served-as tell c.args.c.now c.arm.new.c _ (event.Arm c.in-Arm.trouble) (Some c.args.answer.now) (Some reply.Did) c.in-Arm.is
    (ap (λ (r : Reply). Some r) c.requires.fresh) c.arm.ensures.served

pub returns-in-Show-clause-served : goal.returns-in-Show-clause-served
returns-in-Show-clause-served g c =
    let tell : Telling _ = telling g.G.Rig.seen g.G.Rig.leaves g.G.Rig.moment g.G.Rig.since g.G.Rig.faults in
    served-as tell c.args.c.now c.args.c.now _ _ _ _ c.in-Show.is c.as_shown.ensures c.show.ensures.served

-- ---- recoveries go on

pub returns-in-Ask-clause-rest : goal.returns-in-Ask-clause-rest
returns-in-Ask-clause-rest g c helps = c.ask.ensures.rest

pub returns-in-Give-clause-rest : goal.returns-in-Give-clause-rest
returns-in-Give-clause-rest g c helps = c.give.ensures.rest

pub returns-in-Take-clause-rest : goal.returns-in-Take-clause-rest
returns-in-Take-clause-rest g c helps = c.take.ensures.rest

pub returns-in-Evict-clause-rest : goal.returns-in-Evict-clause-rest
returns-in-Evict-clause-rest g c helps = c.evict.ensures.rest

pub returns-in-Flush-clause-rest : goal.returns-in-Flush-clause-rest
returns-in-Flush-clause-rest g c helps = c.write_page.ensures.rest

pub returns-in-Force-clause-rest : goal.returns-in-Force-clause-rest
returns-in-Force-clause-rest g c helps = absurd (subst IsHelping c.in-Force.is helps)

pub returns-in-CheckBegin-clause-rest : goal.returns-in-CheckBegin-clause-rest
returns-in-CheckBegin-clause-rest g c helps = absurd (subst IsHelping c.in-CheckBegin.is helps)

pub returns-in-CheckEnd-clause-rest : goal.returns-in-CheckEnd-clause-rest
returns-in-CheckEnd-clause-rest g c helps = absurd (subst IsHelping c.in-CheckEnd.is helps)

pub returns-in-RecoverBegin-clause-rest : goal.returns-in-RecoverBegin-clause-rest
returns-in-RecoverBegin-clause-rest g c helps = absurd (subst IsHelping c.in-RecoverBegin.is helps)

pub returns-in-Join-clause-rest : goal.returns-in-Join-clause-rest
returns-in-Join-clause-rest g c helps = absurd (subst IsHelping c.in-Join.is helps)

pub returns-in-Arm-clause-rest : goal.returns-in-Arm-clause-rest
returns-in-Arm-clause-rest g c helps = absurd (subst IsHelping c.in-Arm.is helps)

pub returns-in-Show-clause-rest : goal.returns-in-Show-clause-rest
returns-in-Show-clause-rest g c helps = absurd (subst IsHelping c.in-Show.is helps)
