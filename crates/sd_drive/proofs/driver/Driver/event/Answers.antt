use Rattle.std.proofs.Common.{◌≡◌, refl, subst}
use Rattle.std.specs.Prelude.{Option}
use Rattle.std.proofs.lemmas.Result.{err_from_is_err_and}
use Rattle.sd_model.specs.declared.event.Event.{Event}
use Rattle.sd_world.specs.Serving.{Telling, telling}
use Rattle.sd_drive.specs.Lines.{Names, event_of}
use Rattle.sd_drive.specs.Reaching.{Knows}
use Rattle.sd_drive.proofs.Doing.{event-came, event-due, event-named, event-passed, event-served, event-some, nothing-came, ordinal-known, short-there}
use Rattle.sd_drive.proofs.Helps.{on-err-then, on-ok-then}
use Rattle.sd_drive.proofs.driver.Driver.event.Goals as goal

pub event_of-requires-clause-known : goal.event_of-requires-clause-known
event_of-requires-clause-known g c =
    let tell : Telling _ = telling g.G.Rig.seen g.G.Rig.leaves g.G.Rig.moment g.G.Rig.since g.G.Rig.faults in
    ordinal-known tell c.args.self.now c.args.line.now c.requires.at

pub event_of-requires-clause-short : goal.event_of-requires-clause-short
event_of-requires-clause-short g c =
    let tell : Telling _ = telling g.G.Rig.seen g.G.Rig.leaves g.G.Rig.moment g.G.Rig.since g.G.Rig.faults in
    short-there tell c.args.self.now c.args.line.now c.requires.at

pub returns-in_err-e-clause-memory : goal.returns-in_err-e-clause-memory
returns-in_err-e-clause-memory g c =
    let tell : Telling _ = telling g.G.Rig.seen g.G.Rig.leaves g.G.Rig.moment g.G.Rig.since g.G.Rig.faults in
    let p = err_from_is_err_and c.from_residual.result c.from_residual.ensures.1 in
    rw p.1 (nothing-came tell c.args.self.now c.args.line.now)

pub operate-requires-clause-served : goal.operate-requires-clause-served
operate-requires-clause-served g c =
    let tell : Telling _ = telling g.G.Rig.seen g.G.Rig.leaves g.G.Rig.moment g.G.Rig.since g.G.Rig.faults in
    let asks = subst (λ (o : Option Event). (names : Names) → Knows c.args.self.now.txns.items names c.args.line.now.form → o ≡ event_of names c.args.line.now.form)
    c.in-Some.is c.in_ok-e.ensures.event in
    event-served tell c.args.self.now c.args.line.now c.requires.plain c.in-Some.e asks c.requires.at

pub operate-requires-clause-names : goal.operate-requires-clause-names
operate-requires-clause-names g c =
    let tell : Telling _ = telling g.G.Rig.seen g.G.Rig.leaves g.G.Rig.moment g.G.Rig.since g.G.Rig.faults in
    let asks = subst (λ (o : Option Event). (names : Names) → Knows c.args.self.now.txns.items names c.args.line.now.form → o ≡ event_of names c.args.line.now.form)
    c.in-Some.is c.in_ok-e.ensures.event in
    event-named tell c.args.self.now c.args.line.now c.requires.plain c.in-Some.e asks c.requires.at

pub operate-requires-clause-due : goal.operate-requires-clause-due
operate-requires-clause-due g c =
    let tell : Telling _ = telling g.G.Rig.seen g.G.Rig.leaves g.G.Rig.moment g.G.Rig.since g.G.Rig.faults in
    let asks = subst (λ (o : Option Event). (names : Names) → Knows c.args.self.now.txns.items names c.args.line.now.form → o ≡ event_of names c.args.line.now.form)
    c.in-Some.is c.in_ok-e.ensures.event in
    event-due tell c.args.self.now c.args.line.now c.requires.plain c.in-Some.e asks c.requires.at

pub returns-in-Some-clause-driven : goal.returns-in-Some-clause-driven
returns-in-Some-clause-driven g c =
    let tell : Telling _ = telling g.G.Rig.seen g.G.Rig.leaves g.G.Rig.moment g.G.Rig.since g.G.Rig.faults in
    let asks = subst (λ (o : Option Event). (names : Names) → Knows c.args.self.now.txns.items names c.args.line.now.form → o ≡ event_of names c.args.line.now.form)
    c.in-Some.is c.in_ok-e.ensures.event in
    on-ok-then c.operate.result _ _ (λ came. event-came tell c.args.self.now c.args.line.now c.requires.plain c.in-Some.e asks
    (record c.args.self.now { hall = c.operate.new.hall }) (refl, refl) refl came) c.operate.ensures.done

pub returns-in-Some-clause-memory : goal.returns-in-Some-clause-memory
returns-in-Some-clause-memory g c =
    let tell : Telling _ = telling g.G.Rig.seen g.G.Rig.leaves g.G.Rig.moment g.G.Rig.since g.G.Rig.faults in
    let asks = subst (λ (o : Option Event). (names : Names) → Knows c.args.self.now.txns.items names c.args.line.now.form → o ≡ event_of names c.args.line.now.form)
    c.in-Some.is c.in_ok-e.ensures.event in
    on-err-then c.operate.result _ _ (λ some. event-some tell c.args.self.now c.args.line.now c.requires.plain c.in-Some.e asks
    (record c.args.self.now { hall = c.operate.new.hall }) some) c.operate.ensures.memory

pub returns-in-None-clause-driven : goal.returns-in-None-clause-driven
returns-in-None-clause-driven g c =
    let tell : Telling _ = telling g.G.Rig.seen g.G.Rig.leaves g.G.Rig.moment g.G.Rig.since g.G.Rig.faults in
    let asks = subst (λ (o : Option Event). (names : Names) → Knows c.args.self.now.txns.items names c.args.line.now.form → o ≡ event_of names c.args.line.now.form)
    c.in-None.is c.in_ok-e.ensures.event in
    event-passed tell c.args.self.now c.args.line.now c.requires.plain asks
