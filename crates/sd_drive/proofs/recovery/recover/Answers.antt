use Rattle.std.proofs.Common.{sym, ap, ◌∙◌, subst}
use Rattle.std.proofs.lemmas.Result.{err_from_is_err_and}
use Rattle.sd_model.specs.declared.event.Entry.{Entry}
use Rattle.sd_model.specs.declared.event.Event.TheVariants as event
use Rattle.sd_model.specs.declared.event.Reply.{Reply}
use Rattle.sd_world.specs.Serving.{Telling, telling}
use Rattle.sd_drive.specs.declared.recovery.Outcome.{Outcome}
use Rattle.sd_model.specs.Replies.{is_did}
use Rattle.sd_drive.specs.Recoveries.{RecoversTo, refused_as}
use Rattle.sd_drive.proofs.Helps.{if-ok-then, on-err-then}
use Rattle.sd_drive.proofs.Recovered.{begin-ends, begun-due, begun-some, begun-to}
use Rattle.sd_drive.proofs.Steps.{Noted, noted-some, stays-in}
use Rattle.sd_drive.proofs.recovery.recover.Goals as goal

pub call-requires-clause-served : goal.call-requires-clause-served
call-requires-clause-served g c = tt

pub call-requires-clause-kept : goal.call-requires-clause-kept
call-requires-clause-kept g c = let at = c.requires.at in (at.start.world.core, at.there.keeps)

pub returns-in_err-call-clause-memory : goal.returns-in_err-call-clause-memory
returns-in_err-call-clause-memory g c =
    let tell : Telling _ = telling g.G.Rig.seen g.G.Rig.leaves g.G.Rig.moment g.G.Rig.since g.G.Rig.faults in
    let p = err_from_is_err_and c.from_residual.result c.from_residual.ensures.1 in
    rw p.1 (λ start w work rest i due. (
      w,
      stays-in tell c.args.hall.now c.call.new.self (event.RecoverBegin c.args.inst c.args.by) c.in_err-call.ensures.same c.in_err-call.ensures.spared
          c.call.ensures.keeps c.call.ensures.opening (λ rig t u img le s. g.met.G.Rig.earlier rig t u img le s) start w i,
      due.stands.first,
    ))

pub returns-then-not-is_did-clause-recovered : goal.returns-then-not-is_did-clause-recovered
returns-then-not-is_did-clause-recovered g c =
    let tell : Telling _ = telling g.G.Rig.seen g.G.Rig.leaves g.G.Rig.moment g.G.Rig.since g.G.Rig.faults in
    let n = c.in_ok-call.ensures.noted in
    let entry : Entry = record { session = c.args.of.session; line = c.args.of.line; event = event.RecoverBegin c.args.inst c.args.by; reply = n.0 } in
    let last = c.last.ensures c.args.hall.now.book.entries entry n.1 in
    let noted : Noted tell c.args.hall.now c.call.new.self entry = record { entries = n.1; serves = n.2; keeps = c.call.ensures.keeps; opening = c.call.ensures.opening; earlier = λ rig t u img le s. g.met.G.Rig.earlier rig t u img le s; found = c.in_ok-call.ensures.reopens; closes = c.in_ok-call.ensures.closes } in
    let then = c.last-then-not-is_did.ensures c.args.hall.now.book.entries entry n.1 in
    let reply_is = ap (λ (r : Reply). refused_as r c.args.of.is_opening) then in
    subst (λ (how : Outcome). RecoversTo tell c.args.hall.now c.call.new.self c.args.of c.args.inst c.args.by c.args.most how) (sym (c.refused.ensures ∙ reply_is))
    (begin-ends tell c.args.of c.args.inst c.args.by c.args.most c.args.hall.now c.call.new.self n.0 noted (sym (ap is_did last) ∙ sym c.is_did.ensures ∙ c.if-not-is_did.true))

pub step_all-requires : goal.step_all-requires
step_all-requires g c =
    let tell : Telling _ = telling g.G.Rig.seen g.G.Rig.leaves g.G.Rig.moment g.G.Rig.since g.G.Rig.faults in
    let n = c.in_ok-call.ensures.noted in
    let entry : Entry = record { session = c.args.of.session; line = c.args.of.line; event = event.RecoverBegin c.args.inst c.args.by; reply = n.0 } in
    let last = c.last.ensures c.args.hall.now.book.entries entry n.1 in
    let noted : Noted tell c.args.hall.now c.call.new.self entry = record { entries = n.1; serves = n.2; keeps = c.call.ensures.keeps; opening = c.call.ensures.opening; earlier = λ rig t u img le s. g.met.G.Rig.earlier rig t u img le s; found = c.in_ok-call.ensures.reopens; closes = c.in_ok-call.ensures.closes } in
    record {
      at = begun-due tell c.args.of c.args.inst c.args.by c.args.most c.args.hall.now c.call.new.self n.0 noted
          (sym (ap is_did last) ∙ sym c.is_did.ensures ∙ c.if-not-is_did.false) c.requires.at;
    }

pub returns-clause-recovered : goal.returns-clause-recovered
returns-clause-recovered g c =
    let tell : Telling _ = telling g.G.Rig.seen g.G.Rig.leaves g.G.Rig.moment g.G.Rig.since g.G.Rig.faults in
    let n = c.in_ok-call.ensures.noted in
    let entry : Entry = record { session = c.args.of.session; line = c.args.of.line; event = event.RecoverBegin c.args.inst c.args.by; reply = n.0 } in
    let last = c.last.ensures c.args.hall.now.book.entries entry n.1 in
    let noted : Noted tell c.args.hall.now c.call.new.self entry = record { entries = n.1; serves = n.2; keeps = c.call.ensures.keeps; opening = c.call.ensures.opening; earlier = λ rig t u img le s. g.met.G.Rig.earlier rig t u img le s; found = c.in_ok-call.ensures.reopens; closes = c.in_ok-call.ensures.closes } in
    if-ok-then c.step_all.result _ _ (λ how to. begun-to tell c.args.of c.args.inst c.args.by c.args.most c.args.hall.now c.call.new.self n.0 noted
    (sym (ap is_did last) ∙ sym c.is_did.ensures ∙ c.if-not-is_did.false) c.step_all.new.hall how to) c.step_all.ensures.recovered

pub returns-clause-memory : goal.returns-clause-memory
returns-clause-memory g c =
    let tell : Telling _ = telling g.G.Rig.seen g.G.Rig.leaves g.G.Rig.moment g.G.Rig.since g.G.Rig.faults in
    let n = c.in_ok-call.ensures.noted in
    let entry : Entry = record { session = c.args.of.session; line = c.args.of.line; event = event.RecoverBegin c.args.inst c.args.by; reply = n.0 } in
    let last = c.last.ensures c.args.hall.now.book.entries entry n.1 in
    let noted : Noted tell c.args.hall.now c.call.new.self entry = record { entries = n.1; serves = n.2; keeps = c.call.ensures.keeps; opening = c.call.ensures.opening; earlier = λ rig t u img le s. g.met.G.Rig.earlier rig t u img le s; found = c.in_ok-call.ensures.reopens; closes = c.in_ok-call.ensures.closes } in
    on-err-then c.step_all.result _ _ (λ some. begun-some tell c.args.of c.args.inst c.args.by c.args.most c.args.hall.now c.call.new.self n.0 noted
    (sym (ap is_did last) ∙ sym c.is_did.ensures ∙ c.if-not-is_did.false) c.step_all.new.hall some) c.step_all.ensures.memory

pub returns-in_err-call-clause-recovered : goal.returns-in_err-call-clause-recovered
returns-in_err-call-clause-recovered g c =
    let p = err_from_is_err_and c.from_residual.result c.from_residual.ensures.1 in
    rw p.1 tt

pub last-requires : goal.last-requires
last-requires g c =
    let n = c.in_ok-call.ensures.noted in
    noted-some c.args.hall.now.book.entries (record { session = c.args.of.session; line = c.args.of.line; event = event.RecoverBegin c.args.inst c.args.by; reply = n.0 }) n.1

pub last-requires-then-not-is_did : goal.last-requires-then-not-is_did
last-requires-then-not-is_did g c =
    let n = c.in_ok-call.ensures.noted in
    noted-some c.args.hall.now.book.entries (record { session = c.args.of.session; line = c.args.of.line; event = event.RecoverBegin c.args.inst c.args.by; reply = n.0 }) n.1

pub returns-then-not-is_did-clause-memory : goal.returns-then-not-is_did-clause-memory
returns-then-not-is_did-clause-memory g c = tt
