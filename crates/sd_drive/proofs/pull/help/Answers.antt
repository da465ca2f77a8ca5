use Rattle.std.proofs.Common.{sym, ap, ◌∙◌}
use Rattle.std.proofs.lemmas.Result.{err_from_is_err_and}
use Rattle.sd_model.specs.declared.event.Entry.{Entry}
use Rattle.sd_world.specs.Serving.{Telling, telling}
use Rattle.sd_drive.specs.Driven.{answer_as}
use Rattle.sd_drive.proofs.Bodies.{fits-now}
use Rattle.sd_drive.proofs.Rounds.{rests-helped}
use Rattle.sd_drive.proofs.Steps.{helped-on, moved, noted-some, stays-in}
use Rattle.sd_drive.proofs.pull.help.Goals as goal

pub call-requires-clause-kept : goal.call-requires-clause-kept
call-requires-clause-kept g c = let at = c.requires.at in (at.0.world.core, at.2.keeps)

pub returns-in_err-call-clause-memory : goal.returns-in_err-call-clause-memory
returns-in_err-call-clause-memory g c =
    let tell : Telling _ = telling g.G.Rig.seen g.G.Rig.leaves g.G.Rig.moment g.G.Rig.since g.G.Rig.faults in
    let p = err_from_is_err_and c.from_residual.result c.from_residual.ensures.1 in
    rw p.1 (stays-in tell c.args.hall.now c.call.new.self c.args.e c.in_err-call.ensures.same c.in_err-call.ensures.spared c.call.ensures.keeps c.call.ensures.opening (λ rig t u img le s. g.met.G.Rig.earlier rig t u img le s))

pub returns-clause-helped : goal.returns-clause-helped
returns-clause-helped g c =
    let tell : Telling _ = telling g.G.Rig.seen g.G.Rig.leaves g.G.Rig.moment g.G.Rig.since g.G.Rig.faults in
    let n = c.in_ok-call.ensures.noted in
    let entry : Entry = record { session = 0; line = 0; event = c.args.e; reply = n.0 } in
    let last = c.last.ensures c.args.hall.now.book.entries entry n.1 in (
      n.0,
      sym (c.answer_of.ensures ∙ ap answer_as last),
      helped-on tell c.args.hall.now c.call.new.self c.args.e n.0
          (record { entries = n.1; serves = n.2; keeps = c.call.ensures.keeps; opening = c.call.ensures.opening; earlier = λ rig t u img le s. g.met.G.Rig.earlier rig t u img le s; found = c.in_ok-call.ensures.reopens; closes = c.in_ok-call.ensures.closes }),
    )

pub call-requires-clause-served : goal.call-requires-clause-served
call-requires-clause-served g c = c.requires.served

pub returns-in_err-call-clause-helped : goal.returns-in_err-call-clause-helped
returns-in_err-call-clause-helped g c =
    let p = err_from_is_err_and c.from_residual.result c.from_residual.ensures.1 in
    rw p.1 tt

pub last-requires : goal.last-requires
last-requires g c =
    let n = c.in_ok-call.ensures.noted in
    noted-some c.args.hall.now.book.entries (record { session = 0; line = 0; event = c.args.e; reply = n.0 }) n.1

pub returns-clause-memory : goal.returns-clause-memory
returns-clause-memory g c = tt

pub returns-clause-rests : goal.returns-clause-rests
returns-clause-rests g c =
    let tell : Telling _ = telling g.G.Rig.seen g.G.Rig.leaves g.G.Rig.moment g.G.Rig.since g.G.Rig.faults in
    let n = c.in_ok-call.ensures.noted in
    let entry : Entry = record { session = 0; line = 0; event = c.args.e; reply = n.0 } in
    let at = c.requires.at in
    let m = moved tell c.args.hall.now c.call.new.self entry
    (record { entries = n.1; serves = n.2; keeps = c.call.ensures.keeps; opening = c.call.ensures.opening; earlier = λ rig t u img le s. g.met.G.Rig.earlier rig t u img le s; found = c.in_ok-call.ensures.reopens; closes = c.in_ok-call.ensures.closes })
    at.0 at.1 at.2 in
    rests-helped tell c.args.e n.0 c.args.hall.now.body c.call.new.self.body at.1.core m.core c.requires.helps (fits-now tell at.0 c.args.hall.now at.1 at.2)
    m.fits m.turns.plays.step (c.in_ok-call.ensures.works n.0 n.1)

pub returns-in_err-call-clause-rests : goal.returns-in_err-call-clause-rests
returns-in_err-call-clause-rests g c =
    let p = err_from_is_err_and c.from_residual.result c.from_residual.ensures.1 in
    rw p.1 tt
