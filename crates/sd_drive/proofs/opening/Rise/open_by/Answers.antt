use Rattle.std.proofs.Common.{◌≡◌, inl, inr, false, true, refl, sym, ap, ◌∙◌, subst}
use Rattle.std.proofs.lemmas.Result.{err_from_is_err_and}
use Rattle.sd_model.specs.declared.event.Entry.{Entry}
use Rattle.sd_model.specs.declared.event.Reply.{Reply}
use Rattle.sd_world.specs.Serving.{Telling, telling}
use Rattle.sd_model.specs.Replies.{is_did, is_failed}
use Rattle.sd_drive.proofs.Marks.{failed-is}
use Rattle.sd_drive.proofs.Openings.{breaks-by, opens-by}
use Rattle.sd_drive.proofs.Steps.{Noted, noted-some, stays-in}
use Rattle.sd_drive.proofs.opening.Rise.open_by.Goals as goal

pub call-requires-clause-served : goal.call-requires-clause-served
call-requires-clause-served g c = c.requires.served

pub call-requires-clause-kept : goal.call-requires-clause-kept
call-requires-clause-kept g c = let at = c.requires.at in (at.0.world.core, at.2.keeps)

pub returns-in_err-call-clause-memory : goal.returns-in_err-call-clause-memory
returns-in_err-call-clause-memory g c = λ is.
    let tell : Telling g.row.G.Denot = telling g.G.Rig.seen g.G.Rig.leaves g.G.Rig.moment g.G.Rig.since g.G.Rig.faults in
    stays-in tell c.args.self.now.hall c.call.new.self c.args.e c.in_err-call.ensures.same c.in_err-call.ensures.spared
    c.call.ensures.keeps c.call.ensures.opening (λ rig t u img le s. g.met.G.Rig.earlier rig t u img le s)

pub returns-in_err-call-clause-done : goal.returns-in_err-call-clause-done
returns-in_err-call-clause-done g c =
    let p = err_from_is_err_and c.from_residual.result c.from_residual.ensures.1 in
    rw p.1 tt

pub returns-in_err-call-clause-errors : goal.returns-in_err-call-clause-errors
returns-in_err-call-clause-errors g c =
    let p = err_from_is_err_and c.from_residual.result c.from_residual.ensures.1 in
    rw p.1 (inl p.2)

pub returns-in_err-call-clause-breaks : goal.returns-in_err-call-clause-breaks
returns-in_err-call-clause-breaks g c =
    let p = err_from_is_err_and c.from_residual.result c.from_residual.ensures.1 in
    rw (p.1, p.2) (λ is. absurd (cc))

pub returns-in_err-call-clause-same : goal.returns-in_err-call-clause-same
returns-in_err-call-clause-same g c = (refl, refl)

pub last-requires : goal.last-requires
last-requires g c =
    let n = c.in_ok-call.ensures.noted in
    noted-some c.args.self.now.hall.book.entries (record { session = 0; line = 0; event = c.args.e; reply = n.0 }) n.1

pub last-requires-2 : goal.last-requires-2
last-requires-2 g c =
    let n = c.in_ok-call.ensures.noted in
    noted-some c.args.self.now.hall.book.entries (record { session = 0; line = 0; event = c.args.e; reply = n.0 }) n.1

pub returns-then-is_failed-clause-done : goal.returns-then-is_failed-clause-done
returns-then-is_failed-clause-done g c = tt

pub returns-then-is_failed-clause-errors : goal.returns-then-is_failed-clause-errors
returns-then-is_failed-clause-errors g c = inr refl

pub returns-then-is_failed-clause-memory : goal.returns-then-is_failed-clause-memory
returns-then-is_failed-clause-memory g c = λ is. absurd (cc)

pub returns-then-is_failed-clause-same : goal.returns-then-is_failed-clause-same
returns-then-is_failed-clause-same g c = (refl, refl)

pub returns-then-is_failed-clause-breaks : goal.returns-then-is_failed-clause-breaks
returns-then-is_failed-clause-breaks g c = λ is.
    let tell : Telling g.row.G.Denot = telling g.G.Rig.seen g.G.Rig.leaves g.G.Rig.moment g.G.Rig.since g.G.Rig.faults in
    let old = c.args.self.now.hall in
    let n = c.in_ok-call.ensures.noted in
    let entry : Reply → Entry = λ r. record { session = 0; line = 0; event = c.args.e; reply = r } in
    let last = c.last.ensures old.book.entries (entry n.0) n.1 in
    let failed : is_failed n.0 ≡ true = sym (ap is_failed last) ∙ sym c.is_failed.ensures ∙ c.if-is_failed.true in
    let made : Noted tell old c.call.new.self (entry n.0) = record {
      entries = n.1;
      serves = n.2;
      keeps = c.call.ensures.keeps;
      opening = c.call.ensures.opening;
      earlier = λ rig t u img le s. g.met.G.Rig.earlier rig t u img le s;
      found = c.in_ok-call.ensures.reopens;
      closes = c.in_ok-call.ensures.closes;
    } in
    breaks-by tell c.args.self.now (record c.args.self.now { hall = c.call.new.self }) c.args.e c.requires.alone (refl, refl)
    (subst (λ (r : Reply). Noted tell old c.call.new.self (entry r)) (failed-is n.0 failed) made)

pub returns-clause-done : goal.returns-clause-done
returns-clause-done g c =
    let tell : Telling g.row.G.Denot = telling g.G.Rig.seen g.G.Rig.leaves g.G.Rig.moment g.G.Rig.since g.G.Rig.faults in
    let old = c.args.self.now in
    let n = c.in_ok-call.ensures.noted in
    let entry : Entry = record { session = 0; line = 0; event = c.args.e; reply = n.0 } in
    let last = c.last.ensures old.hall.book.entries entry n.1 in
    let last-2 = c.last-2.ensures old.hall.book.entries entry n.1 in
    let fine : is_failed n.0 ≡ false = sym (ap is_failed last) ∙ sym c.is_failed.ensures ∙ c.if-is_failed.false in
    let made : Noted tell old.hall c.call.new.self entry = record {
      entries = n.1;
      serves = n.2;
      keeps = c.call.ensures.keeps;
      opening = c.call.ensures.opening;
      earlier = λ rig t u img le s. g.met.G.Rig.earlier rig t u img le s;
      found = c.in_ok-call.ensures.reopens;
      closes = c.in_ok-call.ensures.closes;
    } in (
      n.0,
      sym (ap is_did last-2) ∙ sym c.is_did.ensures,
      opens-by tell old (record old { hall = c.call.new.self }) c.args.e c.requires.alone (refl, refl) n.0 made fine,
    )

pub returns-clause-errors : goal.returns-clause-errors
returns-clause-errors g c = tt

pub returns-clause-memory : goal.returns-clause-memory
returns-clause-memory g c = λ is. absurd is

pub returns-clause-breaks : goal.returns-clause-breaks
returns-clause-breaks g c = λ is. absurd is

pub returns-clause-same : goal.returns-clause-same
returns-clause-same g c = (refl, refl)
