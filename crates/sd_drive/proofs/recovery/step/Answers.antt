use Rattle.std.proofs.Common.{ℕ, sym, ap, ◌∙◌, subst}
use Rattle.std.specs.Prelude.{IfSome, Option}
use Rattle.std.proofs.lemmas.Result.{err_from_is_err_and}
use Rattle.sd_model.specs.declared.event.Entry.{Entry}
use Rattle.sd_model.specs.declared.event.Event.TheVariants as event
use Rattle.sd_model.specs.declared.event.Reply.{Reply}
use Rattle.sd_model.specs.Step.{Step}
use Rattle.sd_world.specs.Serving.{Telling, telling}
use Rattle.sd_hall.specs.Bodies.{IsWorked}
use Rattle.sd_drive.specs.declared.recovery.Next.{Next}
use Rattle.sd_drive.specs.Recoveries.{StepsAs, Waits, ending_as}
use Rattle.sd_drive.specs.Resting.{Lowers, UndoesNextIn, rounds_in}
use Rattle.sd_model.specs.Replies.{wants_page}
use Rattle.sd_drive.proofs.Bodies.{fits-now}
use Rattle.sd_drive.proofs.Helps.{if-ok-then, on-err-then}
use Rattle.sd_drive.proofs.Recovered.{never-unwanted, step-plain, wanted-as, wanted-some, wants-of}
use Rattle.sd_drive.proofs.Rounds.{ending-lowers, lacks-wanted, lowers-later, step-lowers}
use Rattle.sd_drive.proofs.Steps.{Noted, moved, noted-some, stays-in}
use Rattle.sd_drive.proofs.recovery.step.Goals as goal

pub call-requires-clause-served : goal.call-requires-clause-served
call-requires-clause-served g c = tt

pub call-requires-clause-kept : goal.call-requires-clause-kept
call-requires-clause-kept g c = let at = c.requires.at in (at.start.world.core, at.there.keeps)

pub returns-in_err-call-clause-memory : goal.returns-in_err-call-clause-memory
returns-in_err-call-clause-memory g c =
    let tell : Telling _ = telling g.G.Rig.seen g.G.Rig.leaves g.G.Rig.moment g.G.Rig.since g.G.Rig.faults in
    let p = err_from_is_err_and c.from_residual.result c.from_residual.ensures.1 in
    rw p.1 (λ start w work rest i due. (
      w,
      stays-in tell c.args.hall.now c.call.new.self (event.RecoverStep c.args.inst) c.in_err-call.ensures.same c.in_err-call.ensures.spared
          c.call.ensures.keeps c.call.ensures.opening (λ rig t u img le s. g.met.G.Rig.earlier rig t u img le s) start w i,
      due.stands.first,
    ))

pub returns-then-not-wants_page-clause-stepped : goal.returns-then-not-wants_page-clause-stepped
returns-then-not-wants_page-clause-stepped g c =
    let tell : Telling _ = telling g.G.Rig.seen g.G.Rig.leaves g.G.Rig.moment g.G.Rig.since g.G.Rig.faults in
    let n = c.in_ok-call.ensures.noted in
    let entry : Entry = record { session = c.args.of.session; line = c.args.of.line; event = event.RecoverStep c.args.inst; reply = n.0 } in
    let last = c.last.ensures c.args.hall.now.book.entries entry n.1 in
    let noted : Noted tell c.args.hall.now c.call.new.self entry = record { entries = n.1; serves = n.2; keeps = c.call.ensures.keeps; opening = c.call.ensures.opening; earlier = λ rig t u img le s. g.met.G.Rig.earlier rig t u img le s; found = c.in_ok-call.ensures.reopens; closes = c.in_ok-call.ensures.closes } in
    let then = c.last-then-not-wants_page.ensures c.args.hall.now.book.entries entry n.1 in
    subst (λ (next : Next). StepsAs tell c.args.hall.now c.call.new.self c.args.of c.args.inst c.args.most next)
    (sym (c.ending.ensures ∙ ap (λ (r : Reply). ending_as r c.args.of.is_opening c.args.most) then))
    (step-plain tell c.args.of c.args.inst c.args.most c.args.hall.now c.call.new.self n.0 noted (sym (ap wants_page last) ∙ sym c.wants_page.ensures ∙ c.if-not-wants_page.true))

pub step_pulled-requires-clause-at : goal.step_pulled-requires-clause-at
step_pulled-requires-clause-at g c =
    let tell : Telling _ = telling g.G.Rig.seen g.G.Rig.leaves g.G.Rig.moment g.G.Rig.since g.G.Rig.faults in
    let n = c.in_ok-call.ensures.noted in
    let entry : Entry = record { session = c.args.of.session; line = c.args.of.line; event = event.RecoverStep c.args.inst; reply = n.0 } in
    let last = c.last.ensures c.args.hall.now.book.entries entry n.1 in
    let noted : Noted tell c.args.hall.now c.call.new.self entry = record { entries = n.1; serves = n.2; keeps = c.call.ensures.keeps; opening = c.call.ensures.opening; earlier = λ rig t u img le s. g.met.G.Rig.earlier rig t u img le s; found = c.in_ok-call.ensures.reopens; closes = c.in_ok-call.ensures.closes } in
    let waits = subst (λ (o : Option (ℕ × ℕ)). Waits tell c.args.hall.now.body c.args.inst o) c.in-Some.is c.awaited-waits.ensures.waits in
    wants-of tell c.args.of c.args.inst c.args.most c.args.hall.now c.call.new.self n.0 noted (sym (ap wants_page last) ∙ sym c.wants_page.ensures ∙ c.if-not-wants_page.false) c.in-Some.wait.0 c.in-Some.wait.1 waits c.requires.at

pub returns-clause-stepped : goal.returns-clause-stepped
returns-clause-stepped g c =
    let tell : Telling _ = telling g.G.Rig.seen g.G.Rig.leaves g.G.Rig.moment g.G.Rig.since g.G.Rig.faults in
    let n = c.in_ok-call.ensures.noted in
    let entry : Entry = record { session = c.args.of.session; line = c.args.of.line; event = event.RecoverStep c.args.inst; reply = n.0 } in
    let last = c.last.ensures c.args.hall.now.book.entries entry n.1 in
    let noted : Noted tell c.args.hall.now c.call.new.self entry = record { entries = n.1; serves = n.2; keeps = c.call.ensures.keeps; opening = c.call.ensures.opening; earlier = λ rig t u img le s. g.met.G.Rig.earlier rig t u img le s; found = c.in_ok-call.ensures.reopens; closes = c.in_ok-call.ensures.closes } in
    let waits = subst (λ (o : Option (ℕ × ℕ)). Waits tell c.args.hall.now.body c.args.inst o) c.in-Some.is c.awaited-waits.ensures.waits in
    if-ok-then c.step_pulled.result _ _ (λ next goes. wanted-as tell c.args.of c.args.inst c.args.most c.args.hall.now c.call.new.self n.0 noted (sym (ap wants_page last) ∙ sym c.wants_page.ensures ∙ c.if-not-wants_page.false)
    c.in-Some.wait.0 c.in-Some.wait.1 waits c.step_pulled.new.hall next goes) c.step_pulled.ensures.stepped

pub returns-clause-memory : goal.returns-clause-memory
returns-clause-memory g c =
    let tell : Telling _ = telling g.G.Rig.seen g.G.Rig.leaves g.G.Rig.moment g.G.Rig.since g.G.Rig.faults in
    let n = c.in_ok-call.ensures.noted in
    let entry : Entry = record { session = c.args.of.session; line = c.args.of.line; event = event.RecoverStep c.args.inst; reply = n.0 } in
    let last = c.last.ensures c.args.hall.now.book.entries entry n.1 in
    let noted : Noted tell c.args.hall.now c.call.new.self entry = record { entries = n.1; serves = n.2; keeps = c.call.ensures.keeps; opening = c.call.ensures.opening; earlier = λ rig t u img le s. g.met.G.Rig.earlier rig t u img le s; found = c.in_ok-call.ensures.reopens; closes = c.in_ok-call.ensures.closes } in
    let waits = subst (λ (o : Option (ℕ × ℕ)). Waits tell c.args.hall.now.body c.args.inst o) c.in-Some.is c.awaited-waits.ensures.waits in
    on-err-then c.step_pulled.result _ _ (λ some. wanted-some tell c.args.of c.args.inst c.args.most c.args.hall.now c.call.new.self n.0 noted (sym (ap wants_page last) ∙ sym c.wants_page.ensures ∙ c.if-not-wants_page.false)
    c.in-Some.wait.0 c.in-Some.wait.1 waits c.step_pulled.new.hall some) c.step_pulled.ensures.memory

pub unreachable-requires : goal.unreachable-requires
unreachable-requires g c =
    let tell : Telling _ = telling g.G.Rig.seen g.G.Rig.leaves g.G.Rig.moment g.G.Rig.since g.G.Rig.faults in
    let n = c.in_ok-call.ensures.noted in
    let entry : Entry = record { session = c.args.of.session; line = c.args.of.line; event = event.RecoverStep c.args.inst; reply = n.0 } in
    let last = c.last.ensures c.args.hall.now.book.entries entry n.1 in
    let noted : Noted tell c.args.hall.now c.call.new.self entry = record { entries = n.1; serves = n.2; keeps = c.call.ensures.keeps; opening = c.call.ensures.opening; earlier = λ rig t u img le s. g.met.G.Rig.earlier rig t u img le s; found = c.in_ok-call.ensures.reopens; closes = c.in_ok-call.ensures.closes } in
    let waits = subst (λ (o : Option (ℕ × ℕ)). Waits tell c.args.hall.now.body c.args.inst o) c.in-None.is c.awaited-waits.ensures.waits in
    never-unwanted tell c.args.of c.args.inst c.args.most c.args.hall.now c.call.new.self n.0 noted (sym (ap wants_page last) ∙ sym c.wants_page.ensures ∙ c.if-not-wants_page.false) c.requires.at waits (c.in_ok-call.ensures.awaits n.0 n.1)

pub awaited-waits-requires : goal.awaited-waits-requires
awaited-waits-requires g c =
    let tell : Telling _ = telling g.G.Rig.seen g.G.Rig.leaves g.G.Rig.moment g.G.Rig.since g.G.Rig.faults in
    let at = c.requires.at in
    record { fits = (at.world.core, fits-now tell at.start c.args.hall.now at.world at.there) }

pub returns-in_err-call-clause-stepped : goal.returns-in_err-call-clause-stepped
returns-in_err-call-clause-stepped g c =
    let p = err_from_is_err_and c.from_residual.result c.from_residual.ensures.1 in
    rw p.1 tt

pub last-requires : goal.last-requires
last-requires g c =
    let n = c.in_ok-call.ensures.noted in
    noted-some c.args.hall.now.book.entries (record { session = c.args.of.session; line = c.args.of.line; event = event.RecoverStep c.args.inst; reply = n.0 }) n.1

pub last-requires-then-not-wants_page : goal.last-requires-then-not-wants_page
last-requires-then-not-wants_page g c =
    let n = c.in_ok-call.ensures.noted in
    noted-some c.args.hall.now.book.entries (record { session = c.args.of.session; line = c.args.of.line; event = event.RecoverStep c.args.inst; reply = n.0 }) n.1

pub returns-then-not-wants_page-clause-memory : goal.returns-then-not-wants_page-clause-memory
returns-then-not-wants_page-clause-memory g c = tt

pub step_pulled-requires-clause-lacks : goal.step_pulled-requires-clause-lacks
step_pulled-requires-clause-lacks g c =
    let tell : Telling _ = telling g.G.Rig.seen g.G.Rig.leaves g.G.Rig.moment g.G.Rig.since g.G.Rig.faults in
    let n = c.in_ok-call.ensures.noted in
    let entry : Entry = record { session = c.args.of.session; line = c.args.of.line; event = event.RecoverStep c.args.inst; reply = n.0 } in
    let last = c.last.ensures c.args.hall.now.book.entries entry n.1 in
    let noted : Noted tell c.args.hall.now c.call.new.self entry = record { entries = n.1; serves = n.2; keeps = c.call.ensures.keeps; opening = c.call.ensures.opening; earlier = λ rig t u img le s. g.met.G.Rig.earlier rig t u img le s; found = c.in_ok-call.ensures.reopens; closes = c.in_ok-call.ensures.closes } in
    let at = c.requires.at in
    let m = moved tell c.args.hall.now c.call.new.self entry noted at.start at.world at.there in
    let wants = sym (ap wants_page last) ∙ sym c.wants_page.ensures ∙ c.if-not-wants_page.false in
    let next = subst (λ (o : Option (ℕ × ℕ)). IfSome o (λ x. UndoesNextIn c.args.hall.now.body c.args.inst x.0 x.1)) c.in-Some.is c.awaited-waits.ensures.next in
    let lacks = lacks-wanted tell c.args.inst c.keeps.ensures.high c.in-Some.wait.0 c.in-Some.wait.1 n.0 c.args.hall.now.body c.call.new.self.body at.world.core m.core wants
    m.fits m.turns.plays.step (c.in_ok-call.ensures.works n.0 n.1) next in
    lacks.0

pub returns-clause-nearer : goal.returns-clause-nearer
returns-clause-nearer g c =
    let tell : Telling _ = telling g.G.Rig.seen g.G.Rig.leaves g.G.Rig.moment g.G.Rig.since g.G.Rig.faults in
    let n = c.in_ok-call.ensures.noted in
    let entry : Entry = record { session = c.args.of.session; line = c.args.of.line; event = event.RecoverStep c.args.inst; reply = n.0 } in
    let last = c.last.ensures c.args.hall.now.book.entries entry n.1 in
    let noted : Noted tell c.args.hall.now c.call.new.self entry = record { entries = n.1; serves = n.2; keeps = c.call.ensures.keeps; opening = c.call.ensures.opening; earlier = λ rig t u img le s. g.met.G.Rig.earlier rig t u img le s; found = c.in_ok-call.ensures.reopens; closes = c.in_ok-call.ensures.closes } in
    let at = c.requires.at in
    let m = moved tell c.args.hall.now c.call.new.self entry noted at.start at.world at.there in
    let wants = sym (ap wants_page last) ∙ sym c.wants_page.ensures ∙ c.if-not-wants_page.false in
    let next = subst (λ (o : Option (ℕ × ℕ)). IfSome o (λ x. UndoesNextIn c.args.hall.now.body c.args.inst x.0 x.1)) c.in-Some.is c.awaited-waits.ensures.next in
    let lacks = lacks-wanted tell c.args.inst c.keeps.ensures.high c.in-Some.wait.0 c.in-Some.wait.1 n.0 c.args.hall.now.body c.call.new.self.body at.world.core m.core wants
    m.fits m.turns.plays.step (c.in_ok-call.ensures.works n.0 n.1) next in
    if-ok-then c.step_pulled.result _ _ (λ then lowers. lowers-later then _ _ _ lacks.1 lowers) c.step_pulled.ensures.nearer

pub returns-then-not-wants_page-clause-nearer : goal.returns-then-not-wants_page-clause-nearer
returns-then-not-wants_page-clause-nearer g c =
    let tell : Telling _ = telling g.G.Rig.seen g.G.Rig.leaves g.G.Rig.moment g.G.Rig.since g.G.Rig.faults in
    let n = c.in_ok-call.ensures.noted in
    let entry : Entry = record { session = c.args.of.session; line = c.args.of.line; event = event.RecoverStep c.args.inst; reply = n.0 } in
    let noted : Noted tell c.args.hall.now c.call.new.self entry = record { entries = n.1; serves = n.2; keeps = c.call.ensures.keeps; opening = c.call.ensures.opening; earlier = λ rig t u img le s. g.met.G.Rig.earlier rig t u img le s; found = c.in_ok-call.ensures.reopens; closes = c.in_ok-call.ensures.closes } in
    let then = c.last-then-not-wants_page.ensures c.args.hall.now.book.entries entry n.1 in
    let at = c.requires.at in
    let old = c.args.hall.now.body in
    let new = c.call.new.self.body in
    let i = c.args.inst in
    let m = moved tell c.args.hall.now c.call.new.self entry noted at.start at.world at.there in
    subst (λ (next : Next). Lowers next (rounds_in tell.seen old i) (rounds_in tell.seen new i))
    (sym (c.ending.ensures ∙ ap (λ (r : Reply). ending_as r c.args.of.is_opening c.args.most) then))
    (ending-lowers n.0 c.args.of.is_opening c.args.most _ _ (λ is. step-lowers tell i c.keeps.ensures.low c.keeps.ensures.high old new at.world.core m.core
    (fits-now tell at.start c.args.hall.now at.world at.there) m.fits
    (subst (λ (r : Reply). Step at.world.core.scene.state (event.RecoverStep i) r m.core.scene.state) is m.turns.plays.step)
    (subst (λ (r : Reply). IsWorked tell.seen (event.RecoverStep i) r old new) is (c.in_ok-call.ensures.works n.0 n.1))))

pub returns-in_err-call-clause-nearer : goal.returns-in_err-call-clause-nearer
returns-in_err-call-clause-nearer g c =
    let p = err_from_is_err_and c.from_residual.result c.from_residual.ensures.1 in
    rw p.1 tt
