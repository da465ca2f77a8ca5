use Rattle.std.proofs.Common.{◌≡◌, Bool, true, false, sym, ap, ◌∙◌, subst}
use Rattle.std.proofs.lemmas.Result.{err_from_is_err_and}
use Rattle.sd_base.specs.declared.place.Mode.TheVariants as modes
use Rattle.sd_model.specs.declared.event.Entry.{Entry}
use Rattle.sd_model.specs.declared.event.Event.TheVariants as event
use Rattle.sd_model.specs.declared.event.Reply.{Reply}
use Rattle.sd_model.specs.Step.{Step}
use Rattle.sd_world.specs.Serving.{Telling, telling}
use Rattle.sd_hall.specs.Bodies.{IsWorked}
use Rattle.sd_drive.specs.declared.recovery.Next.{Next}
use Rattle.sd_drive.specs.Driven.{PullsAll, ends_failed}
use Rattle.sd_drive.specs.Recoveries.{PulledAs, ending_as}
use Rattle.sd_drive.specs.Resting.{Lowers, rounds_in}
use Rattle.sd_drive.proofs.Bodies.{fits-now}
use Rattle.sd_drive.proofs.Recovered.{pull-in, pulled-came, pulled-some, vain-again, vain-broken, vain-kept, vain-some}
use Rattle.sd_drive.proofs.Rounds.{came-has, came-lowers, ending-lowers, lowers-later, pull-least, step-lowers}
use Rattle.sd_drive.proofs.Steps.{Noted, moved, noted-some, stays-in}
use Rattle.sd_drive.proofs.recovery.step_pulled.Goals as goal
use Rattle.sd_drive.proofs.recovery.step_pulled.Goals.{else-of-via-then-of+else-ends_failed, else-of-via-else-of}

pub pull-requires : goal.pull-requires
pull-requires g c =
    let tell : Telling _ = telling g.G.Rig.seen g.G.Rig.leaves g.G.Rig.moment g.G.Rig.since g.G.Rig.faults in
    record { at = pull-in tell c.args.of c.args.inst c.args.most c.args.by c.args.page c.args.hall.now c.args.hall.now c.requires.at }

pub returns-in_err-pull-clause-memory : goal.returns-in_err-pull-clause-memory
returns-in_err-pull-clause-memory g c =
    let tell : Telling _ = telling g.G.Rig.seen g.G.Rig.leaves g.G.Rig.moment g.G.Rig.since g.G.Rig.faults in
    let p = err_from_is_err_and c.from_residual.result c.from_residual.ensures.1 in
    rw p.1 (pulled-some tell c.args.of c.args.inst c.args.most c.args.by c.args.page c.args.hall.now c.pull.new.hall c.in_err-pull.ensures.memory)

pub returns-then-branch-clause-stepped : goal.returns-then-branch-clause-stepped
returns-then-branch-clause-stepped g c =
    let tell : Telling _ = telling g.G.Rig.seen g.G.Rig.leaves g.G.Rig.moment g.G.Rig.since g.G.Rig.faults in
    pulled-came tell c.args.of c.args.inst c.args.most c.args.by c.args.page c.args.hall.now c.pull.new.hall
    (subst (λ (b : Bool). PullsAll tell c.args.hall.now c.pull.new.hall (record { inst = c.args.by; mode = modes.Excl }) c.args.page b) c.if-branch.true c.in_ok-pull.ensures.pulled)

pub call-requires-clause-served : goal.call-requires-clause-served
call-requires-clause-served g c = tt

pub call-requires-clause-kept : goal.call-requires-clause-kept
call-requires-clause-kept g c =
    let tell : Telling _ = telling g.G.Rig.seen g.G.Rig.leaves g.G.Rig.moment g.G.Rig.since g.G.Rig.faults in
    let vain = subst (λ (b : Bool). PullsAll tell c.args.hall.now c.pull.new.hall (record { inst = c.args.by; mode = modes.Excl }) c.args.page b) c.if-branch.false c.in_ok-pull.ensures.pulled in
    let at = vain-kept tell c.args.of c.args.inst c.args.most c.args.by c.args.page c.args.hall.now c.pull.new.hall vain c.requires.at in
    (at.0.world.core, at.2.keeps)

pub returns-then-ends_failed-clause-stepped : goal.returns-then-ends_failed-clause-stepped
returns-then-ends_failed-clause-stepped g c =
    let tell : Telling _ = telling g.G.Rig.seen g.G.Rig.leaves g.G.Rig.moment g.G.Rig.since g.G.Rig.faults in
    let vain = subst (λ (b : Bool). PullsAll tell c.args.hall.now c.pull.new.hall (record { inst = c.args.by; mode = modes.Excl }) c.args.page b) c.if-branch.false c.in_ok-pull.ensures.pulled in
    vain-broken tell c.args.of c.args.inst c.args.most c.args.by c.args.page c.args.hall.now c.pull.new.hall vain c.if-of.true (sym c.ends_failed.ensures ∙ c.if-ends_failed.true)

pub returns-in_err-call-clause-memory : goal.returns-in_err-call-clause-memory
returns-in_err-call-clause-memory g c =
    let tell : Telling _ = telling g.G.Rig.seen g.G.Rig.leaves g.G.Rig.moment g.G.Rig.since g.G.Rig.faults in
    let vain = subst (λ (b : Bool). PullsAll tell c.args.hall.now c.pull.new.hall (record { inst = c.args.by; mode = modes.Excl }) c.args.page b) c.if-branch.false c.in_ok-pull.ensures.pulled in
    let p = err_from_is_err_and c.from_residual-in_err-call.result c.from_residual-in_err-call.ensures.1 in
    rw p.1 (vain-some tell c.args.of c.args.inst c.args.most c.args.by c.args.page c.args.hall.now c.pull.new.hall vain c.call.new.self
    (stays-in tell c.pull.new.hall c.call.new.self (event.RecoverStep c.args.inst) c.in_err-call.ensures.same c.in_err-call.ensures.spared
    c.call.ensures.keeps c.call.ensures.opening (λ rig t u img le s. g.met.G.Rig.earlier rig t u img le s)))

pub returns-clause-stepped : goal.returns-clause-stepped
returns-clause-stepped g c =
    let tell : Telling _ = telling g.G.Rig.seen g.G.Rig.leaves g.G.Rig.moment g.G.Rig.since g.G.Rig.faults in
    let vain = subst (λ (b : Bool). PullsAll tell c.args.hall.now c.pull.new.hall (record { inst = c.args.by; mode = modes.Excl }) c.args.page b) c.if-branch.false c.in_ok-pull.ensures.pulled in
    let n = c.in_ok-call.ensures.noted in
    let entry : Entry = record { session = c.args.of.session; line = c.args.of.line; event = event.RecoverStep c.args.inst; reply = n.0 } in
    let last = c.last.ensures c.pull.new.hall.book.entries entry n.1 in
    let noted : Noted tell c.pull.new.hall c.call.new.self entry = record { entries = n.1; serves = n.2; keeps = c.call.ensures.keeps; opening = c.call.ensures.opening; earlier = λ rig t u img le s. g.met.G.Rig.earlier rig t u img le s; found = c.in_ok-call.ensures.reopens; closes = c.in_ok-call.ensures.closes } in
    let fine : c.args.of.is_opening ≡ true → ends_failed c.pull.new.hall.book.entries ≡ false = elim c.else-of.branch [
      | else-of-via-then-of+else-ends_failed w ↦ λ opens. sym w.ends_failed.ensures ∙ w.if-ends_failed.false
      | else-of-via-else-of w ↦ λ opens. let isnt = w.if-of.false in absurd (cc)
    ] in
    subst (λ (next : Next). PulledAs tell c.args.hall.now c.call.new.self c.args.of c.args.inst c.args.most c.args.by c.args.page next)
    (sym (c.ending.ensures ∙ ap (λ (r : Reply). ending_as r c.args.of.is_opening c.args.most) last))
    (vain-again tell c.args.of c.args.inst c.args.most c.args.by c.args.page c.args.hall.now c.pull.new.hall vain fine c.call.new.self n.0 noted)

pub returns-in_err-pull-clause-stepped : goal.returns-in_err-pull-clause-stepped
returns-in_err-pull-clause-stepped g c =
    let p = err_from_is_err_and c.from_residual.result c.from_residual.ensures.1 in
    rw p.1 tt

pub returns-then-branch-clause-memory : goal.returns-then-branch-clause-memory
returns-then-branch-clause-memory g c = tt

pub returns-then-ends_failed-clause-memory : goal.returns-then-ends_failed-clause-memory
returns-then-ends_failed-clause-memory g c = tt

pub returns-in_err-call-clause-stepped : goal.returns-in_err-call-clause-stepped
returns-in_err-call-clause-stepped g c =
    let p = err_from_is_err_and c.from_residual-in_err-call.result c.from_residual-in_err-call.ensures.1 in
    rw p.1 tt

pub last-requires : goal.last-requires
last-requires g c =
    let n = c.in_ok-call.ensures.noted in
    noted-some c.pull.new.hall.book.entries (record { session = c.args.of.session; line = c.args.of.line; event = event.RecoverStep c.args.inst; reply = n.0 }) n.1

pub returns-clause-memory : goal.returns-clause-memory
returns-clause-memory g c = tt

pub returns-then-branch-clause-nearer : goal.returns-then-branch-clause-nearer
returns-then-branch-clause-nearer g c =
    let tell : Telling _ = telling g.G.Rig.seen g.G.Rig.leaves g.G.Rig.moment g.G.Rig.since g.G.Rig.faults in
    let all = subst (λ (b : Bool). PullsAll tell c.args.hall.now c.pull.new.hall (record { inst = c.args.by; mode = modes.Excl }) c.args.page b) c.if-branch.true c.in_ok-pull.ensures.pulled in
    let here = pull-in tell c.args.of c.args.inst c.args.most c.args.by c.args.page c.args.hall.now c.pull.new.hall c.requires.at in
    came-lowers tell c.args.inst c.args.by c.args.page c.keeps.ensures.high c.args.hall.now.body c.pull.new.hall.body c.requires.lacks c.in_ok-pull.ensures.rests
    (came-has tell c.args.by c.args.page c.args.hall.now c.pull.new.hall all here)

pub returns-clause-nearer : goal.returns-clause-nearer
returns-clause-nearer g c =
    let tell : Telling _ = telling g.G.Rig.seen g.G.Rig.leaves g.G.Rig.moment g.G.Rig.since g.G.Rig.faults in
    let vain = subst (λ (b : Bool). PullsAll tell c.args.hall.now c.pull.new.hall (record { inst = c.args.by; mode = modes.Excl }) c.args.page b) c.if-branch.false c.in_ok-pull.ensures.pulled in
    let n = c.in_ok-call.ensures.noted in
    let entry : Entry = record { session = c.args.of.session; line = c.args.of.line; event = event.RecoverStep c.args.inst; reply = n.0 } in
    let last = c.last.ensures c.pull.new.hall.book.entries entry n.1 in
    let noted : Noted tell c.pull.new.hall c.call.new.self entry = record { entries = n.1; serves = n.2; keeps = c.call.ensures.keeps; opening = c.call.ensures.opening; earlier = λ rig t u img le s. g.met.G.Rig.earlier rig t u img le s; found = c.in_ok-call.ensures.reopens; closes = c.in_ok-call.ensures.closes } in
    let old = c.args.hall.now.body in
    let mid = c.pull.new.hall.body in
    let new = c.call.new.self.body in
    let i = c.args.inst in
    let at = vain-kept tell c.args.of i c.args.most c.args.by c.args.page c.args.hall.now c.pull.new.hall vain c.requires.at in
    let m = moved tell c.pull.new.hall c.call.new.self entry noted at.0 at.1 at.2 in
    let least = pull-least tell i c.args.by c.args.page c.keeps.ensures.high old mid c.requires.lacks c.in_ok-pull.ensures.rests in
    subst (λ (next : Next). Lowers next (rounds_in tell.seen old i) (rounds_in tell.seen new i))
    (sym (c.ending.ensures ∙ ap (λ (r : Reply). ending_as r c.args.of.is_opening c.args.most) last))
    (lowers-later (ending_as n.0 c.args.of.is_opening c.args.most) _ _ _ least
    (ending-lowers n.0 c.args.of.is_opening c.args.most (rounds_in tell.seen mid i) (rounds_in tell.seen new i) (λ is.
    step-lowers tell i c.keeps.ensures.low c.keeps.ensures.high mid new at.1.core m.core (fits-now tell at.0 c.pull.new.hall at.1 at.2) m.fits
    (subst (λ (r : Reply). Step at.1.core.scene.state (event.RecoverStep i) r m.core.scene.state) is m.turns.plays.step)
    (subst (λ (r : Reply). IsWorked tell.seen (event.RecoverStep i) r mid new) is (c.in_ok-call.ensures.works n.0 n.1)))))

pub returns-then-ends_failed-clause-nearer : goal.returns-then-ends_failed-clause-nearer
returns-then-ends_failed-clause-nearer g c = tt

pub returns-in_err-pull-clause-nearer : goal.returns-in_err-pull-clause-nearer
returns-in_err-pull-clause-nearer g c =
    let p = err_from_is_err_and c.from_residual.result c.from_residual.ensures.1 in
    rw p.1 tt

pub returns-in_err-call-clause-nearer : goal.returns-in_err-call-clause-nearer
returns-in_err-call-clause-nearer g c =
    let p = err_from_is_err_and c.from_residual-in_err-call.result c.from_residual-in_err-call.ensures.1 in
    rw p.1 tt
