use Rattle.std.proofs.Common.{◌≡◌, ℕ, List, true, false, sym, ap, ◌∙◌, subst}
use Rattle.std.specs.Prelude.{None, Some}
use Rattle.std.proofs.lemmas.Result.{err_from_is_err_and}
use Rattle.sd_base.specs.declared.place.Mode.{Mode}
use Rattle.sd_model.specs.declared.event.Entry.{Entry}
use Rattle.sd_model.specs.declared.event.Event.{Event}
use Rattle.sd_model.specs.declared.event.Reply.{Reply}
use Rattle.sd_world.specs.Serving.{Telling, telling}
use Rattle.sd_hall.specs.Served.{IsServed}
use Rattle.sd_drive.specs.Standing.{Wants}
use Rattle.sd_drive.proofs.Helps.{on-err-both, on-err-then, on-ok-both, on-ok-then, on-ok-with}
use Rattle.sd_model.specs.Replies.{wants_page}
use Rattle.sd_drive.proofs.Needs.{needs-none}
use Rattle.sd_drive.proofs.Operating.{again-all, first-some, fits-mid, once-all, pull-in, pulled-some, somewhere, stays-some, then-some, wants-as}
use Rattle.sd_drive.proofs.Steps.{Noted, noted-some, stays-in}
use Rattle.sd_drive.proofs.events.operate.Goals as goal

pub returns-in_err-call-clause-memory : goal.returns-in_err-call-clause-memory
returns-in_err-call-clause-memory g c =
    let tell : Telling _ = telling g.G.Rig.seen g.G.Rig.leaves g.G.Rig.moment g.G.Rig.since g.G.Rig.faults in
    let p = err_from_is_err_and c.from_residual.result c.from_residual.ensures.1 in
    rw p.1 (stays-some tell c.args.session c.args.line c.args.e c.args.hall.now c.call.new.self
    (stays-in tell c.args.hall.now c.call.new.self c.args.e c.in_err-call.ensures.same c.in_err-call.ensures.spared c.call.ensures.keeps c.call.ensures.opening (λ rig t u img le s. g.met.G.Rig.earlier rig t u img le s)))

pub returns-in-None-clause-done : goal.returns-in-None-clause-done
returns-in-None-clause-done g c =
    let tell : Telling _ = telling g.G.Rig.seen g.G.Rig.leaves g.G.Rig.moment g.G.Rig.since g.G.Rig.faults in
    let old = c.args.hall.now in
    let mid = c.call.new.self in
    let n = c.in_ok-call.ensures.noted in
    let entry : Entry = record { session = c.args.session; line = c.args.line; event = c.args.e; reply = n.0 } in
    let noted : Noted tell old mid entry = record { entries = n.1; serves = n.2; keeps = c.call.ensures.keeps; opening = c.call.ensures.opening; earlier = λ rig t u img le s. g.met.G.Rig.earlier rig t u img le s; found = c.in_ok-call.ensures.reopens; closes = c.in_ok-call.ensures.closes } in
    let last : c.last_entry-last.result.now ≡ entry = c.last_entry-last.ensures old.book.entries entry n.1 in
    once-all tell c.args.session c.args.line c.args.e c.requires.names old mid n.0 noted
    (wants-as tell c.args.session c.args.line c.args.e c.requires.names old mid n.0 noted
    c.last_entry-last.result.now c.wanted.result None last c.in-None.is c.wanted.ensures)

pub wanted-requires : goal.wanted-requires
wanted-requires g c =
    let tell : Telling _ = telling g.G.Rig.seen g.G.Rig.leaves g.G.Rig.moment g.G.Rig.since g.G.Rig.faults in
    let old = c.args.hall.now in
    let mid = c.call.new.self in
    let n = c.in_ok-call.ensures.noted in
    let entry : Entry = record { session = c.args.session; line = c.args.line; event = c.args.e; reply = n.0 } in
    let noted : Noted tell old mid entry = record { entries = n.1; serves = n.2; keeps = c.call.ensures.keeps; opening = c.call.ensures.opening; earlier = λ rig t u img le s. g.met.G.Rig.earlier rig t u img le s; found = c.in_ok-call.ensures.reopens; closes = c.in_ok-call.ensures.closes } in
    let last : c.last_entry-last.result.now ≡ entry = c.last_entry-last.ensures old.book.entries entry n.1 in
    let told : wants_page n.0 ≡ true =
    sym (ap wants_page (c.last.ensures old.book.entries entry n.1)) ∙ sym c.wants_page.ensures ∙ c.if-not-wants_page.false in
    record {
      fits = fits-mid tell c.args.session c.args.line c.args.e c.requires.names old mid n.0 noted c.requires.due;
      wants = ap (λ (y : Entry). wants_page y.reply) last ∙ told;
    }

pub returns-in_err-again-in-Some-clause-memory : goal.returns-in_err-again-in-Some-clause-memory
returns-in_err-again-in-Some-clause-memory g c =
    let tell : Telling _ = telling g.G.Rig.seen g.G.Rig.leaves g.G.Rig.moment g.G.Rig.since g.G.Rig.faults in
    let old = c.args.hall.now in
    let mid = c.call.new.self in
    let n = c.in_ok-call.ensures.noted in
    let entry : Entry = record { session = c.args.session; line = c.args.line; event = c.args.e; reply = n.0 } in
    let noted : Noted tell old mid entry = record { entries = n.1; serves = n.2; keeps = c.call.ensures.keeps; opening = c.call.ensures.opening; earlier = λ rig t u img le s. g.met.G.Rig.earlier rig t u img le s; found = c.in_ok-call.ensures.reopens; closes = c.in_ok-call.ensures.closes } in
    let last : c.last_entry-last.result.now ≡ entry = c.last_entry-last.ensures old.book.entries entry n.1 in
    let x : ℕ × ℕ × Mode = c.in-Some.need in
    let wants : Wants tell mid.body c.args.e n.0 (Some x) = wants-as tell c.args.session c.args.line c.args.e c.requires.names old mid n.0 noted
    c.last_entry-last.result.now c.wanted.result (Some x) last c.in-Some.is c.wanted.ensures in
    let p = err_from_is_err_and c.from_residual-in_err-again-in-Some.result c.from_residual-in_err-again-in-Some.ensures.1 in
    rw p.1 (first-some tell c.args.session c.args.line c.args.e c.requires.names old mid n.0 noted x wants)

pub pull-requires : goal.pull-requires
pull-requires g c =
    let tell : Telling _ = telling g.G.Rig.seen g.G.Rig.leaves g.G.Rig.moment g.G.Rig.since g.G.Rig.faults in
    let old = c.args.hall.now in
    let mid = c.call.new.self in
    let n = c.in_ok-call.ensures.noted in
    let entry : Entry = record { session = c.args.session; line = c.args.line; event = c.args.e; reply = n.0 } in
    let noted : Noted tell old mid entry = record { entries = n.1; serves = n.2; keeps = c.call.ensures.keeps; opening = c.call.ensures.opening; earlier = λ rig t u img le s. g.met.G.Rig.earlier rig t u img le s; found = c.in_ok-call.ensures.reopens; closes = c.in_ok-call.ensures.closes } in
    let last : c.last_entry-last.result.now ≡ entry = c.last_entry-last.ensures old.book.entries entry n.1 in
    let x : ℕ × ℕ × Mode = c.in-Some.need in
    let wants : Wants tell mid.body c.args.e n.0 (Some x) = wants-as tell c.args.session c.args.line c.args.e c.requires.names old mid n.0 noted
    c.last_entry-last.result.now c.wanted.result (Some x) last c.in-Some.is c.wanted.ensures in
    record { at = pull-in tell c.args.session c.args.line c.args.e c.requires.names old mid n.0 noted x wants c.requires.due }

pub returns-in_err-_came-in-Some-clause-memory : goal.returns-in_err-_came-in-Some-clause-memory
returns-in_err-_came-in-Some-clause-memory g c =
    let tell : Telling _ = telling g.G.Rig.seen g.G.Rig.leaves g.G.Rig.moment g.G.Rig.since g.G.Rig.faults in
    let old = c.args.hall.now in
    let mid = c.call.new.self in
    let n = c.in_ok-call.ensures.noted in
    let entry : Entry = record { session = c.args.session; line = c.args.line; event = c.args.e; reply = n.0 } in
    let noted : Noted tell old mid entry = record { entries = n.1; serves = n.2; keeps = c.call.ensures.keeps; opening = c.call.ensures.opening; earlier = λ rig t u img le s. g.met.G.Rig.earlier rig t u img le s; found = c.in_ok-call.ensures.reopens; closes = c.in_ok-call.ensures.closes } in
    let last : c.last_entry-last.result.now ≡ entry = c.last_entry-last.ensures old.book.entries entry n.1 in
    let x : ℕ × ℕ × Mode = c.in-Some.need in
    let wants : Wants tell mid.body c.args.e n.0 (Some x) = wants-as tell c.args.session c.args.line c.args.e c.requires.names old mid n.0 noted
    c.last_entry-last.result.now c.wanted.result (Some x) last c.in-Some.is c.wanted.ensures in
    let p = err_from_is_err_and c.from_residual-in_err-_came-in-Some.result c.from_residual-in_err-_came-in-Some.ensures.1 in
    rw p.1 (pulled-some tell c.args.session c.args.line c.args.e c.requires.names old mid n.0 noted x wants c.pull.new.hall c.in_err-_came-in-Some.ensures.memory)

pub call-requires-in-Some-clause-served : goal.call-requires-in-Some-clause-served
call-requires-in-Some-clause-served g c =
    let tell : Telling _ = telling g.G.Rig.seen g.G.Rig.leaves g.G.Rig.moment g.G.Rig.since g.G.Rig.faults in
    let old = c.args.hall.now in
    let mid = c.call.new.self in
    let n = c.in_ok-call.ensures.noted in
    let entry : Entry = record { session = c.args.session; line = c.args.line; event = c.args.e; reply = n.0 } in
    let noted : Noted tell old mid entry = record { entries = n.1; serves = n.2; keeps = c.call.ensures.keeps; opening = c.call.ensures.opening; earlier = λ rig t u img le s. g.met.G.Rig.earlier rig t u img le s; found = c.in_ok-call.ensures.reopens; closes = c.in_ok-call.ensures.closes } in
    let last : c.last_entry-last.result.now ≡ entry = c.last_entry-last.ensures old.book.entries entry n.1 in
    let x : ℕ × ℕ × Mode = c.in-Some.need in
    let wants : Wants tell mid.body c.args.e n.0 (Some x) = wants-as tell c.args.session c.args.line c.args.e c.requires.names old mid n.0 noted
    c.last_entry-last.result.now c.wanted.result (Some x) last c.in-Some.is c.wanted.ensures in
    let same : c.in_ok-again-in-Some.again ≡ c.args.e = c.in_ok-again-in-Some.ensures.same ∙ ap (λ (y : Entry). y.event) last in
    subst IsServed (sym same) c.requires.served

pub call-requires-in-Some-clause-kept : goal.call-requires-in-Some-clause-kept
call-requires-in-Some-clause-kept g c =
    let tell : Telling _ = telling g.G.Rig.seen g.G.Rig.leaves g.G.Rig.moment g.G.Rig.since g.G.Rig.faults in
    let old = c.args.hall.now in
    let mid = c.call.new.self in
    let n = c.in_ok-call.ensures.noted in
    let entry : Entry = record { session = c.args.session; line = c.args.line; event = c.args.e; reply = n.0 } in
    let noted : Noted tell old mid entry = record { entries = n.1; serves = n.2; keeps = c.call.ensures.keeps; opening = c.call.ensures.opening; earlier = λ rig t u img le s. g.met.G.Rig.earlier rig t u img le s; found = c.in_ok-call.ensures.reopens; closes = c.in_ok-call.ensures.closes } in
    let last : c.last_entry-last.result.now ≡ entry = c.last_entry-last.ensures old.book.entries entry n.1 in
    let x : ℕ × ℕ × Mode = c.in-Some.need in
    let wants : Wants tell mid.body c.args.e n.0 (Some x) = wants-as tell c.args.session c.args.line c.args.e c.requires.names old mid n.0 noted
    c.last_entry-last.result.now c.wanted.result (Some x) last c.in-Some.is c.wanted.ensures in
    let at = somewhere tell c.args.session c.args.line c.args.e c.requires.names old mid n.0 noted x wants c.pull.new.hall c.in_ok-_came-in-Some._came c.in_ok-_came-in-Some.ensures.pulled c.requires.due in
    (at.0.world.core, at.2.keeps)

pub returns-in_ok-_came-in-Some-clause-done : goal.returns-in_ok-_came-in-Some-clause-done
returns-in_ok-_came-in-Some-clause-done g c =
    let tell : Telling _ = telling g.G.Rig.seen g.G.Rig.leaves g.G.Rig.moment g.G.Rig.since g.G.Rig.faults in
    let old = c.args.hall.now in
    let mid = c.call.new.self in
    let n = c.in_ok-call.ensures.noted in
    let entry : Entry = record { session = c.args.session; line = c.args.line; event = c.args.e; reply = n.0 } in
    let noted : Noted tell old mid entry = record { entries = n.1; serves = n.2; keeps = c.call.ensures.keeps; opening = c.call.ensures.opening; earlier = λ rig t u img le s. g.met.G.Rig.earlier rig t u img le s; found = c.in_ok-call.ensures.reopens; closes = c.in_ok-call.ensures.closes } in
    let last : c.last_entry-last.result.now ≡ entry = c.last_entry-last.ensures old.book.entries entry n.1 in
    let x : ℕ × ℕ × Mode = c.in-Some.need in
    let wants : Wants tell mid.body c.args.e n.0 (Some x) = wants-as tell c.args.session c.args.line c.args.e c.requires.names old mid n.0 noted
    c.last_entry-last.result.now c.wanted.result (Some x) last c.in-Some.is c.wanted.ensures in
    let same : c.in_ok-again-in-Some.again ≡ c.args.e = c.in_ok-again-in-Some.ensures.same ∙ ap (λ (y : Entry). y.event) last in
    let noted_as : Event → Reply → Type 0 = λ y q. Noted tell c.pull.new.hall c.call-in-Some.new.self (record { session = c.args.session; line = c.args.line; event = y; reply = q }) in
    on-ok-then c.call-in-Some.result _ _ (λ m. again-all tell c.args.session c.args.line c.args.e c.requires.names old mid n.0 noted x wants c.pull.new.hall
    c.in_ok-_came-in-Some._came c.in_ok-_came-in-Some.ensures.pulled c.call-in-Some.new.self m.0
    (subst (λ (y : Event). noted_as y m.0) same (record { entries = m.1; serves = m.2; keeps = c.call-in-Some.ensures.keeps; opening = c.call-in-Some.ensures.opening; earlier = λ rig t u img le s. g.met.G.Rig.earlier rig t u img le s; found = m.3.0; closes = m.3.1 })))
    (on-ok-with c.call-in-Some.result _ _ _ c.call-in-Some.ensures.noted
    (on-ok-both c.call-in-Some.result _ _ c.call-in-Some.ensures.reopens c.call-in-Some.ensures.closes))

pub returns-in_ok-_came-in-Some-clause-memory : goal.returns-in_ok-_came-in-Some-clause-memory
returns-in_ok-_came-in-Some-clause-memory g c =
    let tell : Telling _ = telling g.G.Rig.seen g.G.Rig.leaves g.G.Rig.moment g.G.Rig.since g.G.Rig.faults in
    let old = c.args.hall.now in
    let mid = c.call.new.self in
    let n = c.in_ok-call.ensures.noted in
    let entry : Entry = record { session = c.args.session; line = c.args.line; event = c.args.e; reply = n.0 } in
    let noted : Noted tell old mid entry = record { entries = n.1; serves = n.2; keeps = c.call.ensures.keeps; opening = c.call.ensures.opening; earlier = λ rig t u img le s. g.met.G.Rig.earlier rig t u img le s; found = c.in_ok-call.ensures.reopens; closes = c.in_ok-call.ensures.closes } in
    let last : c.last_entry-last.result.now ≡ entry = c.last_entry-last.ensures old.book.entries entry n.1 in
    let x : ℕ × ℕ × Mode = c.in-Some.need in
    let wants : Wants tell mid.body c.args.e n.0 (Some x) = wants-as tell c.args.session c.args.line c.args.e c.requires.names old mid n.0 noted
    c.last_entry-last.result.now c.wanted.result (Some x) last c.in-Some.is c.wanted.ensures in
    let same : c.in_ok-again-in-Some.again ≡ c.args.e = c.in_ok-again-in-Some.ensures.same ∙ ap (λ (y : Entry). y.event) last in
    on-err-then c.call-in-Some.result _ _ (λ m. then-some tell c.args.session c.args.line c.args.e c.requires.names old mid n.0 noted x wants c.pull.new.hall
    c.in_ok-_came-in-Some._came c.in_ok-_came-in-Some.ensures.pulled c.call-in-Some.new.self
    (stays-in tell c.pull.new.hall c.call-in-Some.new.self c.in_ok-again-in-Some.again m.0 m.1 c.call-in-Some.ensures.keeps c.call-in-Some.ensures.opening (λ rig t u img le s. g.met.G.Rig.earlier rig t u img le s)))
    (on-err-both c.call-in-Some.result _ _ c.call-in-Some.ensures.same c.call-in-Some.ensures.spared)

pub call-requires-clause-served : goal.call-requires-clause-served
call-requires-clause-served g c = c.requires.served

pub call-requires-clause-kept : goal.call-requires-clause-kept
call-requires-clause-kept g c =
    let at = c.requires.due in
    (at.start.world.core, at.there.keeps)

pub returns-in_err-call-clause-done : goal.returns-in_err-call-clause-done
returns-in_err-call-clause-done g c =
    let p = err_from_is_err_and c.from_residual.result c.from_residual.ensures.1 in
    rw p.1 tt

pub last-requires : goal.last-requires
last-requires g c =
    let n = c.in_ok-call.ensures.noted in
    noted-some c.args.hall.now.book.entries (record { session = c.args.session; line = c.args.line; event = c.args.e; reply = n.0 }) n.1

pub returns-then-not-wants_page-clause-done : goal.returns-then-not-wants_page-clause-done
returns-then-not-wants_page-clause-done g c =
    let tell : Telling _ = telling g.G.Rig.seen g.G.Rig.leaves g.G.Rig.moment g.G.Rig.since g.G.Rig.faults in
    let old = c.args.hall.now in
    let mid = c.call.new.self in
    let n = c.in_ok-call.ensures.noted in
    let entry : Entry = record { session = c.args.session; line = c.args.line; event = c.args.e; reply = n.0 } in
    let noted : Noted tell old mid entry = record { entries = n.1; serves = n.2; keeps = c.call.ensures.keeps; opening = c.call.ensures.opening; earlier = λ rig t u img le s. g.met.G.Rig.earlier rig t u img le s; found = c.in_ok-call.ensures.reopens; closes = c.in_ok-call.ensures.closes } in
    let plain : wants_page n.0 ≡ false =
    sym (ap wants_page (c.last.ensures old.book.entries entry n.1)) ∙ sym c.wants_page.ensures ∙ c.if-not-wants_page.true in
    once-all tell c.args.session c.args.line c.args.e c.requires.names old mid n.0 noted
    (λ w w' turns fits. needs-none w.scene.state c.args.e n.0 plain)

pub last_entry-last-requires : goal.last_entry-last-requires
last_entry-last-requires g c =
    let n = c.in_ok-call.ensures.noted in
    let before : List Entry = c.args.hall.now.book.entries in
    let entry : Entry = record { session = c.args.session; line = c.args.line; event = c.args.e; reply = n.0 } in
    let told : wants_page n.0 ≡ true =
    sym (ap wants_page (c.last.ensures before entry n.1)) ∙ sym c.wants_page.ensures ∙ c.if-not-wants_page.false in
    (before, entry, n.1, told)

pub returns-in-None-clause-memory : goal.returns-in-None-clause-memory
returns-in-None-clause-memory g c = tt

pub returns-then-not-wants_page-clause-memory : goal.returns-then-not-wants_page-clause-memory
returns-then-not-wants_page-clause-memory g c = tt

pub returns-in_err-again-in-Some-clause-done : goal.returns-in_err-again-in-Some-clause-done
returns-in_err-again-in-Some-clause-done g c =
    let p = err_from_is_err_and c.from_residual-in_err-again-in-Some.result c.from_residual-in_err-again-in-Some.ensures.1 in
    rw p.1 tt

pub returns-in_err-_came-in-Some-clause-done : goal.returns-in_err-_came-in-Some-clause-done
returns-in_err-_came-in-Some-clause-done g c =
    let p = err_from_is_err_and c.from_residual-in_err-_came-in-Some.result c.from_residual-in_err-_came-in-Some.ensures.1 in
    rw p.1 tt
