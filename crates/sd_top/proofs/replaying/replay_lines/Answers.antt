use Rattle.std.proofs.Common.{◌∙◌, ap, arith, refl, subst, sym}
use Rattle.std.specs.Prelude.{ℕ, None}
use Rattle.sd_fits.specs.Opened.{opening_core}
use Rattle.sd_hall.specs.declared.hall.Hall.{Hall}
use Rattle.sd_hall.specs.Keeping.{Keeps}
use Rattle.sd_world.specs.Serving.{Telling, telling}
use Rattle.sd_top.specs.Sides.{SinkSide}
use Rattle.sd_top.specs.Opening.{frames_of}
use Rattle.sd_top.proofs.Answered.{answers_same, answers_unread, before_opening}
use Rattle.sd_top.proofs.Scripts.{script_complex}
use Rattle.sd_top.proofs.replaying.replay_lines.Goals as goal

pub open-requires-clause-least : goal.open-requires-clause-least
open-requires-clause-least g c =
    let count = (script_complex c.requires.script.0 c.args.lines.now c.requires.script.1).2 in
    let is = c.shape-shape.ensures.frames in
    omega (arith, count.0, is)

pub open-requires-clause-most : goal.open-requires-clause-most
open-requires-clause-most g c =
    let count = (script_complex c.requires.script.0 c.args.lines.now c.requires.script.1).2 in
    let is = c.shape-shape.ensures.frames in
    omega (arith, count.1, is)

pub run-requires-clause-unopened : goal.run-requires-clause-unopened
run-requires-clause-unopened g c =
    let tell : Telling g.row.G.Denot = telling g.G.Rig.seen g.G.Rig.leaves g.G.Rig.moment g.G.Rig.since g.G.Rig.faults in
    let start = opening_core (frames_of c.args.lines.now) (g.G.Rig.seen c.args.rig) in
    let kept = subst (λ (n : ℕ). Keeps tell (opening_core n (g.G.Rig.seen c.args.rig)) c.in-Ok.hall) c.shape-shape.ensures.frames c.in-Ok.ensures.keeps in
    let is = c.«new-rise».ensures.hall in
    let unopened = before_opening tell c.args.lines.now c.args.rig c.in-Ok.hall c.«new-rise».result kept c.in-Ok.ensures.sound
    c.in-Ok.ensures.recovered c.in-Ok.ensures.calms c.in-Ok.ensures.quiet
    (subst (λ (h : Hall g.row.G.Denot). Keeps tell start h) (sym is) (c.expect.ensures.keeps start kept))
    (ap (λ (h : Hall g.row.G.Denot). h.body) is ∙ c.expect.ensures.body)
    (ap (λ (h : Hall g.row.G.Denot). h.book.opening) is ∙ c.expect.ensures.opening)
    (ap (λ (h : Hall g.row.G.Denot). h.book.entries) is ∙ c.expect.ensures.entries ∙ c.in-Ok.ensures.entries)
    (c.«new-rise».ensures.insts ∙ c.shape-shape.ensures.insts) (c.«new-rise».ensures.pages ∙ c.shape-shape.ensures.pages) in
    (c.args.rig, unopened)

pub returns-in-Ok-clause-outcome : goal.returns-in-Ok-clause-outcome
returns-in-Ok-clause-outcome g c = λ text script.
    let tell : Telling g.row.G.Denot = telling g.G.Rig.seen g.G.Rig.leaves g.G.Rig.moment g.G.Rig.since g.G.Rig.faults in
    let start = opening_core (frames_of c.args.lines.now) (g.G.Rig.seen c.args.rig) in
    let kept = subst (λ (n : ℕ). Keeps tell (opening_core n (g.G.Rig.seen c.args.rig)) c.in-Ok.hall) c.shape-shape.ensures.frames c.in-Ok.ensures.keeps in
    let is = c.«new-rise».ensures.hall in
    let unopened = before_opening tell c.args.lines.now c.args.rig c.in-Ok.hall c.«new-rise».result kept c.in-Ok.ensures.sound
    c.in-Ok.ensures.recovered c.in-Ok.ensures.calms c.in-Ok.ensures.quiet
    (subst (λ (h : Hall g.row.G.Denot). Keeps tell start h) (sym is) (c.expect.ensures.keeps start kept))
    (ap (λ (h : Hall g.row.G.Denot). h.body) is ∙ c.expect.ensures.body)
    (ap (λ (h : Hall g.row.G.Denot). h.book.opening) is ∙ c.expect.ensures.opening)
    (ap (λ (h : Hall g.row.G.Denot). h.book.entries) is ∙ c.expect.ensures.entries ∙ c.in-Ok.ensures.entries)
    (c.«new-rise».ensures.insts ∙ c.shape-shape.ensures.insts) (c.«new-rise».ensures.pages ∙ c.shape-shape.ensures.pages) in
    c.run.ensures.outcome text c.args.rig script unopened

pub returns-in-Err-clause-outcome : goal.returns-in-Err-clause-outcome
returns-in-Err-clause-outcome g c = λ text script.
    let tell : Telling g.row.G.Denot = telling g.G.Rig.seen g.G.Rig.leaves g.G.Rig.moment g.G.Rig.since g.G.Rig.faults in
    let rig = c.args.rig in
    let left = c.in-Err.rig in
    let sink : SinkSide = record { written = g.K.Sink.written c.args.sink.now; faults = g.K.Sink.faults c.args.sink.now } in
    let after : SinkSide = record { written = g.K.Sink.written c.report_unopened.new.sink; faults = g.K.Sink.faults c.report_unopened.new.sink } in
    answers_same tell c.args.asked text (record { sink = sink; rig = rig }) c.report_unopened.result c.without_book.result.status after after left
    c.without_book.result.rig None c.without_book.result.book None c.without_book.result.bad c.without_book.ensures.status refl c.without_book.ensures.rig
    c.without_book.ensures.book c.without_book.ensures.bad
    (answers_unread tell c.args.asked text c.args.lines.now sink after rig left script c.in-Err.ensures.calms_err c.in-Err.refusal c.report_unopened.result
    c.report_unopened.ensures c.in-Err.ensures.refusals c.in-Err.ensures.cause c.in-Err.ensures.quiet_err c.in-Err.ensures.unsound
    c.in-Err.ensures.place)
