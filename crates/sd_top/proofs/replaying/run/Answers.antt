use Rattle.std.proofs.Common.{◌∙◌, arith, refl, subst, true}
use Rattle.std.specs.Prelude.{None}
use Rattle.sd_world.specs.Serving.{Core, Telling, telling}
use Rattle.sd_fits.specs.Opened.{opening_core}
use Rattle.sd_drive.specs.Running.{Breaks, Start, told_as}
use Rattle.sd_drive.proofs.Lined.{risen-opened}
use Rattle.sd_drive.specs.Driven.{IsIn}
use Rattle.sd_drive.specs.Rising.{begin_of}
use Rattle.sd_top.specs.Sides.{SinkSide}
use Rattle.sd_top.specs.Opening.{frames_of}
use Rattle.sd_top.proofs.Answered.{answers_same, answers_unopened, fails_later, led_in, opened_by, opens_as}
use Rattle.sd_top.proofs.Scripts.{script_complex}
use Rattle.sd_top.proofs.replaying.run.Goals as goal

pub opening-requires-clause-some : goal.opening-requires-clause-some
opening-requires-clause-some g c =
    let range = (script_complex c.requires.script.0 c.args.lines.now c.requires.script.1).0 in
    let is = c.requires.unopened.1.insts in
    omega (arith, range.0, is)

pub opening-requires-clause-most : goal.opening-requires-clause-most
opening-requires-clause-most g c =
    let range = (script_complex c.requires.script.0 c.args.lines.now c.requires.script.1).0 in
    let is = c.requires.unopened.1.insts in
    omega (arith, range.1, is)

pub opening-requires-clause-kept : goal.opening-requires-clause-kept
opening-requires-clause-kept g c = let u = c.requires.unopened in (opening_core (frames_of c.args.lines.now) (g.G.Rig.seen u.0), u.1.keeps)

pub opening-requires-clause-empty : goal.opening-requires-clause-empty
opening-requires-clause-empty g c = c.requires.unopened.1.entries

pub run_lines-requires-clause-insts : goal.run_lines-requires-clause-insts
run_lines-requires-clause-insts g c = c.«new-driver».ensures.insts ∙ c.opening.ensures.insts ∙ c.requires.unopened.1.insts

pub run_lines-requires-clause-pages : goal.run_lines-requires-clause-pages
run_lines-requires-clause-pages g c = c.«new-driver».ensures.pages ∙ c.opening.ensures.pages ∙ c.requires.unopened.1.pages

pub run_lines-requires-clause-opened : goal.run_lines-requires-clause-opened
run_lines-requires-clause-opened g c =
    let lines = c.args.lines.now in
    let tell : Telling g.row.G.Denot = telling g.G.Rig.seen g.G.Rig.leaves g.G.Rig.moment g.G.Rig.since g.G.Rig.faults in
    let (rig, u) = c.requires.unopened in
    let h = c.in-Ok.ensures.opened (opening_core (frames_of lines) (g.G.Rig.seen rig)) lines u.now u.has u.keeps in
    let start = begin_of c.args.rise lines (opening_core (frames_of lines) (g.G.Rig.seen rig)) u.now in (
      rig,
      h.0,
      opened_by tell lines rig c.args.rise c.«new-driver».result h.0 u
          (c.«new-driver».ensures.reached (told_as start true) lines h.0 (risen-opened tell start lines c.opening.new.self h.0 h.1)),
    )

pub returns-in-Ok-clause-outcome : goal.returns-in-Ok-clause-outcome
returns-in-Ok-clause-outcome g c = λ text rig script u.
    let lines = c.args.lines.now in
    let tell : Telling g.row.G.Denot = telling g.G.Rig.seen g.G.Rig.leaves g.G.Rig.moment g.G.Rig.since g.G.Rig.faults in
    let h = c.in-Ok.ensures.opened (opening_core (frames_of lines) (g.G.Rig.seen rig)) lines u.now u.has u.keeps in
    let start = begin_of c.args.rise lines (opening_core (frames_of lines) (g.G.Rig.seen rig)) u.now in
    c.run_lines.ensures.outcome text rig h.0 script
    (opened_by tell lines rig c.args.rise c.«new-driver».result h.0 u
    (c.«new-driver».ensures.reached (told_as start true) lines h.0 (risen-opened tell start lines c.opening.new.self h.0 h.1)))

pub close-rig-requires : goal.close-rig-requires
close-rig-requires g c =
    let (rig, u) = c.requires.unopened in
    let start = opening_core (frames_of c.args.lines.now) (g.G.Rig.seen rig) in
    record { kept = (start, c.opening.ensures.kept start u.keeps) }

pub returns-in-Err-clause-outcome : goal.returns-in-Err-clause-outcome
returns-in-Err-clause-outcome g c = λ text rig script u.
    let lines = c.args.lines.now in
    let rise = c.args.rise in
    let tell : Telling g.row.G.Denot = telling g.G.Rig.seen g.G.Rig.leaves g.G.Rig.moment g.G.Rig.since g.G.Rig.faults in
    let hall = c.opening.new.self.hall in
    let core : Core = opening_core (frames_of lines) (g.G.Rig.seen rig) in
    let rig' = c.close-rig.result.1 in
    let is = opens_as rise.insts rise.pages lines (g.G.Rig.seen rig) u.now rise.hall.book.opening u.insts u.pages in
    let sink : SinkSide = record { written = g.K.Sink.written c.args.sink.now; faults = g.K.Sink.faults c.args.sink.now } in
    let after : SinkSide = record { written = g.K.Sink.written c.report_unopened.new.sink; faults = g.K.Sink.faults c.report_unopened.new.sink } in
    answers_same tell c.args.asked text (record { sink = sink; rig = rig }) c.report_unopened.result c.without_book.result.status after after rig'
    c.without_book.result.rig None c.without_book.result.book None c.without_book.result.bad c.without_book.ensures.status refl c.without_book.ensures.rig
    c.without_book.ensures.book c.without_book.ensures.bad
    (answers_unopened tell c.args.asked text lines sink after rig rig' script c.in-Err.refusal c.report_unopened.result c.report_unopened.ensures
    c.in-Err.ensures.errors
    (λ e.
    let there = c.in-Err.ensures.memory e core lines u.now u.has u.keeps in (
      hall.book.opening,
      hall.book.entries,
      there.0,
      led_in tell lines rig u.now rig' rise.hall.book.opening hall there.0 (λ r dev le. g.met.G.Rig.leaves_seen r dev le) u.opens
          (subst (λ (s : Start g.row.G.Denot). IsIn tell s hall there.0) is there.1) c.close-rig.ensures.rig,
      there.2,
    ))
    (λ e. fails_later tell lines rig u.now rig' rise.hall.book.opening u.opens
    (subst (λ (s : Start g.row.G.Denot). Breaks tell s rig') is
    (c.in-Err.ensures.breaks e core lines u.now u.has u.keeps rig' c.close-rig.ensures.rig))))
