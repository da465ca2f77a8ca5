use Rattle.std.proofs.Common.{refl, subst}
use Rattle.std.specs.Prelude.{None}
use Rattle.sd_world.specs.Serving.{Telling, telling}
use Rattle.sd_top.specs.declared.status.Status.{Status}
use Rattle.sd_top.specs.Reporting.{TellsBad}
use Rattle.sd_top.specs.Sides.{SinkSide}
use Rattle.sd_top.proofs.Answered.{answers_bad, answers_same, answers_untold}
use Rattle.sd_top.proofs.replaying.hand_back.Goals as goal

pub returns-in-BadLine-clause-outcome : goal.returns-in-BadLine-clause-outcome
returns-in-BadLine-clause-outcome g c = λ asked text first.
    let tell : Telling g.row.G.Denot = telling g.G.Rig.seen g.G.Rig.leaves g.G.Rig.moment g.G.Rig.since g.G.Rig.faults in
    let before : SinkSide = record { written = g.K.Sink.written c.args.sink.now; faults = g.K.Sink.faults c.args.sink.now } in
    let after : SinkSide = record { written = g.K.Sink.written c.report_bad_line.new.sink; faults = g.K.Sink.faults c.report_bad_line.new.sink } in
    let done = c.with_bad in
    let told = subst (λ (s : Status). TellsBad s c.args.bad.line c.args.bad.cause before after) c.in-BadLine.is c.report_bad_line.ensures in
    answers_bad tell asked text before after c.args.rig done.result.rig done.result.book done.ensures.rig done.ensures.book c.args.bad
    done.result.status done.result.bad first.at first.bytes told done.ensures.status done.ensures.bad

pub returns-in_default-clause-outcome : goal.returns-in_default-clause-outcome
returns-in_default-clause-outcome g c = λ asked text first.
    let tell : Telling g.row.G.Denot = telling g.G.Rig.seen g.G.Rig.leaves g.G.Rig.moment g.G.Rig.since g.G.Rig.faults in
    let before : SinkSide = record { written = g.K.Sink.written c.args.sink.now; faults = g.K.Sink.faults c.args.sink.now } in
    let after : SinkSide = record { written = g.K.Sink.written c.report_bad_line.new.sink; faults = g.K.Sink.faults c.report_bad_line.new.sink } in
    let rig = c.args.rig in
    let done = c.without_book in
    answers_same tell asked text (record { sink = before; rig = rig }) c.report_bad_line.result done.result.status after after rig done.result.rig
    None done.result.book None done.result.bad done.ensures.status refl done.ensures.rig done.ensures.book done.ensures.bad
    (answers_untold tell asked text before after rig rig None refl refl c.args.bad.line c.args.bad.cause c.report_bad_line.result None
    c.report_bad_line.ensures c.in_default.not-BadLine)
