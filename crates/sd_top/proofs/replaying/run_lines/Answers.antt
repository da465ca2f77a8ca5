use Rattle.std.proofs.Common.{refl, ap, subst}
use Rattle.std.specs.Prelude.{None, OnOk, Some}
use Rattle.sd_world.specs.Serving.{Telling, telling}
use Rattle.sd_drive.specs.Driving.{IsTold}
use Rattle.sd_top.specs.declared.status.Status.TheVariants as status
use Rattle.sd_top.specs.Sides.{SinkSide}
use Rattle.sd_top.proofs.Answered.{answers_partial, answers_same, answers_told}
use Rattle.sd_top.proofs.Rising.{entries-rise}
use Rattle.sd_report.proofs.Scripts.{script_above}
use Rattle.sd_top.proofs.Scripts.{script_driven}
use Rattle.sd_top.proofs.replaying.run_lines.Goals as goal
use Rattle.sd_top.proofs.replaying.run_lines.Goals.{in-Ok, in-Err}

pub do_lines-done-requires-clause-driven : goal.do_lines-done-requires-clause-driven
do_lines-done-requires-clause-driven g c = script_driven c.requires.script.0 c.args.lines.now c.args.driver.insts c.args.driver.pages
    c.requires.script.1 c.requires.insts c.requires.pages

pub report_run-status-requires-clause-lines : goal.report_run-status-requires-clause-lines
report_run-status-requires-clause-lines g c = script_above c.requires.script.0 c.args.lines.now c.requires.script.1

pub report_run-status-requires-clause-entries : goal.report_run-status-requires-clause-entries
report_run-status-requires-clause-entries g c =
    let lines = c.args.lines.now in
    let (rig, w, o) = c.requires.opened in
    let e = c.do_lines-done.ensures rig w o in
    entries-rise _ _ lines _ e.last c.do_lines-done.result.book.entries refl
    (script_above c.requires.script.0 lines c.requires.script.1) e.led.led.drives

pub returns-clause-outcome : goal.returns-clause-outcome
returns-clause-outcome g c = λ text rig w script o.
    let lines = c.args.lines.now in
    let tell : Telling g.row.G.Denot = telling g.G.Rig.seen g.G.Rig.leaves g.G.Rig.moment g.G.Rig.since g.G.Rig.faults in
    let ended = c.do_lines-done.result in
    let e = c.do_lines-done.ensures rig w o in
    let sink : SinkSide = record { written = g.K.Sink.written c.args.sink.now; faults = g.K.Sink.faults c.args.sink.now } in
    let serial = c.serial_order.ensures in
    elim c.match-done.branch [
      | in-Ok v ↦
          let after : SinkSide = record { written = g.K.Sink.written v.report_run-status.new.sink; faults = g.K.Sink.faults v.report_run-status.new.sink } in
          let answered = answers_told serial.serial tell rig ended.rig c.args.asked v.report_run-status.result text lines ended.book e.last sink after
          script e.led (subst (λ r. OnOk r (IsTold e.last.core.scene.state e.last.told)) v.in-Ok.is e.told) e.lines_alone v.report_run-status.ensures in
          answers_same tell c.args.asked text (record { sink = sink; rig = rig }) v.report_run-status.result c.match-done.status after
          (record { written = g.K.Sink.written c.match-done.sink; faults = g.K.Sink.faults c.match-done.sink }) ended.rig ended.rig
          (Some ended.book) (Some ended.book) None None v.status-is
          (ap (λ k. record { written = g.K.Sink.written k; faults = g.K.Sink.faults k }) v.sink-is) refl refl refl answered
      | in-Err v ↦
          let after : SinkSide = record { written = g.K.Sink.written c.match-done.sink; faults = g.K.Sink.faults c.match-done.sink } in
          let answered = answers_partial serial.serial tell rig ended.rig c.args.asked text lines ended.book e.last sink after script e.led
          e.lines_alone (ap (λ k. g.K.Sink.written k) v.sink-is) in
          answers_same tell c.args.asked text (record { sink = sink; rig = rig }) status.NoMemory c.match-done.status after after ended.rig ended.rig
          (Some ended.book) (Some ended.book) None None v.status-is refl refl refl refl answered
    ]
