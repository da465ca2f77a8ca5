use Rattle.std.proofs.Common.{inl, refl}
use Rattle.std.specs.Prelude.{None}
use Rattle.sd_world.specs.Serving.{Telling, telling}
use Rattle.sd_top.specs.declared.status.Status.TheVariants as status
use Rattle.sd_top.specs.Sides.{SinkSide}
use Rattle.sd_top.proofs.Answered.{answers_same}
use Rattle.sd_top.proofs.replaying.tell_bad.Goals as goal

pub returns-in-Ok-clause-outcome : goal.returns-in-Ok-clause-outcome
returns-in-Ok-clause-outcome g c =
    c.hand_back.ensures.outcome c.args.asked c.args.text.now (record { at = c.requires.bad; bytes = c.in-Ok.ensures })

pub returns-in-Err-clause-outcome : goal.returns-in-Err-clause-outcome
returns-in-Err-clause-outcome g c =
    let tell : Telling g.row.G.Denot = telling g.G.Rig.seen g.G.Rig.leaves g.G.Rig.moment g.G.Rig.since g.G.Rig.faults in
    let sink : SinkSide = record { written = g.K.Sink.written c.args.sink.now; faults = g.K.Sink.faults c.args.sink.now } in
    let rig = c.args.rig in
    let done = c.without_book in
    answers_same tell c.args.asked c.args.text.now (record { sink = sink; rig = rig }) status.NoMemory done.result.status sink sink rig
    done.result.rig None done.result.book None done.result.bad done.ensures.status refl done.ensures.rig done.ensures.book done.ensures.bad
    (inl refl, refl)
