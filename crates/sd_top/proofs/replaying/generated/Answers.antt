use Rattle.std.proofs.Common.{refl, ◌∙◌}
use Rattle.sd_world.specs.Serving.{Telling, telling}
use Rattle.sd_top.specs.Outcome.{Ends}
use Rattle.sd_top.specs.declared.words.Request.TheVariants as want
use Rattle.sd_top.proofs.Answered.{answers_unbegun, outcome_of}
use Rattle.sd_top.proofs.replaying.generated.Goals as goal

pub returns-in-Err-clause-outcome : goal.returns-in-Err-clause-outcome
returns-in-Err-clause-outcome g c = λ source.
    let sink = c.args.sink.now in
    let tell : Telling g.row.G.Denot = telling g.G.Rig.seen g.G.Rig.leaves g.G.Rig.moment g.G.Rig.since g.G.Rig.faults in
    let old : Ends g.row.G.Denot = record { sink = record { written = g.K.Sink.written sink; faults = g.K.Sink.faults sink }; rig = c.args.rig } in
    let done = c.without_book in
    let new : Ends g.row.G.Denot = record { sink = record { written = g.K.Sink.written sink; faults = g.K.Sink.faults sink }; rig = done.result.rig } in
    answers_unbegun tell (want.Gen c.args.number c.args.count) done.result.status source source old new done.result.book done.result.bad done.ensures.status
    done.ensures.book refl done.ensures.rig

pub returns-in-Ok-clause-outcome : goal.returns-in-Ok-clause-outcome
returns-in-Ok-clause-outcome g c = λ source.
    let sink = c.args.sink.now in
    let tell : Telling g.row.G.Denot = telling g.G.Rig.seen g.G.Rig.leaves g.G.Rig.moment g.G.Rig.since g.G.Rig.faults in
    let old : Ends g.row.G.Denot = record { sink = record { written = g.K.Sink.written sink; faults = g.K.Sink.faults sink }; rig = c.args.rig } in
    let run = c.replay_text in
    let new : Ends g.row.G.Denot = record { sink = record { written = g.K.Sink.written run.new.sink; faults = g.K.Sink.faults run.new.sink }; rig = run.result.rig } in
    outcome_of tell (want.Gen c.args.number c.args.count) run.result.status source source old new run.result.book run.result.bad c.deref.result.now
    (c.deref.ensures.value ∙ c.in-Ok.ensures)
    run.ensures.outcome
