use Rattle.std.proofs.Common.{refl}
use Rattle.sd_world.specs.Serving.{Telling, telling}
use Rattle.sd_top.specs.declared.words.Request.TheVariants as want
use Rattle.sd_top.specs.Sides.{SourceSide}
use Rattle.sd_top.specs.Outcome.{Ends}
use Rattle.sd_top.proofs.Answered.{asked_as, unread_by, untaken}
use Rattle.sd_top.proofs.replaying.run_asked.Goals as goal

pub returns-in-Replay-clause-outcome : goal.returns-in-Replay-clause-outcome
returns-in-Replay-clause-outcome g c =
    let source = c.args.source.now in
    let sink = c.args.sink.now in
    let tell : Telling g.row.G.Denot = telling g.G.Rig.seen g.G.Rig.leaves g.G.Rig.moment g.G.Rig.since g.G.Rig.faults in
    let from : SourceSide = record { left = g.S.Source.left source; faults = g.S.Source.faults source } in
    let left : SourceSide = record { left = g.S.Source.left c.replay.new.source; faults = g.S.Source.faults c.replay.new.source } in
    let old : Ends g.row.G.Denot = record { sink = record { written = g.K.Sink.written sink; faults = g.K.Sink.faults sink }; rig = c.args.rig } in
    let new : Ends g.row.G.Denot = record {
      sink = record { written = g.K.Sink.written c.replay.new.sink; faults = g.K.Sink.faults c.replay.new.sink };
      rig = c.replay.result.rig;
    } in
    asked_as tell c.args.asked want.Replay c.replay.result.status from left old new c.replay.result.book c.replay.result.bad c.in-Replay.is c.replay.ensures.outcome

pub returns-in-Replay-clause-unread : goal.returns-in-Replay-clause-unread
returns-in-Replay-clause-unread g c = unread_by c.args.asked want.Replay _ _ c.in-Replay.is tt

pub returns-in-Replay-clause-bounded : goal.returns-in-Replay-clause-bounded
returns-in-Replay-clause-bounded g c = c.replay.ensures.bounded

pub returns-in-Gen-clause-outcome : goal.returns-in-Gen-clause-outcome
returns-in-Gen-clause-outcome g c =
    let source = c.args.source.now in
    let sink = c.args.sink.now in
    let tell : Telling g.row.G.Denot = telling g.G.Rig.seen g.G.Rig.leaves g.G.Rig.moment g.G.Rig.since g.G.Rig.faults in
    let from : SourceSide = record { left = g.S.Source.left source; faults = g.S.Source.faults source } in
    let old : Ends g.row.G.Denot = record { sink = record { written = g.K.Sink.written sink; faults = g.K.Sink.faults sink }; rig = c.args.rig } in
    let new : Ends g.row.G.Denot = record {
      sink = record { written = g.K.Sink.written c.generated.new.sink; faults = g.K.Sink.faults c.generated.new.sink };
      rig = c.generated.result.rig;
    } in
    asked_as tell c.args.asked (want.Gen c.in-Gen.number c.in-Gen.count) c.generated.result.status from from old new c.generated.result.book c.generated.result.bad
    c.in-Gen.is (c.generated.ensures.outcome from)

pub returns-in-Gen-clause-unread : goal.returns-in-Gen-clause-unread
returns-in-Gen-clause-unread g c = unread_by c.args.asked (want.Gen c.in-Gen.number c.in-Gen.count) _ _ c.in-Gen.is refl

pub returns-in-Gen-clause-bounded : goal.returns-in-Gen-clause-bounded
returns-in-Gen-clause-bounded g c = untaken (g.S.Source.left c.args.source.now)
