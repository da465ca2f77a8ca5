use Rattle.std.proofs.Common.{true, false, subst}
use Rattle.std.proofs.lemmas.Result.{err_from_is_err_and}
use Rattle.sd_world.specs.Serving.{Telling, telling}
use Rattle.sd_drive.specs.declared.pull.Course.{Course}
use Rattle.sd_drive.specs.Driven.{Rounds}
use Rattle.sd_drive.specs.Pulls.{Pull, Puller}
use Rattle.sd_drive.proofs.Pulled.{comes-nearer, last-all, pulled-on, round-on, then-some}
use Rattle.sd_drive.proofs.Rounds.{rests-on, rests-self}
use Rattle.sd_drive.proofs.pull.pull.Goals as goal

pub loop-init : goal.loop-init
loop-init g c = record { on = λ start w at work rest k e i s. (w, i, s, tt); rests = rests-self c.args.hall.now.body }

pub round-requires : goal.round-requires
round-requires g c =
    let tell : Telling _ = telling g.G.Rig.seen g.G.Rig.leaves g.G.Rig.moment g.G.Rig.since g.G.Rig.faults in
    record {
      at = pulled-on tell (record { inst = c.args.inst; mode = c.args.mode }) c.args.hall.now c.loop.hall (Pull.Asks c.args.page) (Pull.Asks c.args.page) _
          c.loop.invariant.on c.requires.at;
    }

pub returns-in_err-round-clause-memory : goal.returns-in_err-round-clause-memory
returns-in_err-round-clause-memory g c =
    let tell : Telling _ = telling g.G.Rig.seen g.G.Rig.leaves g.G.Rig.moment g.G.Rig.since g.G.Rig.faults in
    let p = err_from_is_err_and c.from_residual.result c.from_residual.ensures.1 in
    rw p.1 (then-some tell (record { inst = c.args.inst; mode = c.args.mode }) c.args.hall.now c.loop.hall c.round.new.hall (Pull.Asks c.args.page) (Pull.Asks c.args.page) _
    c.loop.invariant.on c.in_err-round.ensures.memory)

pub loop-smaller : goal.loop-smaller
loop-smaller g c =
    let tell : Telling _ = telling g.G.Rig.seen g.G.Rig.leaves g.G.Rig.moment g.G.Rig.since g.G.Rig.faults in
    let for : Puller = record { inst = c.args.inst; mode = c.args.mode } in
    let round = subst (λ (course : Course). Rounds tell c.loop.hall c.round.new.hall for c.args.page course) c.in-Again.is c.in_ok-round.ensures.rounds in
    let here = pulled-on tell for c.args.hall.now c.loop.hall (Pull.Asks c.args.page) (Pull.Asks c.args.page) _ c.loop.invariant.on c.requires.at in
    comes-nearer tell c.args.inst c.args.page c.args.mode c.args.hall.now c.loop.hall c.round.new.hall c.loop.invariant.on round here

pub loop-preserved : goal.loop-preserved
loop-preserved g c =
    let tell : Telling _ = telling g.G.Rig.seen g.G.Rig.leaves g.G.Rig.moment g.G.Rig.since g.G.Rig.faults in
    let for : Puller = record { inst = c.args.inst; mode = c.args.mode } in
    let round = subst (λ (course : Course). Rounds tell c.loop.hall c.round.new.hall for c.args.page course) c.in-Again.is c.in_ok-round.ensures.rounds in
    record {
      on = round-on tell c.args.inst c.args.page c.args.mode c.args.hall.now c.loop.hall c.round.new.hall c.loop.invariant.on round;
      rests = rests-on c.args.hall.now.body c.loop.hall.body c.round.new.hall.body c.loop.invariant.rests c.in_ok-round.ensures.rests;
    }

pub returns-in-Came-clause-pulled : goal.returns-in-Came-clause-pulled
returns-in-Came-clause-pulled g c =
    let tell : Telling _ = telling g.G.Rig.seen g.G.Rig.leaves g.G.Rig.moment g.G.Rig.since g.G.Rig.faults in
    let for : Puller = record { inst = c.args.inst; mode = c.args.mode } in
    let round = subst (λ (course : Course). Rounds tell c.loop.hall c.round.new.hall for c.args.page course) c.in-Came.is c.in_ok-round.ensures.rounds in
    last-all tell c.args.inst c.args.page c.args.mode c.args.hall.now c.loop.hall c.round.new.hall c.loop.invariant.on true round

pub returns-in-InVain-clause-pulled : goal.returns-in-InVain-clause-pulled
returns-in-InVain-clause-pulled g c =
    let tell : Telling _ = telling g.G.Rig.seen g.G.Rig.leaves g.G.Rig.moment g.G.Rig.since g.G.Rig.faults in
    let for : Puller = record { inst = c.args.inst; mode = c.args.mode } in
    let round = subst (λ (course : Course). Rounds tell c.loop.hall c.round.new.hall for c.args.page course) c.in-InVain.is c.in_ok-round.ensures.rounds in
    last-all tell c.args.inst c.args.page c.args.mode c.args.hall.now c.loop.hall c.round.new.hall c.loop.invariant.on false round

pub returns-in-Came-clause-rests : goal.returns-in-Came-clause-rests
returns-in-Came-clause-rests g c =
    rests-on c.args.hall.now.body c.loop.hall.body c.round.new.hall.body c.loop.invariant.rests c.in_ok-round.ensures.rests

pub returns-in-InVain-clause-rests : goal.returns-in-InVain-clause-rests
returns-in-InVain-clause-rests g c =
    rests-on c.args.hall.now.body c.loop.hall.body c.round.new.hall.body c.loop.invariant.rests c.in_ok-round.ensures.rests
