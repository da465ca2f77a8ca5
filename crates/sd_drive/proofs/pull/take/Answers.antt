use Rattle.std.proofs.Common.{sym, ◌∙◌}
use Rattle.std.proofs.lemmas.Result.{err_from_is_err_and}
use Rattle.sd_world.specs.Serving.{Telling, telling}
use Rattle.sd_drive.specs.Pulls.{Pull}
use Rattle.sd_drive.proofs.Helps.{if-ok-then, on-err-then, on-ok-then}
use Rattle.sd_drive.proofs.Pulled.{full-in, full-taker, stays-some, taken-full, taken-not, taken-on, taken-room, then-some}
use Rattle.sd_drive.proofs.Rounds.{rests-on}
use Rattle.sd_drive.proofs.pull.take.Goals as goal

pub help-requires-clause-served : goal.help-requires-clause-served
help-requires-clause-served g c = tt

pub help-requires-clause-helps : goal.help-requires-clause-helps
help-requires-clause-helps g c = tt

pub help-requires-clause-at : goal.help-requires-clause-at
help-requires-clause-at g c = let at = c.requires.at in (at.1.start, at.1.world, at.1.there)

pub returns-in_err-answer-clause-memory : goal.returns-in_err-answer-clause-memory
returns-in_err-answer-clause-memory g c =
    let tell : Telling _ = telling g.G.Rig.seen g.G.Rig.leaves g.G.Rig.moment g.G.Rig.since g.G.Rig.faults in
    let p = err_from_is_err_and c.from_residual.result c.from_residual.ensures.1 in
    rw p.1 (λ for. stays-some tell for c.args.hall.now c.help.new.hall (Pull.Takes c.args.page c.args.to) c.in_err-answer.ensures.memory)

pub make_room-requires : goal.make_room-requires
make_room-requires g c =
    let tell : Telling _ = telling g.G.Rig.seen g.G.Rig.leaves g.G.Rig.moment g.G.Rig.since g.G.Rig.faults in
    let h = c.in_ok-answer.ensures.helped in
    let at = c.requires.at in
    let k = full-in tell at.0 c.args.hall.now c.help.new.hall (Pull.Takes c.args.page c.args.to) c.args.page c.args.to _
    (taken-full tell c.args.page at.0 c.args.hall.now c.help.new.hall c.args.to h.0 h.2 (h.1 ∙ c.in-NoFrame.is))
    (λ a b full. full-taker c.args.to c.args.page a b full) at.1 in
    record { at = (at.0, c.args.page, k.0, k.1) }

pub returns-in-Did-clause-taken : goal.returns-in-Did-clause-taken
returns-in-Did-clause-taken g c =
    let tell : Telling _ = telling g.G.Rig.seen g.G.Rig.leaves g.G.Rig.moment g.G.Rig.since g.G.Rig.faults in
    let h = c.in_ok-answer.ensures.helped in
    λ for. taken-on tell c.args.page for c.args.hall.now c.help.new.hall c.args.to h.0 h.2 (h.1 ∙ c.in-Did.is)

pub returns-in-NoFrame-clause-taken : goal.returns-in-NoFrame-clause-taken
returns-in-NoFrame-clause-taken g c =
    let tell : Telling _ = telling g.G.Rig.seen g.G.Rig.leaves g.G.Rig.moment g.G.Rig.since g.G.Rig.faults in
    let h = c.in_ok-answer.ensures.helped in
    if-ok-then c.make_room.result _ _ (λ room on for. taken-room tell c.args.page for c.args.hall.now c.help.new.hall c.make_room.new.hall c.args.to room
    (taken-full tell c.args.page for c.args.hall.now c.help.new.hall c.args.to h.0 h.2 (h.1 ∙ c.in-NoFrame.is)) (on for c.args.page)) c.make_room.ensures.room

pub returns-in-NoFrame-clause-memory : goal.returns-in-NoFrame-clause-memory
returns-in-NoFrame-clause-memory g c =
    let tell : Telling _ = telling g.G.Rig.seen g.G.Rig.leaves g.G.Rig.moment g.G.Rig.since g.G.Rig.faults in
    let h = c.in_ok-answer.ensures.helped in
    on-err-then c.make_room.result _ _ (λ some for. then-some tell for c.args.hall.now c.help.new.hall c.make_room.new.hall (Pull.Takes c.args.page c.args.to) _ _
    (taken-full tell c.args.page for c.args.hall.now c.help.new.hall c.args.to h.0 h.2 (h.1 ∙ c.in-NoFrame.is)) (some for c.args.page)) c.make_room.ensures.memory

pub returns-in_default : goal.returns-in_default
returns-in_default g c =
    let tell : Telling _ = telling g.G.Rig.seen g.G.Rig.leaves g.G.Rig.moment g.G.Rig.since g.G.Rig.faults in
    let h = c.in_ok-answer.ensures.helped in
    record {
      taken = λ for. taken-not tell c.args.page for c.args.hall.now c.help.new.hall c.args.to h.0 h.2 (λ did. c.in_default.not-Did (sym h.1 ∙ did))
          (λ full. c.in_default.not-NoFrame (sym h.1 ∙ full));
      memory = tt;
      rests = c.in_ok-answer.ensures.rests;
    }

pub returns-in-NoFrame-clause-rests : goal.returns-in-NoFrame-clause-rests
returns-in-NoFrame-clause-rests g c =
    on-ok-then c.make_room.result _ _ (λ rest. rests-on c.args.hall.now.body c.help.new.hall.body c.make_room.new.hall.body c.in_ok-answer.ensures.rests rest)
    c.make_room.ensures.rests
