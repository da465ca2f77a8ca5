use Rattle.std.proofs.Common.{ap, ◌∙◌, true, false}
use Rattle.std.specs.Prelude.{OnOk}
use Rattle.std.proofs.lemmas.Result.{err_from_is_err_and}
use Rattle.sd_world.specs.Serving.{Telling, telling}
use Rattle.sd_hall.specs.declared.hall.Hall.{Hall}
use Rattle.sd_drive.specs.Pulls.{Pull, Puller}
use Rattle.sd_drive.specs.Resting.{RestsOpen}
use Rattle.sd_drive.proofs.Pulled.{Went, asked-had, asked-on, asked-vain, full-in, full-inst, full-on, gave-went, moving-on, pulled-on, room-went, stays-some, took-went, went-as, went-on, went-some}
use Rattle.sd_drive.proofs.Rounds.{rests-as, rests-got}
use Rattle.sd_drive.proofs.pull.round.Goals as goal
use Rattle.sd_drive.proofs.pull.round.Goals.{in-Asked, in-MovingTo, in-NoFrame}

pub help-requires-clause-helps : goal.help-requires-clause-helps
help-requires-clause-helps g c = tt

pub help-requires-clause-at : goal.help-requires-clause-at
help-requires-clause-at g c = let at = c.requires.at in (at.start, at.world, at.there)

pub returns-in_err-help-clause-memory : goal.returns-in_err-help-clause-memory
returns-in_err-help-clause-memory g c =
    let tell : Telling _ = telling g.G.Rig.seen g.G.Rig.leaves g.G.Rig.moment g.G.Rig.since g.G.Rig.faults in
    let p = err_from_is_err_and c.from_residual.result c.from_residual.ensures.1 in
    rw p.1 (stays-some tell (record { inst = c.args.inst; mode = c.args.mode }) c.args.hall.now c.help.new.hall (Pull.Asks c.args.page) c.in_err-help.ensures.memory)

pub give-requires : goal.give-requires
give-requires g c =
    let tell : Telling _ = telling g.G.Rig.seen g.G.Rig.leaves g.G.Rig.moment g.G.Rig.since g.G.Rig.faults in
    let h = c.in_ok-help.ensures.helped in
    let k = pulled-on tell (record { inst = c.args.inst; mode = c.args.mode }) c.args.hall.now c.help.new.hall (Pull.Asks c.args.page) (Pull.Gives c.args.page c.in-Asked.of) _
    (asked-on tell c.args.inst c.args.page c.args.mode c.args.hall.now c.help.new.hall h.0 h.2 c.in-Asked.of (h.1 ∙ c.in-Asked.is)) c.requires.at in
    record { at = (k.start, k.world, k.there) }

pub take-requires : goal.take-requires
take-requires g c =
    let tell : Telling _ = telling g.G.Rig.seen g.G.Rig.leaves g.G.Rig.moment g.G.Rig.since g.G.Rig.faults in
    let h = c.in_ok-help.ensures.helped in
    let for : Puller = record { inst = c.args.inst; mode = c.args.mode } in
    let k = pulled-on tell for c.args.hall.now c.help.new.hall (Pull.Asks c.args.page) (Pull.Takes c.args.page c.in-MovingTo.to) _
    (moving-on tell c.args.inst c.args.page c.args.mode c.args.hall.now c.help.new.hall h.0 h.2 c.in-MovingTo.to (h.1 ∙ c.in-MovingTo.is)) c.requires.at in
    record { at = (for, k) }

pub make_room-requires : goal.make_room-requires
make_room-requires g c =
    let tell : Telling _ = telling g.G.Rig.seen g.G.Rig.leaves g.G.Rig.moment g.G.Rig.since g.G.Rig.faults in
    let h = c.in_ok-help.ensures.helped in
    let for : Puller = record { inst = c.args.inst; mode = c.args.mode } in
    let k = full-in tell for c.args.hall.now c.help.new.hall (Pull.Asks c.args.page) c.args.page c.args.inst _
    (full-on tell c.args.inst c.args.page c.args.mode c.args.hall.now c.help.new.hall h.0 h.2 (h.1 ∙ c.in-NoFrame.is))
    (λ a b full. full-inst c.args.inst c.args.page c.args.mode a b full) c.requires.at in
    record { at = (for, c.args.page, k.0, k.1) }

pub returns-in-Had-clause-rounds : goal.returns-in-Had-clause-rounds
returns-in-Had-clause-rounds g c =
    let tell : Telling _ = telling g.G.Rig.seen g.G.Rig.leaves g.G.Rig.moment g.G.Rig.since g.G.Rig.faults in
    let h = c.in_ok-help.ensures.helped in
    asked-had tell c.args.inst c.args.page c.args.mode c.args.hall.now c.help.new.hall h.0 h.2 (h.1 ∙ c.in-Had.is)

pub returns-in_err-done-clause-memory : goal.returns-in_err-done-clause-memory
returns-in_err-done-clause-memory g c =
    let tell : Telling _ = telling g.G.Rig.seen g.G.Rig.leaves g.G.Rig.moment g.G.Rig.since g.G.Rig.faults in
    let i = c.args.inst in
    let p = c.args.page in
    let mode = c.args.mode in
    let for : Puller = record { inst = i; mode = mode } in
    let old = c.args.hall.now in
    let mid = c.help.new.hall in
    let h = c.in_ok-help.ensures.helped in
    let here = c.match-branch-2.hall in
    let there = c.match-branch-2.branch' in
    let went : Went tell old here for p there = elim c.match-branch-2.branch [
      | in-Asked w ↦ went-as tell old w.give.new.hall here for p w.give.result there w.hall-is w.branch'-is
          (gave-went tell i p mode old mid w.give.new.hall w.give.result w.in-Asked.of
          (asked-on tell i p mode old mid h.0 h.2 w.in-Asked.of (h.1 ∙ w.in-Asked.is)) w.give.ensures.given w.give.ensures.memory)
      | in-MovingTo w ↦ went-as tell old w.take.new.hall here for p w.take.result there w.hall-is w.branch'-is
          (took-went tell i p mode old mid w.take.new.hall w.take.result w.in-MovingTo.to
          (moving-on tell i p mode old mid h.0 h.2 w.in-MovingTo.to (h.1 ∙ w.in-MovingTo.is)) w.take.ensures.taken w.take.ensures.memory)
      | in-NoFrame w ↦ went-as tell old w.make_room.new.hall here for p w.make_room.result there w.hall-is w.branch'-is
          (room-went tell i p mode old mid w.make_room.new.hall w.make_room.result
          (full-on tell i p mode old mid h.0 h.2 (h.1 ∙ w.in-NoFrame.is)) w.make_room.ensures.room w.make_room.ensures.memory)
    ] in
    let e = err_from_is_err_and c.from_residual-in_err-done.result c.from_residual-in_err-done.ensures.1 in
    rw e.1 (went-some tell old here for p there went _ (c.in_err-done.was {u = tt}))

pub returns-then-done-clause-rounds : goal.returns-then-done-clause-rounds
returns-then-done-clause-rounds g c =
    let tell : Telling _ = telling g.G.Rig.seen g.G.Rig.leaves g.G.Rig.moment g.G.Rig.since g.G.Rig.faults in
    let i = c.args.inst in
    let p = c.args.page in
    let mode = c.args.mode in
    let for : Puller = record { inst = i; mode = mode } in
    let old = c.args.hall.now in
    let mid = c.help.new.hall in
    let h = c.in_ok-help.ensures.helped in
    let here = c.match-branch-2.hall in
    let there = c.match-branch-2.branch' in
    let went : Went tell old here for p there = elim c.match-branch-2.branch [
      | in-Asked w ↦ went-as tell old w.give.new.hall here for p w.give.result there w.hall-is w.branch'-is
          (gave-went tell i p mode old mid w.give.new.hall w.give.result w.in-Asked.of
          (asked-on tell i p mode old mid h.0 h.2 w.in-Asked.of (h.1 ∙ w.in-Asked.is)) w.give.ensures.given w.give.ensures.memory)
      | in-MovingTo w ↦ went-as tell old w.take.new.hall here for p w.take.result there w.hall-is w.branch'-is
          (took-went tell i p mode old mid w.take.new.hall w.take.result w.in-MovingTo.to
          (moving-on tell i p mode old mid h.0 h.2 w.in-MovingTo.to (h.1 ∙ w.in-MovingTo.is)) w.take.ensures.taken w.take.ensures.memory)
      | in-NoFrame w ↦ went-as tell old w.make_room.new.hall here for p w.make_room.result there w.hall-is w.branch'-is
          (room-went tell i p mode old mid w.make_room.new.hall w.make_room.result
          (full-on tell i p mode old mid h.0 h.2 (h.1 ∙ w.in-NoFrame.is)) w.make_room.ensures.room w.make_room.ensures.memory)
    ] in
    went-on tell old here for p there went _ true (c.in_ok-done.was {u = tt}) c.if-done.true

pub returns-else-done-clause-rounds : goal.returns-else-done-clause-rounds
returns-else-done-clause-rounds g c =
    let tell : Telling _ = telling g.G.Rig.seen g.G.Rig.leaves g.G.Rig.moment g.G.Rig.since g.G.Rig.faults in
    let i = c.args.inst in
    let p = c.args.page in
    let mode = c.args.mode in
    let for : Puller = record { inst = i; mode = mode } in
    let old = c.args.hall.now in
    let mid = c.help.new.hall in
    let h = c.in_ok-help.ensures.helped in
    let here = c.match-branch-2.hall in
    let there = c.match-branch-2.branch' in
    let went : Went tell old here for p there = elim c.match-branch-2.branch [
      | in-Asked w ↦ went-as tell old w.give.new.hall here for p w.give.result there w.hall-is w.branch'-is
          (gave-went tell i p mode old mid w.give.new.hall w.give.result w.in-Asked.of
          (asked-on tell i p mode old mid h.0 h.2 w.in-Asked.of (h.1 ∙ w.in-Asked.is)) w.give.ensures.given w.give.ensures.memory)
      | in-MovingTo w ↦ went-as tell old w.take.new.hall here for p w.take.result there w.hall-is w.branch'-is
          (took-went tell i p mode old mid w.take.new.hall w.take.result w.in-MovingTo.to
          (moving-on tell i p mode old mid h.0 h.2 w.in-MovingTo.to (h.1 ∙ w.in-MovingTo.is)) w.take.ensures.taken w.take.ensures.memory)
      | in-NoFrame w ↦ went-as tell old w.make_room.new.hall here for p w.make_room.result there w.hall-is w.branch'-is
          (room-went tell i p mode old mid w.make_room.new.hall w.make_room.result
          (full-on tell i p mode old mid h.0 h.2 (h.1 ∙ w.in-NoFrame.is)) w.make_room.ensures.room w.make_room.ensures.memory)
    ] in
    went-on tell old here for p there went _ false (c.in_ok-done.was {u = tt}) c.if-done.false

pub returns-in_default-clause-rounds : goal.returns-in_default-clause-rounds
returns-in_default-clause-rounds g c =
    let tell : Telling _ = telling g.G.Rig.seen g.G.Rig.leaves g.G.Rig.moment g.G.Rig.since g.G.Rig.faults in
    let h = c.in_ok-help.ensures.helped in
    asked-vain tell c.args.inst c.args.page c.args.mode c.args.hall.now c.help.new.hall h.0 h.2 c.in_ok-help.field-0 h.1
    c.in_default.not-Had c.in_default.not-Asked c.in_default.not-MovingTo c.in_default.not-NoFrame

pub returns-then-done-clause-rests : goal.returns-then-done-clause-rests
returns-then-done-clause-rests g c =
    let old = c.args.hall.now.body in
    let mid = c.help.new.hall.body in
    let here = c.match-branch-2.hall.body in
    let there = c.match-branch-2.branch' in
    let first = c.in_ok-help.ensures.rests in
    let rest : OnOk there (RestsOpen old here) = elim c.match-branch-2.branch [
      | in-Asked w ↦ rests-as old mid w.give.new.hall.body here w.give.result there (ap (λ (h : Hall _). h.body) w.hall-is) w.branch'-is first w.give.ensures.rests
      | in-MovingTo w ↦ rests-as old mid w.take.new.hall.body here w.take.result there (ap (λ (h : Hall _). h.body) w.hall-is) w.branch'-is first
          w.take.ensures.rests
      | in-NoFrame w ↦ rests-as old mid w.make_room.new.hall.body here w.make_room.result there (ap (λ (h : Hall _). h.body) w.hall-is) w.branch'-is first
          w.make_room.ensures.rests
    ] in
    rests-got old here there _ (c.in_ok-done.was {u = tt}) rest

pub returns-else-done-clause-rests : goal.returns-else-done-clause-rests
returns-else-done-clause-rests g c =
    let old = c.args.hall.now.body in
    let mid = c.help.new.hall.body in
    let here = c.match-branch-2.hall.body in
    let there = c.match-branch-2.branch' in
    let first = c.in_ok-help.ensures.rests in
    let rest : OnOk there (RestsOpen old here) = elim c.match-branch-2.branch [
      | in-Asked w ↦ rests-as old mid w.give.new.hall.body here w.give.result there (ap (λ (h : Hall _). h.body) w.hall-is) w.branch'-is first w.give.ensures.rests
      | in-MovingTo w ↦ rests-as old mid w.take.new.hall.body here w.take.result there (ap (λ (h : Hall _). h.body) w.hall-is) w.branch'-is first
          w.take.ensures.rests
      | in-NoFrame w ↦ rests-as old mid w.make_room.new.hall.body here w.make_room.result there (ap (λ (h : Hall _). h.body) w.hall-is) w.branch'-is first
          w.make_room.ensures.rests
    ] in
    rests-got old here there _ (c.in_ok-done.was {u = tt}) rest
