use Rattle.std.proofs.Common.{◌<◌, ◌∙◌, refl, rules}
use Rattle.sd_crew.proofs.Working.{nothing-yet, one-more, one-waits, gives-up, ended, fell-short}
use Rattle.sd_crew.proofs.worker.work_alone.Goals as goal

pub loop-init : goal.loop-init
loop-init g c =
    (c.requires.ready.0, c.requires.ready.1, refl, nothing-yet g.V.Shift.history g.V.Shift.stands g.V.Shift.turns _ _)

pub loop-preserved-in-Did : goal.loop-preserved-in-Did
loop-preserved-in-Did g c =
    let i = c.loop.invariant in (
      c.take_turn.ensures.ready.0,
      c.take_turn.ensures.ready.1,
      c.take_turn.ensures.inst ∙ i.2,
      one-more g.V.Shift.history g.V.Shift.stands g.V.Shift.turns _ _ _ _ _ _ _ i.2 c.in-Did.is i.3 c.take_turn.ensures.makes,
    )

pub loop-preserved : goal.loop-preserved
loop-preserved g c =
    let i = c.loop.invariant in (
      c.take_turn.ensures.ready.0,
      c.take_turn.ensures.ready.1,
      c.take_turn.ensures.inst ∙ i.2,
      one-waits g.V.Shift.history g.V.Shift.stands g.V.Shift.turns _ _ _ _ _ _ _ _ c.in-NotReady.why i.2 c.in-NotReady.is
          c.still_for-still.ensures i.3 c.take_turn.ensures.makes,
    )

pub returns-then-still-gt-MOST_WAITS-clause-worked : goal.returns-then-still-gt-MOST_WAITS-clause-worked
returns-then-still-gt-MOST_WAITS-clause-worked g c =
    let i = c.loop.invariant in
    let long : 4096 < c.still_for-still.result = search rules in
    gives-up g.V.Shift.history g.V.Shift.stands g.V.Shift.turns _ _ _ _ long
    (one-waits g.V.Shift.history g.V.Shift.stands g.V.Shift.turns _ _ _ _ _ _ _ _ c.in-NotReady.why i.2 c.in-NotReady.is
    c.still_for-still.ensures i.3 c.take_turn.ensures.makes)

pub returns-in-Ended-clause-worked : goal.returns-in-Ended-clause-worked
returns-in-Ended-clause-worked g c =
    let i = c.loop.invariant in
    ended g.V.Shift.history g.V.Shift.stands g.V.Shift.turns _ _ _ _ _ _ _ i.2 c.in-Ended.is i.3 c.take_turn.ensures.makes

pub returns-in-Short-clause-worked : goal.returns-in-Short-clause-worked
returns-in-Short-clause-worked g c =
    let i = c.loop.invariant in
    fell-short g.V.Shift.history g.V.Shift.stands g.V.Shift.turns _ _ _ _ _ _ _ i.2 c.in-Short.is i.3 c.take_turn.ensures.makes
