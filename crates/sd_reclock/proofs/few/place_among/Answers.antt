use Rattle.std.proofs.Common.{sym, arith}
use Rattle.sd_base.specs.Ids.{same_rid}
use Rattle.sd_reclock.proofs.Placed.{not_in_next, is_place, no_place}
use Rattle.sd_reclock.proofs.few.place_among.Goals as goal

pub loop-at-preserved : goal.loop-at-preserved
unfolding same_rid
loop-at-preserved c = not_in_next c.args.rows.now c.args.r.now c.loop-at.at c.index-rows-at.result (omega (arith, c.loop-at-test.true)) (sym c.if-eq.ensures) c.loop-at.invariant

pub returns-then-eq : goal.returns-then-eq
unfolding same_rid
returns-then-eq c = is_place c.args.rows.now c.args.r.now c.loop-at.at c.index-rows-at.result (omega (arith, c.loop-at-test.true)) (sym c.if-eq.ensures)

pub returns : goal.returns
returns c = no_place c.args.rows.now c.args.r.now c.loop-at.at (omega (arith, c.loop-at-test.false)) c.loop-at.invariant
