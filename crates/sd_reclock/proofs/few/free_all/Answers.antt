use Rattle.std.proofs.Common.{[], arith}
use Rattle.sd_reclock.proofs.Placed.{freed_more, freed_all}
use Rattle.sd_reclock.proofs.few.free_all.Goals as goal

pub loop-at-preserved : goal.loop-at-preserved
loop-at-preserved c = freed_more c.args.t.now c.loop-at.at _ c.args.rows.now.items c.loop-at.rows.items c.free_at.new.rows.items (omega (arith, c.loop-at-test.true)) c.loop-at.invariant
    (c.free_at.ensures.lowered (record { page = 0; slot = 0 }, [])) c.free_at.ensures.rows c.free_at.ensures.one c.free_at.ensures.inside c.free_at.ensures.behind

pub returns-clause-released : goal.returns-clause-released
returns-clause-released c = freed_all c.args.t.now c.loop-at.at c.args.rows.now.items c.loop-at.rows.items (omega (arith, c.loop-at-test.false)) c.loop-at.invariant
