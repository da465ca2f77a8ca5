use Rattle.std.proofs.Common.{refl}
use Rattle.sd_reclock.proofs.Placed.{lacks_row, lacks_behind}
use Rattle.sd_reclock.proofs.few.free_at.Goals as goal

pub returns-then-lacks-clause-lowered : goal.returns-then-lacks-clause-lowered
returns-then-lacks-clause-lowered c = lacks_row c.args.rows.now.items c.args.at c.index.result.now c.args.t.now c.requires.one c.requires.inside c.index.ensures (c.lacks.ensures c.if-lacks.true)

pub returns-then-lacks-clause-behind : goal.returns-then-lacks-clause-behind
returns-then-lacks-clause-behind c = lacks_behind c.args.rows.now.items c.args.at c.index.result.now c.args.t.now c.requires.inside c.index.ensures (c.lacks.ensures c.if-lacks.true)

pub returns-clause-behind : goal.returns-clause-behind
returns-clause-behind c = c.lower_at.ensures.behind refl
