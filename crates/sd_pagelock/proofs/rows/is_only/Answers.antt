use Rattle.std.proofs.Common.{rules}
use Rattle.sd_pagelock.proofs.Alone.{only_then}
use Rattle.sd_pagelock.proofs.rows.is_only.Goals as goal

pub returns-then-has : goal.returns-then-has
returns-then-has c = only_then c.args.set.bits c.args.i (search rules) c.is_empty.result _ (search rules) c.without.ensures c.is_empty.ensures
