use Rattle.sd_pagelock.proofs.Lookups.{elsewhere, is_there}
use Rattle.sd_pagelock.proofs.asks.is_emptied.Goals as goal

pub returns-then-asked-clause-others : goal.returns-then-asked-clause-others
returns-then-asked-clause-others c = λ q apart. ((c.get_mut.follows.holds c.close.new.self).3 (is_there c.in-Some.ensures.value)).2 q (elsewhere c.args.p q apart)

pub returns-else-asked-clause-others : goal.returns-else-asked-clause-others
returns-else-asked-clause-others c = λ q apart. ((c.get_mut.follows.holds c.close.new.self).3 (is_there c.in-Some.ensures.value)).2 q (elsewhere c.args.p q apart)
