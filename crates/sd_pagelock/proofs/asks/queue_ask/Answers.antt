use Rattle.std.proofs.Common.{◌∙◌, ap}
use Rattle.std.specs.Ordering.{nat_cmp}
use Rattle.std.specs.BTreeMap.{get}
use Rattle.sd_pagelock.proofs.Lookups.{elsewhere, is_there}
use Rattle.sd_pagelock.proofs.asks.queue_ask.Goals as goal

pub returns-in-Some-clause-others : goal.returns-in-Some-clause-others
returns-in-Some-clause-others c = λ q apart. ((c.get_mut.follows.holds c.add.new.self).3 (is_there c.in-Some.ensures.value)).2 q (elsewhere c.args.p q apart)

pub returns-in_ok-insert-in-None-clause-others : goal.returns-in_ok-insert-in-None-clause-others
returns-in_ok-insert-in-None-clause-others c = λ q apart. c.in_ok-insert-in-None.ensures.updates.2 q (elsewhere c.args.p q apart) ∙ ap (λ m. get nat_cmp m q) c.get_mut.follows.holds-at-none
