use Rattle.std.proofs.Common.{refl}
use Rattle.sd_log.proofs.Paging.{popped_low, popped_pages}
use Rattle.sd_log.proofs.pages.PageChains.pop.Goals as goal

pub index_mut-requires : goal.index_mut-requires
index_mut-requires c = popped_low c.self.inside c.pop.new.self c.in-Some.field-0 c.self.invariant c.in-Some.ensures.items

pub invariant_of-self : goal.invariant_of-self
invariant_of-self c = popped_pages c.self.inside c.pop.new.self _ c.in-Some.field-0 c.self.invariant c.in-Some.ensures.items refl refl
