use Rattle.sd_pagelock.proofs.Groups.{grouped-new, none_noted}
use Rattle.sd_pagelock.proofs.noted.Noted.new.Goals as goal

pub invariant_of-result : goal.invariant_of-result
invariant_of-result c = grouped-new c.in_ok-repeated.field-0.items c.in_ok-repeated-2.field-0.items c.in_ok-repeated.ensures c.in_ok-repeated-2.ensures

pub returns : goal.returns
returns c = none_noted c.in_ok-repeated.field-0.items 1024 c.in_ok-repeated.ensures
