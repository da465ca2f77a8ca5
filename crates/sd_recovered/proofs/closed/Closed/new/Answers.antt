use Rattle.std.proofs.Common.{sym, subst}
use Rattle.sd_recovered.proofs.Rising.{AreRising, none_rise}
use Rattle.sd_recovered.proofs.closed.Closed.new.Goals as goal

pub invariant_of-result : goal.invariant_of-result
invariant_of-result c = subst AreRising (sym c.new.ensures.items) none_rise
