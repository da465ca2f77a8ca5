use Rattle.sd_pagelock.specs.Places.{seen}
use Rattle.sd_pagelock.proofs.Lookups.{asked-close}
use Rattle.sd_pagelock.proofs.asks.Asks.close.Goals as goal

pub invariant_of-self : goal.invariant_of-self
invariant_of-self c = asked-close c.self.inside.queues.entries c.is_emptied.new.queues.entries c.args.p (seen c.args.place.now) c.self.invariant c.is_emptied.ensures.here c.is_emptied.ensures.others

pub invariant_of-self-else-is_emptied : goal.invariant_of-self-else-is_emptied
invariant_of-self-else-is_emptied c = asked-close c.self.inside.queues.entries c.is_emptied.new.queues.entries c.args.p (seen c.args.place.now) c.self.invariant c.is_emptied.ensures.here c.is_emptied.ensures.others
