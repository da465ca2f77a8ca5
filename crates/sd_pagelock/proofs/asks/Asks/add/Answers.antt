use Rattle.sd_pagelock.proofs.Lookups.{asked-add}
use Rattle.sd_pagelock.proofs.asks.Asks.add.Goals as goal

pub invariant_of-self : goal.invariant_of-self
invariant_of-self c = asked-add c.queue_ask.result c.self.inside.queues.entries c.queue_ask.new.queues.entries c.args.p c.args.by c.args.mode c.self.invariant c.queue_ask.ensures.here c.queue_ask.ensures.err c.queue_ask.ensures.others
