use Rattle.std.proofs.Common.{◌∙◌}
use Rattle.sd_pagelock.proofs.Queues.{queued_at, queued_end}
use Rattle.sd_pagelock.proofs.queue.Queue.add.Goals as goal

pub returns-in-Some-clause-ok : goal.returns-in-Some-clause-ok
returns-in-Some-clause-ok c = queued_at c.args.by c.args.mode c.self.inside.asks.items c.args.self.now c.in-Some.at c.index_mut-ask.result.now c.stronger-ask.result c.self.view_is c.in-Some.ensures c.index_mut-ask.ensures.value c.stronger-ask.ensures

pub returns-in_ok-push-in-None-clause-ok : goal.returns-in_ok-push-in-None-clause-ok
returns-in_ok-push-in-None-clause-ok c = c.in_ok-push-in-None.ensures.items ∙ queued_end c.args.by c.args.mode c.self.inside.asks.items c.args.self.now c.self.view_is c.in-None.ensures
