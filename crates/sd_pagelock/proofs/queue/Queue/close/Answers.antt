use Rattle.std.proofs.Common.{◌∙◌, ap, rules}
use Rattle.std.proofs.lemmas.Fn.{filter_same}
use Rattle.sd_pagelock.specs.Places.{seen}
use Rattle.sd_pagelock.specs.Asks.{is_open_ask, open_asks}
use Rattle.sd_pagelock.proofs.queue.Queue.close.Goals as goal

pub returns : goal.returns
returns c = filter_same _ (is_open_ask (seen c.args.place.now)) _ (λ x b f' t. search rules) _ _ c.retain.ensures.filtered ∙ ap (open_asks (seen c.args.place.now)) c.self.view_is
