use Rattle.std.proofs.Common.{◌∙◌, ap, eqb, not, rules}
use Rattle.std.proofs.lemmas.Fn.{filter_same}
use Rattle.sd_pagelock.specs.declared.queue.Ask.{Ask}
use Rattle.sd_pagelock.specs.Asks.{asks_without}
use Rattle.sd_pagelock.proofs.queue.Queue.forget.Goals as goal

pub returns : goal.returns
returns c = filter_same _ (λ (ask : Ask). not (eqb ask.by c.args.i)) _ (λ x b f' t. search rules) _ _ c.retain.ensures.filtered ∙ ap (asks_without c.args.i) c.self.view_is
