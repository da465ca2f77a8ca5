use Rattle.std.proofs.Common.{◌∙◌, ap, arith}
use Rattle.sd_log.specs.Logs.{LogState, begun_at}
use Rattle.sd_log.proofs.Begun.{begun_log, begun_view, gone_few}
use Rattle.sd_log.proofs.log.Log.begin_at.Goals as goal

pub forget-requires-clause-few : goal.forget-requires-clause-few
forget-requires-clause-few c = omega (arith, gone_few c.self.inside c.args.place c.forget-gone.result c.forget-gone.new.self c.self.invariant c.forget-gone.ensures)

pub invariant_of-self : goal.invariant_of-self
invariant_of-self c =
    begun_log c.self.inside c.args.place c.forget-gone.result c.forget-gone.new.self c.forget.new.self c.self.invariant (ap (λ (s : LogState). s.tail) c.self.view_is ∙ c.requires.bare)
    c.forget-gone.ensures c.forget.ensures.chains c.forget.ensures.room

pub returns : goal.returns
returns c =
    begun_view c.self.inside c.args.place c.forget-gone.result c.forget-gone.new.self c.forget.new.self c.self.invariant (ap (λ (s : LogState). s.tail) c.self.view_is ∙ c.requires.bare)
    c.forget-gone.ensures c.forget.ensures.chains c.forget.ensures.room
    ∙ ap (begun_at c.args.place) c.self.view_is
