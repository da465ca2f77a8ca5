use Rattle.std.proofs.Common.{ap, option_map, subst, sym, ◌∙◌}
use Rattle.std.specs.Box.{box_value}
use Rattle.sd_pool.specs.Buffers.{image_at, without_page, IsPool}
use Rattle.sd_pool.proofs.Pooled.{IsPool-without, image_at-seen, image_at-without, image_at-without_other, seen, seen-popped}
use Rattle.sd_pool.proofs.pool.Pool.take.Goals as goal

pub invariant_of-self : goal.invariant_of-self
invariant_of-self c =
    subst IsPool (sym (seen-popped c.self.inside.cache c.pop.new.self c.args.p c.pop.ensures.entries)) (IsPool-without (seen c.self.inside.cache) c.args.p c.self.invariant)

pub returns-clause-value : goal.returns-clause-value
returns-clause-value c = ap (option_map box_value) c.pop.ensures.value ∙ image_at-seen c.self.inside.cache c.args.p ∙ ap (λ b. image_at b c.args.p) c.self.view_is

pub returns-clause-rest : goal.returns-clause-rest
returns-clause-rest c = seen-popped c.self.inside.cache c.pop.new.self c.args.p c.pop.ensures.entries ∙ ap (λ b. without_page b c.args.p) c.self.view_is

pub returns-clause-gone : goal.returns-clause-gone
returns-clause-gone c =
    ap (λ b. image_at b c.args.p) (seen-popped c.self.inside.cache c.pop.new.self c.args.p c.pop.ensures.entries) ∙ image_at-without (seen c.self.inside.cache) c.args.p c.self.invariant

pub returns-clause-others : goal.returns-clause-others
returns-clause-others c = λ q apart.
    ap (λ b. image_at b q) (seen-popped c.self.inside.cache c.pop.new.self c.args.p c.pop.ensures.entries)
    ∙ image_at-without_other (seen c.self.inside.cache) c.args.p q apart ∙ ap (λ b. image_at b q) c.self.view_is
