use Rattle.std.proofs.Common.{ap, subst, sym, ◌∙◌}
use Rattle.sd_pool.specs.Buffers.{image_at, used, IsPool}
use Rattle.sd_pool.proofs.Pooled.{IsPool-used, image_at-used, seen, seen-promoted}
use Rattle.sd_pool.proofs.pool.Pool.touch.Goals as goal

pub invariant_of-self : goal.invariant_of-self
invariant_of-self c =
    subst IsPool (sym (seen-promoted c.self.inside.cache c.promote.new.self c.args.p c.promote.ensures.entries)) (IsPool-used (seen c.self.inside.cache) c.args.p c.self.invariant)

pub returns-clause-order : goal.returns-clause-order
returns-clause-order c = seen-promoted c.self.inside.cache c.promote.new.self c.args.p c.promote.ensures.entries ∙ ap (λ b. used b c.args.p) c.self.view_is

pub returns-clause-images : goal.returns-clause-images
returns-clause-images c = λ q.
    ap (λ b. image_at b q) (seen-promoted c.self.inside.cache c.promote.new.self c.args.p c.promote.ensures.entries)
    ∙ image_at-used (seen c.self.inside.cache) c.args.p q ∙ ap (λ b. image_at b q) c.self.view_is
