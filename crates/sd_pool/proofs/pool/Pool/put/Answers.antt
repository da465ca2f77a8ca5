use Rattle.std.proofs.Common.{ap, is_some, subst, sym, true≢false, ◌∙◌}
use Rattle.sd_pool.specs.Buffers.{image_at, with_page, LacksFrame}
use Rattle.sd_pool.proofs.Pooled.{IsPool-put, image_at-with_page, image_at-with_page_other, is_held-seen, seen, seen-put}
use Rattle.sd_pool.proofs.pool.Pool.put.Goals as goal

room : (c : goal.Joined-put-2) → LacksFrame (seen c.self.inside.cache) c.args.p → ⊥
room c = subst (λ b. LacksFrame b c.args.p → ⊥) (sym c.self.view_is) (λ lacks. true≢false (sym (c.lacks_frame.ensures.1 lacks) ∙ c.if-lacks_frame.false))

pub invariant_of-self : goal.invariant_of-self
invariant_of-self c = IsPool-put c.self.inside.cache c.put.new.self c.args.p c.args.image c.self.invariant (room c) c.put.result c.put.ensures.entries c.put.ensures.err

pub returns-in-Ok-clause-ok : goal.returns-in-Ok-clause-ok
returns-in-Ok-clause-ok c = seen-put c.self.inside.cache c.put.new.self c.args.p c.args.image c.self.invariant (room c) c.in-Ok.ensures.entries
    ∙ ap (λ b. with_page b c.args.p c.args.image.value) c.self.view_is

pub returns-in-Ok-clause-there : goal.returns-in-Ok-clause-there
returns-in-Ok-clause-there c = ap (λ b. image_at b c.args.p) (seen-put c.self.inside.cache c.put.new.self c.args.p c.args.image c.self.invariant (room c) c.in-Ok.ensures.entries)
    ∙ image_at-with_page (seen c.self.inside.cache) c.args.p c.args.image.value

pub returns-in-Ok-clause-others : goal.returns-in-Ok-clause-others
returns-in-Ok-clause-others c = λ q apart. ap (λ b. image_at b q) (seen-put c.self.inside.cache c.put.new.self c.args.p c.args.image c.self.invariant (room c) c.in-Ok.ensures.entries)
    ∙ image_at-with_page_other (seen c.self.inside.cache) c.args.p c.args.image.value q apart ∙ ap (λ b. image_at b q) c.self.view_is

pub returns-clause-held : goal.returns-clause-held
returns-clause-held c = λ held. c.in-Err.ensures.succeeds (is_held-seen c.self.inside.cache c.args.p ∙ ap (λ b. is_some (image_at b c.args.p)) c.self.view_is ∙ held)
