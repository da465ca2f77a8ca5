use Rattle.std.proofs.Common.{Some, ap, option_copied, option_map, ◌∙◌}
use Rattle.std.specs.Box.{box_value}
use Rattle.sd_pool.specs.Buffers.{image_at}
use Rattle.sd_pool.proofs.Pooled.{image_at-seen}
use Rattle.sd_pool.proofs.pool.Pool.look.Goals as goal

pub returns-in_err-image : goal.returns-in_err-image
returns-in_err-image c = ap option_copied c.from_residual.ensures ∙ ap (option_map box_value) c.in_err-image.ensures
    ∙ image_at-seen c.self.inside.cache c.args.p ∙ ap (λ b. image_at b c.args.p) c.self.view_is

pub returns : goal.returns
returns c = ap Some c.deref.ensures ∙ ap (option_map box_value) c.in_ok-image.ensures
    ∙ image_at-seen c.self.inside.cache c.args.p ∙ ap (λ b. image_at b c.args.p) c.self.view_is
