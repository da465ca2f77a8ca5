use Rattle.std.proofs.Common.{ap, is_some, sym, ◌∙◌}
use Rattle.sd_pool.specs.Buffers.{image_at}
use Rattle.sd_pool.proofs.Pooled.{is_held-seen}
use Rattle.sd_pool.proofs.pool.Pool.holds.Goals as goal

pub returns : goal.returns
returns c =
    let same = is_held-seen c.self.inside.cache c.args.p ∙ ap (λ b. is_some (image_at b c.args.p)) c.self.view_is in
    (λ h. sym same ∙ sym c.contains.ensures ∙ h, λ h. c.contains.ensures ∙ same ∙ h)
