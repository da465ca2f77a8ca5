use Rattle.std.proofs.Common.{Some, refl, ap, option_map, sym, ◌∙◌}
use Rattle.std.specs.Box.{box_value, with_value}
use Rattle.std.specs.Option.{ghost_name_of, option_copied_mut}
use Rattle.sd_pool.specs.Buffers.{image_at, rewritten}
use Rattle.sd_pool.proofs.Pooled.{IsPool-written, image_at-seen, rewritten-absent, written-rewritten}
use Rattle.sd_pool.proofs.pool.Pool.get.Goals as goal

pub invariant_of-self-lent : goal.invariant_of-self-lent
invariant_of-self-lent c = λ w. IsPool-written c.self.inside.cache c.args.p (with_value c.in_ok-image.image.now w) c.self.invariant

pub returns : goal.returns
returns c = (
  (refl, λ w. written-rewritten c.self.inside.cache c.args.p (with_value c.in_ok-image.image.now w) ∙ ap (λ b. rewritten b c.args.p w) c.self.view_is, refl),
  record {
    writes_back = tt;
    value = ap Some c.deref_mut.ensures.value ∙ ap (option_map box_value) c.in_ok-image.ensures.value ∙ image_at-seen c.self.inside.cache c.args.p ∙ ap (λ b. image_at b c.args.p) c.self.view_is;
  },
)

pub returns-in_err-image : goal.returns-in_err-image
returns-in_err-image c =
    let absent = ap (option_map box_value) c.in_err-image.ensures.value ∙ image_at-seen c.self.inside.cache c.args.p ∙ ap (λ b. image_at b c.args.p) c.self.view_is in (
      (ap ghost_name_of (sym c.from_residual.ensures), λ w. c.self.view_is ∙ sym (rewritten-absent c.args.self.now c.args.p w (sym absent)), c.self.view_is),
      record { writes_back = tt; value = ap option_copied_mut c.from_residual.ensures ∙ absent },
    )
