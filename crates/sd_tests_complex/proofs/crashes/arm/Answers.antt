use Rattle.std.proofs.Common.{◌∙◌, sym, subst}
use Rattle.sd_chain.specs.Logs.{IsBlank}
use Rattle.sd_tests_complex.proofs.crashes.arm.Goals as goal

pub returns : goal.returns
returns g c =
    let stays = c.arm.ensures.stays in
    record {
      blank = λ d le. subst IsBlank (sym (stays.reads d)) (c.requires.blank d le);
      only = λ d le bytes. (
        λ left. (c.requires.only d le bytes).0 ((stays.outcomes d bytes).0 left) ∙ sym (stays.reads d),
        λ e. (stays.outcomes d bytes).1 ((c.requires.only d le bytes).1 (e ∙ stays.reads d)),
      );
    }
