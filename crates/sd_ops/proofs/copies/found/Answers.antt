use Rattle.std.proofs.Common.{◌∙◌}
use Rattle.sd_state.specs.Complexes.{parts}
use Rattle.sd_ops.proofs.Held.{copied-value, lent-value}
use Rattle.sd_ops.proofs.copies.found.Goals as goal

pub returns-clause-value : goal.returns-clause-value
returns-clause-value g c = c.in_ok-copied.ensures
    ∙ lent-value c.value.result c.in_ok-image.image.now.slots c.args.r.now.slot c.value.ensures
    ∙ copied-value c.args.t.now c.args.r.now.page c.args.r.now.slot (parts c.args.c.now) c.in_ok-image.image.now c.in_ok-image.ensures.image
