use Rattle.std.proofs.Common.{ℕ, ◌≤◌, ap, sym, ◌∙◌, subst}
use Rattle.sd_base.specs.Values.{size}
use Rattle.sd_chain.proofs.Slots.{value-at}
use Rattle.sd_update.proofs.ChangeCalls.{value-small}
use Rattle.sd_update.proofs.changes.before_len.Goals as goal

pub returns-clause-value : goal.returns-clause-value
returns-clause-value c = c.lent_len.ensures.value ∙ ap size (c.value.ensures ∙ value-at c.args.image.now.slots c.args.slot)

pub returns-clause-small : goal.returns-clause-small
returns-clause-small c = subst (λ (n : ℕ). n ≤ 256)
    (sym (c.lent_len.ensures.value ∙ ap size (c.value.ensures ∙ value-at c.args.image.now.slots c.args.slot)))
    (value-small c.args.image.now c.args.slot c.keeps.ensures.fits)
