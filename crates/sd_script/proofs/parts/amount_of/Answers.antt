use Rattle.std.proofs.Common.{refl, sym, ◌∙◌}
use Rattle.sd_script.proofs.Plain.{decimal_zero, minus_zero}
use Rattle.sd_script.proofs.parts.amount_of.Goals as goal

pub returns-then-is_minus_zero-clause-found : goal.returns-then-is_minus_zero-clause-found
returns-then-is_minus_zero-clause-found c = decimal_zero ∙ sym (minus_zero c.args.word.now (c.if-is_minus_zero.ensures.0 refl))
