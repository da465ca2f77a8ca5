use Rattle.std.proofs.Common.{ap, sym, ◌∙◌}
use Rattle.std.specs.Fmt.{decimal}
use Rattle.sd_script.proofs.Spellings.{zero_alone}
use Rattle.sd_script.proofs.parts.below_zero.Goals as goal

pub returns-then-n-eq0-clause-none : goal.returns-then-n-eq0-clause-none
returns-then-n-eq0-clause-none c = zero_alone c.args.digits.now (ap decimal (sym c.if-n-eq0.true) ∙ c.in-Some.ensures.found)
