use Rattle.sd_script.proofs.Refused.{fail_none}
use Rattle.sd_script.proofs.verb_forms.fail_of.Goals as goal

pub returns-in_default : goal.returns-in_default
returns-in_default c = λ known. fail_none known c.args.inst.now c.in_default.ensures.none
