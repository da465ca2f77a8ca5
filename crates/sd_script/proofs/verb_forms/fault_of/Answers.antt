use Rattle.sd_script.proofs.Refused.{fault_none}
use Rattle.sd_script.proofs.verb_forms.fault_of.Goals as goal

pub returns-in_default : goal.returns-in_default
returns-in_default c = λ known. fault_none known c.args.call.now c.in_default.ensures.none
