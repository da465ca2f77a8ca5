use Rattle.sd_script.proofs.Refused.{take_none}
use Rattle.sd_script.proofs.inst_forms.take_of.Goals as goal

pub returns-in_default : goal.returns-in_default
returns-in_default c = λ known. take_none known c.args.inst c.args.page.now c.requires c.in_default.ensures.none
