use Rattle.sd_script.proofs.Refused.{evict_none}
use Rattle.sd_script.proofs.inst_forms.evict_of.Goals as goal

pub returns-in_default : goal.returns-in_default
returns-in_default c = λ known. evict_none known c.args.inst c.args.page.now c.requires c.in_default.ensures.none
