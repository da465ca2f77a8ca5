use Rattle.sd_script.proofs.Refused.{flush_none}
use Rattle.sd_script.proofs.inst_forms.flush_of.Goals as goal

pub returns-in_default : goal.returns-in_default
returns-in_default c = λ known. flush_none known c.args.inst c.args.page.now c.requires c.in_default.ensures.none
