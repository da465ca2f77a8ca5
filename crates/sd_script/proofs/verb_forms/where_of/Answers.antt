use Rattle.sd_script.proofs.Refused.{where_none}
use Rattle.sd_script.proofs.verb_forms.where_of.Goals as goal

pub returns-in_default : goal.returns-in_default
returns-in_default c = λ known. where_none known c.args.page.now c.in_default.ensures.none
