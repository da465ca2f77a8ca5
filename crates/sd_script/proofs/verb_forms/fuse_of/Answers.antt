use Rattle.sd_script.proofs.Refused.{fuse_none}
use Rattle.sd_script.proofs.verb_forms.fuse_of.Goals as goal

pub returns-in_default : goal.returns-in_default
returns-in_default c = λ known. fuse_none known c.args.calls.now c.in_default.ensures.none
