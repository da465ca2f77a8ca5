use Rattle.sd_script.proofs.Refused.{commit_none}
use Rattle.sd_script.specs.Known.{known}
use Rattle.sd_script.proofs.verb_forms.commit_of.Goals as goal

pub returns-in_default : goal.returns-in_default
returns-in_default c = commit_none (known c.args.begun.now) c.args.name.now c.in_default.ensures.none
