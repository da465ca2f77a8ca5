use Rattle.std.proofs.Common.{◌≡◌, false, true}
use Rattle.sd_script.proofs.Refused.{begin_none}
use Rattle.sd_script.proofs.inst_forms.begin_of.Goals as goal

pub returns-then-not-is_name : goal.returns-then-not-is_name
returns-then-not-is_name c = λ known. begin_none known c.args.inst c.args.name.now c.requires
    (λ is. let named : false ≡ true = c.if-not-is_name.ensures.1 is in absurd (cc))
