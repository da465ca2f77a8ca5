use Rattle.std.proofs.Common.{◌≡◌, false, true}
use Rattle.sd_script.proofs.Refused.{back_none}
use Rattle.sd_script.specs.Known.{known}
use Rattle.sd_script.proofs.verb_forms.back_of.Goals as goal

pub returns-then-not-is_name : goal.returns-then-not-is_name
returns-then-not-is_name c = back_none (known c.args.begun.now) c.args.name.now c.args.mark.now
    (λ is. let named : false ≡ true = c.if-not-is_name.ensures.1 is in absurd (cc))

pub returns-in_default : goal.returns-in_default
returns-in_default c = back_none (known c.args.begun.now) c.args.name.now c.args.mark.now (λ is. c.in_default.ensures.none)
