use Rattle.sd_script.proofs.Refused.{add_none}
use Rattle.sd_script.specs.Known.{known}
use Rattle.sd_script.specs.Words.{plain_number}
use Rattle.sd_script.proofs.verb_forms.add_of.Goals as goal

pub returns-in_default : goal.returns-in_default
returns-in_default c = add_none (known c.args.begun.now) c.args.name.now c.args.rid.now (plain_number c.args.by.now) (λ z small e. absurd
    (c.in_default.ensures.none z small e))

pub returns-in_default-record_of : goal.returns-in_default-record_of
returns-in_default-record_of c = add_none (known c.args.begun.now) c.args.name.now c.args.rid.now (plain_number c.args.by.now)
    (λ z small e. c.in_default-record_of.ensures.none)
