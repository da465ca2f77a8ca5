use Rattle.sd_script.proofs.Refused.{insert_none}
use Rattle.sd_script.specs.Forms.{number_words}
use Rattle.sd_script.specs.Known.{known}
use Rattle.sd_script.proofs.verb_forms.insert_of.Goals as goal

pub returns-in_default-ordinal_of : goal.returns-in_default-ordinal_of
returns-in_default-ordinal_of c = insert_none (known c.args.begun.now) c.args.name.now c.args.page.now c.args.value.now
    (number_words c.args.capacity) (λ o p room named small is has knows word more. c.in_default-ordinal_of.ensures.none o
    named knows)
