use Rattle.sd_script.proofs.Refused.{no_force, isnt_word}
use Rattle.sd_script.proofs.inst_forms.force_of.Goals as goal

pub returns-else-eq : goal.returns-else-eq
returns-else-eq c = λ known. no_force known c.args.inst c.args.verb.now c.requires
    (isnt_word c.args.verb.now _ _ c.as_slice.ensures c.if-eq.ensures)
