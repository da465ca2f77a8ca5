use Rattle.sd_script.proofs.Refused.{no_lone, isnt_word}
use Rattle.sd_script.proofs.verb_forms.lone_of.Goals as goal

pub returns-else-eq-2 : goal.returns-else-eq-2
returns-else-eq-2 c = λ known. no_lone known c.args.verb.now
    (isnt_word c.args.verb.now _ _ c.as_slice.ensures c.if-eq.ensures)
    (isnt_word c.args.verb.now _ _ c.as_slice-else-eq.ensures c.if-eq-2.ensures)
