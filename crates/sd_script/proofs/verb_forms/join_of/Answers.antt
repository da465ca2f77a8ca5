use Rattle.sd_script.proofs.Refused.{join_none, isnt_word}
use Rattle.sd_script.proofs.verb_forms.join_of.Goals as goal

pub returns-in_default : goal.returns-in_default
returns-in_default c = λ known. join_none known c.args.word.now (isnt_word c.args.word.now _ _ c.as_slice.ensures c.if-eq.ensures)
    c.in_default.ensures.none
