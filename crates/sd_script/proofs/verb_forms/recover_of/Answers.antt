use Rattle.sd_script.proofs.Refused.{recover_none, isnt_word}
use Rattle.sd_script.proofs.verb_forms.recover_of.Goals as goal

pub returns-else-eq : goal.returns-else-eq
returns-else-eq c = λ known. recover_none known c.args.all.now (isnt_word c.args.all.now _ _ c.as_slice.ensures c.if-eq.ensures)
