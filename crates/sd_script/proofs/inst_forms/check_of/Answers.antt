use Rattle.sd_script.proofs.Refused.{check_none, isnt_word}
use Rattle.sd_script.proofs.inst_forms.check_of.Goals as goal

pub returns-else-eq-2 : goal.returns-else-eq-2
returns-else-eq-2 c = λ known. check_none known c.args.inst c.args.word.now c.requires
    (isnt_word c.args.word.now _ _ c.as_slice.ensures c.if-eq.ensures)
    (isnt_word c.args.word.now _ _ c.as_slice-else-eq.ensures c.if-eq-2.ensures)
