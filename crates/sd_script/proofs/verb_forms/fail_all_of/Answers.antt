use Rattle.std.proofs.Common.{sym}
use Rattle.sd_script.proofs.Refused.{fail_all_none, isnt_word}
use Rattle.sd_script.proofs.verb_forms.fail_all_of.Goals as goal

pub returns-in_default : goal.returns-in_default
returns-in_default c = λ known. fail_all_none known c.args.all.now c.args.pick.now (λ p all word. c.in_default.ensures.none p word)

pub returns-else-eq : goal.returns-else-eq
returns-else-eq c = λ known. fail_all_none known c.args.all.now c.args.pick.now
    (λ p all word. isnt_word c.args.all.now _ _ c.as_slice.ensures c.if-eq.ensures (sym all))
