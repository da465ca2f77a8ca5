use Rattle.std.proofs.Common.{sym}
use Rattle.sd_script.specs.Forms.{number_words}
use Rattle.sd_script.proofs.Refused.{recovery_none, isnt_word}
use Rattle.sd_script.proofs.verb_forms.recovery_of.Goals as goal

pub returns-in_default : goal.returns-in_default
returns-in_default c = λ known. recovery_none known c.args.inst.now c.args.between.now c.args.by.now (number_words c.args.most)
    (λ i j k inst by steps word between other more. c.in_default.ensures.none i inst word)

pub returns-in_default-inst_of : goal.returns-in_default-inst_of
returns-in_default-inst_of c = λ known. recovery_none known c.args.inst.now c.args.between.now c.args.by.now
    (number_words c.args.most) (λ i j k inst by steps word between other more. c.in_default-inst_of.ensures.none j by other)

pub returns-else-eq : goal.returns-else-eq
returns-else-eq c = λ known. recovery_none known c.args.inst.now c.args.between.now c.args.by.now (number_words c.args.most)
    (λ i j k inst by steps word between other more.
    isnt_word c.args.between.now _ _ c.as_slice.ensures c.if-eq.ensures (sym between))
