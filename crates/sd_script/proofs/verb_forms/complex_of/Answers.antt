use Rattle.sd_script.proofs.Refused.{complex_none}
use Rattle.sd_script.proofs.verb_forms.complex_of.Goals as goal

pub returns-in_default : goal.returns-in_default
returns-in_default c = λ known. complex_none known c.args.insts.now c.args.pages.now c.args.frames.now
    (λ i p f inst pages frames a b d. c.in_default.ensures.none i inst a)

pub returns-in_default-number_within : goal.returns-in_default-number_within
returns-in_default-number_within c = λ known. complex_none known c.args.insts.now c.args.pages.now c.args.frames.now
    (λ i p f inst pages frames a b d. c.in_default-number_within.ensures.none p pages.0 pages.1 b)

pub returns-in_default-number_within-2 : goal.returns-in_default-number_within-2
returns-in_default-number_within-2 c = λ known. complex_none known c.args.insts.now c.args.pages.now c.args.frames.now
    (λ i p f inst pages frames a b d. c.in_default-number_within-2.ensures.none f frames.0 frames.1 d)
