use Rattle.sd_script.proofs.Refused.{ask_none}
use Rattle.sd_script.proofs.inst_forms.asked.Goals as goal

pub returns-in_default : goal.returns-in_default
returns-in_default c = λ known. ask_none known c.args.inst c.args.page.now c.args.mode.now c.requires
    (λ p m small page mode. c.in_default.ensures.none p small page)

pub returns-in_default-mode_of : goal.returns-in_default-mode_of
returns-in_default-mode_of c = λ known. ask_none known c.args.inst c.args.page.now c.args.mode.now c.requires
    (λ p m small page mode. c.in_default-mode_of.ensures.none m mode)
