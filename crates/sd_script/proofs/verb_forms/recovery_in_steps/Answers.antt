use Rattle.std.proofs.Common.{List, ℕ, [], ◌∷◌, subst}
use Rattle.std.specs.Prelude.{codes}
use Rattle.sd_script.specs.Forms.{IsFormOf}
use Rattle.sd_script.proofs.verb_forms.recovery_in_steps.Goals as goal

pub returns : goal.returns
returns c = λ known. subst (λ (w : List ℕ). IsFormOf known
    (codes "recover" ∷ c.args.inst.now ∷ c.args.between.now ∷ c.args.by.now ∷ w ∷ []) c.recovery_of.result)
    c.in-Some.ensures.found (c.recovery_of.ensures known)
