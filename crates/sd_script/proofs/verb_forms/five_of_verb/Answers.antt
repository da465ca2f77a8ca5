use Rattle.std.proofs.Common.{ℕ, List, [], ◌∷◌, sym, subst}
use Rattle.sd_script.specs.Forms.{IsFormOf}
use Rattle.sd_script.specs.Known.{known}
use Rattle.sd_script.proofs.Refused.{is_word}
use Rattle.sd_script.proofs.verb_forms.five_of_verb.Goals as goal

pub returns-then-eq-2 : goal.returns-then-eq-2
returns-then-eq-2 c = subst (λ (v : List ℕ). IsFormOf (known c.args.begun.now)
    (v ∷ c.args.second.now ∷ c.args.third.now ∷ c.args.fourth.now ∷ c.args.fifth.now ∷ []) c.recovery_in_steps.result)
    (sym (is_word c.args.verb.now _ _ c.as_slice-else-eq.ensures c.if-eq-2.ensures))
    (c.recovery_in_steps.ensures (known c.args.begun.now))
