use Rattle.std.proofs.Common.{ℕ, List, [], ◌∷◌, sym, subst}
use Rattle.sd_script.specs.Forms.{IsFormOf}
use Rattle.sd_script.specs.Known.{known}
use Rattle.sd_script.proofs.Refused.{is_word}
use Rattle.sd_script.proofs.verb_forms.three_of_verb.Goals as goal

pub returns-then-eq-4 : goal.returns-then-eq-4
returns-then-eq-4 c = subst (λ (v : List ℕ). IsFormOf (known c.args.begun.now) (v ∷ c.args.name.now ∷ c.args.word.now ∷ [])
    c.fail_all_of.result) (sym (is_word c.args.verb.now _ _ c.as_slice-else-eq-3.ensures c.if-eq-4.ensures))
    (c.fail_all_of.ensures (known c.args.begun.now))
