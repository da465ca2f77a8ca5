use Rattle.std.proofs.Common.{ℕ, List, [], ◌∷◌, sym, subst}
use Rattle.std.specs.Fmt.{decimal}
use Rattle.sd_script.specs.Forms.{IsFormOf}
use Rattle.sd_script.proofs.Refused.{no_ask, is_word, isnt_word}
use Rattle.sd_script.proofs.inst_forms.ask_of.Goals as goal

pub returns-then-eq : goal.returns-then-eq
returns-then-eq c = λ known. subst (λ (v : List ℕ). IsFormOf known
    (decimal c.args.inst ∷ v ∷ c.args.page.now ∷ c.args.mode.now ∷ []) c.asked.result) (sym
    (is_word c.args.verb.now _ _ c.as_slice.ensures c.if-eq.ensures)) (c.asked.ensures known)

pub returns-else-eq : goal.returns-else-eq
returns-else-eq c = λ known. no_ask known c.args.inst c.args.verb.now c.args.page.now c.args.mode.now c.requires
    (isnt_word c.args.verb.now _ _ c.as_slice.ensures c.if-eq.ensures)
