use Rattle.std.proofs.Common.{ℕ, List, [], ◌∷◌, sym, subst}
use Rattle.std.specs.Fmt.{decimal}
use Rattle.sd_script.specs.Forms.{IsFormOf}
use Rattle.sd_script.proofs.Refused.{no_three, is_word, isnt_word}
use Rattle.sd_script.proofs.inst_forms.three_of_inst.Goals as goal

pub returns-then-eq : goal.returns-then-eq
returns-then-eq c = λ known. subst (λ (v : List ℕ). IsFormOf known (decimal c.args.inst ∷ v ∷ c.args.word.now ∷ []) c.give_of.result)
    (sym (is_word c.args.verb.now _ _ c.as_slice.ensures c.if-eq.ensures)) (c.give_of.ensures known)

pub returns-then-eq-2 : goal.returns-then-eq-2
returns-then-eq-2 c = λ known. subst (λ (v : List ℕ). IsFormOf known (decimal c.args.inst ∷ v ∷ c.args.word.now ∷ []) c.take_of.result)
    (sym (is_word c.args.verb.now _ _ c.as_slice-else-eq.ensures c.if-eq-2.ensures)) (c.take_of.ensures known)

pub returns-then-eq-3 : goal.returns-then-eq-3
returns-then-eq-3 c = λ known. subst (λ (v : List ℕ). IsFormOf known (decimal c.args.inst ∷ v ∷ c.args.word.now ∷ []) c.evict_of.result)
    (sym (is_word c.args.verb.now _ _ c.as_slice-else-eq-2.ensures c.if-eq-3.ensures)) (c.evict_of.ensures known)

pub returns-then-eq-4 : goal.returns-then-eq-4
returns-then-eq-4 c = λ known. subst (λ (v : List ℕ). IsFormOf known (decimal c.args.inst ∷ v ∷ c.args.word.now ∷ []) c.flush_of.result)
    (sym (is_word c.args.verb.now _ _ c.as_slice-else-eq-3.ensures c.if-eq-4.ensures)) (c.flush_of.ensures known)

pub returns-then-eq-5 : goal.returns-then-eq-5
returns-then-eq-5 c = λ known. subst (λ (v : List ℕ). IsFormOf known (decimal c.args.inst ∷ v ∷ c.args.word.now ∷ []) c.check_of.result)
    (sym (is_word c.args.verb.now _ _ c.as_slice-else-eq-4.ensures c.if-eq-5.ensures)) (c.check_of.ensures known)

pub returns-else-eq-5 : goal.returns-else-eq-5
returns-else-eq-5 c = λ known. no_three known c.args.inst c.args.verb.now c.args.word.now c.requires.inst c.requires.verb
    (isnt_word c.args.verb.now _ _ c.as_slice.ensures c.if-eq.ensures)
    (isnt_word c.args.verb.now _ _ c.as_slice-else-eq.ensures c.if-eq-2.ensures)
    (isnt_word c.args.verb.now _ _ c.as_slice-else-eq-2.ensures c.if-eq-3.ensures)
    (isnt_word c.args.verb.now _ _ c.as_slice-else-eq-3.ensures c.if-eq-4.ensures)
    (isnt_word c.args.verb.now _ _ c.as_slice-else-eq-4.ensures c.if-eq-5.ensures)
