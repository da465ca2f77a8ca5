use Rattle.std.proofs.Common.{ℕ, List, [], ◌∷◌, sym, subst}
use Rattle.sd_script.specs.Forms.{IsFormOf}
use Rattle.sd_script.specs.Known.{known}
use Rattle.sd_script.proofs.Refused.{is_word}
use Rattle.sd_script.proofs.verb_forms.two_of_verb.Goals as goal

pub returns-then-eq-2 : goal.returns-then-eq-2
returns-then-eq-2 c = subst (λ (v : List ℕ). IsFormOf (known c.args.begun.now) (v ∷ c.args.word.now ∷ []) c.where_of.result)
    (sym (is_word c.args.verb.now _ _ c.as_slice-else-eq.ensures c.if-eq-2.ensures)) (c.where_of.ensures (known c.args.begun.now))

pub returns-then-eq-3 : goal.returns-then-eq-3
returns-then-eq-3 c = subst (λ (v : List ℕ). IsFormOf (known c.args.begun.now) (v ∷ c.args.word.now ∷ []) c.fail_of.result)
    (sym (is_word c.args.verb.now _ _ c.as_slice-else-eq-2.ensures c.if-eq-3.ensures)) (c.fail_of.ensures (known c.args.begun.now))

pub returns-then-eq-4 : goal.returns-then-eq-4
returns-then-eq-4 c = subst (λ (v : List ℕ). IsFormOf (known c.args.begun.now) (v ∷ c.args.word.now ∷ []) c.fuse_of.result)
    (sym (is_word c.args.verb.now _ _ c.as_slice-else-eq-3.ensures c.if-eq-4.ensures)) (c.fuse_of.ensures (known c.args.begun.now))

pub returns-then-eq-5 : goal.returns-then-eq-5
returns-then-eq-5 c = subst (λ (v : List ℕ). IsFormOf (known c.args.begun.now) (v ∷ c.args.word.now ∷ []) c.fault_of.result)
    (sym (is_word c.args.verb.now _ _ c.as_slice-else-eq-4.ensures c.if-eq-5.ensures)) (c.fault_of.ensures (known c.args.begun.now))

pub returns-then-eq-6 : goal.returns-then-eq-6
returns-then-eq-6 c = subst (λ (v : List ℕ). IsFormOf (known c.args.begun.now) (v ∷ c.args.word.now ∷ []) c.recover_of.result)
    (sym (is_word c.args.verb.now _ _ c.as_slice-else-eq-5.ensures c.if-eq-6.ensures)) (c.recover_of.ensures (known c.args.begun.now))

pub returns-then-eq-7 : goal.returns-then-eq-7
returns-then-eq-7 c = subst (λ (v : List ℕ). IsFormOf (known c.args.begun.now) (v ∷ c.args.word.now ∷ []) c.join_of.result)
    (sym (is_word c.args.verb.now _ _ c.as_slice-else-eq-6.ensures c.if-eq-7.ensures)) (c.join_of.ensures (known c.args.begun.now))
