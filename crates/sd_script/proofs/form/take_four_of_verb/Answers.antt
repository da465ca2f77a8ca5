use Rattle.std.proofs.Common.{◌≡◌, ℕ, List, [], ◌∷◌, refl, sym, ap, ◌∙◌, subst, arith}
use Rattle.std.specs.Prelude.{codes, IfOk}
use Rattle.sd_script.specs.Order.{begun, ordinal_of}
use Rattle.sd_script.specs.Remembered.{IsTakenOf}
use Rattle.sd_script.specs.Words.{plain_number}
use Rattle.sd_script.proofs.Plain.{plain_add, plain_of_verb}
use Rattle.sd_script.proofs.Refused.{is_word}
use Rattle.sd_script.proofs.form.take_four_of_verb.Goals as goal

pub returns-then-is_add : goal.returns-then-is_add
returns-then-is_add c =
    let verb : c.args.verb.now ≡ codes "add" = c.if-is_add.ensures.0 refl in
    subst (λ (ws : List (List ℕ)). IfOk c.take_add.result (IsTakenOf c.args.reader.now c.args.number ws c.take_add.new.self))
    (ap (λ (v : List ℕ). v ∷ c.args.second.now ∷ c.args.third.now ∷ plain_number c.args.fourth.now ∷ []) (sym verb)
    ∙ sym (plain_add c.args.verb.now c.args.second.now c.args.third.now c.args.fourth.now verb))
    c.take_add.ensures

pub take_other-requires-clause-form : goal.take_other-requires-clause-form
take_other-requires-clause-form c = (codes "complex" ∷ c.args.second.now ∷ c.args.third.now ∷ c.args.fourth.now ∷ [], c.complex_of.ensures (ordinal_of (begun c.args.reader.now)))

pub returns-then-eq : goal.returns-then-eq
returns-then-eq c =
    let verb = is_word c.args.verb.now _ _ c.as_slice.ensures c.if-eq.ensures in
    subst (λ (ws : List (List ℕ)). IfOk c.take_other.result (IsTakenOf c.args.reader.now c.args.number ws c.take_other.new.self))
    (ap (λ (v : List ℕ). v ∷ c.args.second.now ∷ c.args.third.now ∷ c.args.fourth.now ∷ []) (sym verb)
    ∙ sym (plain_of_verb c.args.verb.now c.args.second.now c.args.third.now c.args.fourth.now (codes "complex") verb (λ e. omega (arith, e))))
    (c.take_other.ensures (codes "complex" ∷ c.args.second.now ∷ c.args.third.now ∷ c.args.fourth.now ∷ []) (c.complex_of.ensures (ordinal_of (begun c.args.reader.now))))

pub take_other-requires-then-eq-2-clause-form : goal.take_other-requires-then-eq-2-clause-form
take_other-requires-then-eq-2-clause-form c = (codes "recover" ∷ c.args.second.now ∷ c.args.third.now ∷ c.args.fourth.now ∷ [], c.recovery_of.ensures (ordinal_of (begun c.args.reader.now)))

pub returns-then-eq-2 : goal.returns-then-eq-2
returns-then-eq-2 c =
    let verb = is_word c.args.verb.now _ _ c.as_slice-else-eq.ensures c.if-eq-2.ensures in
    subst (λ (ws : List (List ℕ)). IfOk c.take_other-then-eq-2.result (IsTakenOf c.args.reader.now c.args.number ws c.take_other-then-eq-2.new.self))
    (ap (λ (v : List ℕ). v ∷ c.args.second.now ∷ c.args.third.now ∷ c.args.fourth.now ∷ []) (sym verb)
    ∙ sym (plain_of_verb c.args.verb.now c.args.second.now c.args.third.now c.args.fourth.now (codes "recover") verb (λ e. omega (arith, e))))
    (c.take_other-then-eq-2.ensures (codes "recover" ∷ c.args.second.now ∷ c.args.third.now ∷ c.args.fourth.now ∷ []) (c.recovery_of.ensures (ordinal_of (begun c.args.reader.now))))
