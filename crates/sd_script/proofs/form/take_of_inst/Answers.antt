use Rattle.std.proofs.Common.{refl, ℕ, List, [], ◌∷◌, sym, ap, ◌∙◌, subst}
use Rattle.std.specs.Prelude.{IfOk}
use Rattle.std.specs.Fmt.{decimal}
use Rattle.sd_script.specs.Order.{begun, ordinal_of}
use Rattle.sd_script.specs.Remembered.{IsTakenOf}
use Rattle.sd_script.specs.Words.{words_of}
use Rattle.sd_script.proofs.Refused.{inst_alone, inst_long}
use Rattle.sd_script.proofs.Readings.{ordinal_known}
use Rattle.sd_script.proofs.form.take_of_inst.Goals as goal

pub returns-in_default : goal.returns-in_default
returns-in_default c = (
  λ form is follows e.
      inst_alone (ordinal_of (begun c.args.reader.now)) c.args.inst c.requires.inst form is (ordinal_known c.args.reader.now form follows)
      (e ∙ ap (λ (l : List (List ℕ)). decimal c.args.inst ∷ l) c.in_default.ensures.none),
  refl,
)

pub take_other-requires-clause-form : goal.take_other-requires-clause-form
take_other-requires-clause-form c = (decimal c.args.inst ∷ c.in-Some.verb.now ∷ [], c.force_of.ensures (ordinal_of (begun c.args.reader.now)))

pub returns-in_default-next_word : goal.returns-in_default-next_word
returns-in_default-next_word c =
    let verb = c.in-Some.verb.now in
    let words = c.in-Some.ensures.found ∙ ap (λ (l : List (List ℕ)). verb ∷ l) c.in_default-next_word.ensures.none in
    subst (λ (ws : List (List ℕ)). IfOk c.take_other.result (IsTakenOf c.args.reader.now c.args.number (decimal c.args.inst ∷ ws) c.take_other.new.self)) (sym words)
    (c.take_other.ensures (decimal c.args.inst ∷ verb ∷ []) (c.force_of.ensures (ordinal_of (begun c.args.reader.now))))

pub take_other-requires-in-None-clause-form : goal.take_other-requires-in-None-clause-form
take_other-requires-in-None-clause-form c = (
  decimal c.args.inst ∷ c.in-Some.verb.now ∷ c.in-Some-next_word.third.now ∷ c.in-Some-next_word-2.fourth.now ∷ [],
  c.ask_of.ensures (ordinal_of (begun c.args.reader.now)),
)

pub returns-in-None : goal.returns-in-None
returns-in-None c =
    let verb = c.in-Some.verb.now in
    let third = c.in-Some-next_word.third.now in
    let fourth = c.in-Some-next_word-2.fourth.now in
    let behind = c.in-Some-next_word-2.ensures.found ∙ ap (λ (l : List (List ℕ)). fourth ∷ l) c.in-None.ensures.none in
    let words = c.in-Some.ensures.found
    ∙ ap (λ (l : List (List ℕ)). verb ∷ l) (c.in-Some-next_word.ensures.found ∙ ap (λ (l : List (List ℕ)). third ∷ l) behind) in
    subst (λ (ws : List (List ℕ)). IfOk c.take_other-in-None.result (IsTakenOf c.args.reader.now c.args.number (decimal c.args.inst ∷ ws) c.take_other-in-None.new.self)) (sym words)
    (c.take_other-in-None.ensures (decimal c.args.inst ∷ verb ∷ third ∷ fourth ∷ []) (c.ask_of.ensures (ordinal_of (begun c.args.reader.now))))

pub returns-in-Some-next_word-3 : goal.returns-in-Some-next_word-3
returns-in-Some-next_word-3 c = (
  λ form is follows e.
      let verb = c.in-Some.verb.now in
      let third = c.in-Some-next_word.third.now in
      let fourth = c.in-Some-next_word-2.fourth.now in
      let more = c.in-Some-next_word-3.field-0 in
      let behind = c.in-Some-next_word-2.ensures.found ∙ ap (λ (l : List (List ℕ)). fourth ∷ l) c.in-Some-next_word-3.ensures.found in
      let words = c.in-Some.ensures.found
      ∙ ap (λ (l : List (List ℕ)). verb ∷ l) (c.in-Some-next_word.ensures.found ∙ ap (λ (l : List (List ℕ)). third ∷ l) behind) in
      inst_long (ordinal_of (begun c.args.reader.now)) c.args.inst verb third fourth more.0.now (words_of more.1.now) c.requires.inst form is
      (ordinal_known c.args.reader.now form follows) (e ∙ ap (λ (l : List (List ℕ)). decimal c.args.inst ∷ l) words),
  refl,
)
