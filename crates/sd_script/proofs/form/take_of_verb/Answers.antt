use Rattle.std.proofs.Common.{ℕ, List, [], ◌∷◌, sym, subst}
use Rattle.std.specs.Prelude.{IfOk}
use Rattle.sd_script.specs.Order.{begun, ordinal_of}
use Rattle.sd_script.specs.Remembered.{IsTakenOf}
use Rattle.sd_script.specs.Words.{plain}
use Rattle.sd_script.proofs.form.take_of_verb.Goals as goal

pub take_other-requires-clause-form : goal.take_other-requires-clause-form
take_other-requires-clause-form c = (c.args.verb.now ∷ [], c.lone_of.ensures (ordinal_of (begun c.args.reader.now)))

pub returns-in_default : goal.returns-in_default
returns-in_default c =
    let form = c.lone_of.ensures (ordinal_of (begun c.args.reader.now)) in
    subst (λ (ws : List (List ℕ)). IfOk c.take_other.result (IsTakenOf c.args.reader.now c.args.number (plain (c.args.verb.now ∷ ws)) c.take_other.new.self))
    (sym c.in_default.ensures.none) (c.take_other.ensures (c.args.verb.now ∷ []) form)
