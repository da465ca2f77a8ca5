use Rattle.sd_turnstile.proofs.Closes.{ends}
use Rattle.sd_turnstile.proofs.Looks.{same-value}
use Rattle.sd_turnstile.specs.Rule.{times, below}
use Rattle.sd_turnstile.specs.Turns.{IsLed}
use mathlib.Core.Option.{some-injective}
use mathlib.Core.List.{IsPrefix}
use Rattle.std.proofs.Common.{◌≡◌, ◌+◌, ℕ, length, ◌∙◌, sym, subst}
use Rattle.sd_turnstile.proofs.turnstile.Turnstile.close.Goals as goal

pub unreachable-requires : goal.unreachable-requires
unreachable-requires g c =
    let en = ends g.V.Shift.history g.V.Shift.stands g.V.Shift.turns _ _ _ _ _ _
    c.args.pass.calm.1 c.requires.parts c.close_with-closed.ensures.values.2 in
    c.in_default.not-Some en.value (some-injective _ _ (sym c.take-slot.ensures.value ∙ en.at))

pub returns-clause-led : goal.returns-clause-led
returns-clause-led g c =
    let en = ends g.V.Shift.history g.V.Shift.stands g.V.Shift.turns _ _ _ _ _ _
    c.args.pass.calm.1 c.requires.parts c.close_with-closed.ensures.values.2 in
    subst (IsLed g.V.Shift.turns c.args.self.table.shared.key.1.value)
    (same-value _ _ (some-injective _ _ (sym en.at ∙ c.take-slot.ensures.value) ∙ c.in-Some.is)) en.from.led

pub returns-clause-stands : goal.returns-clause-stands
returns-clause-stands g c =
    let en = ends g.V.Shift.history g.V.Shift.stands g.V.Shift.turns _ _ _ _ _ _
    c.args.pass.calm.1 c.requires.parts c.close_with-closed.ensures.values.2 in
    subst g.V.Shift.stands (same-value _ _ (some-injective _ _ (sym en.at ∙ c.take-slot.ensures.value)
    ∙ c.in-Some.is)) en.from.stood

pub returns-clause-begins : goal.returns-clause-begins
returns-clause-begins g c =
    let en = ends g.V.Shift.history g.V.Shift.stands g.V.Shift.turns _ _ _ _ _ _
    c.args.pass.calm.1 c.requires.parts c.close_with-closed.ensures.values.2 in
    subst (λ x. IsPrefix c.args.pass.seat.me.0.seen (g.V.Shift.history x))
    (same-value _ _ (some-injective _ _ (sym en.at ∙ c.take-slot.ensures.value) ∙ c.in-Some.is)) en.begins

pub returns-clause-mine : goal.returns-clause-mine
returns-clause-mine g c =
    let en = ends g.V.Shift.history g.V.Shift.stands g.V.Shift.turns _ _ _ _ _ _
    c.args.pass.calm.1 c.requires.parts c.close_with-closed.ensures.values.2 in
    subst (λ x. (p : ℕ) → times p c.args.pass.seat.me.0.mine + below p
    (length (g.V.Shift.history c.args.self.table.shared.key.1.value)) ≡ below p (length (g.V.Shift.history x)))
    (same-value _ _ (some-injective _ _ (sym en.at ∙ c.take-slot.ensures.value) ∙ c.in-Some.is)) en.mine
