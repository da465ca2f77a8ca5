use Rattle.std.proofs.Common.{◌+◌, Some, sym, ap, ◌∙◌, arith}
use Rattle.sd_page.specs.Reading.{two_at}
use Rattle.sd_page.proofs.Opened.{opened, capacity-found, capacity-small, capacity-past}
use Rattle.sd_page.proofs.image.Image.capacity.Goals as goal

pub returns-then-slot-count-clause-value : goal.returns-then-slot-count-clause-value
returns-then-slot-count-clause-value c =
    let i = opened _ _ c.self.invariant c.self.view_is in
    ap Some (c.u16_at.ensures ∙ ap (λ k. two_at c.self.inside.bytes (k + 2)) c.entry_place.ensures)
    ∙ capacity-found _ _ c.args.slot i (omega (arith, c.count.ensures.value))

pub returns-then-slot-count-clause-small : goal.returns-then-slot-count-clause-small
returns-then-slot-count-clause-small c =
    let i = opened _ _ c.self.invariant c.self.view_is in
    omega (arith, c.u16_at.ensures ∙ ap (λ k. two_at c.self.inside.bytes (k + 2)) c.entry_place.ensures, capacity-small _ _ c.args.slot i (omega (arith, c.count.ensures.value)))

pub returns-else-slot-count-clause-value : goal.returns-else-slot-count-clause-value
returns-else-slot-count-clause-value c = sym (capacity-past c.args.self.now c.args.slot (omega (arith, c.count.ensures.value)))
