use Rattle.std.proofs.Common.{◌<◌, length, sym, ap, ◌∙◌, arith}
use Rattle.std.proofs.lemmas.Bool.{false≢true}
use Rattle.sd_page.specs.Page.{Slot}
use Rattle.sd_page.proofs.Opened.{opened, few_slots, lies_inside, slot_in-image, value_of-slot}
use Rattle.sd_page.proofs.image.Image.value.Goals as goal

pub returns-in_err-_capacity : goal.returns-in_err-_capacity
returns-in_err-_capacity c =
    let i = opened _ _ c.self.invariant c.self.view_is in
    let below : c.args.slot < length c.args.self.now.slots = omega (arith, c.count.ensures.value) in
    absurd (false≢true (c.in_err-_capacity.ensures.found (few_slots c.args.self.now c.args.slot i.fits below) (lies_inside _ c.args.self.now c.args.slot i below)))

pub returns : goal.returns
returns c =
    let i = opened _ _ c.self.invariant c.self.view_is in
    let below : c.args.slot < length c.args.self.now.slots = omega (arith, c.count.ensures.value) in
    ap (λ (s : Slot). s.1) (c.in_ok-_capacity.ensures.told ∙ slot_in-image _ c.args.self.now c.args.slot i below)
    ∙ sym (value_of-slot c.args.self.now c.args.slot below)
