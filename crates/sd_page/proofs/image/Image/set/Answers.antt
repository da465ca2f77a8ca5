use Rattle.std.proofs.Common.{◌≡◌, ◌∙◌, length, ap, sym, arith}
use Rattle.std.specs.Prelude.{option_map}
use Rattle.sd_page.specs.Page.{written}
use Rattle.sd_page.proofs.Written.{with_slots}
use Rattle.sd_page.proofs.Changed.{written-end, written-kept}
use Rattle.sd_page.proofs.image.Image.set.Goals as goal

pub returns-then-slot-count : goal.returns-then-slot-count
returns-then-slot-count c =
    let value = option_map (λ v. v.now) c.args.value in
    let end : length c.args.self.now.slots ≡ c.args.slot = omega (arith, c.count.ensures.value, c.if-slot-count.true) in
    c.push.ensures ∙ ap (with_slots c.args.self.now) (sym (written-end c.args.self.now.slots c.args.capacity value) ∙ ap (λ n. written c.args.self.now.slots n c.args.capacity value) end)

pub returns-else-slot-count : goal.returns-else-slot-count
returns-else-slot-count c =
    let value = option_map (λ v. v.now) c.args.value in
    c.rewrite.ensures ∙ ap (with_slots c.args.self.now) (written-kept c.args.self.now.slots c.args.slot 0 c.args.capacity value (omega (arith, c.count.ensures.value, c.requires.place, c.if-slot-count.false)))
