use Rattle.std.proofs.Common.{[], ◌∷◌, ◌++◌, ℕ, ap, ◌∙◌}
use Rattle.std.specs.Fmt.{decimal}
use Rattle.sd_base.specs.Sets.{members}
use Rattle.sd_report.specs.Places.{insts_text}
use Rattle.sd_report.proofs.Sets.{first_text, next_text, fewer}
use Rattle.sd_report.proofs.places.push_insts.Goals as goal

pub loop-next-init : goal.loop-next-init
loop-next-init c =
    first_text c.args.set.bits c.in-Some.first c.without-rest.result.bits c.in-Some.ensures c.without-rest.ensures
    c.args.out.now.items c.push_digits.new.out.items
    (c.in_ok-push_digits.ensures ∙ ap (λ (n : ℕ). c.args.out.now.items ++ decimal n) (c.from.ensures ∙ c.get.ensures.value))

pub loop-next-smaller : goal.loop-next-smaller
loop-next-smaller c = fewer c.loop-next.rest.bits c.in-Some-first.next c.without-rest-in-Some-first.result.bits
    c.in-Some-first.ensures c.without-rest-in-Some-first.ensures

pub loop-next-preserved : goal.loop-next-preserved
loop-next-preserved c =
    next_text c.loop-next.rest.bits c.in-Some-first.next c.without-rest-in-Some-first.result.bits c.in-Some-first.ensures
    c.without-rest-in-Some-first.ensures
    c.loop-next.out.items c.push_counted.new.out.items (c.args.out.now.items ++ insts_text
    (members c.args.set.bits)) c.loop-next.invariant
    (c.in_ok-push_counted.ensures ∙ ap (λ (n : ℕ). (c.loop-next.out.items ++ 44 ∷ []) ++ decimal n) (c.from-in-Some-first.ensures
    ∙ c.get-in-Some-first.ensures.value))
