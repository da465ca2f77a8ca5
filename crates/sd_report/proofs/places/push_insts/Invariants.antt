use Rattle.std.proofs.Common.{◌≡◌, ◌++◌, ◌∷◌, length}
use Rattle.std.specs.Fmt.{decimal}
use Rattle.std.specs.List.{flat_map}
use Rattle.sd_base.specs.Sets.{members}
use Rattle.sd_report.specs.Places.{insts_text}
use Rattle.sd_report.proofs.places.push_insts.Given as goal

abbrev pub invariant-loop-next : goal.invariant-loop-next
invariant-loop-next l = l.out.items ++ flat_map (λ other. 44 ∷ decimal other)
    (members l.rest.bits) ≡ l.fn.out.items ++ insts_text (members l.fn.set.bits)

abbrev pub decreases-loop-next : goal.decreases-loop-next
decreases-loop-next l = length (members l.rest.bits)
