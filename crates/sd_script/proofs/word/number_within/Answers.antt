use Rattle.std.proofs.Common.{◌≡◌, arith}
use Rattle.sd_script.proofs.Numbers.{one_number}
use Rattle.sd_script.proofs.word.number_within.Goals as goal
use Rattle.sd_script.proofs.word.number_within.Goals.{then-number-low-via-then-number-low, then-number-low-via-else-number-low+then-number-high}

pub returns-then-number-low-clause-none : goal.returns-then-number-low-clause-none
returns-then-number-low-clause-none c = λ n low high e.
    let same : n ≡ c.in_ok-number.number = one_number n c.in_ok-number.number c.args.word.now (omega arith) (omega (arith, c.in_ok-number.ensures.short)) e c.in_ok-number.ensures.found in
    elim c.then-number-low.branch [ then-number-low-via-then-number-low w ↦ omega arith | then-number-low-via-else-number-low+then-number-high w ↦ omega arith ]
