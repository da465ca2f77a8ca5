use Rattle.std.proofs.Common.{◌≡◌, ◌∙◌, ◌+◌, ◌-◌, arith}
use Rattle.sd_model.proofs.NumberTexts.{negated}
use Rattle.sd_model.proofs.numbers.below_zero.Goals as goal

pub returns-in-Some : goal.returns-in-Some
returns-in-Some c =
    let n = c.in-Some.n in
    let spelt = c.in-Some.ensures.spelt in
    let e : n ≡ n - 1 + 1 = omega arith in
    (n - 1, negated n c.signed.result c.if-n-gt0.true c.in-Some.ensures.bound c.signed.ensures, (spelt.0.0, spelt.0.1 ∙ e), spelt.1)
