use Rattle.std.proofs.Common.{◌≤◌, ◌<◌, ◌^◌, zero, length, refl, sym, arith}
use Rattle.std.proofs.Math.Nat.{pow-le-pow_right}
use Rattle.sd_model.proofs.NumberTexts.{few-below}
use Rattle.sd_model.proofs.numbers.numeral.Goals as goal

pub value_after-requires-clause-room : goal.value_after-requires-clause-room
value_after-requires-clause-room c =
    let ten : zero < 10 = omega arith in
    let power : 10 ^ length c.args.digits.now ≤ 10 ^ 18 = pow-le-pow_right ten c.if-digits-gt18.false in
    omega (arith, power)

pub returns-clause-bound : goal.returns-clause-bound
returns-clause-bound c = few-below c.value_after.result c.args.digits.now (c.if-not-is_numeral.ensures.0 refl, sym c.value_after.ensures) c.if-digits-gt18.false
