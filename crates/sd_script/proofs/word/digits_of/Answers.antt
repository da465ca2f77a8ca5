use Rattle.std.proofs.Common.{take, get_or, arith, rules, length-take}
use Rattle.std.proofs.lemmas.Str.Parse.{digit_at}
use Rattle.std.specs.Int.{IsInRange}
use Rattle.sd_script.proofs.Numbers.{digits_below, next_digit}
use Rattle.sd_script.proofs.word.digits_of.Goals as goal

pub returns-then-not-is_ascii_digit-clause-none : goal.returns-then-not-is_ascii_digit-clause-none
returns-then-not-is_ascii_digit-clause-none c = λ all.
    let range : IsInRange 48 57 (get_or c.args.digits.now c.loop-digit.digit-index 0) = digit_at c.args.digits.now c.loop-digit.digit-index all (search rules) in
    grind (arith, range, c.if-not-is_ascii_digit.ensures.cases)

pub overflow_mul-number : goal.overflow_mul-number
overflow_mul-number c =
    let below = digits_below (take c.loop-digit.digit-index c.args.digits.now) 9 c.loop-digit.invariant.digits (omega (arith, length-take c.loop-digit.digit-index c.args.digits.now)) in
    omega arith

pub overflow_add-number : goal.overflow_add-number
overflow_add-number c =
    let below = digits_below (take c.loop-digit.digit-index c.args.digits.now) 9 c.loop-digit.invariant.digits (omega (arith, length-take c.loop-digit.digit-index c.args.digits.now)) in
    let range = c.if-not-is_ascii_digit.ensures.cases in omega arith

pub loop-digit-preserved : goal.loop-digit-preserved
loop-digit-preserved c =
    let next = next_digit c.args.digits.now c.loop-digit.digit-index c.loop-digit.number c.from.result (search rules) c.loop-digit.invariant.digits c.loop-digit.invariant.value c.if-not-is_ascii_digit.ensures.cases (omega (arith, c.if-not-is_ascii_digit.ensures.cases)) in
    record { digits = next.0; value = next.1 }
