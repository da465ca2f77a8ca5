use Rattle.std.proofs.Common.{◌≡◌, ◌≤◌, ◌<◌, ◌^◌, length, arith}
use Rattle.std.specs.Fmt.{decimal}
use Rattle.sd_model.proofs.NumberTexts.{count-next, count-last, decimal-length}
use Rattle.sd_model.proofs.numbers.digit_count.Goals as goal

pub loop-rest-preserved : goal.loop-rest-preserved
loop-rest-preserved c = record {
  counts = count-next c.loop-rest.count c.args.n c.loop-rest.rest c.loop-rest-test.true (omega arith) c.loop-rest.invariant.counts;
  low = omega arith;
  few = omega arith;
}

pub returns : goal.returns
returns c =
    let is : c.loop-rest.count ≡ length (decimal c.args.n) = count-last c.loop-rest.count c.args.n c.loop-rest.rest c.loop-rest-test.false c.loop-rest.invariant.counts in
    let fits : c.args.n < 2 ^ 64 = omega arith in
    let few : length (decimal c.args.n) ≤ 20 = decimal-length c.args.n fits in
    record { count = is; few = omega arith }
