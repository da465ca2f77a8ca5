use Rattle.std.proofs.Common.{length, ap, arith}
use Rattle.sd_report.proofs.summing.how_many.Goals as goal

pub overflow_add-count : goal.overflow_add-count
overflow_add-count c =
    let one = ap length c.in-Some.ensures in
    let all = c.most_entries-most in
    omega (arith, one, all.ensures, all.type_inv, c.loop-seen.invariant.most)
