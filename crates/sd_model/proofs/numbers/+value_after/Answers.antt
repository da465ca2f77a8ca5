use Rattle.std.proofs.Common.{◌<◌, ◌≤◌, length, get_or, arith, rules}
use Rattle.sd_model.proofs.NumberTexts.{room-below, room-rest, digits-rest, digit-first}
use Rattle.sd_model.proofs.numbers.+value_after.Goals as goal

pub overflow_mul-n : goal.overflow_mul-n
overflow_mul-n t c = let small : c.args.n < 1000000000000000000 = room-below c.args.n (length c.args.digits.now) c.requires.room in omega arith

pub overflow_add-n : goal.overflow_add-n
overflow_add-n t c =
    let small : c.args.n < 1000000000000000000 = room-below c.args.n (length c.args.digits.now) c.requires.room in
    let digit : get_or c.args.digits.now 0 0 ≤ 57 = digit-first c.args.digits.now c.in-len1-up.len_at_least c.requires.digits in
    omega arith

pub value_after-requires : goal.value_after-requires
value_after-requires t c = (search rules, (digits-rest c.args.digits.now c.in-len1-up.len_at_least c.requires.digits, room-rest c.args.n c.from.result c.args.digits.now c.in-len1-up.len_at_least c.requires.digits c.from.ensures c.requires.room))
