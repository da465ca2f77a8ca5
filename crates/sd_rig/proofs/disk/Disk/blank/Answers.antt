use Rattle.std.proofs.Common.{vec_capacity}
use Rattle.sd_rig.proofs.Parts.{blank-held, blank-whole}
use Rattle.sd_rig.proofs.disk.Disk.blank.Goals as goal

pub invariant_of-result : goal.invariant_of-result
invariant_of-result c =
    let synced = c.in_ok-with_capacity.field-0 in
    let pending = c.in_ok-with_capacity-2.field-0 in
    blank-held c.args.len (vec_capacity synced) (vec_capacity pending) c.in_ok-zeros.field-0 synced.items pending.items c.in_ok-zeros.ensures c.in_ok-with_capacity.ensures.items c.in_ok-with_capacity-2.ensures.items c.in_ok-with_capacity.ensures.capacity c.in_ok-with_capacity-2.ensures.capacity

pub returns : goal.returns
returns c = blank-whole 0 c.args.len c.in_ok-zeros.field-0 c.in_ok-with_capacity.field-0.items c.in_ok-with_capacity-2.field-0.items c.in_ok-zeros.ensures c.in_ok-with_capacity.ensures.items c.in_ok-with_capacity-2.ensures.items
