use Rattle.std.proofs.Common.{◌≡◌}
use Rattle.sd_ops.specs.Listing.{rows_below}
use Rattle.sd_ops.proofs.listing.rows_of.Given as goal

abbrev pub invariant-loop-slot : goal.invariant-loop-slot
invariant-loop-slot l = l.rows.items ≡ rows_below l.p l.image.slots l.slot
