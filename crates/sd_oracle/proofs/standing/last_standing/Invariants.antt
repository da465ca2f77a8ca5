use Rattle.std.proofs.Common.{◌≡◌, drop}
use Rattle.std.specs.Prelude.{option_copied}
use Rattle.sd_oracle.specs.Lists.{part_at, part_from, part_in}
use Rattle.sd_oracle.proofs.standing.last_standing.Given as goal

abbrev pub invariant-loop-owner : goal.invariant-loop-owner
invariant-loop-owner l = part_from (part_at (option_copied l.found)) (drop l.owner-index l.parts) l.txn ≡ part_in l.parts l.txn
