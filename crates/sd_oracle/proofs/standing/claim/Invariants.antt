use Rattle.std.proofs.Common.{◌≡◌, drop}
use Rattle.sd_oracle.specs.Lists.{claim_from, claims_in}
use Rattle.sd_oracle.proofs.standing.claim.Given as goal

abbrev pub invariant-loop-at : goal.invariant-loop-at
invariant-loop-at l = claim_from l.found (drop l.at-index l.claims) l.rid ≡ claims_in l.claims l.rid
