use Rattle.std.proofs.Common.{◌≡◌, take}
use Rattle.sd_base.specs.declared.ids.Rid.{Rid}
use Rattle.sd_oracle.specs.Lists.{claims_in}
use Rattle.sd_oracle.specs.Outcomes.{among_claims, left_claim}
use Rattle.sd_oracle.proofs.reopenings.left_claims.Given as goal

abbrev pub invariant-loop-claim : goal.invariant-loop-claim
invariant-loop-claim l = (r : Rid) → claims_in l.all.items r ≡ left_claim (among_claims l.txn r l.freed) (claims_in (take l.claim-index l.claims) r)
