-- Claims on records, and when two of them conflict.
use Rattle.std.specs.Prelude.{cond}
use Rattle.sd_base.specs.declared.ids.Rid.{Rid}
use Rattle.sd_model.specs.declared.act.Claim.{Claim}
use Rattle.sd_model.specs.declared.act.Claim.TheVariants.{Free, Shared, Excl}
use Rattle.sd_base.specs.Ids.{same_rid}

abbrev pub Claims : Type 0
Claims = Rid → Claim

-- the old claim, and one in this mode more
abbrev pub raised_claim : Claim → Claim → Claim
raised_claim Free old = old
raised_claim Shared Free = Shared
raised_claim Shared Shared = Shared
raised_claim Shared Excl = Excl
raised_claim Excl old = Excl

-- the claims with one in this mode on r more
abbrev pub with_claim : Rid → Claim → Claims → Claims
with_claim r mode claims q = cond (same_rid r q) (raised_claim mode (claims q)) (claims q)

-- there is a claim
abbrev pub Holds : Claim → Type 0
Holds Free = ⊥
Holds Shared = Unit {0}
Holds Excl = Unit {0}

-- the claim is an exclusive one
abbrev pub Owns : Claim → Type 0
Owns Free = ⊥
Owns Shared = ⊥
Owns Excl = Unit {0}

-- claims of two transactions conflict: both are there, and one is exclusive
abbrev pub Clash : Claim → Claim → Type 0
Clash Free other = ⊥
Clash Shared other = Owns other
Clash Excl other = Holds other
