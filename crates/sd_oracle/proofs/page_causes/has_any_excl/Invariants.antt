use Rattle.std.proofs.Common.{◌≡◌, ℕ, drop}
use Rattle.sd_base.specs.declared.ids.Rid.{Rid}
use Rattle.sd_model.specs.declared.act.Claim.{Claim}
use Rattle.sd_model.specs.declared.act.Claim.TheVariants.{Excl}
use Rattle.sd_oracle.specs.Lists.{claims_in}
use Rattle.sd_oracle.specs.Claimers.{HasExcl}
use Rattle.sd_oracle.proofs.Search.{AnyOf}
use Rattle.sd_oracle.proofs.page_causes.has_any_excl.Given as goal

abbrev pub invariant-loop-rid : goal.invariant-loop-rid
invariant-loop-rid l = ((p : ℕ) × HasExcl l.claims p) → AnyOf (λ (x : Rid × Claim). claims_in l.claims x.0 ≡ Excl) (drop l.rid-index l.claims)
