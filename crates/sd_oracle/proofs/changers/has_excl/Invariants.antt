use Rattle.std.proofs.Common.{◌≡◌, drop}
use Rattle.sd_base.specs.declared.ids.Rid.{Rid}
use Rattle.sd_model.specs.declared.act.Claim.{Claim}
use Rattle.sd_model.specs.declared.act.Claim.TheVariants.{Excl}
use Rattle.sd_oracle.specs.Lists.{claims_in}
use Rattle.sd_oracle.specs.Claimers.{HasExcl}
use Rattle.sd_oracle.proofs.Search.{AnyOf}
use Rattle.sd_oracle.proofs.changers.has_excl.Given as goal

abbrev pub invariant-loop-rid : goal.invariant-loop-rid
invariant-loop-rid l = HasExcl l.claims l.page → AnyOf (λ (x : Rid × Claim). (x.0.page ≡ l.page) × (claims_in l.claims x.0 ≡ Excl)) (drop l.rid-index l.claims)
