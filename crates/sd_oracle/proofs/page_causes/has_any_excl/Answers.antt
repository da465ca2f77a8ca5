use Rattle.std.proofs.Common.{◌≡◌, refl, arith}
use Rattle.sd_base.specs.declared.ids.Rid.{Rid}
use Rattle.sd_model.specs.declared.act.Claim.{Claim}
use Rattle.sd_model.specs.declared.act.Claim.TheVariants.{Excl}
use Rattle.sd_oracle.specs.Lists.{claims_in}
use Rattle.sd_oracle.proofs.Search.{any-weaker, any-next, any-end, excl-any, not_true}
use Rattle.sd_oracle.proofs.page_causes.has_any_excl.Goals as goal

pub loop-rid-init : goal.loop-rid-init
loop-rid-init c = λ h. any-weaker (λ (x : Rid × Claim). (x.0.page ≡ h.0) × (claims_in c.args.claims.now x.0 ≡ Excl)) (λ (x : Rid × Claim). claims_in c.args.claims.now x.0 ≡ Excl) c.args.claims.now (λ x p. p.1)
    (excl-any c.args.claims.now h.0 h.1)

pub loop-rid-preserved : goal.loop-rid-preserved
loop-rid-preserved c = λ h. any-next (λ (x : Rid × Claim). claims_in c.args.claims.now x.0 ≡ Excl) c.args.claims.now c.loop-rid.rid-index c.loop-rid-item.result
    c.loop-rid-test.true c.loop-rid-item.is (λ p. not_true (c.if-is_excl.ensures.1 (refl, p))) (c.loop-rid.invariant h)

pub returns : goal.returns
returns c = (λ f. absurd (not_true f), λ h. absurd (any-end (λ (x : Rid × Claim). claims_in c.args.claims.now x.0 ≡ Excl) c.args.claims.now c.loop-rid.rid-index (omega arith) (c.loop-rid.invariant h)))
