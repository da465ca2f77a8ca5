use Rattle.std.proofs.Common.{◌∙◌, ap, sym, refl, Bool, cond, List}
use Rattle.sd_base.specs.declared.ids.Rid.{Rid}
use Rattle.sd_model.specs.declared.act.Claim.{Claim}
use Rattle.sd_base.specs.Ids.{same_rid}
use Rattle.sd_model.specs.Claims.{raised_claim}
use Rattle.sd_oracle.specs.Lists.{claim_from, claims_in}
use Rattle.sd_oracle.proofs.Loops.{fold-next, same_rid-test}
use Rattle.sd_oracle.proofs.standing.claim.Goals as goal
use Rattle.sd_oracle.proofs.standing.claim.Goals.{then-eq, else-eq}

pub loop-at-preserved : goal.loop-at-preserved
loop-at-preserved c =
    let r : Rid = c.args.rid.now in
    let x : Rid × Claim = c.loop-at-item.result in
    let same = same_rid-test x.0 r c.eq.result c.eq.ensures in
    let next = fold-next (λ (s : Claim) (l : List (Rid × Claim)). claim_from s l r) (λ (s : Claim) (y : Rid × Claim). cond (same_rid y.0 r) (raised_claim y.1 s) s) (λ s y l. refl)
    c.loop-at.found c.if-eq.found x c.args.claims.now c.loop-at.at-index (claims_in c.args.claims.now r) c.loop-at-test.true c.loop-at-item.is in
    elim c.if-eq.branch [
      | then-eq w ↦ next (ap (λ (b : Bool). cond b (raised_claim x.1 c.loop-at.found) c.loop-at.found) (same ∙ w.if-eq.true) ∙ (sym w.raise-found.ensures ∙ sym w.found-is)) c.loop-at.invariant
      | else-eq w ↦ next (ap (λ (b : Bool). cond b (raised_claim x.1 c.loop-at.found) c.loop-at.found) (same ∙ w.if-eq.false) ∙ sym w.found-is) c.loop-at.invariant
    ]
