use Rattle.std.proofs.Common.{◌≡◌, ◌∙◌, ap, refl, sym, List, subst}
use Rattle.std.proofs.lemmas.List.{take_all}
use Rattle.sd_model.specs.declared.act.Claim.{Claim}
use Rattle.sd_oracle.specs.Lists.{claims_in}
use Rattle.sd_base.specs.declared.ids.Rid.{Rid}
use Rattle.sd_oracle.specs.Outcomes.{among_claims, left_claim}
use Rattle.sd_oracle.proofs.Search.{not_true}
use Rattle.sd_oracle.proofs.Lowering.{claims-kept, claims-dropped, left-free}
use Rattle.sd_oracle.proofs.reopenings.left_claims.Goals as goal
use Rattle.sd_oracle.proofs.reopenings.left_claims.Goals.{then-is_kept+in_ok-push, else-is_kept}

pub loop-claim-preserved : goal.loop-claim-preserved
loop-claim-preserved c =
    let freed = λ (r : Rid). among_claims c.args.txn.now r c.args.freed.now in
    elim c.if-is_kept.branch [
      | then-is_kept+in_ok-push w ↦ let kept = w.if-is_kept.ensures.0 refl in claims-kept freed c.args.claims.now c.loop-claim.all.items c.if-is_kept.all.items c.loop-claim.claim-index c.claim-item.result c.loop-claim-test.true c.claim-item.is
          kept.0 kept.1 (ap (λ v. v.items) w.all-is ∙ w.in_ok-push.ensures.items) c.loop-claim.invariant
      | else-is_kept w ↦ claims-dropped freed c.args.claims.now c.loop-claim.all.items c.if-is_kept.all.items c.loop-claim.claim-index c.claim-item.result c.loop-claim-test.true c.claim-item.is
          (λ p. not_true (w.if-is_kept.ensures.1 p)) (ap (λ v. v.items) w.all-is) c.loop-claim.invariant
    ]

pub loop-claim-init : goal.loop-claim-init
loop-claim-init c = λ r. ap (λ (l : List (Rid × Claim)). claims_in l r) c.in_ok-all.ensures.items ∙ left-free (among_claims c.args.txn.now r c.args.freed.now)

pub returns : goal.returns
returns c =
    let leaves = λ (l k : List (Rid × Claim)). (r : Rid) → claims_in l r ≡ left_claim (among_claims c.args.txn.now r c.args.freed.now) (claims_in k r) in
    subst (λ (l : List (Rid × Claim)). leaves l c.args.claims.now) (sym c.of.ensures)
    (subst (λ (k : List (Rid × Claim)). leaves c.loop-claim.all.items k) (take_all c.loop-claim.claim-index c.args.claims.now c.loop-claim-test.false) c.loop-claim.invariant)
