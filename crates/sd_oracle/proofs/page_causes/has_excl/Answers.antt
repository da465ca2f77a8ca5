use Rattle.std.proofs.Common.{◌≡◌, ◌∙◌, ap, subst, IsTrue, ℕ, Bool, List}
use Rattle.sd_base.specs.declared.ids.TxnId.{TxnId}
use Rattle.sd_base.specs.declared.ids.Rid.{Rid}
use Rattle.sd_model.specs.declared.act.Claim.{Claim}
use Rattle.sd_model.specs.declared.act.Claim.TheVariants.{Excl}
use Rattle.sd_oracle.specs.declared.standing.Standing.{Standing}
use Rattle.sd_model.specs.Claims.{Claims}
use Rattle.sd_model.specs.State.{Part}
use Rattle.sd_oracle.specs.Lists.{claims_in, part_in}
use Rattle.sd_oracle.proofs.page_causes.has_excl.Goals as goal

pub returns-in-Some : goal.returns-in-Some
returns-in-Some c =
    let b : Bool = c.has_any_excl.result in
    let same : (λ r. claims_in c.items.result.now r) ≡ (part_in c.args.lists.now.parts.items c.args.txn.now).claims =
    ap {B = Claims} (λ (l : List (Rid × Claim)) (r : Rid). claims_in l r) c.items.ensures
    ∙ ap (λ (q : Part). q.claims) (c.in-Some.ensures ∙ ap (λ (l : List (TxnId × Standing)). part_in l c.args.txn.now) c.deref.ensures.value) in
    subst (λ (f : Claims). (IsTrue b → (p : ℕ) × ((slot : ℕ) × (f (record { page = p; slot = slot }) ≡ Excl))) × (((p : ℕ) × ((slot : ℕ) × (f (record { page = p; slot = slot }) ≡ Excl))) → IsTrue b)) same c.has_any_excl.ensures
