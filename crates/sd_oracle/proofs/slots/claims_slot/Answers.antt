use Rattle.std.proofs.Common.{◌≡◌, ◌≢◌, ◌∙◌, ap, sym, subst, rules, ℕ, List}
use Rattle.sd_base.specs.declared.ids.TxnId.{TxnId}
use Rattle.sd_base.specs.declared.ids.Rid.{Rid}
use Rattle.sd_model.specs.declared.act.Claim.{Claim}
use Rattle.sd_model.specs.Claims.{Claims}
use Rattle.sd_model.specs.State.{State, Part}
use Rattle.sd_oracle.specs.declared.standing.Standing.{Standing}
use Rattle.sd_oracle.specs.Lists.{claims_in, part_in, meaning}
use Rattle.sd_oracle.proofs.SlotClaims.{HasSlot, slot-any, any-slot}
use Rattle.sd_oracle.proofs.slots.claims_slot.Goals as goal

pub returns-in-Some : goal.returns-in-Some
returns-in-Some c =
    let m : State = meaning c.args.lists.now in
    let t : TxnId = c.args.txn.now in
    let p : ℕ = c.args.page in
    let ne : t ≢ c.args.other.now = search rules in
    let same : (λ r. claims_in c.items.result.now r) ≡ (part_in c.args.lists.now.parts.items c.args.other.now).claims =
    ap {B = Claims} (λ (l : List (Rid × Claim)) (r : Rid). claims_in l r) c.items.ensures
    ∙ ap (λ (q : Part). q.claims) (c.in-Some.ensures ∙ ap (λ (l : List (TxnId × Standing)). part_in l c.args.other.now) c.deref.ensures.value) in (
      λ f. let h = subst (HasSlot m t p) same (any-slot m t p c.items.result.now (c.any_slot.ensures.0 f)) in (h.0, h.1, (ne, h.2)),
      λ h. c.any_slot.ensures.1 (slot-any m t p c.items.result.now (subst (HasSlot m t p) (sym same) (h.0, h.1, h.2.1))),
    )
