use Rattle.std.proofs.Common.{◌≡◌, ◌⊎◌, ⊎_elim, ◌∙◌, ap, sym, refl, subst, ℕ, List}
use Rattle.sd_base.specs.declared.ids.TxnId.{TxnId}
use Rattle.sd_base.specs.declared.place.Status.{Status}
use Rattle.sd_base.specs.declared.place.Status.TheVariants.{Down}
use Rattle.sd_model.specs.declared.act.Inst.{Inst}
use Rattle.sd_model.specs.State.{with_status}
use Rattle.sd_oracle.specs.declared.standing.Standing.{Standing}
use Rattle.sd_oracle.specs.Lists.{part_in, inst_in}
use Rattle.sd_oracle.specs.Outcomes.{left_part, HasLoserIn, Lowers}
use Rattle.sd_oracle.proofs.Lowering.{left-loser, clean-or-down, stands-so}
use Rattle.sd_oracle.proofs.reopenings.leave.Goals as goal

part-left : (c : goal.After-lists-1) → (t : TxnId) → part_in c.in_ok-parts.parts.items t ≡ left_part c.args.outcome.now t (part_in c.args.lists.now.parts.items t)
part-left c t = c.in_ok-parts.ensures t ∙ ap (λ (l : List (TxnId × Standing)). left_part c.args.outcome.now t (part_in l t)) c.deref.ensures.value

turned : (c : goal.After-lists-1) → (i : ℕ) → inst_in c.rest_after-rest.result c.in_ok-turned.turned.items i ≡ with_status c.rest_after-rest.result (inst_in c.args.lists.now.rest c.args.lists.now.insts.items i)
turned c i = c.in_ok-turned.ensures c.args.lists.now.rest i ∙ ap (λ (l : List (ℕ × Inst)). with_status c.rest_after-rest.result (inst_in c.args.lists.now.rest l i)) c.deref-2.ensures.value

lowers : (c : goal.After-lists-1) → Lowers c.in_ok-parts.parts.items (inst_in c.rest_after-rest.result c.in_ok-turned.turned.items) (inst_in c.rest_after-rest.result c.in_ok-insts.insts.items)
lowers c = subst (λ (l : List (TxnId × Standing)). Lowers l (inst_in c.rest_after-rest.result c.in_ok-turned.turned.items) (inst_in c.rest_after-rest.result c.in_ok-insts.insts.items)) c.deref-3.ensures.value c.in_ok-insts.ensures

others : (c : goal.After-lists-1) → (i : ℕ) → (HasLoserIn c.in_ok-parts.parts.items i → ⊥) → (inst_in c.rest_after-rest.result c.in_ok-insts.insts.items i).status ≡ c.rest_after-rest.result
others c i none = ⊎_elim
    (λ (e : inst_in c.rest_after-rest.result c.in_ok-insts.insts.items i ≡ inst_in c.rest_after-rest.result c.in_ok-turned.turned.items i). ap (λ (x : Inst). x.status) (e ∙ turned c i))
    (λ (h : HasLoserIn c.in_ok-parts.parts.items i × (inst_in c.rest_after-rest.result c.in_ok-insts.insts.items i ≡ with_status Down (inst_in c.rest_after-rest.result c.in_ok-turned.turned.items i))). absurd (none h.0))
    ((lowers c).each i)

pub returns-clause-left : goal.returns-clause-left
returns-clause-left c = record {
  start = refl;
  done = refl;
  begun = refl;
  cuts = refl;
  part = λ t. left-loser c.args.outcome.now t (part_in c.args.lists.now.parts.items t) (part_in c.in_ok-parts.parts.items t) (part-left c t);
  inst = λ i. stands-so (inst_in c.rest_after-rest.result c.in_ok-insts.insts.items i) (inst_in c.rest_after-rest.result c.in_ok-turned.turned.items i) (inst_in c.args.lists.now.rest c.args.lists.now.insts.items i) c.rest_after-rest.result (HasLoserIn c.in_ok-parts.parts.items i) (turned c i) ((lowers c).each i);
  down = λ i h. ap (λ (x : Inst). x.status) ((lowers c).losers i h);
  others = (c.rest_after-rest.result, subst (λ (s : Status). (s ≡ _) ⊎ (s ≡ Down)) (sym c.rest_after-rest.ensures) (clean-or-down c.args.outcome.now), others c);
}

pub returns-clause-told : goal.returns-clause-told
returns-clause-told c = record { part = part-left c; others = λ i none. others c i none ∙ c.rest_after-rest.ensures }
