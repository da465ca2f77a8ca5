use Rattle.std.proofs.Common.{◌≡◌, ◌+◌, ℕ, List, None, Some, Option, option_map, refl, subst, sym, ap, ◌∙◌, arith}
use Rattle.sd_base.specs.declared.ids.Rid.{Rid}
use Rattle.sd_model.specs.Tables.{contents}
use Rattle.sd_recovered.proofs.Rows.{upto, upto-more, upto-dead, upto-all}
use Rattle.sd_recovered.proofs.values.put_page.Goals as goal
use Rattle.sd_recovered.proofs.values.put_page.Goals.{in-Some+in_ok-copy+in_ok-put, in_default}
use Rattle.sd_chain.proofs.Slots.{value-at}

none : {X : Type 0} (o : Option X) → ((x : X) → o ≡ Some x → ⊥) → o ≡ None
none None h = refl
none (Some x) h = absurd (h x refl)

pub loop-slot-preserved : goal.loop-slot-preserved
loop-slot-preserved c =
    let page = c.args.page in let slots = c.args.image.now.slots in let slot = c.loop-slot.slot in
    let base = contents c.args.table.now in let now = contents c.loop-slot.table in
    elim c.match-value.branch [
      | in-Some+in_ok-copy+in_ok-put w ↦
          subst (λ (t : List (Rid × List ℕ)). (r : Rid) → contents t r ≡ upto page (slot + 1) slots base r) (sym w.table-is)
          (upto-more page slot slots base now (contents w.put.new.self) (Some w.in_ok-copy.copy) c.loop-slot.invariant
          (sym (value-at slots slot) ∙ sym w.in-Some.ensures ∙ ap (λ (v : List ℕ). Some v) (sym w.in_ok-copy.ensures))
          w.in_ok-put.ensures.put)
      | in_default w ↦
          subst (λ (t : List (Rid × List ℕ)). (r : Rid) → contents t r ≡ upto page (slot + 1) slots base r) (sym w.table-is)
          (upto-dead page slot slots base now c.requires c.loop-slot.invariant (sym (value-at slots slot) ∙ sym c.value.ensures ∙ ap (option_map (λ v. v.now)) (none c.value.result w.in_default.not-Some)))
    ]

pub returns : goal.returns
returns c =
    upto-all c.args.page c.loop-slot.slot c.args.image.now.slots (contents c.args.table.now) (contents c.loop-slot.table)
    (omega arith) c.requires c.loop-slot.invariant
