use Rattle.std.proofs.Common.{sym, subst, ap, ◌∙◌, arith}
use Rattle.sd_base.specs.Values.{size}
use Rattle.sd_page.specs.Page.{CanTake, Page}
use Rattle.sd_chain.specs.Records.{Val}
use Rattle.sd_chain.specs.Pages.{write}
use Rattle.sd_recovered.proofs.Slots.{takes, write-written}
use Rattle.sd_recovered.proofs.taking_back.put_back.Goals as goal
use Rattle.sd_chain.proofs.Slots.{has-slot, value-at}
use Rattle.sd_base.proofs.Results.{when_ok}

pub returns-then-value_len-capacity-clause-misfit : goal.returns-then-value_len-capacity-clause-misfit
returns-then-value_len-capacity-clause-misfit c = λ _ h.
    let here = has-slot c.args.image.now.slots c.args.slot c.in-Some.capacity (sym c.capacity.ensures.value ∙ c.in-Some.is) in
    let own = here.1 in let size_is = c.value_len.ensures.value in let room = h.room in let above = c.if-value_len-capacity.true in
    absurd (omega (arith, own, size_is, room, above))

pub returns-then-not-same_value-clause-misfit : goal.returns-then-not-same_value-clause-misfit
returns-then-not-same_value-clause-misfit c = λ _ h.
    let yes = c.same_value.ensures.1 (c.value.ensures ∙ value-at c.args.image.now.slots c.args.slot ∙ h.found ∙ sym c.lent_value.ensures) in
    let no = c.if-not-same_value.true in absurd (cc)

pub unwrap-requires : goal.unwrap-requires
unwrap-requires c =
    let slots = c.args.image.now.slots in
    let here = has-slot slots c.args.slot c.in-Some.capacity (sym c.capacity.ensures.value ∙ c.in-Some.is) in
    let own = here.1 in let size_is = c.value_len.ensures.value in let below = c.if-value_len-capacity.false in
    c.apply.ensures.ok.1
    (subst (λ (v : Val). CanTake slots c.args.slot c.in-Some.capacity (size v)) (sym c.lent_value-2.ensures)
    (takes slots c.args.slot c.in-Some.capacity c.args.before.now here.0 (omega (arith, own, size_is, below))))

pub returns-clause-fits : goal.returns-clause-fits
returns-clause-fits c = λ _.
    let slots = c.args.image.now.slots in
    let here = has-slot slots c.args.slot c.in-Some.capacity (sym c.capacity.ensures.value ∙ c.in-Some.is) in
    let own = here.1 in let size_is = c.value_len.ensures.value in let below = c.if-value_len-capacity.false in record {
      slot = here.0;
      room = omega (arith, own, size_is, below);
      found = sym (value-at slots c.args.slot) ∙ sym c.value.ensures ∙ c.same_value.ensures.0 c.if-not-same_value.false ∙ c.lent_value.ensures;
    }

pub returns-clause-put : goal.returns-clause-put
returns-clause-put c = λ _.
    let slots = c.args.image.now.slots in
    let here = has-slot slots c.args.slot c.in-Some.capacity (sym c.capacity.ensures.value ∙ c.in-Some.is) in
    ap (λ (page : Page). page.slots) (when_ok _ _ _ c.unwrap.ensures c.apply.ensures.applied)
    ∙ write-written slots c.args.slot c.in-Some.capacity _ here.0
    ∙ ap (λ (v : Val). write slots c.args.slot 0 v) c.lent_value-2.ensures
