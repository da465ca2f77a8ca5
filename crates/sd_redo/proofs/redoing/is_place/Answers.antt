use Rattle.std.proofs.Common.{sym, ◌∙◌, eq-eqb, arith}
use Rattle.std.proofs.lemmas.Bool.{eqb-true}
use Rattle.sd_redo.proofs.redoing.is_place.Goals as goal
use Rattle.sd_chain.proofs.Slots.{has-slot, lacks-slot}

-- a slot that is there has its capacity
pub returns-in-Some : goal.returns-in-Some
returns-in-Some c =
    let here = has-slot c.args.image.now.slots c.args.slot c.in-Some.own (sym c.capacity.ensures.value ∙ c.in-Some.is) in (
      (λ same. (
        (λ lt. sym (eqb-true c.in-Some.own c.args.capacity same) ∙ here.1),
        (λ next. absurd (omega (arith, here.0, next))),
      )),
      (λ h. eq-eqb c.in-Some.own c.args.capacity (here.1 ∙ sym (h.0 here.0))),
    )

-- the next slot has room
pub returns-in-None : goal.returns-in-None
returns-in-None c =
    let next = lacks-slot c.args.image.now.slots c.args.slot (sym c.capacity.ensures.value ∙ c.in-None.is) in (
      (λ room. ((λ lt. absurd (omega (arith, lt, next))), (λ _. c.room.ensures.0 room))),
      (λ h. c.room.ensures.1 (h.1 (omega (arith, next, c.requires)))),
    )
