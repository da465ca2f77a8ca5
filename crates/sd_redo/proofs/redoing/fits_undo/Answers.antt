use Rattle.std.proofs.Common.{sym, ◌∙◌, arith}
use Rattle.std.proofs.lemmas.Bool.{leb-true, le-leb}
use Rattle.sd_redo.proofs.redoing.fits_undo.Goals as goal
use Rattle.sd_chain.proofs.Slots.{has-slot, lacks-slot}

pub returns-in-Some : goal.returns-in-Some
returns-in-Some c =
    let here = has-slot c.args.image.now.slots c.args.slot c.in-Some.capacity (sym c.capacity.ensures.value ∙ c.in-Some.is) in
    let own = here.1 in
    let size_is = c.value_len.ensures.value in (
      (λ small. let le = leb-true c.value_len.result c.in-Some.capacity small in
          record { place = here.0; within = omega (arith, own, size_is, le) }),
      (λ fits. let le = fits.within in le-leb c.value_len.result c.in-Some.capacity (omega (arith, own, size_is, le))),
    )

pub returns-in-None : goal.returns-in-None
returns-in-None c =
    let beyond = lacks-slot c.args.image.now.slots c.args.slot (sym c.capacity.ensures.value ∙ c.in-None.is) in
    ((λ no. absurd (cc)), (λ fits. let lt = fits.place in absurd (omega (arith, beyond, lt))))
