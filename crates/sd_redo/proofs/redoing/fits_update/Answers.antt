use Rattle.std.proofs.Common.{sym, ◌∙◌, arith}
use Rattle.std.proofs.lemmas.Bool.{leb-true, le-leb}
use Rattle.sd_redo.proofs.redoing.fits_update.Goals as goal
use Rattle.sd_chain.proofs.Slots.{value-at}

pub returns-then-not-same_value : goal.returns-then-not-same_value
returns-then-not-same_value c = (
  (λ no. absurd (cc)),
  (λ fits. let yes = c.same_value.ensures.1
      (c.value.ensures ∙ value-at c.args.image.now.slots c.args.slot ∙ sym fits.found ∙ sym c.lent_value.ensures) in
      let no = c.if-not-same_value.true in absurd (cc)),
)

pub returns : goal.returns
returns c =
    let size_is = c.value_len.ensures.value in
    let count = c.count.ensures.value in
    let below = c.if-slot-count.false in
    let found = sym c.lent_value.ensures ∙ sym (c.same_value.ensures.0 c.if-not-same_value.false)
    ∙ c.value.ensures ∙ value-at c.args.image.now.slots c.args.slot in
    let place = c.is_place.ensures.0 c.if-not-is_place.false in (
      (λ small. let le = leb-true c.value_len.result c.args.capacity small in record {
        place = omega (arith, count, below);
        found = found;
        same = place.0;
        room = place.1;
        within = omega (arith, size_is, le);
      }),
      (λ fits. let le = fits.within in le-leb c.value_len.result c.args.capacity (omega (arith, size_is, le))),
    )
