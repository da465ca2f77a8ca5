use Rattle.std.proofs.Common.{sym, ◌∙◌, arith}
use Rattle.sd_chain.proofs.Slots.{has-slot, value-at}
use Rattle.sd_ops.proofs.inserting.usable.Goals as goal

pub returns-then-own-capacity : goal.returns-then-own-capacity
returns-then-own-capacity g c usable =
    let own = (has-slot c.args.image.now.slots c.args.r.now.slot c.in_ok-own.own (sym c.in_ok-own.ensures.value)).1 in
    let enough = usable.enough in
    let less = c.if-own-capacity.true in
    absurd (omega (arith, own, enough, less))

pub returns-then-not-is_dead : goal.returns-then-not-is_dead
returns-then-not-is_dead g c usable =
    let f = sym c.if-not-is_dead.true ∙ c.is_dead.ensures.1 (value-at c.args.image.now.slots c.args.r.now.slot ∙ usable.none) in
    absurd (cc)

pub returns-in-None : goal.returns-in-None
returns-in-None g c =
    let own = has-slot c.args.image.now.slots c.args.r.now.slot c.in_ok-own.own (sym c.in_ok-own.ensures.value) in
    let same = own.1 in
    let enough = c.if-own-capacity.false in (
      record {
        place = own.0;
        none = sym (value-at c.args.image.now.slots c.args.r.now.slot) ∙ c.is_dead.ensures.0 c.if-not-is_dead.false;
        enough = omega (arith, same, enough);
        unheld = c.in-None.ensures.lowest;
      },
      own.1,
    )
