use Rattle.std.proofs.Common.{arith}
use Rattle.sd_one.proofs.Ready.{fits-new, fits-own}
use Rattle.sd_one.proofs.standing.fits_in.Goals as goal

pub returns-in-Some : goal.returns-in-Some
returns-in-Some c same =
    fits-own c.args.image.now.slots c.args.slot c.in-Some.own c.args.capacity c.args.len c.in-Some.ensures.value (grind (arith, same))
    (omega (arith, c.if-len-capacity.false))

pub returns-in-None : goal.returns-in-None
returns-in-None c room =
    fits-new c.args.image.now.slots c.args.slot c.args.capacity c.args.len c.in-None.ensures.value
    (omega (arith, c.if-slot-count.false, c.count.ensures.value)) (c.room.ensures.0 room) (omega (arith, c.if-len-capacity.false))
