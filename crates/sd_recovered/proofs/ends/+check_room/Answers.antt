use Rattle.std.proofs.lemmas.List.Elements.{All-drop, All-take}
use Rattle.std.proofs.lemmas.Result.{IfErr-weaker}
use Rattle.sd_recovered.specs.Ends.{HasRoom}
use Rattle.sd_recovered.proofs.Room.{room_among_rest}
use Rattle.sd_recovered.proofs.ends.+check_room.Goals as goal

pub returns-else-not-has_room-clause-unfit : goal.returns-else-not-has_room-clause-unfit
returns-else-not-has_room-clause-unfit t c =
    IfErr-weaker c.check_room.result _ _
    (λ e d. (d.0, d.1, d.2, λ all. d.3 (All-take HasRoom _ _ (All-drop HasRoom 1 c.args.logs.now all))))
    c.check_room.ensures.unfit

pub returns-else-not-has_room-clause-place : goal.returns-else-not-has_room-clause-place
returns-else-not-has_room-clause-place t c = λ dev at is.
    room_among_rest c.args.inst c.args.logs.now c.log-item.result dev at c.log-item.is (c.has_room.ensures.0 c.if-not-has_room.false)
    (c.check_room.ensures.place dev at is)
