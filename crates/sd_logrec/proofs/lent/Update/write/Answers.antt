use Rattle.std.proofs.Common.{refl}
use Rattle.sd_logrec.proofs.Rooms.{update_after, update_before, update_head, update_place}
use Rattle.sd_logrec.proofs.Writes.{appends_then, appends_head, appends_place}
use Rattle.sd_logrec.proofs.lent.Update.write.Goals as goal

pub put_head-requires : goal.put_head-requires
put_head-requires c = update_head c.args.out.now _ _ _ _ _ _ _ _ _ refl c.requires.room

pub put_place-requires : goal.put_place-requires
put_place-requires c = update_place c.args.out.now _ _ _ _ _ _ _ _ _ refl c.requires.room _ c.put_head.ensures

pub put_value-requires-clause-small : goal.put_value-requires-clause-small
put_value-requires-clause-small c = c.requires.fits.6

pub put_value-requires-clause-room : goal.put_value-requires-clause-room
put_value-requires-clause-room c =
    update_before c.args.out.now _ _ _ _ _ _ _ _ _ refl c.requires.room _ c.put_head.ensures _ c.put_place.ensures

pub put_value-requires-2-clause-small : goal.put_value-requires-2-clause-small
put_value-requires-2-clause-small c = c.requires.fits.7

pub put_value-requires-2-clause-room : goal.put_value-requires-2-clause-room
put_value-requires-2-clause-room c =
    update_after c.args.out.now _ _ _ _ _ _ _ _ _ refl c.requires.room _ c.put_head.ensures _ c.put_place.ensures
    _ c.put_value.ensures

pub returns : goal.returns
returns c =
    appends_head _ _ _ 2 _ _ _ _ c.put_head.ensures
    (appends_place _ _ _ _ _ _ _ c.put_place.ensures
    (appends_then _ _ _ _ _ c.put_value.ensures c.put_value-2.ensures))
