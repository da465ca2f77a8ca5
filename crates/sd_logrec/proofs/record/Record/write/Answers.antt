use Rattle.std.proofs.Common.{◌∙◌, subst, sym}
use Rattle.sd_logrec.specs.declared.record.Record.{Record}
use Rattle.sd_logrec.specs.Spelling.{spelling, HasSpelling}
use Rattle.sd_logrec.specs.Writing.{Appends, HasRoom}
use Rattle.sd_logrec.proofs.Rooms.{check_begin, check_recs, check_row, check_spans, clr_after, clr_head, clr_page, clr_slot, clr_undo_next, same_update, start_epoch, start_row}
use Rattle.sd_logrec.proofs.Writes.{appends_then, appends_head, appends_row}
use Rattle.sd_logrec.proofs.record.Record.write.Goals as goal

pub put_row-requires : goal.put_row-requires
put_row-requires c = start_row c.args.out.now _ _ _ c.in-Start.is c.requires.room

pub put_u32-requires : goal.put_u32-requires
put_u32-requires c = start_epoch c.args.out.now _ _ _ c.in-Start.is c.requires.room _ c.put_row.ensures

pub put_head-requires : goal.put_head-requires
put_head-requires c = clr_head c.args.out.now _ _ _ _ _ _ _ _ c.in-Clr.is c.requires.room

pub put_u64-requires : goal.put_u64-requires
put_u64-requires c = clr_undo_next c.args.out.now _ _ _ _ _ _ _ _ c.in-Clr.is c.requires.room _ c.put_head.ensures

pub put_page-requires : goal.put_page-requires
put_page-requires c =
    clr_page c.args.out.now _ _ _ _ _ _ _ _ c.in-Clr.is c.requires.room _ c.put_head.ensures _ c.put_u64.ensures

pub put_u16-requires : goal.put_u16-requires
put_u16-requires c =
    clr_slot c.args.out.now _ _ _ _ _ _ _ _ c.in-Clr.is c.requires.room _ c.put_head.ensures _ c.put_u64.ensures
    _ c.put_page.ensures

pub put_kept-requires-clause-small : goal.put_kept-requires-clause-small
put_kept-requires-clause-small c = (subst HasSpelling c.in-Clr.is c.requires.fits).6

pub put_kept-requires-clause-room : goal.put_kept-requires-clause-room
put_kept-requires-clause-room c =
    clr_after c.args.out.now _ _ _ _ _ _ _ _ c.in-Clr.is c.requires.room _ c.put_head.ensures _ c.put_u64.ensures
    _ c.put_page.ensures _ c.put_u16.ensures

pub put_row-requires-in-EndCheck : goal.put_row-requires-in-EndCheck
put_row-requires-in-EndCheck c = check_row c.args.out.now _ _ _ _ _ c.in-EndCheck.is c.requires.room

pub put_u64-requires-in-EndCheck : goal.put_u64-requires-in-EndCheck
put_u64-requires-in-EndCheck c =
    check_begin c.args.out.now _ _ _ _ _ c.in-EndCheck.is c.requires.room _ c.put_row-in-EndCheck.ensures

pub put_spans-requires-clause-fits : goal.put_spans-requires-clause-fits
put_spans-requires-clause-fits c = (subst HasSpelling c.in-EndCheck.is c.requires.fits).2

pub put_spans-requires-clause-room : goal.put_spans-requires-clause-room
put_spans-requires-clause-room c =
    check_spans c.args.out.now _ _ _ _ _ c.in-EndCheck.is c.requires.room _ c.put_row-in-EndCheck.ensures
    _ c.put_u64-in-EndCheck.ensures

pub put_recs-requires-clause-fits : goal.put_recs-requires-clause-fits
put_recs-requires-clause-fits c = (subst HasSpelling c.in-EndCheck.is c.requires.fits).3

pub put_recs-requires-clause-room : goal.put_recs-requires-clause-room
put_recs-requires-clause-room c =
    check_recs c.args.out.now _ _ _ _ _ c.in-EndCheck.is c.requires.room _ c.put_row-in-EndCheck.ensures
    _ c.put_u64-in-EndCheck.ensures _ c.put_spans.ensures

pub returns-in-Start : goal.returns-in-Start
returns-in-Start c =
    subst (λ (r : Record). Appends c.args.out.now c.put_u32.new.out (spelling r)) (sym c.in-Start.is)
    (appends_row _ _ _ 1 _ _ c.put_row.ensures c.put_u32.ensures)

pub write-requires-clause-fits : goal.write-requires-clause-fits
write-requires-clause-fits c =
    subst HasSpelling (c.in-Update.is ∙ sym (same_update _ _ _ _ _ _ _ _ _ _ c.lent_value.ensures c.lent_value-in-Update.ensures)) c.requires.fits

pub write-requires-clause-room : goal.write-requires-clause-room
write-requires-clause-room c =
    subst (λ (r : Record). HasRoom c.args.out.now (spelling r))
    (c.in-Update.is ∙ sym (same_update _ _ _ _ _ _ _ _ _ _ c.lent_value.ensures c.lent_value-in-Update.ensures)) c.requires.room

pub returns-in-Update : goal.returns-in-Update
returns-in-Update c =
    subst (λ (r : Record). Appends c.args.out.now c.write.new.out (spelling r))
    (same_update _ _ _ _ _ _ _ _ _ _ c.lent_value.ensures c.lent_value-in-Update.ensures ∙ sym c.in-Update.is) c.write.ensures

pub returns-in-Clr : goal.returns-in-Clr
returns-in-Clr c =
    subst (λ (r : Record). Appends c.args.out.now c.put_kept.new.out (spelling r)) (sym c.in-Clr.is)
    (appends_head _ _ _ 3 _ _ _ _ c.put_head.ensures
    (appends_then _ _ _ _ _ c.put_u64.ensures
    (appends_then _ _ _ _ _ c.put_page.ensures
    (appends_then _ _ _ _ _ c.put_u16.ensures c.put_kept.ensures))))

pub returns-in-EndCheck : goal.returns-in-EndCheck
returns-in-EndCheck c =
    subst (λ (r : Record). Appends c.args.out.now c.put_recs.new.out (spelling r)) (sym c.in-EndCheck.is)
    (appends_row _ _ _ 7 _ _ c.put_row-in-EndCheck.ensures
    (appends_then _ _ _ _ _ c.put_u64-in-EndCheck.ensures
    (appends_then _ _ _ _ _ c.put_spans.ensures c.put_recs.ensures)))
