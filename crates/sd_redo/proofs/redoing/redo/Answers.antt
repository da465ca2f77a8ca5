use Rattle.std.proofs.Common.{sym, subst}
use Rattle.sd_logrec.specs.declared.record.Record.{Record}
use Rattle.sd_logrec.specs.Spelling.{HasSpelling}
use Rattle.sd_logrec.specs.View.{flat}
use Rattle.sd_base.specs.Values.{size}
use Rattle.sd_page.specs.Page.{CanTake}
use Rattle.sd_chain.specs.Records.{Val}
use Rattle.sd_chain.specs.Pages.{FitsKind}
use Rattle.sd_redo.proofs.Written.{takes-update, takes-undo}
use Rattle.sd_redo.proofs.redoing.redo.Goals as goal

pub set-requires : goal.set-requires
set-requires c =
    let slots = c.args.image.now.slots in
    let fits = subst (λ (r : Record). FitsKind (flat r).kind (flat r) slots) c.in-Update.is c.requires.fits.found in
    let spelled = subst HasSpelling c.in-Update.is c.requires.spelled in
    subst (λ (v : Val). CanTake slots c.in-Update.slot c.in-Update.capacity (size v)) (sym c.lent_value.ensures)
    (takes-update slots _ _ _ _ spelled.5 fits)

pub set-requires-in-Clr : goal.set-requires-in-Clr
set-requires-in-Clr c =
    let slots = c.args.image.now.slots in
    let fits = subst (λ (r : Record). FitsKind (flat r).kind (flat r) slots) c.in-Clr.is c.requires.fits.found in
    subst (λ (v : Val). CanTake slots c.in-Clr.slot 0 (size v)) (sym c.lent_value-in-Clr.ensures) (takes-undo slots _ _ fits)
