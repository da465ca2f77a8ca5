use Rattle.std.proofs.Common.{◌≡◌, ℕ, sym, ap, ◌∙◌, subst}
use Rattle.std.specs.Prelude.{None, Some}
use Rattle.sd_base.specs.declared.place.Mode.TheVariants as modes
use Rattle.sd_base.specs.declared.refusal.Refusal.TheVariants as R
use Rattle.sd_model.specs.declared.event.Event.{Event}
use Rattle.sd_model.specs.declared.event.Reply.TheVariants as reply
use Rattle.sd_world.specs.PageCauses.{undo_page}
use Rattle.sd_world.specs.Serving.{Turns}
use Rattle.sd_drive.specs.Standing.{need_of}
use Rattle.sd_drive.proofs.Needs.{need-else}
use Rattle.sd_drive.proofs.events.need.Goals as goal

pub returns-in_err-undo_page-in-Undo : goal.returns-in_err-undo_page-in-Undo
returns-in_err-undo_page-in-Undo g c = λ place w w' turns fits.
    let some = c.undo_page.ensures place w w'
    (subst (λ (e : Event). Turns w e (reply.Refused (R.NeedPage place)) w') c.in-Undo.is turns) fits in
    let none : c.undo_page.result ≡ None = c.in_err-undo_page-in-Undo.was {u = tt} in absurd (cc)

pub returns-in_ok-undo_page-in-Undo : goal.returns-in_ok-undo_page-in-Undo
returns-in_ok-undo_page-in-Undo g c = λ place w w' turns fits.
    let some = c.undo_page.ensures place w w'
    (subst (λ (e : Event). Turns w e (reply.Refused (R.NeedPage place)) w') c.in-Undo.is turns) fits in
    let is : c.undo_page.result ≡ Some c.in_ok-undo_page-in-Undo.field-0 = c.in_ok-undo_page-in-Undo.was {u = tt} in
    let same : c.in_ok-undo_page-in-Undo.field-0 ≡ undo_page w.scene.state c.in-Undo.txn = cc in
    ap (λ (p : ℕ). Some (c.in-Undo.txn.inst, p, modes.Excl)) same ∙ sym (ap (need_of w.scene.state) c.in-Undo.is)

pub returns-in_default : goal.returns-in_default
returns-in_default g c = λ place w w' turns fits.
    let d = c.in_default in
    need-else w.scene.state c.args.e.now d.not-Read d.not-Write d.not-Add d.not-Insert d.not-Delete d.not-Undo d.not-List
