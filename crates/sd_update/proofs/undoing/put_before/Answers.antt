use Rattle.std.proofs.Common.{◌≡◌, ◌<◌, ℕ, List, length, sym, ap, ◌∙◌, subst}
use Rattle.std.specs.Prelude.{Some}
use Rattle.sd_base.specs.Values.{size}
use Rattle.sd_page.specs.Page.{CanTake, Page, Slot, written}
use Rattle.sd_pool.specs.Buffers.{rewritten}
use Rattle.sd_chain.specs.Records.{Val}
use Rattle.sd_update.proofs.UndoneCalls.{slot-written, undo-taken}
use Rattle.sd_update.proofs.undoing.put_before.Goals as goal

pub rewrite-requires : goal.rewrite-requires
rewrite-requires c =
    let last = c.args.last in
    let fits = c.requires.fits in
    let taken = subst (λ (v : Val). CanTake fits.0.slots last.rid.slot 0 (size v)) (sym c.lent_value.ensures)
    (undo-taken fits.0.slots last.rid.slot last.before fits.1.1) in
    record { takes = (fits.0, (fits.1.0, taken)) }

abbrev with_slots : ℕ → Page → List Slot → Page
with_slots lsn page slots = record { lsn = lsn; number = page.number; slots = slots }

pub returns-clause-page : goal.returns-clause-page
returns-clause-page c image copy =
    let last = c.args.last in
    let fits = c.requires.fits in
    let e = sym fits.1.0 ∙ copy in
    let same : fits.0 ≡ image = cc in
    let lt : last.rid.slot < length image.slots = subst (λ (v : Page). last.rid.slot < length v.slots) same fits.1.1.place in
    c.rewrite.ensures.page image copy
    ∙ ap (λ (v : Val). Some (with_slots c.args.lsn image (written image.slots last.rid.slot 0 v))) c.lent_value.ensures
    ∙ ap (λ (slots : List Slot). Some (with_slots c.args.lsn image slots)) (slot-written image.slots last.rid.slot last.before lt)

pub returns-clause-pool : goal.returns-clause-pool
returns-clause-pool c image copy =
    let last = c.args.last in
    let fits = c.requires.fits in
    let e = sym fits.1.0 ∙ copy in
    let same : fits.0 ≡ image = cc in
    let lt : last.rid.slot < length image.slots = subst (λ (v : Page). last.rid.slot < length v.slots) same fits.1.1.place in
    c.rewrite.ensures.pool image copy
    ∙ ap (λ (v : Val). rewritten c.args.pool.now last.rid.page (with_slots c.args.lsn image (written image.slots last.rid.slot 0 v)))
    c.lent_value.ensures
    ∙ ap (λ (slots : List Slot). rewritten c.args.pool.now last.rid.page (with_slots c.args.lsn image slots))
    (slot-written image.slots last.rid.slot last.before lt)
