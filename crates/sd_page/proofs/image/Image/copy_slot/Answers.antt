use Rattle.std.proofs.Common.{◌≡◌, ◌∙◌, get_or, ap, sym, subst}
use Rattle.std.specs.Prelude.{option_map, IsOk}
use Rattle.std.proofs.lemmas.Bool.{false≢true}
use Rattle.sd_base.specs.Values.{size}
use Rattle.sd_page.specs.Page.{Slot, Page, CanTake, written}
use Rattle.sd_page.proofs.Opened.{Images, no_slot, few_slots, lies_inside, slot_in-image}
use Rattle.sd_page.proofs.Written.{with_slots}
use Rattle.sd_page.proofs.Copied.{can_take, written-next}
use Rattle.sd_page.proofs.image.Image.copy_slot.Goals as goal

pub returns-in_err-capacity-clause-copied : goal.returns-in_err-capacity-clause-copied
returns-in_err-capacity-clause-copied c page fits spelled lt was =
    let i : Images c.args.bytes.now page = record { fits = fits; spelled = sym spelled } in
    absurd (false≢true (c.in_err-capacity.ensures.found (few_slots page c.args.slot fits lt) (lies_inside c.args.bytes.now page c.args.slot i lt)))

pub returns-in_err-ok-clause-copied : goal.returns-in_err-ok-clause-copied
returns-in_err-ok-clause-copied c page fits spelled lt was =
    let i : Images c.args.bytes.now page = record { fits = fits; spelled = sym spelled } in
    let slot : Slot = (c.in_ok-capacity.capacity, option_map (λ v. v.now) c.in_ok-capacity.value) in
    let told : slot ≡ get_or page.slots c.args.slot no_slot = c.in_ok-capacity.ensures.told ∙ slot_in-image c.args.bytes.now page c.args.slot i lt in
    let room : CanTake c.args.self.now.slots c.args.slot slot.0 (size slot.1) = subst (λ (p : Page). CanTake p.slots c.args.slot slot.0 (size slot.1)) (sym was) (can_take page c.args.slot slot fits lt told) in
    let taken : IsOk c.accepts.result = c.accepts.ensures.ok.1 (subst (CanTake c.args.self.now.slots c.args.slot slot.0) (sym c.bytes_of.ensures.len) room) in
    absurd (false≢true (c.in_err-ok.ensures.variant ∙ taken))

pub returns-clause-copied : goal.returns-clause-copied
returns-clause-copied c page fits spelled lt was =
    let i : Images c.args.bytes.now page = record { fits = fits; spelled = sym spelled } in
    let slot : Slot = (c.in_ok-capacity.capacity, option_map (λ v. v.now) c.in_ok-capacity.value) in
    let told : slot ≡ get_or page.slots c.args.slot no_slot = c.in_ok-capacity.ensures.told ∙ slot_in-image c.args.bytes.now page c.args.slot i lt in
    c.set.ensures
    ∙ ap (λ (p : Page). with_slots p (written p.slots c.args.slot slot.0 slot.1)) was
    ∙ ap (with_slots page) (written-next page c.args.slot slot lt told)
