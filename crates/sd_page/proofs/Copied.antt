-- A slot that is made as an image tells of it. It serves the goals of image.rt that check bytes.
use Rattle.std.proofs.Common.{◌≡◌, ℕ, ◌+◌, ◌<◌, ◌≤◌, [], ◌∷◌, ◌++◌, length, get_or, take, drop, sym, ap, subst, ◌∙◌, arith}
use Rattle.std.proofs.lemmas.List.{take_more, length-take-le}
use Rattle.sd_base.specs.Values.{size}
use Rattle.sd_page.specs.Page.{Slot, Page, CanTake, written, PageFits, SlotFits}
use Rattle.sd_page.proofs.Told.{Has, Has-at, Has-fits, Has-end, Has-count}
use Rattle.sd_page.proofs.Opened.{no_slot}
use Rattle.sd_page.proofs.Changed.{written-end, capacity_for-past}

pub can_take : (page : Page) (k : ℕ) (s : Slot) → PageFits page → k < length page.slots → s ≡ get_or page.slots k no_slot → CanTake (take k page.slots) k s.0 (size s.1)
can_take page k s fits lt e =
    let xs = take k page.slots in
    let ys = drop (k + 1) page.slots in
    let front : length xs ≡ k = length-take-le k page.slots (omega arith) in
    let has : Has page xs s ys = subst (λ (z : Slot). Has page xs z ys) (sym e) (Has-at page fits k no_slot lt) in
    let slot : SlotFits s = (Has-fits page xs s ys has).1 in
    let value : size s.1 ≤ s.0 = slot.value in
    record {
      place = omega (arith, front);
      room = λ _. omega (arith, front, fits.room, Has-end page xs s ys has, Has-count page xs s ys has);
      small = λ _. slot.capacity;
      within = omega (arith, value, capacity_for-past xs k s.0 (omega (arith, front)));
    }

pub written-next : (page : Page) (k : ℕ) (s : Slot) → k < length page.slots → s ≡ get_or page.slots k no_slot → written (take k page.slots) k s.0 s.1 ≡ take (k + 1) page.slots
written-next page k s lt e =
    let front : length (take k page.slots) ≡ k = length-take-le k page.slots (omega arith) in
    ap (λ n. written (take k page.slots) n s.0 s.1) (sym front)
    ∙ written-end (take k page.slots) s.0 s.1
    ∙ ap (λ (z : Slot). take k page.slots ++ (z ∷ [])) e
    ∙ sym (take_more page.slots k no_slot lt)
