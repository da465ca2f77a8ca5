-- What an image's bytes say of the page that contracts see. It serves the goals of image.rt that read.
use Rattle.std.proofs.Common.{◌≡◌, ℕ, ◌+◌, ◌<◌, ◌≤◌, List, length, get_or, take, drop, Option, Some, None, refl, sym, ap, subst, inl, inr, ⊎_elim, ◌∙◌, arith}
use Rattle.std.specs.Prelude.{slice_get, option_and_then, option_map}
use Rattle.std.proofs.lemmas.List.{length-take-le}
use Rattle.std.proofs.lemmas.Bool.{cases_eq}
use Rattle.std.proofs.lemmas.Option.{slice_get-get_or, slice_get_past}
use Rattle.sd_base.specs.Values.{size}
use Rattle.sd_page.specs.Page.{Slot, Page, heap_end, value_at, capacity_at, SlotFits, PageFits}
use Rattle.sd_page.specs.Spelling.{value_bytes, length_word, page_spelling}
use Rattle.sd_page.specs.Reading.{field, two_at, four_at, eight_at, entry_place, slot_in, LiesInside, page_of, IsImage}
use Rattle.sd_page.proofs.Parts.{IsWithin}
use Rattle.sd_page.proofs.Told.{Has, Has-at, Has-fits, Has-end, told, told-lsn, told-number, told-count, told-end, told-offset, told-capacity, told-length, told-value, told-slot, IsImage-spelling}

-- the bytes are the image of this page
pub record Images (bytes : List ℕ) (page : Page) : Type 0 where
  pub fits : PageFits page
  pub spelled : bytes ≡ page_spelling page

pub opened : (bytes : List ℕ) (page : Page) → IsImage bytes → page_of bytes ≡ page → Images bytes page
opened bytes page image view = record { fits = subst PageFits view image.fits; spelled = sym image.spelled ∙ ap page_spelling view }

pub closed : (bytes : List ℕ) (page : Page) → Images bytes page → IsImage bytes × (page_of bytes ≡ page)
closed bytes page images = (subst IsImage (sym images.spelled) (IsImage-spelling page images.fits), ap page_of images.spelled ∙ told page images.fits)

pub image-lsn : (bytes : List ℕ) (page : Page) → Images bytes page → eight_at bytes 0 ≡ page.lsn
image-lsn bytes page i = ap (λ (b : List ℕ). eight_at b 0) i.spelled ∙ told-lsn page i.fits

pub image-number : (bytes : List ℕ) (page : Page) → Images bytes page → four_at bytes 8 ≡ page.number
image-number bytes page i = ap (λ (b : List ℕ). four_at b 8) i.spelled ∙ told-number page i.fits

pub image-count : (bytes : List ℕ) (page : Page) → Images bytes page → two_at bytes 12 ≡ length page.slots
image-count bytes page i = ap (λ (b : List ℕ). two_at b 12) i.spelled ∙ told-count page i.fits

pub image-end : (bytes : List ℕ) (page : Page) → Images bytes page → two_at bytes 14 ≡ heap_end page.slots
image-end bytes page i = ap (λ (b : List ℕ). two_at b 14) i.spelled ∙ told-end page i.fits

-- a slot of the page, and what its entry says
pub record SlotAt (bytes : List ℕ) (page : Page) (k : ℕ) : Type 0 where
  pub front : List Slot
  pub slot : Slot
  pub back : List Slot
  pub has : Has page front slot back
  pub place : length front ≡ k
  pub got : slice_get page.slots k ≡ Some slot
  pub fits : SlotFits slot
  pub room : heap_end front + slot.0 ≤ 1024
  pub offset : two_at bytes (entry_place k) ≡ heap_end front
  pub capacity : two_at bytes (entry_place k + 2) ≡ slot.0
  pub word : two_at bytes (entry_place k + 4) ≡ length_word slot.1
  pub value : field bytes (heap_end front) (length (value_bytes slot.1)) ≡ value_bytes slot.1

pub slot_at : (bytes : List ℕ) (page : Page) (k : ℕ) → Images bytes page → k < length page.slots → SlotAt bytes page k
slot_at bytes page k i lt =
    let none : Slot = (0, None) in
    let xs = take k page.slots in
    let s = get_or page.slots k none in
    let ys = drop (k + 1) page.slots in
    let has : Has page xs s ys = Has-at page i.fits k none lt in
    let place : length xs ≡ k = length-take-le k page.slots (omega (arith, lt)) in
    record {
      front = xs;
      slot = s;
      back = ys;
      has = has;
      place = place;
      got = slice_get-get_or page.slots k none lt;
      fits = (Has-fits page xs s ys has).1;
      room = omega (arith, i.fits.room, Has-end page xs s ys has);
      offset = ap (λ (b : List ℕ). two_at b (entry_place k)) i.spelled ∙ ap (λ n. two_at (page_spelling page) (entry_place n)) (sym place) ∙ told-offset page xs s ys has;
      capacity = ap (λ (b : List ℕ). two_at b (entry_place k + 2)) i.spelled ∙ ap (λ n. two_at (page_spelling page) (entry_place n + 2)) (sym place) ∙ told-capacity page xs s ys has;
      word = ap (λ (b : List ℕ). two_at b (entry_place k + 4)) i.spelled ∙ ap (λ n. two_at (page_spelling page) (entry_place n + 4)) (sym place) ∙ told-length page xs s ys has;
      value = ap (λ (b : List ℕ). field b (heap_end xs) (length (value_bytes s.1))) i.spelled ∙ told-value page xs s ys has;
    }

-- what an entry says of a value that is 256 bytes long at most
word-none : (o : Option (List ℕ)) (n : ℕ) → size o ≤ n → n ≤ 256 → length_word o ≡ 65535 → o ≡ None
word-none None n le small is = refl
word-none (Some v) n le small is = absurd (omega (arith, le, small, is))

-- an entry says of its slot whether it is dead
pub dead-word : (bytes : List ℕ) (page : Page) (s : ℕ) → Images bytes page → s < length page.slots
    → (two_at bytes (entry_place s + 4) ≡ 65535 → value_at page.slots s ≡ None)
    × (value_at page.slots s ≡ None → two_at bytes (entry_place s + 4) ≡ 65535)
dead-word bytes page s images lt =
    let at = slot_at bytes page s images lt in
    let has : value_at page.slots s ≡ at.slot.1 = ap (λ (o : Option Slot). option_and_then (λ (x : Slot). x.1) o) at.got in (
      λ is. has ∙ word-none at.slot.1 at.slot.0 at.fits.value at.fits.capacity (sym at.word ∙ is),
      λ none. at.word ∙ ap length_word (sym has ∙ none),
    )

-- ---- what the calls that read a slot answer

pub capacity-found : (bytes : List ℕ) (page : Page) (k : ℕ) → Images bytes page → k < length page.slots → Some (two_at bytes (entry_place k + 2)) ≡ capacity_at page.slots k
capacity-found bytes page k i lt = let at = slot_at bytes page k i lt in ap Some at.capacity ∙ sym (ap (option_map (λ (s : Slot). s.0)) at.got)

pub capacity-small : (bytes : List ℕ) (page : Page) (k : ℕ) → Images bytes page → k < length page.slots → two_at bytes (entry_place k + 2) ≤ 256
capacity-small bytes page k i lt = let at = slot_at bytes page k i lt in omega (arith, at.capacity, at.fits.capacity)

pub capacity-past : (page : Page) (k : ℕ) → length page.slots ≤ k → capacity_at page.slots k ≡ None
capacity-past page k le = ap (option_map (λ (s : Slot). s.0)) (slice_get_past page.slots k le)

within : (value : Option (List ℕ)) (word n : ℕ) → IsWithin value n → word ≡ length_word value → (word ≡ 65535 → ⊥) → word ≤ n
within None word n h e d = absurd (d e)
within (Some v) word n h e d = omega (arith, h, e)

pub value-bound : (bytes : List ℕ) (page : Page) (k : ℕ) → Images bytes page → k < length page.slots → (two_at bytes (entry_place k + 4) ≡ 65535 → ⊥) → two_at bytes (entry_place k) + two_at bytes (entry_place k + 4) ≤ 1024
value-bound bytes page k i lt d =
    let at = slot_at bytes page k i lt in
    omega (arith, at.offset, at.room, within at.slot.1 (two_at bytes (entry_place k + 4)) at.slot.0 at.fits.value at.word d)

-- no slot, where a slot is asked for past the end
abbrev pub no_slot : Slot
no_slot = (0, None)

pub few_slots : (page : Page) (k : ℕ) → PageFits page → k < length page.slots → k < 168
few_slots page k fits lt = omega (arith, fits.room)

pub lies_inside : (bytes : List ℕ) (page : Page) (k : ℕ) → Images bytes page → k < length page.slots → LiesInside bytes k
lies_inside bytes page k i lt = ⊎_elim (λ e. inl e) (λ d. inr (value-bound bytes page k i lt d)) (cases_eq (two_at bytes (entry_place k + 4)) 65535)

pub slot_in-image : (bytes : List ℕ) (page : Page) (k : ℕ) → Images bytes page → k < length page.slots → slot_in bytes k ≡ get_or page.slots k no_slot
slot_in-image bytes page k i lt =
    let front : length (take k page.slots) ≡ k = length-take-le k page.slots (omega arith) in
    ap (λ (b : List ℕ). slot_in b k) i.spelled
    ∙ ap (slot_in (page_spelling page)) (sym front)
    ∙ told-slot page (take k page.slots) (get_or page.slots k no_slot) (drop (k + 1) page.slots) (Has-at page i.fits k no_slot lt)

pub value_of-slot : (page : Page) (k : ℕ) → k < length page.slots → value_at page.slots k ≡ (get_or page.slots k no_slot).1
value_of-slot page k lt = ap (option_and_then (λ (s : Slot). s.1)) (slice_get-get_or page.slots k no_slot lt)
