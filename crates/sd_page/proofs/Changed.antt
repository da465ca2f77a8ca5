-- The image after the writes of one call, from the bytes that each write leaves. It serves the goals of image.rt that write.
use Rattle.std.proofs.Common.{◌≡◌, ℕ, zero, suc, ◌+◌, ◌-◌, ◌^◌, ◌<◌, ◌≤◌, List, [], ◌∷◌, ◌++◌, length, Option, Some, None, refl, sym, ap, subst, ⊎_elim, ◌∙◌, arith}
use Rattle.std.specs.Prelude.{All, IfSome, option_map, unwrap_or}
use Rattle.std.specs.List.{flat_map}
use Rattle.std.specs.Int.{w32, w64, to_be_bytes}
use Rattle.std.proofs.lemmas.List.{append-nil, length-append}
use Rattle.std.proofs.lemmas.Option.{slice_get_past}
use Rattle.std.proofs.lemmas.Bool.{cases_lt}
use Rattle.sd_page.specs.declared.op.Op.{Op}
use Rattle.sd_base.specs.Values.{size}
use Rattle.sd_page.specs.Page.{Slot, Page, after_of, applied, CanTake, empty_page, heap_end, capacity_for, HasRoom, SlotFits, PageFits, written}
use Rattle.sd_page.specs.Spelling.{two, four, eight, zeros, value_bytes, length_word, cell, entry, entries, page_spelling}
use Rattle.sd_page.specs.Reading.{entry_place, two_at}
use Rattle.sd_page.specs.Writing.{pasted}
use Rattle.sd_page.proofs.Pieces.{pasted_at, pasted_skip, length-pasted, length-two, length-four, pasted-pasted}
use Rattle.sd_page.proofs.Parts.{IsWithin, gap, length-spelling, length-value_bytes}
use Rattle.sd_page.proofs.Told.{IsWithin-more, body, spelling-header}
use Rattle.sd_page.proofs.Opened.{Images, SlotAt, slot_at}
use Rattle.sd_page.proofs.Written.{zeros-append, with_lsn, with_slots, stamped, fits-rewritten, rewritten, fits-pushed, pushed, pasted-entry, pasted-counts}

pub length-image : (bytes : List ℕ) (page : Page) → Images bytes page → length bytes ≡ 1024
length-image bytes page i = ap length i.spelled ∙ length-spelling page i.fits

pub stamp_images : (bytes piece new : List ℕ) (page : Page) (lsn : ℕ) → Images bytes page → lsn < 2 ^ 64 → piece ≡ to_be_bytes w64 lsn → new ≡ pasted bytes 0 piece → Images new (with_lsn page lsn)
unfolding eight
stamp_images bytes piece new page lsn i lt e w = record {
  fits = record { lsn = lt; number = i.fits.number; slots = i.fits.slots; room = i.fits.room };
  spelled = w ∙ ap (λ (b : List ℕ). pasted b 0 piece) i.spelled ∙ ap (pasted (page_spelling page) 0) e ∙ stamped page lsn;
}

-- the six writes of a push
pub record Pushes (bytes a b c d e new : List ℕ) (page : Page) (t : Slot) (n h place end word : ℕ) (value : List ℕ) : Type 0 where
  pub count : n ≡ length page.slots
  pub offset : h ≡ heap_end page.slots
  pub at : place ≡ entry_place n
  pub ends : end ≡ h + t.0
  pub says : word ≡ length_word t.1
  pub holds : value ≡ value_bytes t.1
  pub first : a ≡ pasted bytes 12 (two (n + 1))
  pub second : b ≡ pasted a 14 (two end)
  pub third : c ≡ pasted b h value
  pub fourth : d ≡ pasted c place (two h)
  pub fifth : e ≡ pasted d (place + 2) (two t.0)
  pub last : new ≡ pasted e (place + 4) (two word)

pub push_images : (bytes a b c d e new : List ℕ) (page : Page) (t : Slot) (n h place end word : ℕ) (value : List ℕ) → Images bytes page → SlotFits t → HasRoom page.slots t.0
    → Pushes bytes a b c d e new page t n h place end word value → Images new (with_slots page (page.slots ++ (t ∷ [])))
push_images bytes a b c d e new page t n h place end word value i slot room p =
    let v = value_bytes t.1 in
    let counts = two (length page.slots + 1) ++ two (heap_end page.slots + t.0) in
    let size = length-image bytes page i in
    let len : length v ≤ t.0 = length-value_bytes t.1 t.0 slot.value in
    let b-is : b ≡ pasted (page_spelling page) 12 counts =
    p.second ∙ ap (λ (x : List ℕ). pasted x 14 (two end)) p.first
    ∙ pasted-counts bytes (n + 1) end size
    ∙ ap (λ k. pasted bytes 12 (two (k + 1) ++ two end)) p.count
    ∙ ap (λ k. pasted bytes 12 (two (length page.slots + 1) ++ two k)) (p.ends ∙ ap (λ k. k + t.0) p.offset)
    ∙ ap (λ (x : List ℕ). pasted x 12 counts) i.spelled in
    let b-long : length b ≡ 1024 =
    ap length b-is ∙ length-pasted (page_spelling page) counts 12 (omega (arith, length-spelling page i.fits, length-append (two (length page.slots + 1)) (two (heap_end page.slots + t.0)), length-two (length page.slots + 1), length-two (heap_end page.slots + t.0))) ∙ length-spelling page i.fits in
    let c-is : c ≡ pasted (pasted (page_spelling page) 12 counts) (heap_end page.slots) v =
    p.third ∙ ap (λ (x : List ℕ). pasted x h value) b-is ∙ ap (λ k. pasted (pasted (page_spelling page) 12 counts) k value) p.offset ∙ ap (pasted (pasted (page_spelling page) 12 counts) (heap_end page.slots)) p.holds in
    let c-long : length c ≡ 1024 = ap length p.third ∙ length-pasted b value h (omega (arith, b-long, p.offset, ap length p.holds, len, room)) ∙ b-long in
    let new-is : new ≡ pasted c place (entry h t) =
    p.last ∙ ap (λ (x : List ℕ). pasted x (place + 4) (two word)) (p.fifth ∙ ap (λ (x : List ℕ). pasted x (place + 2) (two t.0)) p.fourth)
    ∙ ap (λ k. pasted (pasted (pasted c place (two h)) (place + 2) (two t.0)) (place + 4) (two k)) p.says
    ∙ pasted-entry c place h t (omega (arith, c-long, p.at)) in
    record {
      fits = (fits-pushed page t i.fits slot room).fits;
      spelled =
          new-is ∙ ap (λ (x : List ℕ). pasted x place (entry h t)) c-is
          ∙ ap (λ k. pasted (pasted (pasted (page_spelling page) 12 counts) (heap_end page.slots) v) k (entry h t)) (p.at ∙ ap entry_place p.count)
          ∙ ap (λ k. pasted (pasted (pasted (page_spelling page) 12 counts) (heap_end page.slots) v) (entry_place (length page.slots)) (entry k t)) p.offset
          ∙ pushed page t i.fits slot room;
    }

-- the values that are written are bytes
pub value_is_bytes : (value : Option (List ℕ)) → All (λ b. b < 256) (value_bytes value) → IfSome value (All (λ b. b < 256))
value_is_bytes None h = tt
value_is_bytes (Some bytes) h = h

-- ---- a slot in its place

written-place : (xs : List Slot) (s : Slot) (ys : List Slot) (capacity : ℕ) (value : Option (List ℕ)) → written (xs ++ (s ∷ ys)) (length xs) capacity value ≡ xs ++ ((s.0, value) ∷ ys)
written-place [] s ys capacity value = refl
written-place (x ∷ xs) s ys capacity value = ap (λ (l : List Slot). x ∷ l) (written-place xs s ys capacity value)

pub written-at : (bytes : List ℕ) (page : Page) (k : ℕ) (capacity : ℕ) (value : Option (List ℕ)) (at : SlotAt bytes page k) → written page.slots k capacity value ≡ at.front ++ ((at.slot.0, value) ∷ at.back)
written-at bytes page k capacity value at =
    ap (λ (l : List Slot). written l k capacity value) at.has.parts
    ∙ ap (λ n. written (at.front ++ (at.slot ∷ at.back)) n capacity value) (sym at.place)
    ∙ written-place at.front at.slot at.back capacity value

pub written-end : (slots : List Slot) (capacity : ℕ) (value : Option (List ℕ)) → written slots (length slots) capacity value ≡ slots ++ ((capacity, value) ∷ [])
written-end [] capacity value = refl
written-end (s ∷ slots) capacity value = ap (λ (l : List Slot). s ∷ l) (written-end slots capacity value)

pub capacity_for-at : (bytes : List ℕ) (page : Page) (k : ℕ) (capacity : ℕ) (at : SlotAt bytes page k) → capacity_for page.slots k capacity ≡ at.slot.0
capacity_for-at bytes page k capacity at = ap (λ (o : Option Slot). unwrap_or (option_map (λ (s : Slot). s.0) o) capacity) at.got

pub capacity_for-past : (slots : List Slot) (k capacity : ℕ) → length slots ≤ k → capacity_for slots k capacity ≡ capacity
capacity_for-past slots k capacity le = ap (λ (o : Option Slot). unwrap_or (option_map (λ (s : Slot). s.0) o) capacity) (slice_get_past slots k le)

-- the three writes of a rewrite
pub record Rewrites (bytes a b new : List ℕ) (front : List Slot) (t : Slot) (place offset capacity word : ℕ) (value : List ℕ) : Type 0 where
  pub at : place ≡ entry_place (length front)
  pub starts : offset ≡ heap_end front
  pub takes : capacity ≡ t.0
  pub says : word ≡ length_word t.1
  pub holds : value ≡ value_bytes t.1
  pub first : a ≡ pasted bytes offset value
  pub second : b ≡ pasted a (offset + length value) (zeros (capacity - length value))
  pub last : new ≡ pasted b (place + 4) (two word)

pub rewrite_images : (bytes a b new : List ℕ) (page : Page) (k : ℕ) (value : Option (List ℕ)) (place offset capacity word : ℕ) (piece : List ℕ) → Images bytes page → (at : SlotAt bytes page k) → SlotFits (at.slot.0, value)
    → Rewrites bytes a b new at.front (at.slot.0, value) place offset capacity word piece → Images new (with_slots page (written page.slots k 0 value))
rewrite_images bytes a b new page k value place offset capacity word piece i at fits w =
    let xs = at.front in
    let t : Slot = (at.slot.0, value) in
    let v = value_bytes value in
    let spare = zeros (at.slot.0 - length v) in
    let len : length v ≤ at.slot.0 = length-value_bytes value at.slot.0 fits.value in
    let long = length-image bytes page i in
    let room = at.room in
    let b-is : b ≡ pasted (page_spelling page) (heap_end xs) (cell t) =
    w.second
    ∙ ap (λ (x : List ℕ). pasted x (offset + length piece) (zeros (capacity - length piece))) w.first
    ∙ ap (λ k. pasted (pasted bytes k piece) (k + length piece) (zeros (capacity - length piece))) w.starts
    ∙ ap (λ k. pasted (pasted bytes (heap_end xs) piece) (heap_end xs + length piece) (zeros (k - length piece))) w.takes
    ∙ ap (λ (x : List ℕ). pasted (pasted bytes (heap_end xs) x) (heap_end xs + length x) (zeros (at.slot.0 - length x))) w.holds
    ∙ pasted-pasted bytes v spare (heap_end xs) (heap_end xs + length v) refl (omega (arith, long, room, len))
    ∙ ap (λ (x : List ℕ). pasted x (heap_end xs) (cell t)) i.spelled in
    subst (λ (l : List Slot). Images new (with_slots page l)) (sym (written-at bytes page k 0 value at))
    (record {
      fits = (fits-rewritten page xs at.slot t at.back at.has refl fits).fits;
      spelled =
          w.last ∙ ap (λ (x : List ℕ). pasted x (place + 4) (two word)) b-is
          ∙ ap (λ k. pasted (pasted (page_spelling page) (heap_end xs) (cell t)) (k + 4) (two word)) w.at
          ∙ ap (λ k. pasted (pasted (page_spelling page) (heap_end xs) (cell t)) (entry_place (length xs) + 4) (two k)) w.says
          ∙ rewritten page xs at.slot t at.back at.has refl fits;
    })

-- what a rewrite needs to know before it writes
pub record Fitting (bytes piece : List ℕ) (offset capacity : ℕ) (value : Option (List ℕ)) : Type 0 where
  pub len : length piece ≤ capacity
  pub room : offset + capacity ≤ 1024
  pub long : length bytes ≡ 1024
  pub short : IsWithin value 256

pub fitting : (bytes : List ℕ) (page : Page) (k : ℕ) (value : Option (List ℕ)) (place offset capacity : ℕ) (piece : List ℕ) → Images bytes page → k < length page.slots → IsWithin value (capacity_for page.slots k 0)
    → place ≡ entry_place k → offset ≡ two_at bytes place → capacity ≡ two_at bytes (place + 2) → piece ≡ value_bytes value → Fitting bytes piece offset capacity value
fitting bytes page k value place offset capacity piece i lt within p o c v =
    let at = slot_at bytes page k i lt in
    let own : IsWithin value at.slot.0 = subst (IsWithin value) (capacity_for-at bytes page k 0 at) within in
    let starts : offset ≡ heap_end at.front = o ∙ ap (two_at bytes) p ∙ at.offset in
    let takes : capacity ≡ at.slot.0 = c ∙ ap (λ n. two_at bytes (n + 2)) p ∙ at.capacity in
    let small : at.slot.0 ≤ 256 = at.fits.capacity in
    record {
      len = omega (arith, takes, ap length v, length-value_bytes value at.slot.0 own);
      room = omega (arith, starts, takes, at.room);
      long = length-image bytes page i;
      short = IsWithin-more value at.slot.0 256 own small;
    }

pub rewrite_steps : (bytes a b new : List ℕ) (page : Page) (k : ℕ) (value : Option (List ℕ)) (place offset capacity word : ℕ) (piece : List ℕ) → Images bytes page → k < length page.slots → IsWithin value (capacity_for page.slots k 0)
    → place ≡ entry_place k → offset ≡ two_at bytes place → capacity ≡ two_at bytes (place + 2) → piece ≡ value_bytes value → All (λ b. b < 256) piece → word ≡ length_word value
    → a ≡ pasted bytes offset piece → b ≡ pasted a (offset + length piece) (zeros (capacity - length piece)) → new ≡ pasted b (place + 4) (two word) → Images new (with_slots page (written page.slots k 0 value))
rewrite_steps bytes a b new page k value place offset capacity word piece i lt within p o c v are_bytes says first second last =
    let at = slot_at bytes page k i lt in
    rewrite_images bytes a b new page k value place offset capacity word piece i at
    (record {
      capacity = at.fits.capacity;
      value = subst (IsWithin value) (capacity_for-at bytes page k 0 at) within;
      bytes = value_is_bytes value (subst (All (λ b. b < 256)) v are_bytes);
    })
    (record {
      at = p ∙ ap entry_place (sym at.place);
      starts = o ∙ ap (two_at bytes) p ∙ at.offset;
      takes = c ∙ ap (λ n. two_at bytes (n + 2)) p ∙ at.capacity;
      says = says;
      holds = v;
      first = first;
      second = second;
      last = last;
    })

-- ---- the empty page

eight-zero : eight 0 ≡ zeros 8
unfolding eight
eight-zero = refl

two-zero : two 0 ≡ zeros 2
unfolding two
two-zero = refl

body-none : (page : Page) (free : ℕ) → page.slots ≡ [] → free ≡ 1008 → body page ≡ zeros free
unfolding body
body-none page free e n =
    let end : heap_end page.slots ≡ 16 = ap heap_end e in
    let none : length page.slots ≡ 0 = ap length e in
    ap (λ (slots : List Slot). flat_map cell slots ++ (gap page.slots ++ entries 16 slots)) e
    ∙ append-nil (gap page.slots)
    ∙ ap zeros (omega (arith, end, none, n))

cleared : (total : ℕ) → total ≡ 1024 → zeros total ≡ zeros 8 ++ (zeros 4 ++ (zeros 2 ++ (zeros 2 ++ zeros (total - 16))))
cleared total e =
    zeros-append 8 (total - 8) total (omega arith)
    ∙ ap (λ (l : List ℕ). zeros 8 ++ l) (zeros-append 4 (total - 12) (total - 8) (omega arith))
    ∙ ap (λ (l : List ℕ). zeros 8 ++ (zeros 4 ++ l)) (zeros-append 2 (total - 14) (total - 12) (omega arith))
    ∙ ap (λ (l : List ℕ). zeros 8 ++ (zeros 4 ++ (zeros 2 ++ l))) (zeros-append 2 (total - 16) (total - 14) (omega arith))

spelling-empty : (page : Page) (total : ℕ) → page.lsn ≡ 0 → page.slots ≡ [] → total ≡ 1024 → page_spelling page ≡ zeros 8 ++ (four page.number ++ (zeros 2 ++ (two 16 ++ zeros (total - 16))))
spelling-empty page total l e t =
    spelling-header page
    ∙ ap (λ k. eight k ++ (four page.number ++ (two (length page.slots) ++ (two (heap_end page.slots) ++ body page)))) l
    ∙ ap (λ (slots : List Slot). eight 0 ++ (four page.number ++ (two (length slots) ++ (two (heap_end slots) ++ body page)))) e
    ∙ ap (λ (b : List ℕ). b ++ (four page.number ++ (two 0 ++ (two 16 ++ body page)))) eight-zero
    ∙ ap (λ (b : List ℕ). zeros 8 ++ (four page.number ++ (b ++ (two 16 ++ body page)))) two-zero
    ∙ ap (λ (b : List ℕ). zeros 8 ++ (four page.number ++ (zeros 2 ++ (two 16 ++ b)))) (body-none page (total - 16) e (omega arith))

emptied : (p total : ℕ) → total ≡ 1024 → pasted (pasted (zeros total) 8 (four p)) 14 (two 16) ≡ zeros 8 ++ (four p ++ (zeros 2 ++ (two 16 ++ zeros (total - 16))))
emptied p total e =
    let tail = zeros 2 ++ zeros (total - 16) in
    ap (λ (b : List ℕ). pasted (pasted b 8 (four p)) 14 (two 16)) (cleared total e)
    ∙ ap (λ (b : List ℕ). pasted b 14 (two 16)) (pasted_at (zeros 8) (zeros 4) (zeros 2 ++ tail) (four p) 8 refl (sym (length-four p)))
    ∙ pasted_skip (zeros 8) (four p ++ (zeros 2 ++ tail)) (two 16) 6 14 refl
    ∙ ap (λ (b : List ℕ). zeros 8 ++ b) (pasted_skip (four p) (zeros 2 ++ tail) (two 16) 2 6 (omega (arith, length-four p)))
    ∙ ap (λ (b : List ℕ). zeros 8 ++ (four p ++ b)) (pasted_at (zeros 2) (zeros 2) (zeros (total - 16)) (two 16) 2 refl (sym (length-two 16)))

pub empty_images : (start piece a new : List ℕ) (total p : ℕ) → total ≡ 1024 → start ≡ zeros total → p < 1024 → piece ≡ to_be_bytes w32 p → a ≡ pasted start 8 piece → new ≡ pasted a 14 (two 16) → Images new (empty_page p)
unfolding four
empty_images start piece a new total p t s lt e first second = record {
  fits = record { lsn = omega arith; number = lt; slots = tt; room = omega arith };
  spelled =
      second ∙ ap (λ (b : List ℕ). pasted b 14 (two 16)) first
      ∙ ap (λ (b : List ℕ). pasted (pasted b 8 piece) 14 (two 16)) s
      ∙ ap (λ (b : List ℕ). pasted (pasted (zeros total) 8 b) 14 (two 16)) e
      ∙ emptied p total t
      ∙ sym (spelling-empty (empty_page p) total refl refl t);
}

-- a slot that the page has keeps its capacity
pub written-kept : (slots : List Slot) (k a b : ℕ) (value : Option (List ℕ)) → k < length slots → written slots k a value ≡ written slots k b value
written-kept [] k a b value lt = absurd (omega arith)
written-kept (s ∷ slots) zero a b value lt = refl
written-kept (s ∷ slots) (suc k) a b value lt = ap (λ (l : List Slot). s ∷ l) (written-kept slots k a b value (omega arith))

-- ---- a change that the page can take keeps it one that has an image

fits_with_lsn : (page : Page) (lsn : ℕ) → PageFits page → lsn < 2 ^ 64 → PageFits (with_lsn page lsn)
fits_with_lsn page lsn fits lt = record { lsn = lt; number = fits.number; slots = fits.slots; room = fits.room }

kept_place : (page : Page) (k capacity : ℕ) (value : Option (List ℕ)) → PageFits page → k < length page.slots → size value ≤ capacity_for page.slots k capacity → IfSome value (All (λ b. b < 256)) → PageFits (with_slots page (written page.slots k capacity value))
kept_place page k capacity value fits lt within are_bytes =
    let i : Images (page_spelling page) page = record { fits = fits; spelled = refl } in
    let at = slot_at (page_spelling page) page k i lt in
    let own : size value ≤ at.slot.0 = subst (IsWithin value) (capacity_for-at (page_spelling page) page k capacity at) within in
    subst (λ (l : List Slot). PageFits (with_slots page l)) (sym (written-at (page_spelling page) page k capacity value at))
    (fits-rewritten page at.front at.slot (at.slot.0, value) at.back at.has refl (record { capacity = at.fits.capacity; value = own; bytes = are_bytes })).fits

kept_end : (page : Page) (k capacity : ℕ) (value : Option (List ℕ)) → PageFits page → k ≡ length page.slots → CanTake page.slots k capacity (size value) → IfSome value (All (λ b. b < 256)) → PageFits (with_slots page (written page.slots k capacity value))
kept_end page k capacity value fits e can are_bytes =
    let own : size value ≤ capacity = omega (arith, can.within, capacity_for-past page.slots k capacity (omega (arith, e))) in
    subst (λ (l : List Slot). PageFits (with_slots page l)) (sym (ap (λ n. written page.slots n capacity value) e ∙ written-end page.slots capacity value))
    (fits-pushed page (capacity, value) fits (record { capacity = can.small e; value = own; bytes = are_bytes }) (can.room e)).fits

pub change_fits : (op : Op) (lsn : ℕ) (page : Page) → PageFits page → lsn < 2 ^ 64 → IfSome (after_of op) (All (λ b. b < 256)) → CanTake page.slots op.slot op.capacity (size (after_of op)) → PageFits (applied op lsn page)
change_fits op lsn page fits lt are_bytes can =
    ⊎_elim (λ below. fits_with_lsn _ lsn (kept_place page op.slot op.capacity (after_of op) fits below can.within are_bytes) lt)
    (λ le. fits_with_lsn _ lsn (kept_end page op.slot op.capacity (after_of op) fits (omega (arith, le, can.place)) can are_bytes) lt)
    (cases_lt op.slot (length page.slots))
