-- What the writes of image.rt leave is the image of the changed page.
use Rattle.std.proofs.Common.{◌≡◌, ℕ, ◌+◌, ◌-◌, ◌*◌, ◌≤◌, List, [], ◌∷◌, ◌++◌, length, refl, sym, ap, ◌∙◌, append_assoc, arith}
use Rattle.std.specs.List.{flat_map}
use Rattle.std.proofs.lemmas.List.{length-append, length-replicate, replicate-append-replicate}
use Rattle.std.proofs.lemmas.List.Sums.{sum_by-append, sum_by-cons}
use Rattle.sd_page.specs.Page.{Slot, Page, heap_end, HasRoom, SlotFits, PageFits}
use Rattle.sd_page.specs.Spelling.{two, four, eight, zeros, value_bytes, length_word, cell, entry, entries, header, page_spelling}
use Rattle.sd_page.specs.Reading.{entry_place}
use Rattle.sd_page.specs.Writing.{pasted}
use Rattle.sd_page.proofs.Pieces.{pasted_skip, pasted_here, pasted_at, pasted-pasted, length-two, length-four, length-eight}
use Rattle.sd_page.proofs.Parts.{capacities, AllByRecursion-append, length-value_bytes, length-cell, length-heap, length-entry, length-header, gap, spelling-split}
use Rattle.sd_page.proofs.Told.{body, spelling-header, Has, Has-fits, before, length-before, spelling-words}

-- the page with these slots
abbrev pub with_slots : Page → List Slot → Page
with_slots page slots = record { lsn = page.lsn; number = page.number; slots = slots }

-- the page with this LSN
abbrev pub with_lsn : Page → ℕ → Page
with_lsn page lsn = record { lsn = lsn; number = page.number; slots = page.slots }

-- ---- the LSN

pub stamped : (page : Page) (lsn : ℕ) → pasted (page_spelling page) 0 (eight lsn) ≡ page_spelling (with_lsn page lsn)
unfolding body
stamped page lsn =
    ap (λ (l : List ℕ). pasted l 0 (eight lsn)) (spelling-header page)
    ∙ pasted_here (eight page.lsn) _ (eight lsn) 0 refl (length-eight page.lsn ∙ sym (length-eight lsn))
    ∙ sym (spelling-header (with_lsn page lsn))

-- ---- a slot in its place

length-same : (xs : List Slot) (s t : Slot) (ys : List Slot) → length (xs ++ (s ∷ ys)) ≡ length (xs ++ (t ∷ ys))
length-same xs s t ys = omega (arith, length-append xs (s ∷ ys), length-append xs (t ∷ ys))

heap_end-same : (xs : List Slot) (s t : Slot) (ys : List Slot) → s.0 ≡ t.0 → heap_end (xs ++ (s ∷ ys)) ≡ heap_end (xs ++ (t ∷ ys))
heap_end-same xs s t ys e =
    let f : Slot → ℕ = λ z. z.0 in
    omega (arith, e, sum_by-append f xs (s ∷ ys), sum_by-append f xs (t ∷ ys), sum_by-cons f s ys, sum_by-cons f t ys)

-- Fits without the room, which stays
pub fits-rewritten : (page : Page) (xs : List Slot) (s t : Slot) (ys : List Slot) → Has page xs s ys → t.0 ≡ s.0 → SlotFits t → Has (with_slots page (xs ++ (t ∷ ys))) xs t ys
fits-rewritten page xs s t ys has e fits =
    let parts = Has-fits page xs s ys has in
    record {
      fits = record {
        lsn = has.fits.lsn;
        number = has.fits.number;
        slots = AllByRecursion-append SlotFits xs (t ∷ ys) parts.0 (fits, parts.2);
        room = omega (arith, has.fits.room, ap heap_end has.parts, ap length has.parts, heap_end-same xs t s ys e, length-same xs t s ys);
      };
      parts = refl;
    }

-- the same counts give the same header and gap
header-same : (page : Page) (slots : List Slot) → length page.slots ≡ length slots → heap_end page.slots ≡ heap_end slots → header page ≡ header (with_slots page slots)
header-same page slots n h =
    ap (λ k. eight page.lsn ++ (four page.number ++ (two k ++ two (heap_end page.slots)))) n
    ∙ ap (λ k. eight page.lsn ++ (four page.number ++ (two (length slots) ++ two k))) h

gap-same : (xs ys : List Slot) → length xs ≡ length ys → heap_end xs ≡ heap_end ys → gap xs ≡ gap ys
gap-same xs ys n h = ap (λ k. zeros (1024 - heap_end xs - 6 * k)) n ∙ ap (λ k. zeros (1024 - k - 6 * length ys)) h

before-same : (page : Page) (xs : List Slot) (s t : Slot) (ys : List Slot) → Has page xs s ys → t.0 ≡ s.0
    → header page ++ (flat_map cell xs ++ (cell t ++ (flat_map cell ys ++ (gap page.slots ++ entries (heap_end xs + s.0) ys)))) ≡ before (with_slots page (xs ++ (t ∷ ys))) xs t ys
unfolding before
before-same page xs s t ys has e =
    let slots = xs ++ (t ∷ ys) in
    let n : length page.slots ≡ length slots = ap length has.parts ∙ length-same xs s t ys in
    let h : heap_end page.slots ≡ heap_end slots = ap heap_end has.parts ∙ heap_end-same xs s t ys (sym e) in
    ap (λ (l : List ℕ). l ++ (flat_map cell xs ++ (cell t ++ (flat_map cell ys ++ (gap page.slots ++ entries (heap_end xs + s.0) ys))))) (header-same page slots n h)
    ∙ ap (λ (l : List ℕ). header (with_slots page slots) ++ (flat_map cell xs ++ (cell t ++ (flat_map cell ys ++ (l ++ entries (heap_end xs + s.0) ys))))) (gap-same page.slots slots n h)
    ∙ ap (λ k. header (with_slots page slots) ++ (flat_map cell xs ++ (cell t ++ (flat_map cell ys ++ (gap slots ++ entries (heap_end xs + k) ys))))) (sym e)

regroup_words : (a x c y g e o k l q : List ℕ) → a ++ (x ++ (c ++ (y ++ (g ++ (e ++ ((o ++ (k ++ l)) ++ q)))))) ≡ (a ++ (x ++ (c ++ (y ++ (g ++ e))))) ++ (o ++ (k ++ (l ++ q)))
regroup_words a x c y g e o k l q = simp append_assoc

-- the cell of one slot, and then the length in its entry
pub rewritten : (page : Page) (xs : List Slot) (s t : Slot) (ys : List Slot) → Has page xs s ys → t.0 ≡ s.0 → SlotFits t
    → pasted (pasted (page_spelling page) (heap_end xs) (cell t)) (entry_place (length xs) + 4) (two (length_word t.1)) ≡ page_spelling (with_slots page (xs ++ (t ∷ ys)))
rewritten page xs s t ys has e fits =
    let heap = flat_map cell xs in
    let o = two (heap_end xs) in
    let k = two s.0 in
    let l = two (length_word s.1) in
    let new = two (length_word t.1) in
    let q = entries 16 xs in
    let g = gap page.slots in
    let rest = entries (heap_end xs + s.0) ys in
    let other = flat_map cell ys in
    let front = header page ++ (heap ++ (cell t ++ (other ++ (g ++ rest)))) in
    let parts = Has-fits page xs s ys has in
    let has_new = fits-rewritten page xs s t ys has e fits in
    let same : front ≡ before (with_slots page (xs ++ (t ∷ ys))) xs t ys = before-same page xs s t ys has e in
    let place : length front ≡ entry_place (length xs) = ap length same ∙ length-before _ xs t ys has_new in
    let first : pasted (page_spelling page) (heap_end xs) (cell t) ≡ front ++ (o ++ (k ++ (l ++ q))) =
    ap (λ (b : List ℕ). pasted b (heap_end xs) (cell t)) (spelling-split page xs s ys has.parts)
    ∙ pasted_skip (header page) _ (cell t) (capacities xs) (heap_end xs) (omega (arith, length-header page))
    ∙ ap (λ (b : List ℕ). header page ++ b) (pasted_at heap (cell s) _ (cell t) (capacities xs) (length-heap xs parts.0) (length-cell s parts.1 ∙ sym e ∙ sym (length-cell t fits)))
    ∙ regroup_words (header page) heap (cell t) other g rest o k l q in
    let second : pasted (front ++ (o ++ (k ++ (l ++ q)))) (entry_place (length xs) + 4) new ≡ front ++ (o ++ (k ++ (new ++ q))) =
    pasted_skip front (o ++ (k ++ (l ++ q))) new 4 (entry_place (length xs) + 4) (omega (arith, place))
    ∙ ap (λ (b : List ℕ). front ++ b) (pasted_skip o (k ++ (l ++ q)) new 2 4 (omega (arith, length-two (heap_end xs))))
    ∙ ap (λ (b : List ℕ). front ++ (o ++ b)) (pasted_skip k (l ++ q) new 0 2 (omega (arith, length-two s.0)))
    ∙ ap (λ (b : List ℕ). front ++ (o ++ (k ++ b))) (pasted_here l q new 0 refl (length-two (length_word s.1) ∙ sym (length-two (length_word t.1)))) in
    ap (λ (b : List ℕ). pasted b (entry_place (length xs) + 4) new) first
    ∙ second
    ∙ ap (λ (b : List ℕ). b ++ (o ++ (k ++ (new ++ q)))) same
    ∙ ap (λ n. before (with_slots page (xs ++ (t ∷ ys))) xs t ys ++ (o ++ (two n ++ (new ++ q)))) (sym e)
    ∙ sym (spelling-words (with_slots page (xs ++ (t ∷ ys))) xs t ys has_new)

-- ---- a slot at the end

pub fits-pushed : (page : Page) (t : Slot) → PageFits page → SlotFits t → HasRoom page.slots t.0 → Has (with_slots page (page.slots ++ (t ∷ []))) page.slots t []
fits-pushed page t fits slot room =
    record {
      fits = record {
        lsn = fits.lsn;
        number = fits.number;
        slots = AllByRecursion-append SlotFits page.slots (t ∷ []) fits.slots (slot, tt);
        room = omega (arith, room, sum_by-append (λ (z : Slot). z.0) page.slots (t ∷ []), length-append page.slots (t ∷ []));
      };
      parts = refl;
    }

-- the header's last two numbers
pub counted : (page : Page) (n h : ℕ) → pasted (page_spelling page) 12 (two n ++ two h) ≡ (eight page.lsn ++ (four page.number ++ (two n ++ two h))) ++ body page
counted page n h =
    let new = two n ++ two h in
    let old = two (length page.slots) ++ two (heap_end page.slots) in
    ap (λ (b : List ℕ). pasted b 12 new) (spelling-header page)
    ∙ pasted_skip (eight page.lsn) _ new 4 12 (omega (arith, length-eight page.lsn))
    ∙ ap (λ (b : List ℕ). eight page.lsn ++ b) (pasted_skip (four page.number) _ new 0 4 (omega (arith, length-four page.number)))
    ∙ ap (λ (b : List ℕ). eight page.lsn ++ (four page.number ++ pasted b 0 new)) (sym (append_assoc (two (length page.slots)) (two (heap_end page.slots)) (body page)))
    ∙ ap (λ (b : List ℕ). eight page.lsn ++ (four page.number ++ b))
    (pasted_here old (body page) new 0 refl (omega (arith, length-append (two (length page.slots)) (two (heap_end page.slots)), length-append (two n) (two h), length-two (length page.slots), length-two (heap_end page.slots), length-two n, length-two h)))
    ∙ ap (λ (b : List ℕ). eight page.lsn ++ b) (sym (append_assoc (four page.number) new (body page)))
    ∙ sym (append_assoc (eight page.lsn) (four page.number ++ new) (body page))

pub zeros-append : (n m k : ℕ) → k ≡ n + m → zeros k ≡ zeros n ++ zeros m
zeros-append n m k e = ap zeros e ∙ sym (replicate-append-replicate n m 0)

-- a gap in which a new slot takes its capacity and its entry
gap-split : (free len spare rest : ℕ) → free ≡ len + (spare + (rest + 6)) → zeros free ≡ zeros len ++ (zeros spare ++ (zeros rest ++ zeros 6))
gap-split free len spare rest e =
    zeros-append len (spare + (rest + 6)) free e
    ∙ ap (λ (l : List ℕ). zeros len ++ l) (zeros-append spare (rest + 6) (spare + (rest + 6)) refl)
    ∙ ap (λ (l : List ℕ). zeros len ++ (zeros spare ++ l)) (zeros-append rest 6 (rest + 6) refl)

regroup_gap : (m c g z e : List ℕ) → (m ++ (c ++ (g ++ z))) ++ e ≡ m ++ (c ++ (g ++ (z ++ e)))
regroup_gap m c g z e = simp append_assoc

regroup_new : (a h v c g e : List ℕ) → a ++ (h ++ (v ++ (c ++ (g ++ e)))) ≡ (a ++ (h ++ (v ++ (c ++ g)))) ++ e
regroup_new a h v c g e = sym (simp append_assoc)

regroup_cell : (a h v c g e : List ℕ) → (a ++ (h ++ (v ++ (c ++ g)))) ++ e ≡ a ++ (h ++ ((v ++ c) ++ (g ++ e)))
regroup_cell a h v c g e = simp append_assoc

length-front : (a h v c g : List ℕ) → length (a ++ (h ++ (v ++ (c ++ g)))) ≡ length a + (length h + (length v + (length c + length g)))
length-front a h v c g = omega (arith, length-append a (h ++ (v ++ (c ++ g))), length-append h (v ++ (c ++ g)), length-append v (c ++ g), length-append c g)

-- what pushed needs to know of the sizes: of the value, of its capacity, of the gap
record Sizes (page : Page) (t : Slot) : Type 0 where
  len : length (value_bytes t.1) ≤ t.0
  room : heap_end page.slots + t.0 + 6 * (length page.slots + 1) ≤ 1024

sizes : (page : Page) (t : Slot) → SlotFits t → HasRoom page.slots t.0 → Sizes page t
sizes page t slot room = record { len = length-value_bytes t.1 t.0 slot.value; room = room }

-- the value in the gap
filled : (page : Page) (head : List ℕ) (t : Slot) → PageFits page → length head ≡ 16 → Sizes page t
    → pasted (head ++ body page) (heap_end page.slots) (value_bytes t.1)
    ≡ head ++ (flat_map cell page.slots ++ (value_bytes t.1 ++ (zeros (t.0 - length (value_bytes t.1)) ++ (zeros (1024 - (heap_end page.slots + t.0) - 6 * (length page.slots + 1)) ++ (zeros 6 ++ entries 16 page.slots)))))
unfolding body
filled page head t fits sixteen size =
    let value = value_bytes t.1 in
    let len = length value in
    let spare = t.0 - len in
    let rest = 1024 - (heap_end page.slots + t.0) - 6 * (length page.slots + 1) in
    let heap = flat_map cell page.slots in
    let tail = entries 16 page.slots in
    let split : gap page.slots ≡ zeros len ++ (zeros spare ++ (zeros rest ++ zeros 6)) = gap-split (1024 - heap_end page.slots - 6 * length page.slots) len spare rest (omega (arith, size.len, size.room)) in
    pasted_skip head _ value (capacities page.slots) (heap_end page.slots) (omega (arith, sixteen))
    ∙ ap (λ (b : List ℕ). head ++ b) (pasted_skip heap _ value 0 (capacities page.slots) (omega (arith, length-heap page.slots fits.slots)))
    ∙ ap (λ (b : List ℕ). head ++ (heap ++ pasted (b ++ tail) 0 value)) split
    ∙ ap (λ (b : List ℕ). head ++ (heap ++ pasted b 0 value)) (regroup_gap (zeros len) (zeros spare) (zeros rest) (zeros 6) tail)
    ∙ ap (λ (b : List ℕ). head ++ (heap ++ b)) (pasted_here (zeros len) _ value 0 refl (length-replicate {A = ℕ} len 0))

-- the counts, the value and the entry of a new slot
pub pushed : (page : Page) (t : Slot) → PageFits page → SlotFits t → HasRoom page.slots t.0
    → pasted (pasted (pasted (page_spelling page) 12 (two (length page.slots + 1) ++ two (heap_end page.slots + t.0))) (heap_end page.slots) (value_bytes t.1)) (entry_place (length page.slots)) (entry (heap_end page.slots) t)
    ≡ page_spelling (with_slots page (page.slots ++ (t ∷ [])))
pushed page t fits slot room =
    let slots = page.slots ++ (t ∷ []) in
    let n = length page.slots in
    let h = heap_end page.slots in
    let value = value_bytes t.1 in
    let spare = zeros (t.0 - length value) in
    let rest = zeros (1024 - (h + t.0) - 6 * (n + 1)) in
    let heap = flat_map cell page.slots in
    let tail = entries 16 page.slots in
    let size = sizes page t slot room in
    let count : length slots ≡ n + 1 = omega (arith, length-append page.slots (t ∷ [])) in
    let end : heap_end slots ≡ h + t.0 = omega (arith, sum_by-append (λ (z : Slot). z.0) page.slots (t ∷ [])) in
    let head : List ℕ = eight page.lsn ++ (four page.number ++ (two (n + 1) ++ two (h + t.0))) in
    let head-is : head ≡ header (with_slots page slots) =
    ap (λ k. eight page.lsn ++ (four page.number ++ (two k ++ two (h + t.0)))) (sym count) ∙ ap (λ k. eight page.lsn ++ (four page.number ++ (two (length slots) ++ two k))) (sym end) in
    let sixteen : length head ≡ 16 = ap length head-is ∙ length-header (with_slots page slots) in
    let front = head ++ (heap ++ (value ++ (spare ++ rest))) in
    let place : length front ≡ entry_place n =
    omega (arith, size.len, size.room, length-front head heap value spare rest, sixteen, length-heap page.slots fits.slots, length-replicate {A = ℕ} (t.0 - length value) 0, length-replicate {A = ℕ} (1024 - (h + t.0) - 6 * (n + 1)) 0) in
    let gap-is : rest ≡ gap slots = ap (λ k. zeros (1024 - k - 6 * (n + 1))) (sym end) ∙ ap (λ k. zeros (1024 - heap_end slots - 6 * k)) (sym count) in
    ap (λ (b : List ℕ). pasted (pasted b h value) (entry_place n) (entry h t)) (counted page (n + 1) (h + t.0))
    ∙ ap (λ (b : List ℕ). pasted b (entry_place n) (entry h t)) (filled page head t fits sixteen size)
    ∙ ap (λ (b : List ℕ). pasted b (entry_place n) (entry h t)) (regroup_new head heap value spare rest (zeros 6 ++ tail))
    ∙ pasted_at front (zeros 6) tail (entry h t) (entry_place n) place (sym (length-entry h t))
    ∙ regroup_cell head heap value spare rest (entry h t ++ tail)
    ∙ ap (λ (b : List ℕ). b ++ (heap ++ (cell t ++ (rest ++ (entry h t ++ tail))))) head-is
    ∙ ap (λ (b : List ℕ). header (with_slots page slots) ++ (heap ++ (cell t ++ (b ++ (entry h t ++ tail))))) gap-is
    ∙ sym (spelling-split (with_slots page slots) page.slots t [] refl)

-- ---- writes that go on from one another

pub pasted-entry : (bytes : List ℕ) (place offset : ℕ) (t : Slot) → place + 4 ≤ length bytes
    → pasted (pasted (pasted bytes place (two offset)) (place + 2) (two t.0)) (place + 4) (two (length_word t.1)) ≡ pasted bytes place (entry offset t)
pasted-entry bytes place offset t le =
    let o = two offset in
    let k = two t.0 in
    let l = two (length_word t.1) in
    let both : length (o ++ k) ≡ 4 = omega (arith, length-append o k, length-two offset, length-two t.0) in
    ap (λ (b : List ℕ). pasted b (place + 4) l) (pasted-pasted bytes o k place (place + 2) (omega (arith, length-two offset)) (omega (arith, le, length-two offset)))
    ∙ pasted-pasted bytes (o ++ k) l place (place + 4) (omega (arith, both)) (omega (arith, both, le))
    ∙ ap (pasted bytes place) (append_assoc o k l)

pub pasted-counts : (bytes : List ℕ) (n h : ℕ) → length bytes ≡ 1024 → pasted (pasted bytes 12 (two n)) 14 (two h) ≡ pasted bytes 12 (two n ++ two h)
pasted-counts bytes n h size = pasted-pasted bytes (two n) (two h) 12 14 (omega (arith, length-two n)) (omega (arith, size, length-two n))
