-- What an image tells is the page that it spells. It serves the goals of image.rt.
use Rattle.std.proofs.Common.{◌≡◌, ℕ, ◌+◌, ◌-◌, ◌^◌, ◌<◌, ◌≤◌, false, eqb, List, ◌∷◌, ◌++◌, length, get_or, take, drop, Option, Some, None, refl, sym, ap, subst, ◌∙◌, append_assoc, arith}
use Rattle.std.specs.List.{flat_map, AllByRecursion}
use Rattle.std.proofs.lemmas.List.{length-append, length-take-le, same_lists}
use Rattle.std.proofs.lemmas.List.FromFn.{length-map-range_with_len, get_or-map-range_with_len}
use Rattle.std.proofs.lemmas.List.Sums.{sum_by-append, sum_by-cons}
use Rattle.sd_page.specs.Page.{Slot, Page, heap_end, SlotFits, PageFits}
use Rattle.sd_page.specs.Spelling.{two, four, eight, zeros, value_bytes, length_word, cell, entry, entries, header, page_spelling}
use Rattle.sd_page.specs.Reading.{field, two_at, four_at, eight_at, entry_place, slot_in, page_of, IsImage}
use Rattle.sd_page.proofs.Pieces.{field_skip, field_here, field_at, length-two, length-four, length-eight, two_at-is, four_at-is, eight_at-is}
use Rattle.sd_page.proofs.Parts.{IsWithin, capacities, AllByRecursion-parts, slots_split, length-heap, length-entry, length-entries, length-header, gap, length-spelling, spelling-split}

-- ---- the parts of the page that bytes tell of

pub page_of-lsn : (bytes : List ℕ) → eight_at bytes 0 ≡ (page_of bytes).lsn
unfolding page_of
page_of-lsn bytes = refl

pub page_of-number : (bytes : List ℕ) → four_at bytes 8 ≡ (page_of bytes).number
unfolding page_of
page_of-number bytes = refl

pub page_of-count : (bytes : List ℕ) → two_at bytes 12 ≡ length (page_of bytes).slots
unfolding page_of
page_of-count bytes = sym (length-map-range_with_len (slot_in bytes) 0 (two_at bytes 12))

pub page_of-slot : (bytes : List ℕ) (k : ℕ) (d : Slot) → k < two_at bytes 12 → get_or (page_of bytes).slots k d ≡ slot_in bytes k
unfolding page_of
page_of-slot bytes k d lt = get_or-map-range_with_len (slot_in bytes) 0 (two_at bytes 12) k k d lt (omega arith)

-- ---- the header of a page that fits

unfoldable pub body : Page → List ℕ
body page = flat_map cell page.slots ++ (gap page.slots ++ entries 16 page.slots)

pub spelling-header : (page : Page) → page_spelling page ≡ eight page.lsn ++ (four page.number ++ (two (length page.slots) ++ (two (heap_end page.slots) ++ body page)))
unfolding page_spelling body
spelling-header page =
    let n = length page.slots in
    let h = heap_end page.slots in
    append_assoc (eight page.lsn) (four page.number ++ (two n ++ two h)) (body page)
    ∙ ap (λ (l : List ℕ). eight page.lsn ++ l) (append_assoc (four page.number) (two n ++ two h) (body page))
    ∙ ap (λ (l : List ℕ). eight page.lsn ++ (four page.number ++ l)) (append_assoc (two n) (two h) (body page))

pub told-lsn : (page : Page) → PageFits page → eight_at (page_spelling page) 0 ≡ page.lsn
told-lsn page fits =
    eight_at-is (page_spelling page) 0 page.lsn fits.lsn (ap (λ (l : List ℕ). field l 0 8) (spelling-header page) ∙ field_here (eight page.lsn) _ 8 0 refl (length-eight page.lsn))

pub told-number : (page : Page) → PageFits page → four_at (page_spelling page) 8 ≡ page.number
told-number page fits =
    four_at-is (page_spelling page) 8 page.number (omega (arith, fits.number))
    (ap (λ (l : List ℕ). field l 8 4) (spelling-header page)
    ∙ field_skip (eight page.lsn) _ 0 4 8 (omega (arith, length-eight page.lsn))
    ∙ field_here (four page.number) _ 4 0 refl (length-four page.number))

pub told-count : (page : Page) → PageFits page → two_at (page_spelling page) 12 ≡ length page.slots
told-count page fits =
    two_at-is (page_spelling page) 12 (length page.slots) (omega (arith, fits.room))
    (ap (λ (l : List ℕ). field l 12 2) (spelling-header page)
    ∙ field_skip (eight page.lsn) _ 4 2 12 (omega (arith, length-eight page.lsn))
    ∙ field_skip (four page.number) _ 0 2 4 (omega (arith, length-four page.number))
    ∙ field_here (two (length page.slots)) _ 2 0 refl (length-two (length page.slots)))

pub told-end : (page : Page) → PageFits page → two_at (page_spelling page) 14 ≡ heap_end page.slots
told-end page fits =
    two_at-is (page_spelling page) 14 (heap_end page.slots) (omega (arith, fits.room))
    (ap (λ (l : List ℕ). field l 14 2) (spelling-header page)
    ∙ field_skip (eight page.lsn) _ 6 2 14 (omega (arith, length-eight page.lsn))
    ∙ field_skip (four page.number) _ 2 2 6 (omega (arith, length-four page.number))
    ∙ field_skip (two (length page.slots)) _ 0 2 2 (omega (arith, length-two (length page.slots)))
    ∙ field_here (two (heap_end page.slots)) _ 2 0 refl (length-two (heap_end page.slots)))

-- ---- one slot of a page that fits

-- the page has this slot behind these and before those
pub record Has (page : Page) (xs : List Slot) (s : Slot) (ys : List Slot) : Type 0 where
  pub fits : PageFits page
  pub parts : page.slots ≡ xs ++ (s ∷ ys)

pub Has-at : (page : Page) → PageFits page → (k : ℕ) (d : Slot) → k < length page.slots → Has page (take k page.slots) (get_or page.slots k d) (drop (k + 1) page.slots)
Has-at page fits k d lt = record { fits = fits; parts = slots_split page.slots k d lt }

pub Has-fits : (page : Page) (xs : List Slot) (s : Slot) (ys : List Slot) → Has page xs s ys → AllByRecursion SlotFits xs × SlotFits s × AllByRecursion SlotFits ys
Has-fits page xs s ys has =
    let both = AllByRecursion-parts SlotFits xs (s ∷ ys) (subst (AllByRecursion SlotFits) has.parts has.fits.slots) in
    (both.0, both.1.0, both.1.1)

pub Has-end : (page : Page) (xs : List Slot) (s : Slot) (ys : List Slot) → Has page xs s ys → heap_end page.slots ≡ heap_end xs + s.0 + capacities ys
Has-end page xs s ys has =
    omega (arith, ap capacities has.parts, sum_by-append (λ (z : Slot). z.0) xs (s ∷ ys), sum_by-cons (λ (z : Slot). z.0) s ys)

pub Has-count : (page : Page) (xs : List Slot) (s : Slot) (ys : List Slot) → Has page xs s ys → length page.slots ≡ length xs + 1 + length ys
Has-count page xs s ys has = omega (arith, ap length has.parts, length-append xs (s ∷ ys))

-- what stands before the entry of a slot
unfoldable pub before : (page : Page) (xs : List Slot) (s : Slot) (ys : List Slot) → List ℕ
before page xs s ys = header page ++ (flat_map cell xs ++ (cell s ++ (flat_map cell ys ++ (gap page.slots ++ entries (heap_end xs + s.0) ys))))

regroup_before : (a x c y g e m : List ℕ) → a ++ (x ++ (c ++ (y ++ (g ++ (e ++ m))))) ≡ (a ++ (x ++ (c ++ (y ++ (g ++ e))))) ++ m
regroup_before a x c y g e m = sym (simp append_assoc)

pub spelling-entry : (page : Page) (xs : List Slot) (s : Slot) (ys : List Slot) → Has page xs s ys → page_spelling page ≡ before page xs s ys ++ (entry (heap_end xs) s ++ entries 16 xs)
unfolding before
spelling-entry page xs s ys has =
    spelling-split page xs s ys has.parts
    ∙ regroup_before (header page) (flat_map cell xs) (cell s) (flat_map cell ys) (gap page.slots) (entries (heap_end xs + s.0) ys) (entry (heap_end xs) s ++ entries 16 xs)

pub length-before : (page : Page) (xs : List Slot) (s : Slot) (ys : List Slot) → Has page xs s ys → length (before page xs s ys) ≡ entry_place (length xs)
length-before page xs s ys has =
    omega (arith, length-spelling page has.fits, ap length (spelling-entry page xs s ys has), length-append (before page xs s ys) (entry (heap_end xs) s ++ entries 16 xs), length-append (entry (heap_end xs) s) (entries 16 xs), length-entry (heap_end xs) s, length-entries 16 xs)

regroup_entry : (a o c l q : List ℕ) → a ++ ((o ++ (c ++ l)) ++ q) ≡ a ++ (o ++ (c ++ (l ++ q)))
regroup_entry a o c l q = simp append_assoc

-- the entry's three numbers, one after the other
pub spelling-words : (page : Page) (xs : List Slot) (s : Slot) (ys : List Slot) → Has page xs s ys
    → page_spelling page ≡ before page xs s ys ++ (two (heap_end xs) ++ (two s.0 ++ (two (length_word s.1) ++ entries 16 xs)))
spelling-words page xs s ys has = spelling-entry page xs s ys has ∙ regroup_entry (before page xs s ys) (two (heap_end xs)) (two s.0) (two (length_word s.1)) (entries 16 xs)

length_word-lt : (value : Option (List ℕ)) (n : ℕ) → IsWithin value n → n ≤ 256 → length_word value < 2 ^ 16
length_word-lt None n h le = omega arith
length_word-lt (Some bytes) n h le = omega (arith, h)

pub told-offset : (page : Page) (xs : List Slot) (s : Slot) (ys : List Slot) → Has page xs s ys → two_at (page_spelling page) (entry_place (length xs)) ≡ heap_end xs
told-offset page xs s ys has =
    two_at-is (page_spelling page) (entry_place (length xs)) (heap_end xs) (omega (arith, has.fits.room, Has-end page xs s ys has))
    (ap (λ (l : List ℕ). field l (entry_place (length xs)) 2) (spelling-words page xs s ys has)
    ∙ field_at (before page xs s ys) (two (heap_end xs)) _ (entry_place (length xs)) 2 (length-before page xs s ys has) (length-two (heap_end xs)))

pub told-capacity : (page : Page) (xs : List Slot) (s : Slot) (ys : List Slot) → Has page xs s ys → two_at (page_spelling page) (entry_place (length xs) + 2) ≡ s.0
told-capacity page xs s ys has =
    let small : s.0 ≤ 256 = (Has-fits page xs s ys has).1.capacity in
    two_at-is (page_spelling page) (entry_place (length xs) + 2) s.0 (omega (arith, small))
    (ap (λ (l : List ℕ). field l (entry_place (length xs) + 2) 2) (spelling-words page xs s ys has)
    ∙ field_skip (before page xs s ys) _ 2 2 (entry_place (length xs) + 2) (omega (arith, length-before page xs s ys has))
    ∙ field_skip (two (heap_end xs)) _ 0 2 2 (omega (arith, length-two (heap_end xs)))
    ∙ field_here (two s.0) _ 2 0 refl (length-two s.0))

pub told-length : (page : Page) (xs : List Slot) (s : Slot) (ys : List Slot) → Has page xs s ys → two_at (page_spelling page) (entry_place (length xs) + 4) ≡ length_word s.1
told-length page xs s ys has =
    let fits = (Has-fits page xs s ys has).1 in
    two_at-is (page_spelling page) (entry_place (length xs) + 4) (length_word s.1) (length_word-lt s.1 s.0 fits.value fits.capacity)
    (ap (λ (l : List ℕ). field l (entry_place (length xs) + 4) 2) (spelling-words page xs s ys has)
    ∙ field_skip (before page xs s ys) _ 4 2 (entry_place (length xs) + 4) (omega (arith, length-before page xs s ys has))
    ∙ field_skip (two (heap_end xs)) _ 2 2 4 (omega (arith, length-two (heap_end xs)))
    ∙ field_skip (two s.0) _ 0 2 2 (omega (arith, length-two s.0))
    ∙ field_here (two (length_word s.1)) _ 2 0 refl (length-two (length_word s.1)))

pub told-value : (page : Page) (xs : List Slot) (s : Slot) (ys : List Slot) → Has page xs s ys → field (page_spelling page) (heap_end xs) (length (value_bytes s.1)) ≡ value_bytes s.1
told-value page xs s ys has =
    let value = value_bytes s.1 in
    ap (λ (l : List ℕ). field l (heap_end xs) (length value)) (spelling-split page xs s ys has.parts)
    ∙ field_skip (header page) _ (capacities xs) (length value) (heap_end xs) (omega (arith, length-header page))
    ∙ field_skip (flat_map cell xs) _ 0 (length value) (capacities xs) (omega (arith, length-heap xs (Has-fits page xs s ys has).0))
    ∙ ap (λ (l : List ℕ). field l 0 (length value)) (append_assoc value (zeros (s.0 - length value)) _)
    ∙ field_here value _ (length value) 0 refl refl

-- ---- the whole page

slot_in-is : (bytes : List ℕ) (k capacity : ℕ) (value : Option (List ℕ)) → two_at bytes (entry_place k + 2) ≡ capacity → two_at bytes (entry_place k + 4) ≡ length_word value
    → IsWithin value 256 → field bytes (two_at bytes (entry_place k)) (length (value_bytes value)) ≡ value_bytes value → slot_in bytes k ≡ (capacity, value)
slot_in-is bytes k capacity None e l h f = rw (e, l) refl
slot_in-is bytes k capacity (Some value) e l h f =
    let live : eqb (length value) 65535 ≡ false = grind (arith, h) in
    rw (e, l, live, f) refl

pub IsWithin-more : (value : Option (List ℕ)) (n m : ℕ) → IsWithin value n → n ≤ m → IsWithin value m
IsWithin-more None n m h le = omega arith
IsWithin-more (Some bytes) n m h le = omega (arith, h)

pub told-slot : (page : Page) (xs : List Slot) (s : Slot) (ys : List Slot) → Has page xs s ys → slot_in (page_spelling page) (length xs) ≡ s
told-slot page xs s ys has =
    let fits = (Has-fits page xs s ys has).1 in
    let value : field (page_spelling page) (two_at (page_spelling page) (entry_place (length xs))) (length (value_bytes s.1)) ≡ value_bytes s.1 =
    ap (λ k. field (page_spelling page) k (length (value_bytes s.1))) (told-offset page xs s ys has) ∙ told-value page xs s ys has in
    slot_in-is (page_spelling page) (length xs) s.0 s.1 (told-capacity page xs s ys has) (told-length page xs s ys has) (IsWithin-more s.1 s.0 256 fits.value fits.capacity) value

told-slots : (page : Page) → PageFits page → (page_of (page_spelling page)).slots ≡ page.slots
told-slots page fits =
    let bytes = page_spelling page in
    let count : length (page_of bytes).slots ≡ length page.slots = sym (page_of-count bytes) ∙ told-count page fits in
    same_lists (page_of bytes).slots page.slots count
    (λ k d lt. let below : k < length page.slots = omega (arith, lt, count) in
    let front : length (take k page.slots) ≡ k = length-take-le k page.slots (omega (arith, below)) in
    page_of-slot bytes k d (omega (arith, lt, page_of-count bytes))
    ∙ ap (slot_in bytes) (sym front)
    ∙ told-slot page (take k page.slots) (get_or page.slots k d) (drop (k + 1) page.slots) (Has-at page fits k d below))

abbrev made : ℕ → ℕ → List Slot → Page
made lsn number slots = record { lsn = lsn; number = number; slots = slots }

pub same_page : (p q : Page) → p.lsn ≡ q.lsn → p.number ≡ q.number → p.slots ≡ q.slots → p ≡ q
same_page p q a b c = ap (λ x. made x p.number p.slots) a ∙ ap (λ x. made q.lsn x p.slots) b ∙ ap (λ x. made q.lsn q.number x) c

pub told : (page : Page) → PageFits page → page_of (page_spelling page) ≡ page
told page fits =
    same_page (page_of (page_spelling page)) page (sym (page_of-lsn (page_spelling page)) ∙ told-lsn page fits) (sym (page_of-number (page_spelling page)) ∙ told-number page fits) (told-slots page fits)

pub IsImage-spelling : (page : Page) → PageFits page → IsImage (page_spelling page)
IsImage-spelling page fits = record { fits = subst PageFits (sym (told page fits)) fits; spelled = ap page_spelling (told page fits) }

pub one_spelling : (a b : Page) → PageFits a → PageFits b → page_spelling a ≡ page_spelling b → a ≡ b
one_spelling a b fits_a fits_b e = sym (told a fits_a) ∙ ap page_of e ∙ told b fits_b
