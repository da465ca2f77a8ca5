-- The image of a page, part by part, with one slot singled out. It serves the goals of image.rt.
use Rattle.std.proofs.Common.{◌≡◌, ℕ, ◌+◌, ◌-◌, ◌*◌, ◌<◌, ◌≤◌, List, [], ◌∷◌, ◌++◌, length, get_or, take, drop, Option, Some, None, refl, sym, ap, ◌∙◌, append_assoc, add-zero, arith}
use Rattle.std.specs.Prelude.{sum_by}
use Rattle.std.specs.List.{flat_map, AllByRecursion}
use Rattle.std.proofs.lemmas.List.{append-nil, length-append, length-replicate, take-append-drop, drop_more}
use Rattle.std.proofs.lemmas.List.Sums.{sum_by-cons}
use Rattle.std.proofs.lemmas.List.Concat.{flat_map-append}
use Rattle.sd_base.specs.Values.{size}
use Rattle.sd_page.specs.Page.{Slot, Page, heap_end, SlotFits, PageFits}
use Rattle.sd_page.specs.Spelling.{two, four, eight, zeros, value_bytes, length_word, cell, entry, entries, header, page_spelling}
use Rattle.sd_page.proofs.Pieces.{length-two, length-four, length-eight}

-- the sum of the capacities
abbrev pub capacities : List Slot → ℕ
capacities slots = sum_by (λ slot. slot.0) slots

-- a value takes at most so many bytes
abbrev pub IsWithin : Option (List ℕ) → ℕ → Type 0
IsWithin value n = size value ≤ n

-- ---- slots that fit

pub AllByRecursion-append : {X : Type 0} (P : X → Type 0) (xs ys : List X) → AllByRecursion P xs → AllByRecursion P ys → AllByRecursion P (xs ++ ys)
AllByRecursion-append P [] ys a b = b
AllByRecursion-append P (x ∷ xs) ys a b = (a.0, AllByRecursion-append P xs ys a.1 b)

pub AllByRecursion-parts : {X : Type 0} (P : X → Type 0) (xs ys : List X) → AllByRecursion P (xs ++ ys) → AllByRecursion P xs × AllByRecursion P ys
AllByRecursion-parts P [] ys a = (tt, a)
AllByRecursion-parts P (x ∷ xs) ys a = let rest = AllByRecursion-parts P xs ys a.1 in ((a.0, rest.0), rest.1)

-- the place of a slot in its list
pub slots_split : (slots : List Slot) (k : ℕ) (d : Slot) → k < length slots → slots ≡ take k slots ++ (get_or slots k d ∷ drop (k + 1) slots)
slots_split slots k d lt = sym (take-append-drop k slots) ∙ ap (λ (l : List Slot). take k slots ++ l) (drop_more slots k d lt)

-- ---- the lengths of the parts

pub length-value_bytes : (value : Option (List ℕ)) (n : ℕ) → IsWithin value n → length (value_bytes value) ≤ n
length-value_bytes None n h = omega arith
length-value_bytes (Some bytes) n h = h

pub length-cell : (slot : Slot) → SlotFits slot → length (cell slot) ≡ slot.0
length-cell slot h =
    let le : length (value_bytes slot.1) ≤ slot.0 = length-value_bytes slot.1 slot.0 h.value in
    omega (arith, le, length-append (value_bytes slot.1) (zeros (slot.0 - length (value_bytes slot.1))), length-replicate {A = ℕ} (slot.0 - length (value_bytes slot.1)) 0)

pub length-heap : (slots : List Slot) → AllByRecursion SlotFits slots → length (flat_map cell slots) ≡ capacities slots
length-heap [] h = refl
length-heap (slot ∷ slots) h =
    omega (arith, length-append (cell slot) (flat_map cell slots), length-cell slot h.0, length-heap slots h.1, sum_by-cons (λ (s : Slot). s.0) slot slots)

pub length-entry : (at : ℕ) (slot : Slot) → length (entry at slot) ≡ 6
length-entry at slot =
    omega (arith, length-append (two at) (two slot.0 ++ two (length_word slot.1)), length-append (two slot.0) (two (length_word slot.1)), length-two at, length-two slot.0, length-two (length_word slot.1))

pub length-entries : (at : ℕ) (slots : List Slot) → length (entries at slots) ≡ 6 * length slots
length-entries at [] = refl
length-entries at (slot ∷ slots) =
    omega (arith, length-append (entries (at + slot.0) slots) (entry at slot), length-entries (at + slot.0) slots, length-entry at slot)

pub length-header : (page : Page) → length (header page) ≡ 16
length-header page =
    let n = length page.slots in
    let h = heap_end page.slots in
    omega (arith, length-append (eight page.lsn) (four page.number ++ (two n ++ two h)), length-append (four page.number) (two n ++ two h), length-append (two n) (two h), length-eight page.lsn, length-four page.number, length-two n, length-two h)

-- the zeros between the heap and the entries
abbrev pub gap : List Slot → List ℕ
gap slots = zeros (1024 - heap_end slots - 6 * length slots)

pub length-spelling : (page : Page) → PageFits page → length (page_spelling page) ≡ 1024
unfolding page_spelling
length-spelling page fits =
    let heap = flat_map cell page.slots in
    let free = gap page.slots in
    let tail = entries 16 page.slots in
    omega (arith, fits.room, length-append (header page) (heap ++ (free ++ tail)), length-append heap (free ++ tail), length-append free tail, length-header page, length-heap page.slots fits.slots, length-replicate {A = ℕ} (1024 - heap_end page.slots - 6 * length page.slots) 0, length-entries 16 page.slots)

-- ---- one slot singled out

pub entries-append : (at : ℕ) (xs ys : List Slot) → entries at (xs ++ ys) ≡ entries (at + capacities xs) ys ++ entries at xs
entries-append at [] ys = ap (λ k. entries k ys) (sym (add-zero at)) ∙ sym (append-nil (entries (at + 0) ys))
entries-append at (x ∷ xs) ys =
    let k : at + x.0 + capacities xs ≡ at + capacities (x ∷ xs) = omega (arith, sum_by-cons (λ (s : Slot). s.0) x xs) in
    ap (λ (l : List ℕ). l ++ entry at x) (entries-append (at + x.0) xs ys)
    ∙ append_assoc (entries (at + x.0 + capacities xs) ys) (entries (at + x.0) xs) (entry at x)
    ∙ ap (λ (n : ℕ). entries n ys ++ (entries (at + x.0) xs ++ entry at x)) k

regroup : (a x c y g e m f : List ℕ) → a ++ ((x ++ (c ++ y)) ++ (g ++ ((e ++ m) ++ f))) ≡ a ++ (x ++ (c ++ (y ++ (g ++ (e ++ (m ++ f))))))
regroup a x c y g e m f = simp append_assoc

pub spelling-split : (page : Page) (xs : List Slot) (s : Slot) (ys : List Slot) → page.slots ≡ xs ++ (s ∷ ys)
    → page_spelling page ≡ header page ++ (flat_map cell xs ++ (cell s ++ (flat_map cell ys ++ (gap page.slots ++ (entries (heap_end xs + s.0) ys ++ (entry (heap_end xs) s ++ entries 16 xs))))))
unfolding page_spelling
spelling-split page xs s ys e =
    let heap : flat_map cell page.slots ≡ flat_map cell xs ++ (cell s ++ flat_map cell ys) = ap (flat_map cell) e ∙ flat_map-append cell xs (s ∷ ys) in
    let tail : entries 16 page.slots ≡ (entries (heap_end xs + s.0) ys ++ entry (heap_end xs) s) ++ entries 16 xs = ap (entries 16) e ∙ entries-append 16 xs (s ∷ ys) in
    ap (λ (l : List ℕ). header page ++ (l ++ (gap page.slots ++ entries 16 page.slots))) heap
    ∙ ap (λ (l : List ℕ). header page ++ ((flat_map cell xs ++ (cell s ++ flat_map cell ys)) ++ (gap page.slots ++ l))) tail
    ∙ regroup (header page) (flat_map cell xs) (cell s) (flat_map cell ys) (gap page.slots) (entries (heap_end xs + s.0) ys) (entry (heap_end xs) s) (entries 16 xs)
