-- The records of a live log, as its marks part them. It serves the goals of written.rt.
use Rattle.std.proofs.Common.{◌≡◌, inl, inr, ℕ, zero, suc, ◌+◌, ◌-◌, ◌<◌, ◌≤◌, ◌^◌, Bool, true, false, List, [], ◌∷◌, ◌++◌, length, take, drop, refl, sym, ap, ◌∙◌, arith, length-append, length-drop}
use Rattle.std.specs.Prelude.{Option, Some, map, nat_lt, slice_get}
use Rattle.std.specs.Option.{option_map_or}
use Rattle.std.proofs.lemmas.Bool.{cases_lt, ltb-true}
use Rattle.std.proofs.lemmas.Grind.{flat_map-append}
use Rattle.std.proofs.lemmas.List.{map-append, take-append-drop, take_all}
use Rattle.sd_logrec.specs.declared.record.Record.{Record}
use Rattle.sd_logrec.specs.Kept.{Records, spelled}
use Rattle.sd_logrec.specs.Spelling.{spelling}
use Rattle.sd_logrec.specs.View.{flat}
use Rattle.sd_log.specs.declared.placed.Placed.{Placed}
use Rattle.sd_log.specs.declared.written.Written.TheInside.{Inside}
use Rattle.sd_log.specs.Logs.{last_lsn, lsn_of, placed, placed_groups, placed_tail}
use Rattle.sd_log.specs.Marks.{MarksState, entry}
use Rattle.sd_log.specs.Parts.{IsParted, groups_of, items_of, record_of, tail_of}
use Rattle.sd_log.specs.Spellings.{record_in}
use Rattle.sd_log.specs.WrittenInside.{IsWritten, written_view}
use Rattle.sd_log.specs.WrittenStates.{all_in}
use Rattle.sd_log.proofs.Items.{drop-items, get-items, items_read, length-items, records_of-items}
use Rattle.sd_log.proofs.Journaling.{parted_all}

pub all_items : (w : Inside) → IsWritten w → all_in (written_view w) ≡ items_of w.marks.forced w.records.entries
all_items w h = sym (parted_all w.marks (items_of w.marks.forced w.records.entries) h.parted)

pub all_length : (w : Inside) → IsWritten w → length (all_in (written_view w)) ≡ length w.records.entries
all_length w h = ap length (all_items w h) ∙ length-items w.marks.forced w.records.entries

pub tail_is : (w : Inside) → IsWritten w → (written_view w).tail ≡ map record_in (drop w.marks.forced w.records.entries)
tail_is w h =
    ap (map record_of) (drop-items w.marks.forced w.records.entries h.forced_there) ∙ records_of-items false (drop w.marks.forced w.records.entries)

-- the bytes of all are those of the first ones and those of the others
pub text_parts : (n : ℕ) (es : Records) → length (spelled (map record_in es)) ≡ length (spelled (map record_in (take n es))) + length (spelled (map record_in (drop n es)))
text_parts n es =
    let all : spelled (map record_in es) ≡ spelled (map record_in (take n es)) ++ spelled (map record_in (drop n es)) =
    ap (λ (l : Records). spelled (map record_in l)) (sym (take-append-drop n es))
    ∙ ap spelled (map-append record_in (take n es) (drop n es))
    ∙ flat_map-append spelling (map record_in (take n es)) (map record_in (drop n es)) in
    ap length all ∙ length-append (spelled (map record_in (take n es))) (spelled (map record_in (drop n es)))

pub text_small : (w : Inside) → IsWritten w → w.marks.gate + 5 + length (spelled (written_view w).tail) < 2 ^ 32 → length (spelled (map record_in w.records.entries)) < 2 ^ 32
text_small w h small =
    let forced = h.forced_text in
    omega (arith, text_parts w.marks.forced w.records.entries, ap (λ (l : List Record). length (spelled l)) (tail_is w h))

-- ---- one of them

pub is_there : {A : Type 0} (xs : List A) (i : ℕ) → i < length xs → (x : A) × (slice_get xs i ≡ Some x)
is_there [] i lt = absurd (omega arith)
is_there (x ∷ xs) zero lt = (x, refl)
is_there (x ∷ xs) (suc i) lt = is_there xs i (omega arith)

pub lsn_is : (w : Inside) → IsWritten w → (i lsn : ℕ) → i < length w.records.entries → ((e : ℕ × Record) → slice_get w.records.entries i ≡ Some e → lsn ≡ (flat e.1).lsn)
    → (p : Placed) → slice_get (all_in (written_view w)) i ≡ Some p → lsn ≡ lsn_of p
lsn_is w h i lsn lt told p got =
    let es : Records = w.records.entries in
    let n = w.marks.forced in
    let there = is_there es i lt in
    let whole : (f : Bool) → slice_get (items_of n es) i ≡ Some (placed f there.0) → lsn ≡ lsn_of p = λ f at.
    told there.0 there.1
    ∙ sym (ap (λ (o : Option Placed). option_map_or lsn_of o 0) (sym got ∙ ap (λ (ps : List Placed). slice_get ps i) (all_items w h) ∙ at)) in
    elim (cases_lt i n) [
      | inl lt ↦ whole true (get-items n es i there.0 true (λ _. refl) (λ le. absurd (omega arith)) there.1)
      | inr le ↦ whole false (get-items n es i there.0 false (λ lt. absurd (omega arith)) (λ _. refl) there.1)
    ]

pub last_is : (w : Inside) → IsWritten w → (lsn : ℕ) → 0 < length w.records.entries
    → ((e : ℕ × Record) → slice_get w.records.entries (length w.records.entries - 1) ≡ Some e → lsn ≡ (flat e.1).lsn) → lsn ≡ last_lsn (all_in (written_view w))
last_is w h lsn some told =
    let len = length w.records.entries in
    let all : List Placed = all_in (written_view w) in
    let there = is_there all (len - 1) (omega (arith, all_length w h)) in
    lsn_is w h (len - 1) lsn (omega arith) told there.0 there.1
    ∙ sym (ap (λ (o : Option Placed). option_map_or lsn_of o 0) there.1)
    ∙ sym (ap (λ k. option_map_or lsn_of (slice_get all (k - 1)) 0) (all_length w h))

pub none_last : (w : Inside) → IsWritten w → length w.records.entries ≡ 0 → 0 ≡ last_lsn (all_in (written_view w))
none_last w h none =
    let empty : all_in (written_view w) ≡ [] = length-zero (all_in (written_view w)) (all_length w h ∙ none) in
    sym (ap last_lsn empty)
  where
    length-zero : (ps : List Placed) → length ps ≡ 0 → ps ≡ []
    length-zero [] e = refl
    length-zero (p ∷ ps) e = absurd (omega arith)

-- ---- of what was read

module _ (m : MarksState) (ps : List Placed) (h : IsParted m ps) (none : tail_of m ps ≡ []) where
  back_none : drop m.forced ps ≡ []
  back_none = h.tail_ones ∙ ap (placed_tail m.gate) none

  pub all_are_forced : m.forced ≡ length ps
  all_are_forced = let within = h.within in omega (arith, length-drop m.forced ps, ap length back_none)

  pub all_in_groups : ps ≡ placed_groups (groups_of m ps)
  all_in_groups = sym (take_all m.forced ps (omega (arith, all_are_forced))) ∙ h.forced_ones

  pub read_items : (es : Records) → es ≡ map entry ps → items_of m.forced es ≡ ps
  read_items es is = ap (items_of m.forced) is ∙ items_read m.forced ps (groups_of m ps) all_are_forced all_in_groups

pub records_of-entries : (ps : List Placed) → map record_in (map entry ps) ≡ map record_of ps
records_of-entries [] = refl
records_of-entries (p ∷ ps) = ap (λ (l : List Record). p.rec ∷ l) (records_of-entries ps)

pub not_below : (i n : ℕ) (b : Bool) → nat_lt i n ≡ b → n ≤ i → b ≡ false
not_below i n false e le = refl
not_below i n true e le = let lt = ltb-true i n e in absurd (omega arith)
