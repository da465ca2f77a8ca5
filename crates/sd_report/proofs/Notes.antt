-- The entries of one line, by how the first of them is noted. It serves the goals of part_at and part_unnoted.
use Rattle.std.proofs.Common.{◌≡◌, ℕ, ◌<◌, ◌≤◌, ◌-◌, List, [], ◌∷◌, length, take, drop, get_or, arith, refl, sym, ap, ◌∙◌}
use Rattle.std.proofs.lemmas.List.{drop_more, take_rest}
use Rattle.sd_model.specs.declared.event.Entry.{Entry}
use Rattle.sd_model.specs.declared.line.LineEntry.{LineEntry}
use Rattle.sd_model.specs.declared.packed.Answer.{Answer}
use Rattle.sd_model.specs.declared.packed.Deed.{Deed}
use Rattle.sd_model.specs.declared.packed.Noted.{Noted}
use Rattle.sd_model.specs.declared.packed.Noted.TheVariants as noted
use Rattle.sd_model.specs.Shorts.{entry_of, line_entry}
use Rattle.sd_model.specs.Booked.{unpacked}

-- a slice of less than one item has none
pub no_items : {X : Type 0} (xs : List X) → length xs < 1 → xs ≡ []
no_items [] few = refl
no_items (x ∷ xs) few = absurd (omega (arith, few))

-- a slice that isn't empty, by its first item
module _ {X : Type 0} (xs : List X) (x : X) (some : 1 ≤ length xs) (is : x ≡ get_or xs 0 x) where
  pub by_first : xs ≡ x ∷ take (length xs - 1) (drop 1 xs)
  by_first = drop_more xs 0 x (omega (arith, some)) ∙ (λ k. sym is k ∷ sym (take_rest xs 1) k)

-- what is noted, by the first note
module _ (notes : List Noted) (first : Noted) (some : 1 ≤ length notes) (is : first ≡ get_or notes 0 first) where
  abbrev pub later_notes : List Noted
  later_notes = take (length notes - 1) (drop 1 notes)

  noted_first : (how : Noted) → first ≡ how → notes ≡ how ∷ later_notes
  noted_first how same = by_first notes first some is ∙ ap (λ (x : Noted). x ∷ later_notes) same

  pub reads_help : (lines : List LineEntry) (whole : List Entry) {s p i n : ℕ} {d : Deed} {a : Answer}
      → first ≡ noted.Help s p i d a n
      → unpacked notes lines whole ≡ entry_of s p i d a n ∷ unpacked later_notes lines whole
  reads_help lines whole {s} {p} {i} {n} {d} {a} kept =
      ap (λ (k : List Noted). unpacked k lines whole) (noted_first (noted.Help s p i d a n) kept)

  pub reads_line : (lines : List LineEntry) (whole : List Entry) (l : LineEntry) → first ≡ noted.Line → 1 ≤ length lines
      → l ≡ get_or lines 0 l
      → unpacked notes lines whole ≡ line_entry l ∷ unpacked later_notes (take (length lines - 1) (drop 1 lines)) whole
  reads_line lines whole l kept more stands =
      ap (λ (k : List Noted). unpacked k lines whole) (noted_first noted.Line kept)
      ∙ ap (λ (k : List LineEntry). unpacked (noted.Line ∷ later_notes) k whole) (by_first lines l more stands)

  pub reads_whole : (lines : List LineEntry) (whole : List Entry) (e : Entry) → first ≡ noted.Whole → 1 ≤ length whole
      → e ≡ get_or whole 0 e
      → unpacked notes lines whole ≡ e ∷ unpacked later_notes lines (take (length whole - 1) (drop 1 whole))
  reads_whole lines whole e kept more stands =
      ap (λ (k : List Noted). unpacked k lines whole) (noted_first noted.Whole kept)
      ∙ ap (unpacked (noted.Whole ∷ later_notes) lines) (by_first whole e more stands)

  pub reads_no_line : (lines : List LineEntry) (whole : List Entry) → first ≡ noted.Line → lines ≡ []
      → unpacked notes lines whole ≡ []
  reads_no_line lines whole kept none =
      ap (λ (k : List Noted). unpacked k lines whole) (noted_first noted.Line kept)
      ∙ ap (λ (k : List LineEntry). unpacked (noted.Line ∷ later_notes) k whole) none

  pub reads_no_whole : (lines : List LineEntry) (whole : List Entry) → first ≡ noted.Whole → whole ≡ []
      → unpacked notes lines whole ≡ []
  reads_no_whole lines whole kept none =
      ap (λ (k : List Noted). unpacked k lines whole) (noted_first noted.Whole kept)
      ∙ ap (unpacked (noted.Whole ∷ later_notes) lines) none
