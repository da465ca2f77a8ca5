-- The records in front of what breaks the format. It serves the goals of reading.rt and of what reads an area.
use Rattle.std.proofs.Common.{◌≡◌, ℕ, zero, suc, ◌+◌, ◌<◌, Bool, true, false, cond, List, [], ◌∷◌, ◌++◌, length, take, drop, refl, ap, ◌∙◌, arith}
use Rattle.std.specs.Prelude.{Result, map}
use Rattle.std.specs.List.{flat_map}
use Rattle.std.proofs.lemmas.List.{map-append}
use Rattle.sd_base.specs.Twin.{is_open}
use Rattle.sd_logrec.specs.Fronts.{front_at, front_then, front_within, fronts_within, group_front}
use Rattle.sd_logrec.specs.Kept.{Group, Records, fits_area, group_len, placed_from, records_at}
use Rattle.sd_logrec.specs.Reading.{record_at}
use Rattle.sd_logrec.proofs.WholeFronts.{step}
use Rattle.sd_log.specs.JournalStates.{JournalState}
use Rattle.sd_log.specs.Logs.{placed, placed_groups, placed_tail}
use Rattle.sd_log.specs.Marks.{entry}
use Rattle.sd_log.specs.Readings.{entries}
use Rattle.sd_log.proofs.Parted.{entry-all}

-- ---- one step

pub front_one : (n p : ℕ) (bytes : List ℕ) → 0 < length bytes → front_within (suc n) p bytes ≡ front_then p (record_at bytes) (front_within n)
unfolding front_within
front_one n p [] h = absurd (omega arith)
front_one n p (b ∷ bytes) h = refl

pub front_shut : (n at : ℕ) (bytes : List ℕ) → is_open 0 bytes ≡ false → fronts_within n at bytes ≡ []
unfolding fronts_within
front_shut zero at bytes h = refl
front_shut (suc n) at bytes h = rw h refl

front_step : (n at : ℕ) (bytes : List ℕ) → fronts_within (suc n) at bytes ≡ step (is_open 0 bytes) (fits_area at (group_len bytes)) (records_at (at + 5) (take (group_len bytes) (drop 5 bytes))) (front_at (at + 5) (take (group_len bytes) (drop 5 bytes))) (fronts_within n (at + 5 + group_len bytes) (drop (5 + group_len bytes) bytes))
unfolding fronts_within
front_step n at bytes = refl

pub front_bad_length : (n at : ℕ) (bytes : List ℕ) → fits_area at (group_len bytes) ≡ false → fronts_within (suc n) at bytes ≡ []
front_bad_length n at bytes bad =
    front_step n at bytes ∙ ap (λ f. step (is_open 0 bytes) f (records_at (at + 5) (take (group_len bytes) (drop 5 bytes))) (front_at (at + 5) (take (group_len bytes) (drop 5 bytes))) (fronts_within n (at + 5 + group_len bytes) (drop (5 + group_len bytes) bytes))) bad
    ∙ either (is_open 0 bytes)
  where
    either : (b : Bool) → cond {A = Records} b [] [] ≡ []
    either true = refl
    either false = refl

pub front_opened : (n at len : ℕ) (bytes : List ℕ) (r : Result Records ℕ) → is_open 0 bytes ≡ true → group_len bytes ≡ len → fits_area at len ≡ true → records_at (at + 5) (take len (drop 5 bytes)) ≡ r
    → fronts_within (suc n) at bytes ≡ group_front r (front_at (at + 5) (take len (drop 5 bytes))) (fronts_within n (at + 5 + len) (drop (5 + len) bytes))
front_opened n at len bytes r shown long fits is =
    let by : ℕ → Bool → Bool → Records = λ m o f. step o f (records_at (at + 5) (take m (drop 5 bytes))) (front_at (at + 5) (take m (drop 5 bytes))) (fronts_within n (at + 5 + m) (drop (5 + m) bytes)) in
    front_step n at bytes ∙ ap (λ m. by m (is_open 0 bytes) (fits_area at m)) long ∙ ap (λ o. by len o (fits_area at len)) shown ∙ ap (by len true) fits
    ∙ ap (λ x. group_front x (front_at (at + 5) (take len (drop 5 bytes))) (fronts_within n (at + 5 + len) (drop (5 + len) bytes))) is

-- ---- what a journal has

entry-groups : (groups : List Group) → map entry (placed_groups groups) ≡ flat_map (λ (g : Group). g.records) groups
entry-groups [] = refl
entry-groups (g ∷ groups) =
    map-append entry (map (placed true) g.records) (placed_groups groups) ∙ ap (λ (l : Records). l ++ map entry (placed_groups groups)) (entry-all true g.records) ∙ ap (λ (l : Records). g.records ++ l) (entry-groups groups)

pub entries_are : (j : JournalState) → entries j ≡ flat_map (λ (g : Group). g.records) j.groups ++ placed_from (j.gate + 5) j.tail
entries_are j =
    map-append entry (placed_groups j.groups) (placed_tail j.gate j.tail) ∙ ap (λ (l : Records). l ++ map entry (placed_tail j.gate j.tail)) (entry-groups j.groups)
    ∙ ap (λ (l : Records). flat_map (λ (g : Group). g.records) j.groups ++ l) (entry-all false (placed_from (j.gate + 5) j.tail))
