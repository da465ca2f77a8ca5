-- Where nothing breaks the format, the records in front of a fault are all records. It serves who reads an area.
use Rattle.std.proofs.Common.{◌≡◌, ℕ, zero, suc, ◌+◌, Bool, true, false, cond, List, [], ◌∷◌, ◌++◌, length, take, drop, refl, ap, ◌∙◌}
use Rattle.std.specs.Prelude.{Result, Ok, Err}
use Rattle.std.specs.List.{flat_map}
use Rattle.sd_base.specs.Twin.{is_open}
use Rattle.sd_logrec.specs.Fronts.{front, front_at, fronts_within, group_front}
use Rattle.sd_logrec.specs.Kept.{BadGroup, Group, NoRecord, Reading, Records, Whole, fits_area, group_len, group_then, groups_within, reading, records_at}

-- what an open group adds, by its length and its records
abbrev pub step : Bool → Bool → Result Records ℕ → Records → Records → Records
step shown fits records front behind = cond shown (cond fits (group_front records front behind) []) []

step_whole : (o f : Bool) (at : ℕ) (r : Result Records ℕ) (behind : Reading) (front more : Records) (groups : List Group) (gate : ℕ) → cond o (cond f (group_then at r behind) (BadGroup at)) (Whole [] at) ≡ Whole groups gate
    → ((others : List Group) (end : ℕ) → behind ≡ Whole others end → more ≡ flat_map (λ (g : Group). g.records) others) → step o f r front more ≡ flat_map (λ (g : Group). g.records) groups
step_whole false f at r behind front more groups gate e behind_is = let none : [] ≡ groups = cc in ap (flat_map (λ (g : Group). g.records)) none
step_whole true false at r behind front more groups gate e behind_is = absurd (cc)
step_whole true true at (Err place) behind front more groups gate e behind_is = absurd (cc)
step_whole true true at (Ok rs) (BadGroup place) front more groups gate e behind_is = absurd (cc)
step_whole true true at (Ok rs) (NoRecord place) front more groups gate e behind_is = absurd (cc)
step_whole true true at (Ok rs) (Whole others end) front more groups gate e behind_is =
    let all : record { at = at; records = rs } ∷ others ≡ groups = cc in
    ap (λ (l : Records). rs ++ l) (behind_is others end refl) ∙ ap (flat_map (λ (g : Group). g.records)) all

within_whole : (n at : ℕ) (bytes : List ℕ) (groups : List Group) (gate : ℕ) → groups_within n at bytes ≡ Whole groups gate → fronts_within n at bytes ≡ flat_map (λ (g : Group). g.records) groups
unfolding groups_within fronts_within
within_whole zero at bytes groups gate e = let none : [] ≡ groups = cc in ap (flat_map (λ (g : Group). g.records)) none
within_whole (suc n) at bytes groups gate e =
    let len : ℕ = group_len bytes in
    step_whole (is_open 0 bytes) (fits_area at len) at (records_at (at + 5) (take len (drop 5 bytes))) (groups_within n (at + 5 + len) (drop (5 + len) bytes)) (front_at (at + 5) (take len (drop 5 bytes))) (fronts_within n (at + 5 + len) (drop (5 + len) bytes)) groups gate e
    (λ others end is. within_whole n (at + 5 + len) (drop (5 + len) bytes) others end is)

-- they are all records
pub whole_front : (start : ℕ) (bytes : List ℕ) (groups : List Group) (gate : ℕ) → reading start bytes ≡ Whole groups gate → front start bytes ≡ flat_map (λ (g : Group). g.records) groups
unfolding reading front
whole_front start bytes groups gate e = within_whole (length (drop start bytes)) start (drop start bytes) groups gate e
