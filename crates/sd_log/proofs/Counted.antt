-- The groups stand one behind the other, and each record is one of the grammar. It serves the goals of log.rt.
use Rattle.std.proofs.Common.{◌≡◌, inl, inr, ℕ, zero, suc, ◌+◌, ◌<◌, ◌≤◌, Bool, true, false, List, [], ◌∷◌, ◌++◌, length, take, drop, refl, sym, ap, ◌∙◌, subst, arith, length-append}
use Rattle.std.specs.Prelude.{map}
use Rattle.std.specs.List.{AllByRecursion}
use Rattle.std.proofs.lemmas.List.{append-nil, length-take}
use Rattle.std.proofs.lemmas.List.Elements.{All-append, All-from_recursion, All-nil}
use Rattle.sd_base.specs.Twin.{is_open}
use Rattle.sd_logrec.specs.declared.record.Record.{Record}
use Rattle.sd_logrec.specs.Kept.{Group, Records, Whole, fits_area, group_len, groups_within, placed_from, records_at, spelled}
use Rattle.sd_logrec.specs.Spelling.{HasSpelling, spelling}
use Rattle.sd_logrec.proofs.Formats.{IsBytes, IsBytes-drop, IsBytes-take}
use Rattle.sd_logrec.proofs.Groups.{step_of}
use Rattle.sd_log.specs.declared.log.Log.TheInside.{Inside}
use Rattle.sd_log.specs.declared.placed.Placed.{Placed}
use Rattle.sd_log.specs.Buffers.{BufferState}
use Rattle.sd_log.specs.WrittenStates.{WrittenState, all_in, closed}
use Rattle.sd_log.specs.LogInside.{IsLog, log_view}
use Rattle.sd_log.specs.Logs.{AreForced, ArePlaced, AreSpelled, placed, placed_groups, placed_tail, scanned}
use Rattle.sd_log.specs.ByPage.{changed_pages}
use Rattle.sd_log.proofs.Changes.{pages-closed}
use Rattle.sd_log.proofs.Parted.{placed_groups-more}
use Rattle.sd_log.specs.Parts.{record_of, text_of}
use Rattle.sd_log.specs.Spellings.{record_in}
use Rattle.sd_log.proofs.Places.{first_place, placed_bytes, placed_more}
use Rattle.sd_log.proofs.Spelled.{within_text}
use Rattle.sd_log.proofs.Spelling.{records_placed}
use Rattle.sd_log.proofs.Tails.{least_bytes, least_text, no_text}

-- ---- records of a tail

length-placed : (is_forced : Bool) (at : ℕ) (rs : List Record) → length (map (placed is_forced) (placed_from at rs)) ≡ length rs
length-placed is_forced at [] = refl
length-placed is_forced at (r ∷ rs) = ap suc (length-placed is_forced (at + length (spelling r)) rs)

each_placed : (is_forced : Bool) (at : ℕ) (rs : List Record) → AllByRecursion HasSpelling rs → AllByRecursion (λ (p : Placed). HasSpelling p.rec) (map (placed is_forced) (placed_from at rs))
each_placed is_forced at [] h = tt
each_placed is_forced at (r ∷ rs) h = (h.0, each_placed is_forced (at + length (spelling r)) rs h.1)

placed_spelled : (is_forced : Bool) (at : ℕ) (rs : List Record) → AllByRecursion HasSpelling rs → AreSpelled (map (placed is_forced) (placed_from at rs))
placed_spelled is_forced at rs h = All-from_recursion (λ (p : Placed). HasSpelling p.rec) (map (placed is_forced) (placed_from at rs)) (each_placed is_forced at rs h)

-- ---- forced records

pub forced_none : (at : ℕ) → AreForced at at []
forced_none at = record { places = refl; spelled = All-nil (λ (p : Placed). HasSpelling p.rec) }

-- a tail that becomes a group
pub forced_more : (start gate len : ℕ) (groups : List Group) (tail : List Record) → AreForced start gate groups → AllByRecursion HasSpelling tail → len ≡ length (spelled tail)
    → AreForced start (gate + 5 + len) (groups ++ record { at = gate; records = placed_from (gate + 5) tail } ∷ [])
forced_more start gate len groups tail h fits size =
    let group : Group = record { at = gate; records = placed_from (gate + 5) tail } in
    let more : List Placed = map (placed true) (placed_from (gate + 5) tail) in
    let text : length (spelled (map record_in (placed_from (gate + 5) tail))) ≡ len =
    ap (λ (rs : List Record). length (spelled rs)) (records_placed (gate + 5) tail) ∙ sym size in
    record {
      places = placed_more start gate (gate + 5 + len) groups group h.places refl (omega arith);
      spelled = subst AreSpelled (sym (placed_groups-more groups group))
          (All-append (λ (p : Placed). HasSpelling p.rec) (placed_groups groups) more h.spelled (placed_spelled true (gate + 5) tail fits));
    }

-- what forcing makes of the parts
pub record Closes (l : Inside) (len : ℕ) (written : WrittenState) (buffer : BufferState) : Type 0 where
  pub written_is : written ≡ closed len l.written
  pub len_is : len ≡ length (spelled l.written.tail)
  pub some : 0 < len
  pub room : l.buffer.room ≤ buffer.room

pub closed_log : (l : Inside) (len : ℕ) (written : WrittenState) (buffer : BufferState)
    → IsLog l → Closes l len written buffer
    → IsLog (record { inst = l.inst; written = written; pages = l.pages; buffer = buffer; spare = l.spare })
closed_log l len written buffer h p =
    let some = p.some in
    let size = p.len_is in
    let fits = h.fits (omega arith) in
    let room = p.room in
    let gate : written.gate ≡ l.written.gate + 5 + len = ap (λ (w : WrittenState). w.gate) p.written_is in
    let records : written.room ≡ l.written.room = ap (λ (w : WrittenState). w.room) p.written_is in
    let text : written.text ≡ l.written.text = ap (λ (w : WrittenState). w.text) p.written_is in
    let none : length (spelled written.tail) ≡ 0 = ap (λ (w : WrittenState). length (spelled w.tail)) p.written_is in
    let spare_text = h.spare_text in
    let spare_buffer = h.spare_buffer in
    let spare_records = h.spare_records in
    record {
      spelled_ones = subst (λ (w : WrittenState). AllByRecursion HasSpelling w.tail) (sym p.written_is) tt;
      forced_are = subst (λ (w : WrittenState). AreForced w.start w.gate w.groups) (sym p.written_is)
          (forced_more l.written.start l.written.gate len l.written.groups l.written.tail h.forced_are h.spelled_ones size);
      gate_within = omega arith;
      fits = λ more. absurd (omega arith);
      spare_small = h.spare_small;
      spare_text = omega arith;
      spare_buffer = omega arith;
      spare_records = omega arith;
      spare_pages = h.spare_pages;
      chains_are = h.chains_are ∙ pages-closed len l.written ∙ ap (λ (w : WrittenState). changed_pages (all_in w)) (sym p.written_is);
    }

-- ---- groups that are read

read_placed : (n at : ℕ) (bytes : List ℕ) (groups : List Group) (gate : ℕ) → IsBytes bytes → groups_within n at bytes ≡ Whole groups gate → ArePlaced at gate groups
unfolding groups_within
read_placed zero at bytes groups gate are e =
    let none : groups ≡ [] = cc in
    let here : at ≡ gate = cc in
    subst (ArePlaced at gate) (sym none) here
read_placed (suc n) at bytes groups gate are e =
    let len : ℕ = group_len bytes in
    let body : List ℕ = take len (drop 5 bytes) in
    elim (step_of (is_open 0 bytes) (fits_area at len) at (records_at (at + 5) body) (groups_within n (at + 5 + len) (drop (5 + len) bytes)) groups gate e) [
      | inl h ↦ subst (ArePlaced at gate) (sym h.1) (sym h.2)
      | inr h ↦
          let more = read_placed n (at + 5 + len) (drop (5 + len) bytes) h.1 gate (IsBytes-drop (5 + len) bytes are) h.5 in
          let place = first_place (at + 5 + len) gate h.1 more in
          let first : length (spelled (map record_in h.0)) ≡ length body =
          within_text (length body) (at + 5) body h.0 (IsBytes-take len (drop 5 bytes) (IsBytes-drop 5 bytes are)) h.4 in
          subst (ArePlaced at gate) (sym h.6) (
            refl,
            omega (arith, place, first, length-take len (drop 5 bytes)),
            subst (λ n. ArePlaced n gate h.1) (sym place) more,
          )
    ]

-- the bytes of all records lie between them
pub read_within : (n at : ℕ) (bytes : List ℕ) (groups : List Group) (gate : ℕ) → IsBytes bytes → groups_within n at bytes ≡ Whole groups gate
    → at + length (text_of groups) ≤ gate
unfolding groups_within
read_within zero at bytes groups gate are e =
    let none : groups ≡ [] = cc in
    let here : gate ≡ at = cc in
    omega (arith, ap (λ (gs : List Group). length (text_of gs)) none)
read_within (suc n) at bytes groups gate are e =
    let len : ℕ = group_len bytes in
    let body : List ℕ = take len (drop 5 bytes) in
    elim (step_of (is_open 0 bytes) (fits_area at len) at (records_at (at + 5) body) (groups_within n (at + 5 + len) (drop (5 + len) bytes)) groups gate e) [
      | inl h ↦ omega (arith, h.2, ap (λ (gs : List Group). length (text_of gs)) h.1)
      | inr h ↦
          let more = read_within n (at + 5 + len) (drop (5 + len) bytes) h.1 gate (IsBytes-drop (5 + len) bytes are) h.5 in
          let first : length (spelled (map record_in h.0)) ≡ length body =
          within_text (length body) (at + 5) body h.0 (IsBytes-take len (drop 5 bytes) (IsBytes-drop 5 bytes are)) h.4 in
          let all : length (text_of groups) ≡ length (spelled (map record_in h.0)) + length (text_of h.1) =
          ap (λ (gs : List Group). length (text_of gs)) h.6 ∙ spelled_both h.0 (placed_groups h.1) in
          omega (arith, more, first, all, length-take len (drop 5 bytes))
    ]
  where
    -- forced records in front of others
    spelled_both : (rs : Records) (ps : List Placed)
        → length (spelled (map record_of (map (placed true) rs ++ ps))) ≡ length (spelled (map record_in rs)) + length (spelled (map record_of ps))
    spelled_both [] ps = omega arith
    spelled_both (r ∷ rs) ps =
        omega (arith, spelled_both rs ps, length-append (spelling r.1) (spelled (map record_of (map (placed true) rs ++ ps))), length-append (spelling r.1) (spelled (map record_in rs)))

pub read_forced : (start gate : ℕ) (bytes : List ℕ) (groups : List Group) (tail : List Record) → IsBytes bytes → groups_within (length bytes) start bytes ≡ Whole groups gate → tail ≡ []
    → AreSpelled (placed_groups groups ++ placed_tail gate tail) → AreForced start gate groups
read_forced start gate bytes groups tail are e none spelled_ones = record {
  places = read_placed (length bytes) start bytes groups gate are e;
  spelled = subst AreSpelled (append-nil (placed_groups groups)) (subst (λ (rs : List Record). AreSpelled (placed_groups groups ++ placed_tail gate rs)) none spelled_ones);
}

-- ---- what every log keeps

pub tail_fits : (l : Inside) → IsLog l → (l.written.tail ≡ [] → ⊥) → l.written.gate + 5 + length (spelled l.written.tail) + 1 ≤ 1048576
tail_fits l h some =
    let least = least_text l.written.tail (λ none. some (no_text l.written.tail none)) in
    let fits = h.fits (omega arith) in
    omega arith

pub all_spelled : (l : Inside) → IsLog l → AreSpelled (scanned (log_view l))
all_spelled l h = All-append (λ (p : Placed). HasSpelling p.rec) (placed_groups l.written.groups) (placed_tail l.written.gate l.written.tail) h.forced_are.spelled (placed_spelled false (l.written.gate + 5) l.written.tail h.spelled_ones)

few_of : (start gate : ℕ) (groups : List Group) (tail : List Record) → AreForced start gate groups → gate < 1048576 → ((tail ≡ [] → ⊥) → gate + 5 + length (spelled tail) + 1 ≤ 1048576)
    → length (placed_groups groups ++ placed_tail gate tail) ≤ 116508
few_of start gate groups [] h within fits = let bytes = placed_bytes start gate groups h.places in omega (arith, length-append (placed_groups groups) (placed_tail gate []))
few_of start gate groups (r ∷ rs) h within fits =
    let bytes = placed_bytes start gate groups h.places in
    let room = fits (λ none. cc) in
    omega (arith, room, length-append (placed_groups groups) (placed_tail gate (r ∷ rs)), length-placed false (gate + 5) (r ∷ rs), least_bytes (r ∷ rs))

pub few_records : (l : Inside) → IsLog l → length (scanned (log_view l)) ≤ 116508
few_records l h = few_of l.written.start l.written.gate l.written.groups l.written.tail h.forced_are h.gate_within (tail_fits l h)

pub few_read : (start gate : ℕ) (bytes : List ℕ) (groups : List Group) (tail : List Record) → IsBytes bytes → groups_within (length bytes) start bytes ≡ Whole groups gate → tail ≡ [] → gate < 1048576
    → AreSpelled (placed_groups groups ++ placed_tail gate tail) → length (placed_groups groups ++ placed_tail gate tail) ≤ 116508
few_read start gate bytes groups tail are e none within fits = few_of start gate groups tail (read_forced start gate bytes groups tail are e none fits) within (λ some. absurd (some none))
