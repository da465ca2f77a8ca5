-- Records and groups read one after the other, as the loops do. It serves the goals of reading.rt.
use Rattle.std.proofs.Common.{◌≡◌, inl, inr, ℕ, zero, suc, ◌+◌, ◌-◌, ◌<◌, ◌≤◌, true, false, cond, List, [], ◌∷◌, ◌++◌, length, take, drop, get_or, refl, sym, ap, ◌∙◌, subst, arith, append_assoc, length-drop}
use Rattle.std.specs.Prelude.{map, slice_range, IfOk, Result, Ok, Err, Some, None}
use Rattle.std.proofs.Math.ListN.{drop_of_length-le}
use Rattle.std.proofs.Math.Seq.{take-add}
use Rattle.std.specs.List.{flat_map}
use Rattle.std.proofs.lemmas.Grind.{flat_map-append}
use Rattle.std.proofs.lemmas.List.{append-nil, drop-drop, drop-take, get_or-drop, length-take-le, map-append, take_all, take_at}
use Rattle.sd_logrec.specs.declared.record.Record.{Record}
use Rattle.sd_base.specs.Twin.{is_open}
use Rattle.sd_base.specs.declared.refusal.Refusal.{Refusal}
use Rattle.sd_base.specs.declared.refusal.Refusal.TheVariants as R
use Rattle.sd_logrec.specs.Kept.{BadGroup, Group, NoRecord, Reading, Records, Whole, area, fits_area, group_before, group_len, group_then, groups_within, placed_from, reading, record_before, record_then, records_at, records_within, spelled}
use Rattle.sd_logrec.specs.Fronts.{front, front_at, front_then, front_within, fronts_within}
use Rattle.sd_logrec.specs.Reading.{record_at}
use Rattle.sd_logrec.specs.Spelling.{HasSpelling, spelling}
use Rattle.sd_logrec.proofs.Records.{record_again}
use Rattle.sd_logrec.proofs.Groups.{opened, read_nothing, shut}
use Rattle.sd_base.specs.declared.refusal.Memory.{Memory}
use Rattle.sd_log.specs.declared.area.Area.{Area}
use Rattle.sd_log.specs.declared.area.Area.TheVariants as areas
use Rattle.sd_log.specs.Areas.{Breaks, IfBroken, IsAt}
use Rattle.sd_log.specs.JournalStates.{JournalState}
use Rattle.sd_log.specs.Readings.{AddsFront, AddsGroup, AddsRecords, entries}
use Rattle.sd_log.proofs.Items.{records_of-items}
use Rattle.sd_log.proofs.Spelling.{records_placed}
use Rattle.sd_log.proofs.Fronts.{entries_are, front_bad_length, front_one, front_opened, front_shut}
use Rattle.sd_log.specs.declared.placed.Placed.{Placed}
use Rattle.sd_log.specs.Logs.{placed, placed_groups}
use Rattle.sd_log.specs.Parts.{record_of, text_of}
use Rattle.sd_log.proofs.Parted.{placed_from-more, placed_groups-more, spelled-more}
use Rattle.sd_log.proofs.Tails.{least_spelling}

-- records in front of those that are read behind them
abbrev pub with_front : Records → Result Records ℕ → Result Records ℕ
with_front front (Ok rs) = Ok (front ++ rs)
with_front front (Err place) = Err place

front_none : (read : Result Records ℕ) → with_front [] read ≡ read
front_none (Ok rs) = refl
front_none (Err place) = refl

front_more : (front : Records) (p : ℕ) (r : Record) (read : Result Records ℕ) → with_front front (record_before p r read) ≡ with_front (front ++ (p, r) ∷ []) read
front_more front p r (Ok rs) = ap (λ (l : Records). Ok l) (sym (append_assoc front ((p, r) ∷ []) rs))
front_more front p r (Err place) = refl

-- How far a body is read: the records of the tail stand up to there, and those behind it are still to be read.
pub record ReadsTo (body : List ℕ) (at : ℕ) (old now : JournalState) : Type 0 where
  pub within : at ≤ length body
  pub start : now.start ≡ old.start
  pub gate : now.gate ≡ old.gate
  pub groups : now.groups ≡ old.groups
  pub text : spelled now.tail ≡ take at body
  pub fuel : ℕ
  pub enough : length (drop at body) ≤ fuel
  pub read : with_front (placed_from (old.gate + 5) now.tail) (records_within fuel (old.gate + 5 + at) (drop at body)) ≡ records_at (old.gate + 5) body
  pub front : placed_from (old.gate + 5) now.tail ++ front_within fuel (old.gate + 5 + at) (drop at body) ≡ front_at (old.gate + 5) body

pub reads_none : (body : List ℕ) (old : JournalState) → old.tail ≡ [] → ReadsTo body 0 old old
reads_none body old none = record {
  within = omega arith;
  start = refl;
  gate = refl;
  groups = refl;
  text = ap spelled none;
  fuel = length body;
  enough = omega arith;
  read = let place : old.gate + 5 + 0 ≡ old.gate + 5 = omega arith in ap (λ (t : List Record). with_front (placed_from (old.gate + 5) t) (records_within (length body) (old.gate + 5 + 0) body)) none ∙ front_none _ ∙ ap (λ p. records_within (length body) p body) place;
  front = let place : old.gate + 5 + 0 ≡ old.gate + 5 = omega arith in ap (λ (t : List Record). placed_from (old.gate + 5) t ++ front_within (length body) (old.gate + 5 + 0) body) none ∙ ap (λ p. front_within (length body) p body) place;
}

above : (k : ℕ) → 0 < k → (j : ℕ) × (k ≡ suc j)
above zero h = absurd (omega arith)
above (suc j) h = (j, refl)

one_step : (n p : ℕ) (bytes : List ℕ) → 0 < length bytes → records_within (suc n) p bytes ≡ record_then p (record_at bytes) (records_within n)
unfolding records_within
one_step n p [] h = absurd (omega arith)
one_step n p (b ∷ bytes) h = refl

no_step : (n p : ℕ) → records_within n p [] ≡ Ok []
unfolding records_within
no_step zero p = refl
no_step (suc n) p = refl

-- one more record behind the first bytes
taken_more : (body : List ℕ) (at next : ℕ) (r : Record) → drop at body ≡ spelling r ++ drop next body → next ≡ at + length (spelling r) → take next body ≡ take at body ++ spelling r
taken_more body at next r stands place =
    ap (λ n. take n body) place ∙ take-add at (length (spelling r)) body
    ∙ ap (λ (l : List ℕ). take at body ++ l) (ap (take (length (spelling r))) stands ∙ take_at (spelling r) (drop next body) (length (spelling r)) refl)

pub reads_one : (body : List ℕ) (at next room : ℕ) (r : Record) (old now : JournalState) → ReadsTo body at old now → HasSpelling r → drop at body ≡ spelling r ++ drop next body → next ≡ at + length (spelling r) → next ≤ length body
    → ReadsTo body next old (record { start = now.start; gate = now.gate; groups = now.groups; tail = now.tail ++ r ∷ []; room = room })
reads_one body at next room r old now h fits stands place within =
    let some = least_spelling r in
    let enough = h.enough in
    let less = above h.fuel (omega (arith, length-drop at body)) in
    let g : ℕ = old.gate + 5 in
    let front : Records = placed_from g now.tail in
    let size : length (spelled now.tail) ≡ at = ap length h.text ∙ length-take-le at body h.within in
    let found : record_at (drop at body) ≡ Some (r, drop next body) = ap record_at stands ∙ record_again r (drop next body) fits in
    let behind : g + at + length (spelling r) ≡ g + next = omega arith in
    let step : records_within h.fuel (g + at) (drop at body) ≡ record_before (g + at) r (records_within less.0 (g + next) (drop next body)) =
    ap (λ k. records_within k (g + at) (drop at body)) less.1 ∙ one_step less.0 (g + at) (drop at body) (omega (arith, length-drop at body)) ∙ ap (λ x. record_then (g + at) x (records_within less.0)) found
    ∙ ap (λ p. record_before (g + at) r (records_within less.0 p (drop next body))) behind in
    let ahead : front_within h.fuel (g + at) (drop at body) ≡ (g + at, r) ∷ front_within less.0 (g + next) (drop next body) =
    ap (λ k. front_within k (g + at) (drop at body)) less.1 ∙ front_one less.0 (g + at) (drop at body) (omega (arith, length-drop at body)) ∙ ap (λ x. front_then (g + at) x (front_within less.0)) found
    ∙ ap (λ p. (g + at, r) ∷ front_within less.0 p (drop next body)) behind in
    let longer : placed_from g (now.tail ++ r ∷ []) ≡ front ++ (g + at, r) ∷ [] = placed_from-more g now.tail r ∙ ap (λ n. front ++ (g + n, r) ∷ []) size in
    record {
      within = within;
      start = h.start;
      gate = h.gate;
      groups = h.groups;
      text = spelled-more now.tail r ∙ ap (λ (l : List ℕ). l ++ spelling r) h.text ∙ sym (taken_more body at next r stands place);
      fuel = less.0;
      enough = omega (arith, less.1, length-drop at body, length-drop next body);
      read = ap (λ (l : Records). with_front l (records_within less.0 (g + next) (drop next body))) longer ∙ sym (front_more front (g + at) r (records_within less.0 (g + next) (drop next body))) ∙ sym (ap (with_front front) step) ∙ h.read;
      front = ap (λ (l : Records). l ++ front_within less.0 (g + next) (drop next body)) longer ∙ append_assoc front ((g + at, r) ∷ []) (front_within less.0 (g + next) (drop next body)) ∙ sym (ap (λ (l : Records). front ++ l) ahead) ∙ h.front;
    }

pub reads_bad : (body : List ℕ) (at : ℕ) (old now : JournalState) → ReadsTo body at old now → at < length body → ((i : ℕ) → get_or body i 0 < 256) → ((r : Record) (rest : List ℕ) → HasSpelling r → drop at body ≡ spelling r ++ rest → ⊥)
    → records_at (old.gate + 5) body ≡ Err (old.gate + 5 + at)
reads_bad body at old now h lt are none =
    let enough = h.enough in
    let less = above h.fuel (omega (arith, length-drop at body)) in
    let p : ℕ = old.gate + 5 + at in
    let nothing : record_at (drop at body) ≡ None = read_nothing (drop at body) (λ i. subst (λ x. x < 256) (sym (get_or-drop at body i 0)) (are (at + i))) none in
    sym h.read ∙ ap (λ k. with_front (placed_from (old.gate + 5) now.tail) (records_within k p (drop at body))) less.1
    ∙ ap (with_front (placed_from (old.gate + 5) now.tail)) (one_step less.0 p (drop at body) (omega (arith, length-drop at body)) ∙ ap (λ x. record_then p x (records_within less.0)) nothing)

pub reads_front : (body : List ℕ) (at : ℕ) (old now : JournalState) → ReadsTo body at old now → at < length body → ((i : ℕ) → get_or body i 0 < 256) → ((r : Record) (rest : List ℕ) → HasSpelling r → drop at body ≡ spelling r ++ rest → ⊥)
    → AddsFront (front_at (old.gate + 5) body) old now
reads_front body at old now h lt are none =
    let enough = h.enough in
    let less = above h.fuel (omega (arith, length-drop at body)) in
    let p : ℕ = old.gate + 5 + at in
    let nothing : record_at (drop at body) ≡ None = read_nothing (drop at body) (λ i. subst (λ x. x < 256) (sym (get_or-drop at body i 0)) (are (at + i))) none in
    let ahead : front_within h.fuel p (drop at body) ≡ [] = ap (λ k. front_within k p (drop at body)) less.1 ∙ front_one less.0 p (drop at body) (omega (arith, length-drop at body)) ∙ ap (λ x. front_then p x (front_within less.0)) nothing in
    record {
      gate = h.gate;
      groups = h.groups;
      records = sym (append-nil (placed_from (old.gate + 5) now.tail)) ∙ sym (ap (λ (l : Records). placed_from (old.gate + 5) now.tail ++ l) ahead) ∙ h.front;
    }

pub reads_all : (body : List ℕ) (at : ℕ) (old now : JournalState) → ReadsTo body at old now → length body ≤ at → AddsRecords (records_at (old.gate + 5) body) body old now
reads_all body at old now h le =
    let end : drop at body ≡ [] = drop_of_length-le body {i = at} le in
    record {
      start = h.start;
      gate = h.gate;
      groups = h.groups;
      text_is = h.text ∙ take_all at body le;
      records = sym h.read ∙ ap (λ (l : List ℕ). with_front (placed_from (old.gate + 5) now.tail) (records_within h.fuel (old.gate + 5 + at) l)) end
          ∙ ap (with_front (placed_from (old.gate + 5) now.tail)) (no_step h.fuel (old.gate + 5 + at)) ∙ ap (λ (l : Records). Ok l) (append-nil (placed_from (old.gate + 5) now.tail));
    }

-- ---- groups

-- groups in front of what is read behind them
abbrev pub groups_before : List Group → Reading → Reading
groups_before [] r = r
groups_before (g ∷ gs) r = group_before g (groups_before gs r)

before_one : (gs : List Group) (g : Group) (r : Reading) → groups_before gs (group_before g r) ≡ groups_before (gs ++ g ∷ []) r
before_one [] g r = refl
before_one (x ∷ gs) g r = ap (group_before x) (before_one gs g r)

before_whole : (gs : List Group) (gate : ℕ) → groups_before gs (Whole [] gate) ≡ Whole gs gate
before_whole [] gate = refl
before_whole (g ∷ gs) gate = ap (group_before g) (before_whole gs gate)

before_bad : (gs : List Group) (at : ℕ) → groups_before gs (BadGroup at) ≡ BadGroup at
before_bad [] at = refl
before_bad (g ∷ gs) at = ap (group_before g) (before_bad gs at)

before_none : (gs : List Group) (at : ℕ) → groups_before gs (NoRecord at) ≡ NoRecord at
before_none [] at = refl
before_none (g ∷ gs) at = ap (group_before g) (before_none gs at)

-- an open gate, and what is amiss behind it
bad_length : (n at : ℕ) (bytes : List ℕ) → is_open 0 bytes ≡ true → fits_area at (group_len bytes) ≡ false → groups_within (suc n) at bytes ≡ BadGroup at
unfolding groups_within
bad_length n at bytes shown bad =
    ap (λ b. cond b (cond (fits_area at (group_len bytes)) (group_then at (records_at (at + 5) (take (group_len bytes) (drop 5 bytes))) (groups_within n (at + 5 + group_len bytes) (drop (5 + group_len bytes) bytes))) (BadGroup at)) (Whole [] at)) shown
    ∙ ap (λ b. cond b (group_then at (records_at (at + 5) (take (group_len bytes) (drop 5 bytes))) (groups_within n (at + 5 + group_len bytes) (drop (5 + group_len bytes) bytes))) (BadGroup at)) bad

bad_body : (n at len : ℕ) (bytes : List ℕ) (place : ℕ) → is_open 0 bytes ≡ true → group_len bytes ≡ len → fits_area at len ≡ true → records_at (at + 5) (take len (drop 5 bytes)) ≡ Err place → groups_within (suc n) at bytes ≡ NoRecord place
unfolding groups_within
bad_body n at len bytes place shown long fits bad =
    ap (λ b. cond b (cond (fits_area at (group_len bytes)) (group_then at (records_at (at + 5) (take (group_len bytes) (drop 5 bytes))) (groups_within n (at + 5 + group_len bytes) (drop (5 + group_len bytes) bytes))) (BadGroup at)) (Whole [] at)) shown
    ∙ ap (λ m. cond (fits_area at m) (group_then at (records_at (at + 5) (take m (drop 5 bytes))) (groups_within n (at + 5 + m) (drop (5 + m) bytes))) (BadGroup at)) long
    ∙ ap (λ b. cond b (group_then at (records_at (at + 5) (take len (drop 5 bytes))) (groups_within n (at + 5 + len) (drop (5 + len) bytes))) (BadGroup at)) fits
    ∙ ap (λ q. group_then at q (groups_within n (at + 5 + len) (drop (5 + len) bytes))) bad

abbrev pub records_of : List Group → Records
records_of groups = flat_map (λ g. g.records) groups

-- How far an area is read: the journal has the groups up to its gate, and those behind it are still to be read.
pub record ReadsOn (bytes rest : List ℕ) (old now : JournalState) : Type 0 where
  pub place : now.gate + length rest ≡ 1048576
  pub some : 0 < length rest
  pub tail : now.tail ≡ []
  pub start : now.start ≡ old.start
  pub fuel : ℕ
  pub enough : length rest ≤ fuel
  pub read : groups_before now.groups (groups_within fuel now.gate rest) ≡ groups_within (length bytes) old.gate bytes
  pub front : records_of now.groups ++ fronts_within fuel now.gate rest ≡ fronts_within (length bytes) old.gate bytes

records_of-more : (gs : List Group) (g : Group) → records_of (gs ++ g ∷ []) ≡ records_of gs ++ g.records
records_of-more gs g = flat_map-append (λ (x : Group). x.records) gs (g ∷ []) ∙ ap (λ (l : Records). records_of gs ++ l) (append-nil g.records)

pub reads_first : (bytes : List ℕ) (old : JournalState) → old.gate + length bytes ≡ 1048576 → 0 < length bytes → old.groups ≡ [] → old.tail ≡ [] → ReadsOn bytes bytes old old
reads_first bytes old place some groups tail = record {
  place = place;
  some = some;
  tail = tail;
  start = refl;
  fuel = length bytes;
  enough = omega arith;
  read = ap (λ (gs : List Group). groups_before gs (groups_within (length bytes) old.gate bytes)) groups;
  front = ap (λ (gs : List Group). records_of gs ++ fronts_within (length bytes) old.gate bytes) groups;
}

pub reads_group : (bytes rest behind body : List ℕ) (len : ℕ) (old now new : JournalState) → ReadsOn bytes rest old now → is_open 0 rest ≡ true → group_len rest ≡ len → fits_area now.gate len ≡ true → body ≡ take len (drop 5 rest) → behind ≡ drop (5 + len) rest
    → 5 + len + 1 ≤ length rest → AddsGroup (records_at (now.gate + 5) body) body now new → ReadsOn bytes behind old new
reads_group bytes rest behind body len old now new h shown long fits body_is behind_is within adds =
    let enough = h.enough in
    let place = h.place in
    let long_is : length body ≡ len = ap length body_is ∙ length-take-le len (drop 5 rest) (omega (arith, length-drop 5 rest)) in
    let gate : new.gate ≡ now.gate + 5 + len = adds.gate ∙ ap (λ n. now.gate + 5 + n) long_is in
    let less = above h.fuel (omega arith) in
    let size : length behind ≡ length rest - (5 + len) = ap length behind_is ∙ length-drop (5 + len) rest in
    let g : Group = record { at = now.gate; records = placed_from (now.gate + 5) adds.rs } in
    let step : groups_within h.fuel now.gate rest ≡ group_before g (groups_within less.0 new.gate behind) =
    ap (λ k. groups_within k now.gate rest) less.1 ∙ opened less.0 now.gate rest len (placed_from (now.gate + 5) adds.rs) shown long fits (ap (records_at (now.gate + 5)) (sym body_is) ∙ adds.records)
    ∙ ap (λ p. group_before g (groups_within less.0 p (drop (5 + len) rest))) (sym gate) ∙ ap (λ (l : List ℕ). group_before g (groups_within less.0 new.gate l)) (sym behind_is) in
    let ahead : fronts_within h.fuel now.gate rest ≡ g.records ++ fronts_within less.0 new.gate behind =
    ap (λ k. fronts_within k now.gate rest) less.1 ∙ front_opened less.0 now.gate len rest (Ok g.records) shown long fits (ap (records_at (now.gate + 5)) (sym body_is) ∙ adds.records)
    ∙ ap (λ p. g.records ++ fronts_within less.0 p (drop (5 + len) rest)) (sym gate) ∙ ap (λ (l : List ℕ). g.records ++ fronts_within less.0 new.gate l) (sym behind_is) in
    let more : records_of new.groups ≡ records_of now.groups ++ g.records = ap records_of adds.groups ∙ records_of-more now.groups g in
    record {
      place = omega arith;
      some = omega arith;
      tail = adds.tail;
      start = adds.start ∙ h.start;
      fuel = less.0;
      enough = omega (arith, less.1);
      read = ap (λ (gs : List Group). groups_before gs (groups_within less.0 new.gate behind)) adds.groups ∙ sym (before_one now.groups g (groups_within less.0 new.gate behind)) ∙ ap (groups_before now.groups) (sym step) ∙ h.read;
      front = ap (λ (l : Records). l ++ fronts_within less.0 new.gate behind) more ∙ append_assoc (records_of now.groups) g.records (fronts_within less.0 new.gate behind) ∙ sym (ap (λ (l : Records). records_of now.groups ++ l) ahead) ∙ h.front;
    }

-- and its bytes come behind those of the groups before
pub text_group : (body text : List ℕ) (now new : JournalState) → AddsGroup (records_at (now.gate + 5) body) body now new → text ≡ text_of now.groups → text ++ body ≡ text_of new.groups
text_group body text now new adds is =
    let rs : Records = placed_from (now.gate + 5) adds.rs in
    let more : List ℕ = spelled (map record_of (map (placed true) rs)) in
    let all : text_of new.groups ≡ text_of now.groups ++ more =
    ap text_of adds.groups ∙ ap (λ (ps : List Placed). spelled (map record_of ps)) (placed_groups-more now.groups (record { at = now.gate; records = rs }))
    ∙ ap spelled (map-append record_of (placed_groups now.groups) (map (placed true) rs))
    ∙ flat_map-append spelling (map record_of (placed_groups now.groups)) (map record_of (map (placed true) rs)) in
    ap (λ (l : List ℕ). l ++ body) is ∙ ap (λ (l : List ℕ). text_of now.groups ++ l) (sym adds.text_is ∙ sym (ap spelled (records_of-items true rs ∙ records_placed (now.gate + 5) adds.rs))) ∙ sym all

pub reads_to_gate : (bytes rest : List ℕ) (old now : JournalState) → ReadsOn bytes rest old now → is_open 0 rest ≡ false → groups_within (length bytes) old.gate bytes ≡ Whole now.groups now.gate
reads_to_gate bytes rest old now h closed = sym h.read ∙ ap (groups_before now.groups) (shut h.fuel now.gate rest closed) ∙ before_whole now.groups now.gate

pub reads_bad_length : (bytes rest : List ℕ) (old now : JournalState) → ReadsOn bytes rest old now → is_open 0 rest ≡ true → fits_area now.gate (group_len rest) ≡ false → groups_within (length bytes) old.gate bytes ≡ BadGroup now.gate
reads_bad_length bytes rest old now h shown bad =
    let enough = h.enough in
    let some = h.some in
    let less = above h.fuel (omega arith) in
    sym h.read ∙ ap (λ k. groups_before now.groups (groups_within k now.gate rest)) less.1 ∙ ap (groups_before now.groups) (bad_length less.0 now.gate rest shown bad) ∙ before_bad now.groups now.gate

pub reads_bad_body : (bytes rest body : List ℕ) (len place : ℕ) (old now : JournalState) → ReadsOn bytes rest old now → is_open 0 rest ≡ true → group_len rest ≡ len → fits_area now.gate len ≡ true → body ≡ take len (drop 5 rest)
    → records_at (now.gate + 5) body ≡ Err place → groups_within (length bytes) old.gate bytes ≡ NoRecord place
reads_bad_body bytes rest body len place old now h shown long fits body_is bad =
    let enough = h.enough in
    let some = h.some in
    let less = above h.fuel (omega arith) in
    sym h.read ∙ ap (λ k. groups_before now.groups (groups_within k now.gate rest)) less.1 ∙ ap (groups_before now.groups) (bad_body less.0 now.gate len rest place shown long fits (ap (records_at (now.gate + 5)) (sym body_is) ∙ bad)) ∙ before_none now.groups place

-- what the journal has then

no_tail : (now : JournalState) → now.tail ≡ [] → entries now ≡ records_of now.groups ++ []
no_tail now none = entries_are now ∙ ap (λ (t : List Record). records_of now.groups ++ placed_from (now.gate + 5) t) none

pub front_to_gate : (bytes rest : List ℕ) (old now : JournalState) → ReadsOn bytes rest old now → is_open 0 rest ≡ false → entries now ≡ fronts_within (length bytes) old.gate bytes
front_to_gate bytes rest old now h closed = no_tail now h.tail ∙ sym (ap (λ (l : Records). records_of now.groups ++ l) (front_shut h.fuel now.gate rest closed)) ∙ h.front

pub front_to_length : (bytes rest : List ℕ) (old now : JournalState) → ReadsOn bytes rest old now → fits_area now.gate (group_len rest) ≡ false → entries now ≡ fronts_within (length bytes) old.gate bytes
front_to_length bytes rest old now h bad =
    let enough = h.enough in
    let some = h.some in
    let less = above h.fuel (omega arith) in
    no_tail now h.tail ∙ sym (ap (λ (l : Records). records_of now.groups ++ l) (ap (λ k. fronts_within k now.gate rest) less.1 ∙ front_bad_length less.0 now.gate rest bad)) ∙ h.front

pub front_to_body : (bytes rest body : List ℕ) (len place : ℕ) (old now new : JournalState) → ReadsOn bytes rest old now → is_open 0 rest ≡ true → group_len rest ≡ len → fits_area now.gate len ≡ true → body ≡ take len (drop 5 rest)
    → records_at (now.gate + 5) body ≡ Err place → AddsFront (front_at (now.gate + 5) body) now new → entries new ≡ fronts_within (length bytes) old.gate bytes
front_to_body bytes rest body len place old now new h shown long fits body_is bad adds =
    let enough = h.enough in
    let some = h.some in
    let less = above h.fuel (omega arith) in
    let ahead : fronts_within h.fuel now.gate rest ≡ front_at (now.gate + 5) body =
    ap (λ k. fronts_within k now.gate rest) less.1 ∙ front_opened less.0 now.gate len rest (Err place) shown long fits (ap (records_at (now.gate + 5)) (sym body_is) ∙ bad) ∙ ap (front_at (now.gate + 5)) (sym body_is) in
    entries_are new ∙ ap (λ (gs : List Group). records_of gs ++ placed_from (new.gate + 5) new.tail) adds.groups ∙ ap (λ p. records_of now.groups ++ placed_from (p + 5) new.tail) adds.gate
    ∙ ap (λ (l : Records). records_of now.groups ++ l) (adds.records ∙ sym ahead) ∙ h.front

-- ---- an area that is read from its start place on

pub area_read : (start len size : ℕ) (device out items bytes : List ℕ) → start < 1048576 → len ≡ 1048576 - start → size ≡ len → length out ≡ size → out ≡ slice_range device (130 + start) (130 + start + size) → bytes ≡ take len (out ++ drop (length out) items)
    → reading start (area device) ≡ groups_within (length bytes) start bytes
unfolding reading area
area_read start len size device out items bytes lt all same long read kept =
    let whole : start + len ≡ 1048576 = omega arith in
    let count : 130 + start + size - (130 + start) ≡ len = omega arith in
    let part : drop start (take 1048576 (drop 130 device)) ≡ take len (drop (130 + start) device) =
    ap (λ n. drop start (take n (drop 130 device))) (sym whole) ∙ drop-take start len (drop 130 device) ∙ ap (take len) (drop-drop start 130 device) in
    let is : bytes ≡ take len (drop (130 + start) device) = kept ∙ take_at out (drop (length out) items) len (long ∙ same) ∙ read ∙ ap (λ n. take n (drop (130 + start) device)) count in
    ap (λ (l : List ℕ). groups_within (length l) start l) (part ∙ sym is)

-- ---- which refusal a reading is

pub breaks_log : (e : Refusal) (read : Reading) (at : ℕ) → Breaks read e → e ≡ R.BadLog at → read ≡ BadGroup at
breaks_log e read at (inl x) is = let place : x.0 ≡ at = cc (x.1, is) in x.2 ∙ ap (λ n. BadGroup n) place
breaks_log e read at (inr x) is = absurd (cc (x.1, is))

pub breaks_record : (e : Refusal) (read : Reading) (at : ℕ) → Breaks read e → e ≡ R.BadRecord at → read ≡ NoRecord at
breaks_record e read at (inl x) is = absurd (cc (x.1, is))
breaks_record e read at (inr x) is = let place : x.0 ≡ at = cc (x.1, is) in x.2 ∙ ap (λ n. NoRecord n) place

-- ---- an area in memory

pub in_memory : (start : ℕ) (bytes rest : List ℕ) → rest ≡ drop start bytes → reading start bytes ≡ groups_within (length rest) start rest
unfolding reading
in_memory start bytes rest e = ap (λ (l : List ℕ). groups_within (length l) start l) (sym e)

pub front_in_memory : (start : ℕ) (bytes rest : List ℕ) → rest ≡ drop start bytes → front start bytes ≡ fronts_within (length rest) start rest
unfolding front
front_in_memory start bytes rest e = ap (λ (l : List ℕ). fronts_within (length l) start l) (sym e)

-- what an area says of its fault
in_area : (a : Area) (P Q : Refusal → Type 0) → ((e : Refusal) → P e → Q e) → IfBroken a P → IfBroken a Q
in_area (areas.Whole log) P Q f h = tt
in_area (areas.Broken front fault) P Q f h = f fault h

in_result : (a : Result Area Memory) (P Q : Refusal → Type 0) → ((e : Refusal) → P e → Q e) → IfOk a (λ read. IfBroken read P) → IfOk a (λ read. IfBroken read Q)
in_result (Ok a) P Q f h = in_area a P Q f h
in_result (Err e) P Q f h = tt

pub area_log : (a : Result Area Memory) (r s : Reading) → s ≡ r → IfOk a (λ read. IfBroken read (Breaks r)) → IfOk a (λ read. IfBroken read (λ fault. (at : ℕ) → fault ≡ R.BadLog at → s ≡ BadGroup at))
area_log a r s e h = in_result a (Breaks r) (λ fault. (at : ℕ) → fault ≡ R.BadLog at → s ≡ BadGroup at) (λ fault b at is. e ∙ breaks_log fault r at b is) h

pub area_record : (a : Result Area Memory) (r s : Reading) → s ≡ r → IfOk a (λ read. IfBroken read (Breaks r)) → IfOk a (λ read. IfBroken read (λ fault. (at : ℕ) → fault ≡ R.BadRecord at → s ≡ NoRecord at))
area_record a r s e h = in_result a (Breaks r) (λ fault. (at : ℕ) → fault ≡ R.BadRecord at → s ≡ NoRecord at) (λ fault b at is. e ∙ breaks_record fault r at b is) h

breaks_at : (read : Reading) (e : Refusal) → Breaks read e → (at : ℕ) × IsAt e at × (at < 1048576)
breaks_at read e (inl x) = (x.0, inl x.1, x.3)
breaks_at read e (inr x) = (x.0, inr x.1, x.3)

pub area_at : (a : Result Area Memory) (r : Reading) → IfOk a (λ read. IfBroken read (Breaks r)) → IfOk a (λ read. IfBroken read (λ fault. (at : ℕ) × IsAt fault at × (at < 1048576)))
area_at a r h = in_result a (Breaks r) (λ fault. (at : ℕ) × IsAt fault at × (at < 1048576)) (breaks_at r) h
