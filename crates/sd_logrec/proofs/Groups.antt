-- Groups that are read from an area, and one more behind them. It serves the laws of what a log device stands for.
use Rattle.std.proofs.Common.{◌≡◌, ◌⊎◌, inl, inr, ℕ, zero, suc, ◌+◌, ◌-◌, ◌<◌, ◌≤◌, ◌^◌, Bool, true, false, cond, List, [], ◌∷◌, ◌++◌, length, take, drop, get_or, refl, sym, ap, ◌∙◌, arith, length-append, length-drop}
use Rattle.std.specs.Prelude.{◌==◌, ◌&&◌, nat_le, Result, Ok, Err, Option, Some, None}
use Rattle.std.specs.Int.{w32, from_be_bytes}
use Rattle.std.specs.List.{AllByRecursion}
use Rattle.std.proofs.lemmas.List.{append-nil, drop-drop, drop-take, get_or-drop, get_or-take, take-take, take_at, drop_at}
use Rattle.std.proofs.lemmas.Nat.{from_be_bytes-to_be_bytes_4}
use Rattle.std.proofs.lemmas.Bool.{leb-true}
use Rattle.sd_base.specs.Twin.{body_at, body_of, is_open, number_of, slot_of}
use Rattle.sd_logrec.specs.declared.record.Record.{Record}
use Rattle.sd_logrec.specs.declared.record.Record.TheVariants as records
use Rattle.sd_logrec.specs.Kept.{Group, Reading, Records, Whole, BadGroup, NoRecord, StandsAt, fits_area, group_before, group_len, group_then, groups_within, master, master_of, placed_from, reading, record_before, record_then, records_at, records_within, spelled}
use Rattle.sd_logrec.specs.Reading.{record_at}
use Rattle.sd_logrec.specs.Spelling.{HasSpelling, four, spelling, spelled_length}
use Rattle.sd_logrec.proofs.Lengths.{length-four, length-spelling}
use Rattle.sd_logrec.proofs.Records.{record_again, record_takes}
use Rattle.sd_logrec.proofs.Formats.{IsBytes}

-- ---- one step

-- what made a whole reading: a closed gate, or an open one with a group behind it
pub step_of : (o f : Bool) (at : ℕ) (r : Result Records ℕ) (behind : Reading) (groups : List Group) (gate : ℕ) → cond o (cond f (group_then at r behind) (BadGroup at)) (Whole [] at) ≡ Whole groups gate
    → ((o ≡ false) × (groups ≡ []) × (gate ≡ at)) ⊎ ((rs : Records) × (more : List Group) × (o ≡ true) × (f ≡ true) × (r ≡ Ok rs) × (behind ≡ Whole more gate) × (groups ≡ record { at = at; records = rs } ∷ more))
step_of false f at r behind groups gate e = inl (refl, cc, cc)
step_of true false at r behind groups gate e = absurd (cc)
step_of true true at (Err place) behind groups gate e = absurd (cc)
step_of true true at (Ok rs) (BadGroup place) groups gate e = absurd (cc)
step_of true true at (Ok rs) (NoRecord place) groups gate e = absurd (cc)
step_of true true at (Ok rs) (Whole more end) groups gate e = inr (rs, more, refl, refl, refl, cc, cc)

pub shut : (n at : ℕ) (bytes : List ℕ) → is_open 0 bytes ≡ false → groups_within n at bytes ≡ Whole [] at
unfolding groups_within
shut zero at bytes h = refl
shut (suc n) at bytes h = rw h refl

pub opened : (n at : ℕ) (bytes : List ℕ) (len : ℕ) (rs : Records) → is_open 0 bytes ≡ true → group_len bytes ≡ len → fits_area at len ≡ true → records_at (at + 5) (take len (drop 5 bytes)) ≡ Ok rs
    → groups_within (suc n) at bytes ≡ group_before (record { at = at; records = rs }) (groups_within n (at + 5 + len) (drop (5 + len) bytes))
unfolding groups_within
opened n at bytes len rs o l f r =
    ap (λ b. cond b (cond (fits_area at (group_len bytes)) (group_then at (records_at (at + 5) (take (group_len bytes) (drop 5 bytes))) (groups_within n (at + 5 + group_len bytes) (drop (5 + group_len bytes) bytes))) (BadGroup at)) (Whole [] at)) o
    ∙ ap (λ m. cond (fits_area at m) (group_then at (records_at (at + 5) (take m (drop 5 bytes))) (groups_within n (at + 5 + m) (drop (5 + m) bytes))) (BadGroup at)) l
    ∙ ap (λ b. cond b (group_then at (records_at (at + 5) (take len (drop 5 bytes))) (groups_within n (at + 5 + len) (drop (5 + len) bytes))) (BadGroup at)) f
    ∙ ap (λ q. group_then at q (groups_within n (at + 5 + len) (drop (5 + len) bytes))) r

-- ---- what the front of an area says

front_place : (m i : ℕ) (a b : List ℕ) → take m b ≡ take m a → i < m → get_or b i 0 ≡ get_or a i 0
front_place m i a b same lt = sym (get_or-take m b i 0 lt) ∙ ap (λ (l : List ℕ). get_or l i 0) same ∙ get_or-take m a i 0 lt

-- a part of the front
front_part : (m from n : ℕ) (a b : List ℕ) → take m b ≡ take m a → from + n ≤ m → take n (drop from b) ≡ take n (drop from a)
front_part m from n a b same le =
    let of : (l : List ℕ) → take n (drop from l) ≡ drop from (take (from + n) (take m l)) = λ l. sym (ap (drop from) (take-take (from + n) m l le) ∙ drop-take from n l) in
    of b ∙ ap (λ (l : List ℕ). drop from (take (from + n) l)) same ∙ sym (of a)

open_length : (bytes : List ℕ) → is_open 0 bytes ≡ true → 0 < length bytes
open_length [] h = absurd (cc)
open_length (b ∷ bytes) h = omega arith

-- ---- places

pub before_gate : (n at : ℕ) (bytes : List ℕ) (groups : List Group) (gate : ℕ) → groups_within n at bytes ≡ Whole groups gate → at ≤ gate
unfolding groups_within
before_gate zero at bytes groups gate e = let h : gate ≡ at = cc in omega arith
before_gate (suc n) at bytes groups gate e =
    elim (step_of (is_open 0 bytes) (fits_area at (group_len bytes)) at (records_at (at + 5) (take (group_len bytes) (drop 5 bytes))) (groups_within n (at + 5 + group_len bytes) (drop (5 + group_len bytes) bytes)) groups gate e) [
      | inl h ↦ omega (arith, h.2)
      | inr h ↦ let le : at + 5 + group_len bytes ≤ gate = before_gate n (at + 5 + group_len bytes) (drop (5 + group_len bytes) bytes) h.1 gate h.5 in omega arith
    ]

-- groups in front of what is read behind them
pub all_before : List Group → Reading → Reading
all_before [] r = r
all_before (g ∷ gs) r = group_before g (all_before gs r)

before_whole : (gs more : List Group) (gate : ℕ) → all_before gs (Whole more gate) ≡ Whole (gs ++ more) gate
unfolding all_before
before_whole [] more gate = refl
before_whole (g ∷ gs) more gate = ap (group_before g) (before_whole gs more gate)

-- ---- the same front, and something else behind it

at_once : (k at m : ℕ) (b : List ℕ) (r : Reading) → at + m ≡ at → length b ≤ k → ((j : ℕ) → length (drop m b) ≤ j → groups_within j (at + m) (drop m b) ≡ r) → groups_within k at b ≡ r
at_once k at m b r end le behind =
    let none : m ≡ 0 = omega arith in
    let all : drop m b ≡ b = ap (λ i. drop i b) none in
    ap (groups_within k at) (sym all) ∙ ap (λ p. groups_within k p (drop m b)) (sym end) ∙ behind k (omega (arith, ap length all))

above_zero : (k : ℕ) → 0 < k → (j : ℕ) × (k ≡ suc j)
above_zero zero h = absurd (omega arith)
above_zero (suc j) h = (j, refl)

pub same_front : (n k at m : ℕ) (a b : List ℕ) (groups : List Group) (r : Reading) → groups_within n at a ≡ Whole groups (at + m) → take m b ≡ take m a → length b ≤ k
    → ((j : ℕ) → length (drop m b) ≤ j → groups_within j (at + m) (drop m b) ≡ r) → groups_within k at b ≡ all_before groups r
unfolding all_before groups_within
same_front zero k at m a b groups r e same le behind =
    let end : at + m ≡ at = cc in
    let nil : groups ≡ [] = cc in
    at_once k at m b r end le behind ∙ ap (λ (gs : List Group). all_before gs r) (sym nil)
same_front (suc n) k at m a b groups r e same le behind =
    elim (step_of (is_open 0 a) (fits_area at (group_len a)) at (records_at (at + 5) (take (group_len a) (drop 5 a))) (groups_within n (at + 5 + group_len a) (drop (5 + group_len a) a)) groups (at + m) e) [
      | inl h ↦ at_once k at m b r h.2 le behind ∙ ap (λ (gs : List Group). all_before gs r) (sym h.1)
      | inr h ↦
          let len : ℕ = group_len a in
          let there : at + 5 + len ≤ at + m = before_gate n (at + 5 + len) (drop (5 + len) a) h.1 (at + m) h.5 in
          let shown : is_open 0 b ≡ true = ap (λ x. x == 165) (front_place m 0 a b same (omega arith)) ∙ h.2 in
          let long : group_len b ≡ len = ap (from_be_bytes w32) (front_part m 1 4 a b same (omega arith)) in
          let body : take len (drop 5 b) ≡ take len (drop 5 a) = front_part m 5 len a b same (omega arith) in
          let some : 0 < length b = open_length b shown in
          let less = above_zero k (omega arith) in
          let j : ℕ = less.0 in
          let rest : ℕ = m - (5 + len) in
          let place : at + 5 + len + rest ≡ at + m = omega arith in
          let along : (l : List ℕ) → drop rest (drop (5 + len) l) ≡ drop m l = λ l. let sum : 5 + len + rest ≡ m = omega arith in drop-drop rest (5 + len) l ∙ ap (λ i. drop i l) sum in
          let inner : groups_within j (at + 5 + len) (drop (5 + len) b) ≡ all_before h.1 r =
          same_front n j (at + 5 + len) rest (drop (5 + len) a) (drop (5 + len) b) h.1 r (h.5 ∙ ap (Whole h.1) (sym place)) (front_part m (5 + len) rest a b same (omega arith)) (omega (arith, less.1, length-drop (5 + len) b))
          (λ i small. ap (λ p. groups_within i p (drop rest (drop (5 + len) b))) place ∙ ap (groups_within i (at + m)) (along b) ∙ behind i (omega (arith, small, ap length (along b)))) in
          ap (λ i. groups_within i at b) less.1 ∙ opened j at b len h.0 shown long h.3 (ap (records_at (at + 5)) body ∙ h.4) ∙ ap (group_before (record { at = at; records = h.0 })) inner ∙ ap (λ (gs : List Group). all_before gs r) (sym h.6)
    ]

-- ---- the two laws

-- an area from a place on
abbrev pub Front : ℕ → ℕ → List ℕ → List ℕ → Type 0
Front start gate old new = take (gate - start) (drop start new) ≡ take (gate - start) (drop start old)

front_of : (start gate : ℕ) (old new : List ℕ) → start ≤ gate → take gate new ≡ take gate old → Front start gate old new
front_of start gate old new le same = front_part gate start (gate - start) old new same (omega arith)

pub is_behind : (start gate : ℕ) (old new : List ℕ) (groups : List Group) (r : Reading) → reading start old ≡ Whole groups gate → take gate new ≡ take gate old
    → ((j : ℕ) → length (drop gate new) ≤ j → groups_within j gate (drop gate new) ≡ r) → reading start new ≡ all_before groups r
unfolding reading
is_behind start gate old new groups r e same behind =
    let le : start ≤ gate = before_gate (length (drop start old)) start (drop start old) groups gate e in
    let place : start + (gate - start) ≡ gate = omega arith in
    let along : drop (gate - start) (drop start new) ≡ drop gate new = drop-drop (gate - start) start new ∙ ap (λ i. drop i new) place in
    same_front (length (drop start old)) (length (drop start new)) start (gate - start) (drop start old) (drop start new) groups r (e ∙ ap (Whole groups) (sym place)) (front_of start gate old new le same) (omega arith)
    (λ j small. ap (λ p. groups_within j p (drop (gate - start) (drop start new))) place ∙ ap (groups_within j gate) along ∙ behind j (omega (arith, small, ap length along)))

open_at : (gate i : ℕ) (bytes : List ℕ) → is_open i (drop gate bytes) ≡ is_open (gate + i) bytes
open_at gate i bytes = ap (λ x. x == 165) (get_or-drop gate bytes i 0)

pub groups_end : (start gate : ℕ) (old new : List ℕ) (groups : List Group) → reading start old ≡ Whole groups gate → take gate new ≡ take gate old → is_open gate new ≡ false → reading start new ≡ Whole groups gate
groups_end start gate old new groups e same closed =
    let place : gate + 0 ≡ gate = omega arith in
    let shown : is_open 0 (drop gate new) ≡ false = open_at gate 0 new ∙ ap (λ p. is_open p new) place ∙ closed in
    is_behind start gate old new groups (Whole [] gate) e same (λ j small. shut j gate (drop gate new) shown) ∙ before_whole groups [] gate ∙ ap (λ (gs : List Group). Whole gs gate) (append-nil groups)

-- ---- records that are spelled are read

some_text : (r : Record) → 0 < length (spelling r)
some_text r = omega (arith, length-spelling r, positive r)
  where
    positive : (x : Record) → 0 < spelled_length x
    positive (records.Start lsn epoch) = omega arith
    positive (records.Update lsn txn prev page slot capacity before after) = omega arith
    positive (records.Clr lsn txn prev undo_next page slot after) = omega arith
    positive (records.Commit lsn txn prev) = omega arith
    positive (records.End lsn txn prev) = omega arith
    positive (records.BeginCheck lsn) = omega arith
    positive (records.EndCheck lsn begin spans recs) = omega arith

within_some : (n at : ℕ) (bytes : List ℕ) → 0 < length bytes → records_within (suc n) at bytes ≡ record_then at (record_at bytes) (records_within n)
unfolding records_within
within_some n at [] h = absurd (omega arith)
within_some n at (b ∷ bytes) h = refl

within_none : (n at : ℕ) → records_within n at [] ≡ Ok []
unfolding records_within
within_none zero at = refl
within_none (suc n) at = refl

pub spelled_within : (n at : ℕ) (rs : List Record) → AllByRecursion HasSpelling rs → length (spelled rs) ≤ n → records_within n at (spelled rs) ≡ Ok (placed_from at rs)
spelled_within n at [] fits le = within_none n at
spelled_within n at (r ∷ rs) fits le =
    let some : 0 < length (spelling r) = some_text r in
    let both : length (spelling r ++ spelled rs) ≡ length (spelling r) + length (spelled rs) = length-append (spelling r) (spelled rs) in
    let less = above_zero n (omega arith) in
    let inner : records_within less.0 (at + length (spelling r)) (spelled rs) ≡ Ok (placed_from (at + length (spelling r)) rs) = spelled_within less.0 (at + length (spelling r)) rs fits.1 (omega (arith, less.1)) in
    ap (λ k. records_within k at (spelling r ++ spelled rs)) less.1 ∙ within_some less.0 at (spelling r ++ spelled rs) (omega arith)
    ∙ ap (λ found. record_then at found (records_within less.0)) (record_again r (spelled rs) fits.0) ∙ ap (record_before at r) inner

four_again : (n : ℕ) → n < 2 ^ 32 → from_be_bytes w32 (four n) ≡ n
unfolding four
four_again n h = from_be_bytes-to_be_bytes_4 n h

-- what stands behind the gate of a group
four_in_front : (m : ℕ) (l : List ℕ) (n : ℕ) (body : List ℕ) → take (4 + m) l ≡ four n ++ body → length body ≡ m → (take 4 l ≡ four n) × (take m (drop 4 l) ≡ body)
four_in_front m l n body e len =
    let size : length (four n) ≡ 4 = length-four n in (
      sym (take-take 4 (4 + m) l (omega arith)) ∙ ap (take 4) e ∙ take_at (four n) body 4 size,
      sym (drop-take 4 m l) ∙ ap (drop 4) e ∙ drop_at (four n) body 4 size,
    )

pub small_len : (at n : ℕ) → fits_area at n ≡ true → (9 ≤ n) × (at + 5 + n + 1 ≤ 1048576)
small_len at n h = let parts = both_true (nat_le 9 n) (nat_le (at + 5 + n + 1) 1048576) h in (leb-true 9 n parts.0, leb-true (at + 5 + n + 1) 1048576 parts.1)
  where
    both_true : (a b : Bool) → (a && b) ≡ true → (a ≡ true) × (b ≡ true)
    both_true true true e = (refl, refl)
    both_true true false e = absurd (cc)
    both_true false b e = absurd (cc)

pub new_group : (j gate : ℕ) (bytes : List ℕ) (rs : List Record) → StandsAt gate rs bytes → length (drop gate bytes) ≤ j
    → groups_within j gate (drop gate bytes) ≡ Whole (record { at = gate; records = placed_from (gate + 5) rs } ∷ []) (gate + 5 + length (spelled rs))
new_group j gate bytes rs h le =
    let n : ℕ = length (spelled rs) in
    let l : List ℕ = drop gate bytes in
    let place : gate + 0 ≡ gate = omega arith in
    let shown : is_open 0 l ≡ true = open_at gate 0 bytes ∙ ap (λ p. is_open p bytes) place ∙ h.opened in
    let less = above_zero j (let some : 0 < length l = open_length l shown in omega arith) in
    let behind : drop 1 l ≡ drop (gate + 1) bytes = drop-drop 1 gate bytes in
    let parts = four_in_front n (drop 1 l) n (spelled rs) (ap (take (4 + n)) behind ∙ h.text) refl in
    let size = small_len gate n h.fits in
    let long : group_len l ≡ n = ap (from_be_bytes w32) parts.0 ∙ four_again n (omega arith) in
    let body : take n (drop 5 l) ≡ spelled rs = ap (take n) (sym (drop-drop 4 1 l)) ∙ parts.1 in
    let end : is_open 0 (drop (5 + n) l) ≡ false = let there : gate + (5 + n) + 0 ≡ gate + 5 + n = omega arith in ap (is_open 0) (drop-drop (5 + n) gate bytes) ∙ open_at (gate + (5 + n)) 0 bytes ∙ ap (λ p. is_open p bytes) there ∙ h.closed in
    ap (λ k. groups_within k gate l) less.1 ∙ opened less.0 gate l n (placed_from (gate + 5) rs) shown long h.fits (ap (records_at (gate + 5)) body ∙ spelled_within n (gate + 5) rs h.records (omega arith))
    ∙ ap (group_before (record { at = gate; records = placed_from (gate + 5) rs })) (shut less.0 (gate + 5 + n) (drop (5 + n) l) end)

pub group_behind : (start gate : ℕ) (old new : List ℕ) (groups : List Group) (rs : List Record) → reading start old ≡ Whole groups gate → take gate new ≡ take gate old → StandsAt gate rs new
    → reading start new ≡ Whole (groups ++ record { at = gate; records = placed_from (gate + 5) rs } ∷ []) (gate + 5 + length (spelled rs))
group_behind start gate old new groups rs e same h =
    is_behind start gate old new groups (Whole (record { at = gate; records = placed_from (gate + 5) rs } ∷ []) (gate + 5 + length (spelled rs))) e same (λ j le. new_group j gate new rs h le) ∙ before_whole groups _ _

-- ---- where no record stands

none_read : (bytes : List ℕ) (found : Option (Record × List ℕ)) → record_at bytes ≡ found → IsBytes bytes → ((r : Record) (rest : List ℕ) → HasSpelling r → bytes ≡ spelling r ++ rest → ⊥) → record_at bytes ≡ None
none_read bytes None e are none = e
none_read bytes (Some x) e are none = let t = record_takes bytes x are e in absurd (none x.0 x.1 t.1 t.0)

pub read_nothing : (bytes : List ℕ) → ((i : ℕ) → get_or bytes i 0 < 256) → ((r : Record) (rest : List ℕ) → HasSpelling r → bytes ≡ spelling r ++ rest → ⊥) → record_at bytes ≡ None
read_nothing bytes are none = none_read bytes (record_at bytes) refl are none

-- ---- the master

pub master_in_front : (old new : List ℕ) → take 130 new ≡ take 130 old → master new ≡ master old
unfolding master
master_in_front old new same =
    let gate1 : is_open 0 new ≡ is_open 0 old = ap (λ x. x == 165) (front_place 130 0 old new same (omega arith)) in
    let gate2 : is_open 65 new ≡ is_open 65 old = ap (λ x. x == 165) (front_place 130 65 old new same (omega arith)) in
    let body1 : body_at 64 0 new ≡ body_at 64 0 old = front_part 130 1 64 old new same (omega arith) in
    let body2 : body_at 64 65 new ≡ body_at 64 65 old = front_part 130 66 64 old new same (omega arith) in
    ap (λ o. master_of (body_of (slot_of o (is_open 65 new) (number_of (body_at 64 0 new)) (number_of (body_at 64 65 new))) (body_at 64 0 new) (body_at 64 65 new))) gate1
    ∙ ap (λ o. master_of (body_of (slot_of (is_open 0 old) o (number_of (body_at 64 0 new)) (number_of (body_at 64 65 new))) (body_at 64 0 new) (body_at 64 65 new))) gate2
    ∙ ap (λ (l : List ℕ). master_of (body_of (slot_of (is_open 0 old) (is_open 65 old) (number_of l) (number_of (body_at 64 65 new))) l (body_at 64 65 new))) body1
    ∙ ap (λ (l : List ℕ). master_of (body_of (slot_of (is_open 0 old) (is_open 65 old) (number_of (body_at 64 0 old)) (number_of l)) (body_at 64 0 old) l)) body2

-- ---- behind whole groups the gate is closed

gate_within : (n at : ℕ) (bytes : List ℕ) (groups : List Group) (gate : ℕ) → length bytes ≤ n → groups_within n at bytes ≡ Whole groups gate → is_open (gate - at) bytes ≡ false
unfolding groups_within
gate_within zero at [] groups gate le e = let here : gate ≡ at = cc in let none : gate - at ≡ 0 = omega arith in ap (λ i. is_open i []) none
gate_within zero at (b ∷ bytes) groups gate le e = absurd (omega arith)
gate_within (suc n) at bytes groups gate le e =
    elim (step_of (is_open 0 bytes) (fits_area at (group_len bytes)) at (records_at (at + 5) (take (group_len bytes) (drop 5 bytes))) (groups_within n (at + 5 + group_len bytes) (drop (5 + group_len bytes) bytes)) groups gate e) [
      | inl h ↦ let here : gate ≡ at = h.2 in let none : gate - at ≡ 0 = omega arith in ap (λ i. is_open i bytes) none ∙ h.0
      | inr h ↦
          let len : ℕ = group_len bytes in
          let some : 0 < length bytes = open_length bytes h.2 in
          let behind : at + 5 + len ≤ gate = before_gate n (at + 5 + len) (drop (5 + len) bytes) h.1 gate h.5 in
          let place : 5 + len + (gate - (at + 5 + len)) ≡ gate - at = omega arith in
          ap (λ i. is_open i bytes) (sym place) ∙ sym (open_at (5 + len) (gate - (at + 5 + len)) bytes) ∙ gate_within n (at + 5 + len) (drop (5 + len) bytes) h.1 gate (omega (arith, length-drop (5 + len) bytes)) h.5
    ]

pub gate_closed : (start gate : ℕ) (bytes : List ℕ) (groups : List Group) → reading start bytes ≡ Whole groups gate → is_open gate bytes ≡ false
unfolding reading
gate_closed start gate bytes groups e =
    let le : start ≤ gate = before_gate (length (drop start bytes)) start (drop start bytes) groups gate e in
    let place : start + (gate - start) ≡ gate = omega arith in
    ap (λ i. is_open i bytes) (sym place) ∙ sym (open_at start (gate - start) bytes) ∙ gate_within (length (drop start bytes)) start (drop start bytes) groups gate (omega arith) e
