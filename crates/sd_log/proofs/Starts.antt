-- Where a log may begin: the groups in front of the first one with an LSN from a given one on. It serves the goals of marks.rt.
use Rattle.std.proofs.Common.{◌≡◌, ◌∙◌, inl, inr, false, ℕ, zero, suc, ◌+◌, ◌-◌, ◌<◌, ◌≤◌, Bool, not, cond, List, [], ◌∷◌, length, take, drop, get_or, refl, sym, ap, subst, arith, length-drop}
use Rattle.std.specs.Prelude.{None, Some, map, nat_le, nat_lt, position, unwrap_or}
use Rattle.std.specs.List.{position_or_len}
use Rattle.std.proofs.lemmas.Bool.{cases_Bool, cases_lt, cond_both, leb-false, leb-true, ltb-false, ltb-true}
use Rattle.std.proofs.lemmas.List.{length-take-le}
use Rattle.std.proofs.Math.Seq.{take-length}
use Rattle.sd_log.specs.declared.placed.Placed.{Placed}
use Rattle.sd_log.specs.declared.marks.Mark.{Mark}
use Rattle.sd_log.specs.Logs.{AreBelow, IsStartFor, lsn_of}
use Rattle.sd_log.specs.Marks.{AreMarks, MarksState, counted, end_of, entry, greatest_lsn, grouped}
use Rattle.sd_log.specs.Parts.{IsParted, groups_of}

below_greatest : (low : ℕ) (ps : List Placed) → greatest_lsn ps < low → AreBelow low (map entry ps)
below_greatest low [] h = tt
below_greatest low (p ∷ ps) h = (omega arith, below_greatest low ps (omega arith))

greatest_below : (low : ℕ) (ps : List Placed) → 0 < low → AreBelow low (map entry ps) → greatest_lsn ps < low
greatest_below low [] some h = some
greatest_below low (p ∷ ps) some h = let first : lsn_of p < low = h.0 in let rest = greatest_below low ps some h.1 in omega arith

some_below : (low : ℕ) (ps : List Placed) → 0 < length ps → AreBelow low (map entry ps) → 0 < low
some_below low [] some h = absurd (omega arith)
some_below low (p ∷ ps) some h = let first : lsn_of p < low = h.0 in omega arith

pub point_within : (p : Mark → Bool) (ms : List Mark) → position_or_len p ms ≤ length ms
point_within p [] = omega arith
point_within p (m ∷ ms) = cond_both (not (p m)) (1 + position_or_len p ms) 0 (λ n. n ≤ length (m ∷ ms)) (λ on. omega (arith, point_within p ms)) (λ off. omega arith)

-- where the first mark stands that passes, or else how many marks there are
pub point_is : (p : Mark → Bool) (ms : List Mark) → unwrap_or (position p ms) (length ms) ≡ position_or_len p ms
point_is p ms = cond_both (nat_lt (position_or_len p ms) (length ms)) (Some (position_or_len p ms)) None (λ o. unwrap_or o (length ms) ≡ position_or_len p ms)
    (λ on. refl) (λ off. let over = ltb-false (position_or_len p ms) (length ms) off in let within = point_within p ms in omega arith)

pub point_none : (p : Mark → Bool) (ms : List Mark) → position p ms ≡ None → position_or_len p ms ≡ length ms
point_none p ms none = sym (point_is p ms) ∙ ap (λ o. unwrap_or o (length ms)) none

pub point_some : (p : Mark → Bool) (ms : List Mark) (n : ℕ) → position p ms ≡ Some n → (position_or_len p ms ≡ n) × (n < length ms)
point_some p ms n is =
    let here : position_or_len p ms ≡ n = sym (point_is p ms) ∙ ap (λ o. unwrap_or o (length ms)) is in (
      here,
      elim (cases_lt (position_or_len p ms) (length ms)) [
        | inl lt ↦ omega arith
        | inr le ↦ absurd (clash (nat_lt (position_or_len p ms) (length ms)) (over (position_or_len p ms) (length ms) le) is)
      ],
    )
  where
    clash : (b : Bool) → b ≡ false → cond b (Some (position_or_len p ms)) None ≡ Some n → ⊥
    clash b off e = absurd (cc)

    over : (x y : ℕ) → y ≤ x → nat_lt x y ≡ false
    over x y le = elim (cases_Bool (nat_lt x y)) [
      | inl on ↦ let lt = ltb-true x y on in absurd (omega arith)
      | inr off ↦ off
    ]

pub counted-take : (n : ℕ) (ms : List Mark) → counted (take n ms) ≤ counted ms
counted-take zero ms = omega arith
counted-take (suc n) [] = omega arith
counted-take (suc n) (m ∷ ms) = omega (arith, counted-take n ms)

-- ---- where groups end

pub ends_rise : (at n : ℕ) (ms : List Mark) (ps : List Placed) → AreMarks at ms ps → at ≤ end_of at (take n ms)
ends_rise at zero [] ps are = omega arith
ends_rise at (suc n) [] ps are = omega arith
ends_rise at zero (m ∷ ms) ps are = omega arith
ends_rise at (suc n) (m ∷ ms) ps are = let first : at < m.end = are.0 in let more = ends_rise m.end n ms (drop m.count ps) are.3 in omega arith

pub end_at : (at n : ℕ) (ms : List Mark) (d : Mark) → n < length ms → end_of at (take (suc n) ms) ≡ (get_or ms n d).end
end_at at n [] d lt = absurd (omega arith)
end_at at zero (m ∷ ms) d lt = refl
end_at at (suc n) (m ∷ ms) d lt = end_at m.end n ms d (omega arith)

-- ---- the boundary behind the groups that are below

-- how many of these groups stand in front of the first one that has an LSN from this one on
abbrev pub below_of : ℕ → List Mark → ℕ
below_of low ms = position_or_len (λ m. nat_le low m.high) ms

start_is : (low at : ℕ) (ms : List Mark) (ps : List Placed) → AreMarks at ms ps → counted ms ≤ length ps
    → IsStartFor low (grouped at ms ps) (end_of at ms) (end_of at (take (below_of low ms) ms))
start_is low at [] ps are counts = record { before = []; behind = []; parts = refl; place_is = refl; below = tt; greatest = tt }
start_is low at (m ∷ ms) ps are counts = elim (cases_Bool (nat_le low m.high)) [
  | inl on ↦ record {
    before = [];
    behind = grouped at (m ∷ ms) ps;
    parts = refl;
    place_is = ap (λ (b : Bool). end_of at (take (cond (not b) (1 + below_of low ms) 0) (m ∷ ms))) on;
    below = tt;
    greatest = λ all.
        let some : 0 < m.count = are.1 in
        let size : length (take m.count ps) ≡ m.count = length-take-le m.count ps (omega arith) in
        let positive : 0 < low = some_below low (take m.count ps) (omega arith) all in
        let great : greatest_lsn (take m.count ps) < low = greatest_below low (take m.count ps) positive all in
        omega (arith, are.2, leb-true low m.high on);
  }
  | inr off ↦
      let first : m.high < low = leb-false low m.high off in
      let next : 1 + below_of low ms ≡ suc (below_of low ms) = omega arith in
      let rest = start_is low m.end ms (drop m.count ps) are.3 (omega (arith, length-drop m.count ps)) in
      record {
        before = record { at = at; records = map entry (take m.count ps) } ∷ rest.before;
        behind = rest.behind;
        parts = ap (λ l. record { at = at; records = map entry (take m.count ps) } ∷ l) rest.parts;
        place_is = ap (λ (b : Bool). end_of at (take (cond (not b) (1 + below_of low ms) 0) (m ∷ ms))) off ∙ ap (λ n. end_of at (take n (m ∷ ms))) next ∙ rest.place_is;
        below = (below_greatest low (take m.count ps) (omega (arith, are.2)), rest.below);
        greatest = rest.greatest;
      }
]

-- ---- of records that marks part

front_size : (s : MarksState) (ps : List Placed) → IsParted s ps → counted s.marks ≤ length (take s.forced ps)
front_size s ps h = let within = h.within in let sum = h.count in omega (arith, length-take-le s.forced ps within)

from_point : (low n : ℕ) (s : MarksState) (ps : List Placed) → IsParted s ps → below_of low s.marks ≡ n
    → IsStartFor low (groups_of s ps) s.gate (end_of s.start (take n s.marks))
from_point low n s ps h e =
    subst (λ k. IsStartFor low (groups_of s ps) s.gate (end_of s.start (take k s.marks))) e
    (subst (λ gate. IsStartFor low (groups_of s ps) gate (end_of s.start (take (below_of low s.marks) s.marks))) (sym h.gate_is)
    (start_is low s.start s.marks (take s.forced ps) h.marks_are (front_size s ps h)))

-- a place where the log may begin
abbrev pub MayBegin : ℕ → MarksState → List Placed → ℕ → Type 0
MayBegin low s ps place = IsStartFor low (groups_of s ps) s.gate place × (s.start ≤ place)

may_begin : (low n : ℕ) (s : MarksState) (ps : List Placed) → IsParted s ps → below_of low s.marks ≡ n → MayBegin low s ps (end_of s.start (take n s.marks))
may_begin low n s ps h e = (from_point low n s ps h e, ends_rise s.start n s.marks (take s.forced ps) h.marks_are)

pub begin_none : (low : ℕ) (s : MarksState) (ps : List Placed) → IsParted s ps → position (λ m. nat_le low m.high) s.marks ≡ None → MayBegin low s ps s.gate
begin_none low s ps h none =
    subst (MayBegin low s ps) (ap (end_of s.start) (take-length s.marks) ∙ sym h.gate_is)
    (may_begin low (length s.marks) s ps h (point_none (λ m. nat_le low m.high) s.marks none))

pub begin_first : (low n : ℕ) (s : MarksState) (ps : List Placed) → IsParted s ps → position (λ m. nat_le low m.high) s.marks ≡ Some n → n ≡ 0 → MayBegin low s ps s.start
begin_first low n s ps h is zero_is =
    may_begin low 0 s ps h ((point_some (λ m. nat_le low m.high) s.marks n is).0 ∙ zero_is)

pub begin_behind : (low n : ℕ) (s : MarksState) (ps : List Placed) (m : Mark) → IsParted s ps → position (λ m. nat_le low m.high) s.marks ≡ Some n → 0 < n
    → m ≡ get_or s.marks (n - 1) m → MayBegin low s ps m.end
begin_behind low n s ps m h is some at =
    let found = point_some (λ m. nat_le low m.high) s.marks n is in
    let within = found.1 in
    let next : n ≡ suc (n - 1) = omega arith in
    subst (MayBegin low s ps)
    (ap (λ k. end_of s.start (take k s.marks)) next ∙ end_at s.start (n - 1) s.marks m (omega arith) ∙ ap (λ (x : Mark). x.end) (sym at))
    (may_begin low n s ps h found.0)
