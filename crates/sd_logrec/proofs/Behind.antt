-- A log that is read from behind its first group: the others are read there. It serves the later start places of sd_log.
use Rattle.std.proofs.Common.{◌≡◌, inl, inr, ℕ, zero, suc, ◌+◌, ◌-◌, ◌<◌, ◌≤◌, Bool, true, false, List, [], ◌∷◌, length, drop, take, refl, sym, ap, ◌∙◌, arith, length-drop}
use Rattle.std.specs.Prelude.{◌==◌}
use Rattle.std.proofs.lemmas.List.{drop-drop, get_or-drop}
use Rattle.sd_base.specs.Twin.{is_open}
use Rattle.sd_logrec.specs.Kept.{Group, Whole, fits_area, group_before, group_len, groups_within, reading, records_at}
use Rattle.sd_logrec.proofs.Groups.{before_gate, gate_closed, opened, shut, step_of}

-- what is read behind the first group
record Next (n at : ℕ) (b : List ℕ) (g : Group) (gs : List Group) (gate : ℕ) : Type 0 where
  pub len : ℕ
  pub fuel : ℕ
  pub more : n ≡ suc fuel
  pub place : g.at ≡ at
  pub behind : groups_within fuel (at + 5 + len) (drop (5 + len) b) ≡ Whole gs gate

within-next : (n at : ℕ) (b : List ℕ) (g : Group) (gs : List Group) (gate : ℕ) → groups_within n at b ≡ Whole (g ∷ gs) gate → Next n at b g gs gate
unfolding groups_within
within-next zero at b g gs gate e = absurd (cc)
within-next (suc n) at b g gs gate e =
    elim (step_of (is_open 0 b) (fits_area at (group_len b)) at (records_at (at + 5) (take (group_len b) (drop 5 b))) (groups_within n (at + 5 + group_len b) (drop (5 + group_len b) b)) (g ∷ gs) gate e) [
      | inl h ↦ let none = h.1 in absurd (cc)
      | inr h ↦
          let same = h.6 in
          let rest : gs ≡ h.1 = cc in
          let here : g ≡ record { at = at; records = h.0 } = cc in
          record { len = group_len b; fuel = n; more = refl; place = ap (λ (x : Group). x.at) here; behind = h.5 ∙ ap (λ (x : List Group). Whole x gate) (sym rest) }
    ]

-- as much fuel as there are bytes is enough
open-some : (b : List ℕ) → is_open 0 b ≡ true → 0 < length b
open-some [] h = absurd (cc)
open-some (x ∷ b) h = omega arith

above-zero : (k : ℕ) → 0 < k → (j : ℕ) × (k ≡ suc j)
above-zero zero h = absurd (omega arith)
above-zero (suc j) h = (j, refl)

enough : (n k at : ℕ) (b : List ℕ) (groups : List Group) (gate : ℕ) → groups_within n at b ≡ Whole groups gate → length b ≤ k
    → is_open 0 (drop (gate - at) b) ≡ false → groups_within k at b ≡ Whole groups gate
unfolding groups_within
enough zero k at b groups gate e le closed =
    let nil : groups ≡ [] = cc in let end : gate ≡ at = cc in
    let none : gate - at ≡ 0 = omega (arith, end) in
    shut k at b (sym (ap (λ (d : ℕ). is_open 0 (drop d b)) none) ∙ closed) ∙ (ap (λ (g : List Group). Whole g at) (sym nil) ∙ ap (Whole groups) (sym end))
enough (suc n) k at b groups gate e le closed =
    elim (step_of (is_open 0 b) (fits_area at (group_len b)) at (records_at (at + 5) (take (group_len b) (drop 5 b))) (groups_within n (at + 5 + group_len b) (drop (5 + group_len b) b)) groups gate e) [
      | inl h ↦ shut k at b h.0 ∙ (ap (λ (g : List Group). Whole g at) (sym h.1) ∙ ap (Whole groups) (sym h.2))
      | inr h ↦
          let len : ℕ = group_len b in
          let some : 0 < length b = open-some b h.2 in
          let less = above-zero k (omega arith) in
          let far : at + 5 + len ≤ gate = before_gate n (at + 5 + len) (drop (5 + len) b) h.1 gate h.5 in
          let sum : 5 + len + (gate - (at + 5 + len)) ≡ gate - at = omega arith in
          let there : drop (gate - (at + 5 + len)) (drop (5 + len) b) ≡ drop (gate - at) b
          = drop-drop (gate - (at + 5 + len)) (5 + len) b ∙ ap (λ (d : ℕ). drop d b) sum in
          let inner : groups_within less.0 (at + 5 + len) (drop (5 + len) b) ≡ Whole h.1 gate =
          enough n less.0 (at + 5 + len) (drop (5 + len) b) h.1 gate h.5 (omega (arith, less.1, length-drop (5 + len) b)) (ap (is_open 0) there ∙ closed) in
          ap (λ (j : ℕ). groups_within j at b) less.1 ∙ opened less.0 at b len h.0 h.2 refl h.3 h.4
          ∙ ap (group_before (record { at = at; records = h.0 })) inner ∙ ap (λ (gs : List Group). Whole gs gate) (sym h.6)
    ]

open-at : (gate i : ℕ) (bytes : List ℕ) → is_open i (drop gate bytes) ≡ is_open (gate + i) bytes
open-at gate i bytes = ap (λ x. x == 165) (get_or-drop gate bytes i 0)

-- ---- of a whole area

-- with no groups the gate is where reading begins
within-none : (n at : ℕ) (b : List ℕ) (gate : ℕ) → groups_within n at b ≡ Whole [] gate → gate ≡ at
unfolding groups_within
within-none zero at b gate e = cc
within-none (suc n) at b gate e =
    elim (step_of (is_open 0 b) (fits_area at (group_len b)) at (records_at (at + 5) (take (group_len b) (drop 5 b))) (groups_within n (at + 5 + group_len b) (drop (5 + group_len b) b)) [] gate e) [
      | inl h ↦ h.2
      | inr h ↦ let some = h.6 in absurd (cc)
    ]

pub reading-none : (start : ℕ) (bytes : List ℕ) (gate : ℕ) → reading start bytes ≡ Whole [] gate → gate ≡ start
unfolding reading
reading-none start bytes gate e = within-none (length (drop start bytes)) start (drop start bytes) gate e

-- behind the first group reading goes on with the others
pub record After (start : ℕ) (bytes : List ℕ) (g : Group) (gs : List Group) (gate : ℕ) : Type 0 where
  pub next : ℕ
  pub here : g.at ≡ start
  pub above : start < next
  pub read : reading next bytes ≡ Whole gs gate

pub reading-next : (start : ℕ) (bytes : List ℕ) (g : Group) (gs : List Group) (gate : ℕ) → reading start bytes ≡ Whole (g ∷ gs) gate
    → After start bytes g gs gate
unfolding reading
reading-next start bytes g gs gate e =
    let n = within-next (length (drop start bytes)) start (drop start bytes) g gs gate e in
    let next : ℕ = start + 5 + n.len in
    let same : drop (5 + n.len) (drop start bytes) ≡ drop next bytes =
    let sum : start + (5 + n.len) ≡ next = omega arith in drop-drop (5 + n.len) start bytes ∙ ap (λ (i : ℕ). drop i bytes) sum in
    let behind : groups_within n.fuel next (drop next bytes) ≡ Whole gs gate = ap (groups_within n.fuel next) (sym same) ∙ n.behind in
    let low : next ≤ gate = before_gate n.fuel next (drop next bytes) gs gate behind in
    let sum : next + (gate - next) ≡ gate = omega arith in
    let gates : drop (gate - next) (drop next bytes) ≡ drop gate bytes = drop-drop (gate - next) next bytes ∙ ap (λ (i : ℕ). drop i bytes) sum in
    let zeros : gate + 0 ≡ gate = omega arith in
    let closed : is_open 0 (drop (gate - next) (drop next bytes)) ≡ false =
    ap (is_open 0) gates ∙ open-at gate 0 bytes ∙ ap (λ (i : ℕ). is_open i bytes) zeros ∙ gate_closed start gate bytes (g ∷ gs) e in
    record {
      next = next;
      here = n.place;
      above = omega arith;
      read = enough n.fuel (length (drop next bytes)) next (drop next bytes) gs gate behind (omega arith) closed;
    }
