-- Marks without their first ones, and the records behind those of the groups that go with them. It serves the goals of written.rt.
use Rattle.std.proofs.Common.{◌≡◌, ◌∙◌, inl, inr, ℕ, zero, suc, ◌+◌, ◌≤◌, Bool, not, cond, true, false, List, [], ◌∷◌, ◌++◌, length, take, drop, refl, sym, ap, subst, arith, length-append, length-drop}
use Rattle.std.specs.Prelude.{map, nat_lt}
use Rattle.std.proofs.lemmas.Bool.{cases_Bool, lt-ltb, ltb-true}
use Rattle.std.proofs.lemmas.Grind.{flat_map-append}
use Rattle.std.proofs.lemmas.List.{drop-append-le, drop-drop, drop-map, drop-take, drop_at, length-map, length-take-le}
use Rattle.sd_logrec.specs.declared.record.Record.{Record}
use Rattle.sd_logrec.specs.Kept.{Group, Records}
use Rattle.sd_log.specs.declared.placed.Placed.{Placed}
use Rattle.sd_log.specs.declared.marks.Mark.{Mark}
use Rattle.sd_log.specs.Logs.{boundary, placed, placed_groups, placed_tail}
use Rattle.sd_log.specs.Marks.{AreMarks, MarksState, counted, end_of, entry, gone_before, grouped}
use Rattle.sd_log.specs.Parts.{IsParted, groups_of, items_of, record_of, tail_of}
use Rattle.sd_log.proofs.Starts.{ends_rise, counted-take}

-- ---- marks behind the first ones

marks_behind : (at n : ℕ) (ms : List Mark) (ps : List Placed) → AreMarks at ms ps → AreMarks (end_of at (take n ms)) (drop n ms) (drop (counted (take n ms)) ps)
marks_behind at zero ms ps are = are
marks_behind at (suc n) [] ps are = tt
marks_behind at (suc n) (m ∷ ms) ps are =
    subst (λ (l : List Placed). AreMarks (end_of m.end (take n ms)) (drop n ms) l) (drop-drop (counted (take n ms)) m.count ps) (marks_behind m.end n ms (drop m.count ps) are.3)

ends_behind : (at n : ℕ) (ms : List Mark) → end_of (end_of at (take n ms)) (drop n ms) ≡ end_of at ms
ends_behind at zero ms = refl
ends_behind at (suc n) [] = refl
ends_behind at (suc n) (m ∷ ms) = ends_behind m.end n ms

counts_behind : (n : ℕ) (ms : List Mark) → counted (take n ms) + counted (drop n ms) ≡ counted ms
counts_behind zero ms = omega arith
counts_behind (suc n) [] = omega arith
counts_behind (suc n) (m ∷ ms) = omega (arith, counts_behind n ms)

grouped_count : (at : ℕ) (ms : List Mark) (ps : List Placed) → counted ms ≤ length ps → length (placed_groups (grouped at ms ps)) ≡ counted ms
grouped_count at [] ps le = refl
grouped_count at (m ∷ ms) ps le =
    let first : List (ℕ × Record) = map entry (take m.count ps) in
    omega (
      arith,
      grouped_count m.end ms (drop m.count ps) (omega (arith, length-drop m.count ps)),
      length-append (map (placed true) first) (placed_groups (grouped m.end ms (drop m.count ps))),
      length-map first (placed true),
      length-map (take m.count ps) entry,
      length-take-le m.count ps (omega arith),
    )

-- ---- the groups in front of a boundary

-- how groups in front of others and their marks come to stand
record Splits (at place : ℕ) (ms : List Mark) (ps : List Placed) (before behind : List Group) : Type 0 where
  pub gone : gone_before place ms ≡ length before
  pub place_is : place ≡ end_of at (take (length before) ms)
  pub before_is : before ≡ grouped at (take (length before) ms) ps
  pub behind_is : behind ≡ grouped (end_of at (take (length before) ms)) (drop (length before) ms) (drop (counted (take (length before) ms)) ps)

none_gone : (at : ℕ) (ms : List Mark) (ps : List Placed) → AreMarks at ms ps → gone_before at ms ≡ 0
none_gone at [] ps are = refl
none_gone at (m ∷ ms) ps are = ap (λ (b : Bool). cond (not b) (1 + gone_before at ms) 0) (lt-ltb at m.end are.0)

first_place : (at : ℕ) (ms : List Mark) (ps : List Placed) → boundary (grouped at ms ps) (end_of at ms) ≡ at
first_place at [] ps = refl
first_place at (m ∷ ms) ps = refl

not_above : (x y : ℕ) → y ≤ x → nat_lt x y ≡ false
not_above x y le = elim (cases_Bool (nat_lt x y)) [
  | inl on ↦ let lt = ltb-true x y on in absurd (omega arith)
  | inr off ↦ off
]

splits : (at place : ℕ) (ms : List Mark) (ps : List Placed) (before behind : List Group) → AreMarks at ms ps → grouped at ms ps ≡ before ++ behind → place ≡ boundary behind (end_of at ms)
    → Splits at place ms ps before behind
splits at place ms ps [] behind are e here =
    let start : place ≡ at = here ∙ ap (λ (gs : List Group). boundary gs (end_of at ms)) (sym e) ∙ first_place at ms ps in
    record { gone = ap (λ p. gone_before p ms) start ∙ none_gone at ms ps are; place_is = start; before_is = refl; behind_is = sym e }
splits at place [] ps (g ∷ before) behind are e here = absurd (cc)
splits at place (m ∷ ms) ps (g ∷ before) behind are e here =
    let first : g ≡ record { at = at; records = map entry (take m.count ps) } = cc in
    let others : grouped m.end ms (drop m.count ps) ≡ before ++ behind = cc in
    let rest = splits m.end place ms (drop m.count ps) before behind are.3 others here in
    let low = ends_rise m.end (length before) ms (drop m.count ps) are.3 in
    let off = not_above place m.end (omega (arith, rest.place_is)) in
    let next : 1 + gone_before place ms ≡ suc (length before) = omega (arith, rest.gone) in
    record {
      gone = ap (λ (b : Bool). cond (not b) (1 + gone_before place ms) 0) off ∙ next;
      place_is = rest.place_is;
      before_is = ap (λ (x : Group). x ∷ before) first ∙ ap (λ (gs : List Group). record { at = at; records = map entry (take m.count ps) } ∷ gs) rest.before_is;
      behind_is = rest.behind_is ∙ ap (grouped (end_of m.end (take (length before) ms)) (drop (length before) ms)) (drop-drop (counted (take (length before) ms)) m.count ps);
    }

-- ---- of records that marks part

-- what the marks tell without their first ones
pub record Forgets (place count : ℕ) (m n : MarksState) : Type 0 where
  pub count_is : count ≡ counted (take (gone_before place m.marks) m.marks)
  pub start_is : n.start ≡ place
  pub gate_is : n.gate ≡ m.gate
  pub marks_is : n.marks ≡ drop (gone_before place m.marks) m.marks
  pub forced_is : n.forced + count ≡ m.forced

module _ (m n : MarksState) (ps : List Placed) (place count : ℕ) (before behind : List Group) (h : IsParted m ps) (f : Forgets place count m n)
    (parts : groups_of m ps ≡ before ++ behind) (here : place ≡ boundary behind m.gate) where
  abbrev front : List Placed
  front = take m.forced ps

  abbrev gone : ℕ
  gone = length before

  split : Splits m.start place m.marks front before behind
  split = splits m.start place m.marks front before behind h.marks_are parts (here ∙ ap (boundary behind) h.gate_is)

  marks_is : n.marks ≡ drop gone m.marks
  marks_is = f.marks_is ∙ ap (λ k. drop k m.marks) split.gone

  count_is : count ≡ counted (take gone m.marks)
  count_is = f.count_is ∙ ap (λ k. counted (take k m.marks)) split.gone

  few : counted (take gone m.marks) ≤ length front
  few = let within = h.within in omega (arith, counted-take gone m.marks, h.count, length-take-le m.forced ps within)

  pub gone_count : count ≡ length (placed_groups before)
  gone_count = count_is ∙ sym (ap (λ (gs : List Group). length (placed_groups gs)) split.before_is ∙ grouped_count m.start (take gone m.marks) front few)

  -- the forced records that are left
  left : take n.forced (drop count ps) ≡ drop (counted (take gone m.marks)) front
  left =
      let sum : count + n.forced ≡ m.forced = omega (arith, f.forced_is) in
      sym (drop-take count n.forced ps) ∙ ap (λ k. drop count (take k ps)) sum ∙ ap (λ k. drop k front) count_is

  pub forgot_groups : groups_of n (drop count ps) ≡ behind
  forgot_groups =
      ap (grouped n.start n.marks) left
      ∙ ap (λ at. grouped at n.marks (drop (counted (take gone m.marks)) front)) (f.start_is ∙ split.place_is)
      ∙ ap (λ (ms : List Mark). grouped (end_of m.start (take gone m.marks)) ms (drop (counted (take gone m.marks)) front)) marks_is
      ∙ sym split.behind_is

  tail_same : drop n.forced (drop count ps) ≡ drop m.forced ps
  tail_same = let sum : count + n.forced ≡ m.forced = omega (arith, f.forced_is) in drop-drop n.forced count ps ∙ ap (λ k. drop k ps) sum

  pub forgot_tail : tail_of n (drop count ps) ≡ tail_of m ps
  forgot_tail = ap (map record_of) tail_same

  both : placed_groups (groups_of m ps) ≡ placed_groups before ++ placed_groups behind
  both = ap placed_groups parts ∙ flat_map-append (λ (g : Group). map (placed true) g.records) before behind

  pub forgot_parted : IsParted n (drop count ps)
  forgot_parted =
      let within = h.within in
      record {
        within = omega (arith, f.forced_is, length-drop count ps);
        count = omega (arith, f.forced_is, h.count, count_is, ap counted marks_is, counts_behind gone m.marks);
        gate_is = f.gate_is ∙ h.gate_is ∙ sym (ap (end_of n.start) marks_is ∙ ap (λ at. end_of at (drop gone m.marks)) (f.start_is ∙ split.place_is) ∙ ends_behind m.start gone m.marks);
        marks_are = subst (λ (l : List Placed). AreMarks n.start n.marks l) (sym left)
            (subst (λ at. AreMarks at n.marks (drop (counted (take gone m.marks)) front)) (sym (f.start_is ∙ split.place_is))
            (subst (λ (ms : List Mark). AreMarks (end_of m.start (take gone m.marks)) ms (drop (counted (take gone m.marks)) front)) (sym marks_is)
            (marks_behind m.start gone m.marks front h.marks_are)));
        forced_ones = left ∙ ap (λ k. drop k front) (sym count_is ∙ gone_count) ∙ ap (drop (length (placed_groups before))) (h.forced_ones ∙ both)
            ∙ drop_at (placed_groups before) (placed_groups behind) (length (placed_groups before)) refl ∙ ap placed_groups (sym forgot_groups);
        tail_ones = tail_same ∙ h.tail_ones ∙ ap (λ gate. placed_tail gate (tail_of m ps)) (sym f.gate_is) ∙ ap (placed_tail n.gate) (sym forgot_tail);
      }

-- the records that are kept, without the first ones
pub items_forgot : (n c k : ℕ) (es : Records) → k + c ≡ n → n ≤ length es → items_of k (drop c es) ≡ drop c (items_of n es)
items_forgot n c k es sum le =
    let all : c + k ≡ n = omega arith in
    let size = length-take-le n es le in
    let front : drop c (map (placed true) (take n es)) ≡ map (placed true) (take k (drop c es)) =
    drop-map (placed true) c (take n es) ∙ ap (λ i. map (placed true) (drop c (take i es))) (sym all) ∙ ap (map (placed true)) (drop-take c k es) in
    let back : drop n es ≡ drop k (drop c es) = ap (λ i. drop i es) (sym all) ∙ sym (drop-drop k c es) in
    sym (drop-append-le c (map (placed true) (take n es)) (map (placed false) (drop n es)) (omega (arith, length-map (take n es) (placed true)))
    ∙ ap (λ (l : List Placed). l ++ map (placed false) (drop n es)) front
    ∙ ap (λ (l : Records). map (placed true) (take k (drop c es)) ++ map (placed false) l) back)
