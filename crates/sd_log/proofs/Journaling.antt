-- A record that comes behind others that marks part, and a tail that becomes a group.
use Rattle.std.proofs.Common.{◌≡◌, inl, inr, ℕ, ◌+◌, ◌-◌, ◌<◌, true, false, List, [], ◌∷◌, ◌++◌, length, take, drop, sym, ap, ◌∙◌, subst, arith, length-append, length-drop}
use Rattle.std.specs.Prelude.{map}
use Rattle.std.proofs.lemmas.List.{drop-append-le, length-map, length-take-le, map-append, take-append-drop, take-append-le, take_all}
use Rattle.std.proofs.Math.ListN.{drop_of_length-le}
use Rattle.std.proofs.lemmas.Bool.{cases_lt}
use Rattle.sd_logrec.specs.declared.record.Record.{Record}
use Rattle.sd_logrec.specs.Kept.{Records, placed_from, spelled}
use Rattle.sd_log.specs.declared.placed.Placed.{Placed}
use Rattle.sd_log.specs.declared.marks.Mark.{Mark}
use Rattle.sd_log.specs.Logs.{placed, placed_groups, placed_tail}
use Rattle.sd_log.specs.Marks.{AreMarks, MarksState, as_forced, counted, end_of, entry, greatest_lsn, grouped}
use Rattle.sd_log.specs.Parts.{IsParted, groups_of, record_of, tail_of}
use Rattle.sd_log.proofs.Parted.{AreMarks-more, as_forced-all, counted-more, end_of-more, entry-all, greatest-forced, grouped-more, placed_groups-more, placed_tail-more}

-- ---- no records yet

pub none_parted : (m : MarksState) → m.marks ≡ [] → m.forced ≡ 0 → m.gate ≡ m.start → IsParted m []
none_parted m none zero_is here =
    record {
      within = omega (arith, zero_is);
      count = zero_is ∙ sym (ap counted none);
      gate_is = here ∙ sym (ap (end_of m.start) none);
      marks_are = subst (λ (ms : List Mark). AreMarks m.start ms (take m.forced [])) (sym none) tt;
      forced_ones = taken ∙ sym (ap (λ (ms : List Mark). placed_groups (grouped m.start ms (take m.forced []))) none);
      tail_ones = left ∙ sym (ap (λ (l : List Placed). placed_tail m.gate (map record_of l)) left);
    }
  where
    taken : take {A = Placed} m.forced [] ≡ []
    taken = ap (λ n. take {A = Placed} n []) zero_is

    left : drop {A = Placed} m.forced [] ≡ []
    left = ap (λ n. drop {A = Placed} n []) zero_is

-- ---- one more record

module _ (m : MarksState) (ps : List Placed) (r : Record) (place : ℕ) (h : IsParted m ps) where
  abbrev last : Placed
  last = placed false (place, r)

  front_stays : take m.forced (ps ++ last ∷ []) ≡ take m.forced ps
  front_stays = take-append-le m.forced ps (last ∷ []) h.within

  back_more : drop m.forced (ps ++ last ∷ []) ≡ drop m.forced ps ++ last ∷ []
  back_more = drop-append-le m.forced ps (last ∷ []) h.within

  pub pushed_groups : groups_of m (ps ++ last ∷ []) ≡ groups_of m ps
  pushed_groups = ap (grouped m.start m.marks) front_stays

  pub pushed_tail : tail_of m (ps ++ last ∷ []) ≡ tail_of m ps ++ r ∷ []
  pushed_tail = ap (map record_of) back_more ∙ map-append record_of (drop m.forced ps) (last ∷ [])

  pub pushed_parted : place ≡ m.gate + 5 + length (spelled (tail_of m ps)) → IsParted m (ps ++ last ∷ [])
  pushed_parted here =
      let within = h.within in
      record {
        within = omega (arith, length-append ps (last ∷ []));
        count = h.count;
        gate_is = h.gate_is;
        marks_are = subst (λ (l : List Placed). AreMarks m.start m.marks l) (sym front_stays) h.marks_are;
        forced_ones = subst (λ (l : List Placed). l ≡ placed_groups (grouped m.start m.marks l)) (sym front_stays) h.forced_ones;
        tail_ones = back_more ∙ ap (λ (l : List Placed). l ++ last ∷ []) h.tail_ones
            ∙ ap (λ n. placed_tail m.gate (tail_of m ps) ++ placed false (n, r) ∷ []) here
            ∙ sym (placed_tail-more m.gate (tail_of m ps) r) ∙ ap (placed_tail m.gate) (sym pushed_tail);
      }

-- where the tail has a record, there are more than are forced
pub more_placed : (m : MarksState) (ps : List Placed) → (tail_of m ps ≡ [] → ⊥) → m.forced < length ps
more_placed m ps some = elim (cases_lt m.forced (length ps)) [
  | inl lt ↦ lt
  | inr le ↦ absurd (some (ap (map record_of) (drop_of_length-le ps {i = m.forced} le)))
]

-- ---- a tail that becomes a group

-- the records, all of them forced
abbrev pub all_forced : MarksState → List Placed → List Placed
all_forced m ps = take m.forced ps ++ map as_forced (drop m.forced ps)

-- what the marks tell of one group more
pub record Closes (m n : MarksState) (ps : List Placed) (len : ℕ) : Type 0 where
  pub start_is : n.start ≡ m.start
  pub gate_is : n.gate ≡ m.gate + 5 + len
  pub marks_is : n.marks ≡ m.marks ++ record { end = m.gate + 5 + len; count = length ps - m.forced; high = greatest_lsn (drop m.forced ps) } ∷ []
  pub forced_is : n.forced ≡ m.forced + (length ps - m.forced)

module _ (m n : MarksState) (ps : List Placed) (len : ℕ) (h : IsParted m ps) (c : Closes m n ps len) where
  abbrev front : List Placed
  front = take m.forced ps

  abbrev back : List Placed
  back = map as_forced (drop m.forced ps)

  abbrev mark : Mark
  mark = record { end = m.gate + 5 + len; count = length ps - m.forced; high = greatest_lsn (drop m.forced ps) }

  front_len : length front ≡ m.forced
  front_len = let within = h.within in length-take-le m.forced ps (omega arith)

  back_len : length back ≡ length ps - m.forced
  back_len = omega (arith, length-map (drop m.forced ps) as_forced, length-drop m.forced ps)

  pub all_len : length (all_forced m ps) ≡ length ps
  all_len = let within = h.within in omega (arith, length-append front back, front_len, back_len)

  pub forced_all : n.forced ≡ length ps
  forced_all = let within = h.within in let forced_is = c.forced_is in omega arith

  pub taken : take n.forced (all_forced m ps) ≡ all_forced m ps
  taken = take_all n.forced (all_forced m ps) (omega (arith, forced_all, all_len))

  pub left : drop n.forced (all_forced m ps) ≡ []
  left = drop_of_length-le (all_forced m ps) {i = n.forced} (omega (arith, forced_all, all_len))

  back_is : back ≡ map (placed true) (placed_from (m.gate + 5) (tail_of m ps))
  back_is = ap (map as_forced) h.tail_ones ∙ as_forced-all (placed_from (m.gate + 5) (tail_of m ps))

  pub closed_groups : groups_of n (all_forced m ps) ≡ groups_of m ps ++ record { at = m.gate; records = placed_from (m.gate + 5) (tail_of m ps) } ∷ []
  closed_groups =
      ap (λ (l : List Placed). grouped n.start n.marks l) taken
      ∙ ap (λ start. grouped start n.marks (front ++ back)) c.start_is
      ∙ ap (λ (ms : List Mark). grouped m.start ms (front ++ back)) c.marks_is
      ∙ grouped-more m.start m.marks mark front back (sym h.count ∙ sym front_len) (sym back_len)
      ∙ ap (λ place. grouped m.start m.marks front ++ record { at = place; records = map entry back } ∷ []) (sym h.gate_is)
      ∙ ap (λ (l : Records). grouped m.start m.marks front ++ record { at = m.gate; records = l } ∷ [])
      (ap (map entry) back_is ∙ entry-all true (placed_from (m.gate + 5) (tail_of m ps)))

  pub closed_tail : tail_of n (all_forced m ps) ≡ []
  closed_tail = ap (map record_of) left

  pub closed_parted : m.forced < length ps → IsParted n (all_forced m ps)
  closed_parted some =
      let forced_is = forced_all in
      let len_is = all_len in
      let sum = h.count in
      let gate = h.gate_is in
      record {
        within = omega arith;
        count = omega (arith, c.forced_is, h.count, ap counted c.marks_is, counted-more m.marks mark);
        gate_is = c.gate_is ∙ sym (end_of-more n.start m.marks mark) ∙ sym (ap (end_of n.start) c.marks_is);
        marks_are = subst (λ (l : List Placed). AreMarks n.start n.marks l) (sym taken)
            (subst (λ start. AreMarks start n.marks (front ++ back)) (sym c.start_is)
            (subst (λ (ms : List Mark). AreMarks m.start ms (front ++ back)) (sym c.marks_is)
            (AreMarks-more m.start m.marks mark front back h.marks_are (sym h.count ∙ sym front_len) (sym back_len) (omega arith) (omega arith)
            (sym (greatest-forced (drop m.forced ps))))));
        forced_ones = taken ∙ ap (λ (l : List Placed). l ++ back) h.forced_ones ∙ ap (λ (l : List Placed). placed_groups (groups_of m ps) ++ l) back_is
            ∙ sym (placed_groups-more (groups_of m ps) (record { at = m.gate; records = placed_from (m.gate + 5) (tail_of m ps) })) ∙ ap placed_groups (sym closed_groups);
        tail_ones = left ∙ sym (ap (λ (l : List Placed). placed_tail n.gate (map record_of l)) left);
      }

-- ---- without the tail

module _ (m : MarksState) (ps : List Placed) (h : IsParted m ps) where
  front_all : take m.forced (take m.forced ps) ≡ take m.forced ps
  front_all = let within = h.within in take_all m.forced (take m.forced ps) (omega (arith, length-take-le m.forced ps within))

  pub dropped_groups : groups_of m (take m.forced ps) ≡ groups_of m ps
  dropped_groups = ap (grouped m.start m.marks) front_all

  none_left : drop m.forced (take m.forced ps) ≡ []
  none_left = let within = h.within in drop_of_length-le (take m.forced ps) {i = m.forced} (omega (arith, length-take-le m.forced ps within))

  pub dropped_tail : tail_of m (take m.forced ps) ≡ []
  dropped_tail = ap (map record_of) none_left

  pub dropped_parted : IsParted m (take m.forced ps)
  dropped_parted =
      let within = h.within in
      record {
        within = omega (arith, length-take-le m.forced ps within);
        count = h.count;
        gate_is = h.gate_is;
        marks_are = subst (λ (l : List Placed). AreMarks m.start m.marks l) (sym front_all) h.marks_are;
        forced_ones = front_all ∙ h.forced_ones ∙ ap placed_groups (sym dropped_groups);
        tail_ones = none_left ∙ sym (ap (λ (l : List Placed). placed_tail m.gate (map record_of l)) none_left);
      }

-- all records, of the groups and behind them
pub parted_all : (m : MarksState) (ps : List Placed) → IsParted m ps → ps ≡ placed_groups (groups_of m ps) ++ placed_tail m.gate (tail_of m ps)
parted_all m ps h = sym (take-append-drop m.forced ps) ∙ ap (λ (l : List Placed). l ++ drop m.forced ps) h.forced_ones ∙ ap (λ (l : List Placed). placed_groups (groups_of m ps) ++ l) h.tail_ones
