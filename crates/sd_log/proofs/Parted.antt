-- Lists of records parted by marks, and one more group behind them. It serves the goals of journal.rt.
use Rattle.std.proofs.Common.{◌≡◌, ℕ, suc, ◌+◌, ◌-◌, ◌<◌, ◌≤◌, max, Bool, true, false, List, [], ◌∷◌, ◌++◌, length, take, drop, get_or, set, refl, sym, ap, ◌∙◌, subst, arith, append_assoc, length-append, length-drop}
use Rattle.std.specs.Prelude.{map}
use Rattle.std.proofs.lemmas.List.{append-nil, drop-append-le, get_or-drop, get_or_at, length-map, length-take-le, map-append, take-append-le}
use Rattle.std.proofs.lemmas.Grind.{flat_map-append}
use Rattle.std.proofs.Math.Seq.{drop-cons, set-append_seam, take-length, take-suc}
use Rattle.sd_logrec.specs.declared.record.Record.{Record}
use Rattle.sd_logrec.specs.Kept.{Group, Records, placed_from, spelled}
use Rattle.sd_logrec.specs.Spelling.{spelling}
use Rattle.sd_log.specs.declared.placed.Placed.{Placed}
use Rattle.sd_log.specs.declared.marks.Mark.{Mark}
use Rattle.sd_log.specs.Logs.{lsn_of, placed, placed_groups, placed_tail}
use Rattle.sd_log.specs.Marks.{AreMarks, as_forced, counted, end_of, entry, greatest_lsn, grouped}

-- ---- marks

-- the marks and one more
pub counted-more : (ms : List Mark) (m : Mark) → counted (ms ++ m ∷ []) ≡ counted ms + m.count
counted-more [] m = omega arith
counted-more (x ∷ ms) m = omega (arith, counted-more ms m)

pub end_of-more : (at : ℕ) (ms : List Mark) (m : Mark) → end_of at (ms ++ m ∷ []) ≡ m.end
end_of-more at [] m = refl
end_of-more at (x ∷ ms) m = end_of-more x.end ms m

-- what the first group takes, of a list with more behind it
first_taken : (n more : ℕ) (front back : List Placed) → n + more ≡ length front → (take n (front ++ back) ≡ take n front) × (drop n (front ++ back) ≡ drop n front ++ back) × (more ≡ length (drop n front))
first_taken n more front back e = (take-append-le n front back (omega arith), drop-append-le n front back (omega arith), omega (arith, length-drop n front))

pub grouped-more : (at : ℕ) (ms : List Mark) (m : Mark) (front back : List Placed) → counted ms ≡ length front → m.count ≡ length back
    → grouped at (ms ++ m ∷ []) (front ++ back) ≡ grouped at ms front ++ record { at = end_of at ms; records = map entry back } ∷ []
grouped-more at [] m [] back e n = ap (λ (l : List Placed). record { at = at; records = map entry l } ∷ []) (ap (λ i. take i back) n ∙ take-length back)
grouped-more at [] m (p ∷ front) back e n = absurd (cc)
grouped-more at (x ∷ ms) m front back e n =
    let t = first_taken x.count (counted ms) front back e in
    ap (λ (l : List Placed). record { at = at; records = map entry l } ∷ grouped x.end (ms ++ m ∷ []) (drop x.count (front ++ back))) t.0
    ∙ ap (λ (l : List Placed). record { at = at; records = map entry (take x.count front) } ∷ grouped x.end (ms ++ m ∷ []) l) t.1
    ∙ ap (λ (l : List Group). record { at = at; records = map entry (take x.count front) } ∷ l) (grouped-more x.end ms m (drop x.count front) back t.2 n)

pub AreMarks-more : (at : ℕ) (ms : List Mark) (m : Mark) (front back : List Placed) → AreMarks at ms front → counted ms ≡ length front → m.count ≡ length back
    → end_of at ms < m.end → 0 < m.count → m.high ≡ greatest_lsn back → AreMarks at (ms ++ m ∷ []) (front ++ back)
AreMarks-more at [] m [] back are e n end some h = (end, some, h ∙ ap greatest_lsn (sym (ap (λ i. take i back) n ∙ take-length back)), tt)
AreMarks-more at [] m (p ∷ front) back are e n end some h = absurd (cc)
AreMarks-more at (x ∷ ms) m front back are e n end some h =
    let t = first_taken x.count (counted ms) front back e in
    (are.0, are.1, are.2 ∙ ap greatest_lsn (sym t.0), subst (λ (l : List Placed). AreMarks x.end (ms ++ m ∷ []) l) (sym t.1) (AreMarks-more x.end ms m (drop x.count front) back are.3 t.2 n end some h))

-- ---- records of a tail

pub placed_from-more : (at : ℕ) (rs : List Record) (r : Record) → placed_from at (rs ++ r ∷ []) ≡ placed_from at rs ++ (at + length (spelled rs), r) ∷ []
placed_from-more at [] r = let none : at ≡ at + 0 = omega arith in ap (λ p. (p, r) ∷ []) none
placed_from-more at (x ∷ rs) r =
    let place : at + length (spelling x) + length (spelled rs) ≡ at + length (spelled (x ∷ rs)) = omega (arith, length-append (spelling x) (spelled rs)) in
    ap (λ (l : Records). (at, x) ∷ l) (placed_from-more (at + length (spelling x)) rs r ∙ ap (λ p. placed_from (at + length (spelling x)) rs ++ (p, r) ∷ []) place)

pub spelled-more : (rs : List Record) (r : Record) → spelled (rs ++ r ∷ []) ≡ spelled rs ++ spelling r
spelled-more rs r = flat_map-append spelling rs (r ∷ []) ∙ ap (λ (l : List ℕ). spelled rs ++ l) (append-nil (spelling r))

pub placed_tail-more : (gate : ℕ) (rs : List Record) (r : Record) → placed_tail gate (rs ++ r ∷ []) ≡ placed_tail gate rs ++ placed false (gate + 5 + length (spelled rs), r) ∷ []
placed_tail-more gate rs r = ap (map (placed false)) (placed_from-more (gate + 5) rs r) ∙ map-append (placed false) (placed_from (gate + 5) rs) ((gate + 5 + length (spelled rs), r) ∷ [])

-- forced, they are those of a group
pub as_forced-all : (rs : Records) → map as_forced (map (placed false) rs) ≡ map (placed true) rs
as_forced-all [] = refl
as_forced-all (r ∷ rs) = ap (λ (l : List Placed). placed true r ∷ l) (as_forced-all rs)

pub entry-all : (is_forced : Bool) (rs : Records) → map entry (map (placed is_forced) rs) ≡ rs
entry-all is_forced [] = refl
entry-all is_forced (r ∷ rs) = ap (λ (l : Records). (r.0, r.1) ∷ l) (entry-all is_forced rs)

pub placed_groups-more : (gs : List Group) (g : Group) → placed_groups (gs ++ g ∷ []) ≡ placed_groups gs ++ map (placed true) g.records
placed_groups-more gs g = flat_map-append (λ (x : Group). map (placed true) x.records) gs (g ∷ []) ∙ ap (λ (l : List Placed). placed_groups gs ++ l) (append-nil (map (placed true) g.records))

pub greatest-forced : (ps : List Placed) → greatest_lsn (map as_forced ps) ≡ greatest_lsn ps
greatest-forced [] = refl
greatest-forced (p ∷ ps) = ap (max (lsn_of p)) (greatest-forced ps)

-- ---- telling of records, one after the other, that they are forced

-- the list when all below this index are told of
abbrev pub told_to : ℕ → ℕ → List Placed → List Placed
told_to from i ps = take from ps ++ map as_forced (take (i - from) (drop from ps))

length-told_to : (from i : ℕ) (ps : List Placed) → from ≤ i → i ≤ length ps → length (told_to from i ps) ≡ i
length-told_to from i ps low high =
    omega (arith, length-append (take from ps) (map as_forced (take (i - from) (drop from ps))), length-take-le from ps (omega arith), length-map (take (i - from) (drop from ps)) as_forced, length-take-le (i - from) (drop from ps) (omega (arith, length-drop from ps)), length-drop from ps)

pub tells : (from i : ℕ) (ps now : List Placed) (p : Placed) → from ≤ i → i < length ps → now ≡ told_to from i ps ++ drop i ps → p ≡ get_or now i p → set now i (as_forced p) ≡ told_to from (i + 1) ps ++ drop (i + 1) ps
tells from i ps now p low high is at =
    let one : i + 1 ≡ suc i = omega arith in
    let rest : drop i ps ≡ get_or ps i p ∷ drop (i + 1) ps = drop-cons ps i p high ∙ ap (λ j. get_or ps i p ∷ drop j ps) (sym one) in
    let front : List Placed = told_to from i ps in
    let size : length front ≡ i = length-told_to from i ps low (omega arith) in
    let here : now ≡ front ++ get_or ps i p ∷ drop (i + 1) ps = is ∙ ap (λ (l : List Placed). front ++ l) rest in
    let same : p ≡ get_or ps i p = at ∙ ap (λ (l : List Placed). get_or l i p) here ∙ get_or_at front (get_or ps i p) (drop (i + 1) ps) p i size in
    let written : set now i (as_forced p) ≡ front ++ as_forced p ∷ drop (i + 1) ps =
    ap (λ (l : List Placed). set l i (as_forced p)) here ∙ ap (λ j. set (front ++ get_or ps i p ∷ drop (i + 1) ps) j (as_forced p)) (sym size) ∙ set-append_seam front (get_or ps i p) (drop (i + 1) ps) (as_forced p) in
    let more : i + 1 - from ≡ suc (i - from) = omega arith in
    let place : from + (i - from) ≡ i = omega arith in
    let next : take (suc (i - from)) (drop from ps) ≡ take (i - from) (drop from ps) ++ p ∷ [] =
    take-suc (drop from ps) (i - from) p (omega (arith, length-drop from ps)) ∙ ap (λ (x : Placed). take (i - from) (drop from ps) ++ x ∷ []) (get_or-drop from ps (i - from) p ∙ ap (λ j. get_or ps j p) place ∙ sym same) in
    let longer : told_to from (i + 1) ps ≡ front ++ as_forced p ∷ [] =
    ap (λ j. take from ps ++ map as_forced (take j (drop from ps))) more ∙ ap (λ (l : List Placed). take from ps ++ map as_forced l) next ∙ ap (λ (l : List Placed). take from ps ++ l) (map-append as_forced (take (i - from) (drop from ps)) (p ∷ [])) ∙ sym (append_assoc (take from ps) (map as_forced (take (i - from) (drop from ps))) (as_forced p ∷ [])) in
    written ∙ sym (append_assoc front (as_forced p ∷ []) (drop (i + 1) ps)) ∙ ap (λ (l : List Placed). l ++ drop (i + 1) ps) (sym longer)
