-- What is gathered of all logs, seen flat and LSN by LSN, in the order of the logs. It serves the goals of change.rt.
use Rattle.std.proofs.Common.{◌≡◌, ℕ, zero, suc, ◌+◌, Bool, true, false, eqb, List, [], ◌∷◌, ◌++◌, Option, None, Some, map, refl, sym, ap, ap₂, ◌∙◌, subst, arith}
use Rattle.std.specs.Prelude.{All, IsPermutation, filter, option_map, slice_get}
use Rattle.std.specs.List.Sorted.{IsNonDecreasingBy, IsStableByKey, ties}
use Rattle.std.specs.Option.{option_map_or}
use Rattle.std.specs.Ordering.{is_lt, nat_cmp}
use Rattle.std.proofs.lemmas.Bool.{eqb-true}
use Rattle.std.proofs.lemmas.List.{map-append}
use Rattle.std.proofs.lemmas.List.Elements.{All-get_or, All-weaker, filter_agree, filter-append}
use Rattle.std.proofs.lemmas.List.Kept.{IsNonDecreasingBy-filter}
use Rattle.std.proofs.lemmas.List.Sorted.{All-permutation, IsPermutation-map}
use Rattle.std.proofs.lemmas.Option.{slice_get-map}
use Rattle.sd_logrec.specs.Kept.{Group, Records, placed_from}
use Rattle.sd_logrec.specs.View.{Rec, flat}
use Rattle.sd_log.specs.declared.placed.Placed.{Placed}
use Rattle.sd_log.specs.Logs.{LogState, flats, forced_in, log_in, lsn_of, placed, placed_groups, placed_tail, scanned, without_tail}
use Rattle.sd_chain.specs.Records.{Each, of_page}
use Rattle.sd_chain.proofs.Lists.{cond_both}
use Rattle.sd_redo.specs.declared.change.Change.{Change}
use Rattle.sd_redo.specs.Changes.{AreByLsn, found_of, in_turn, is_forced_of, is_of, placed_in, redone_of}
use Rattle.sd_redo.specs.declared.change.Spot.{Spot}
use Rattle.sd_redo.specs.Spots.{IsSpot, found_at}
use Rattle.sd_redo.proofs.Filters.{IsNonDecreasingBy-map, IsPermutation-filter, filter-map, filter_alike, filter_both, filters_swap, ties_nat}

-- ---- seen flat

pub flats-filter : (t : Rec → Bool) (ps : List Placed) → flats (filter (λ p. t (flat p.rec)) ps) ≡ filter t (flats ps)
flats-filter t ps = sym (filter-map t (λ (p : Placed). flat p.rec) ps)

pub flats-found : (cs : List Change) → flats (map found_of cs) ≡ map redone_of cs
flats-found [] = refl
flats-found (c ∷ cs) = ap (λ (l : List Rec). redone_of c ∷ l) (flats-found cs)

flats_in : (logs : List LogState) (j : ℕ) → flats (placed_in logs j) ≡ log_in logs j
flats_in logs zero = refl
flats_in logs (suc j) = go (slice_get logs j)
  where
    go : (o : Option LogState) → flats (option_map_or scanned o []) ≡ option_map_or (λ log. flats (scanned log)) o []
    go None = refl
    go (Some log) = refl

flats_in_turn : (logs : List LogState) (n : ℕ) → flats (in_turn (placed_in logs) n) ≡ in_turn (log_in logs) n
flats_in_turn logs zero = refl
flats_in_turn logs (suc n) =
    map-append (λ (p : Placed). flat p.rec) (in_turn (placed_in logs) n) (placed_in logs n)
    ∙ ap₂ (λ (k l : List Rec). k ++ l) (flats_in_turn logs n) (flats_in logs n)

pub every_flat : (p n : ℕ) (logs : List LogState)
    → flats (filter (is_of p) (in_turn (placed_in logs) n)) ≡ filter (of_page p) (in_turn (log_in logs) n)
every_flat p n logs = flats-filter (of_page p) (in_turn (placed_in logs) n) ∙ ap (filter (of_page p)) (flats_in_turn logs n)

-- ---- the forced ones

abbrev is_forced : Placed → Bool
is_forced p = p.forced

group_forced : (rs : Records) → filter is_forced (map (placed true) rs) ≡ map (placed true) rs
group_forced [] = refl
group_forced (r ∷ rs) = ap (λ (l : List Placed). placed true r ∷ l) (group_forced rs)

groups_forced : (gs : List Group) → filter is_forced (placed_groups gs) ≡ placed_groups gs
groups_forced [] = refl
groups_forced (g ∷ gs) =
    filter-append is_forced (map (placed true) g.records) (placed_groups gs)
    ∙ ap₂ (λ (k l : List Placed). k ++ l) (group_forced g.records) (groups_forced gs)

tail_not : (rs : Records) → filter is_forced (map (placed false) rs) ≡ []
tail_not [] = refl
tail_not (r ∷ rs) = tail_not rs

forced_scanned : (log : LogState) → filter is_forced (scanned log) ≡ scanned (without_tail log)
forced_scanned log =
    filter-append is_forced (placed_groups log.groups) (placed_tail log.gate log.tail)
    ∙ ap₂ (λ (k l : List Placed). k ++ l) (groups_forced log.groups) (tail_not (placed_from (log.gate + 5) log.tail))

forced_flats : (logs : List LogState) (j : ℕ) → flats (filter is_forced (placed_in logs j)) ≡ forced_in logs j
forced_flats logs zero = refl
forced_flats logs (suc j) =
    go (slice_get logs j) ∙ ap (λ o. option_map_or (λ log. flats (scanned log)) o []) (sym (slice_get-map without_tail logs j))
  where
    go : (o : Option LogState) → flats (filter is_forced (option_map_or scanned o []))
        ≡ option_map_or (λ log. flats (scanned log)) (option_map without_tail o) []
    go None = refl
    go (Some log) = ap flats (forced_scanned log)

forced_in_turn : (logs : List LogState) (n : ℕ) → flats (filter is_forced (in_turn (placed_in logs) n)) ≡ in_turn (forced_in logs) n
forced_in_turn logs zero = refl
forced_in_turn logs (suc n) =
    let before : List Placed = in_turn (placed_in logs) n in
    ap flats (filter-append is_forced before (placed_in logs n))
    ∙ map-append (λ (p : Placed). flat p.rec) (filter is_forced before) (filter is_forced (placed_in logs n))
    ∙ ap₂ (λ (k l : List Rec). k ++ l) (forced_in_turn logs n) (forced_flats logs n)

pub forced_flat : (p n : ℕ) (logs : List LogState)
    → flats (filter (is_forced_of p) (in_turn (placed_in logs) n)) ≡ filter (of_page p) (in_turn (forced_in logs) n)
forced_flat p n logs =
    let all : List Placed = in_turn (placed_in logs) n in
    ap flats (filter_both is_forced (is_of p) all)
    ∙ flats-filter (of_page p) (filter is_forced all)
    ∙ ap (filter (of_page p)) (forced_in_turn logs n)

-- ---- a stable sort

module _ {X : Type 0} (lsn : X → ℕ) where
  -- those of one LSN
  abbrev with_lsn : ℕ → List X → List X
  with_lsn n xs = filter (λ x. eqb (lsn x) n) xs

  abbrev lt_lsn : X → X → Bool
  lt_lsn a b = is_lt (nat_cmp (lsn a) (lsn b))

  with_lsn-stay : (x : X) (xs ys : List X) → IsStableByKey lsn nat_cmp xs ys → with_lsn (lsn x) ys ≡ with_lsn (lsn x) xs
  with_lsn-stay x xs ys stable =
      filter_agree (λ y. eqb (lsn y) (lsn x)) (ties lt_lsn x) (λ y. sym (ties_nat (lsn x) (lsn y))) ys
      ∙ stable x
      ∙ filter_agree (ties lt_lsn x) (λ y. eqb (lsn y) (lsn x)) (λ y. ties_nat (lsn x) (lsn y)) xs

  passes : (t : X → Bool) (xs : List X) → Each (λ x. t x ≡ true) (filter t xs)
  passes t [] = tt
  passes t (x ∷ xs) =
      cond_both (Each (λ y. t y ≡ true)) (t x) (x ∷ filter t xs) (filter t xs) (λ is. (is, passes t xs)) (λ isnt. passes t xs)

  -- at an LSN that none has too
  with_lsn-stays : (n : ℕ) (xs ys : List X) → IsStableByKey lsn nat_cmp xs ys → with_lsn n ys ≡ with_lsn n xs
  with_lsn-stays n xs ys stable = go (with_lsn n xs) (with_lsn n ys) refl refl
    where
      along : (x : X) → eqb (lsn x) n ≡ true → with_lsn n ys ≡ with_lsn n xs
      along x is = subst (λ (m : ℕ). with_lsn m ys ≡ with_lsn m xs) (eqb-true (lsn x) n is) (with_lsn-stay x xs ys stable)

      has : (x : X) (l zs : List X) → with_lsn n zs ≡ x ∷ l → eqb (lsn x) n ≡ true
      has x l zs e = (subst (Each (λ y. eqb (lsn y) n ≡ true)) e (passes (λ y. eqb (lsn y) n) zs)).0

      go : (a b : List X) → with_lsn n xs ≡ a → with_lsn n ys ≡ b → with_lsn n ys ≡ with_lsn n xs
      go [] [] e f = f ∙ sym e
      go (x ∷ a) b e f = along x (has x a xs e)
      go [] (x ∷ b) e f = along x (has x b ys f)

-- a stable sort of changes by LSN
pub sorted_changes : (cs by_lsn : List Change) (ps : List Placed) → map found_of cs ≡ ps → IsPermutation cs by_lsn
    → IsNonDecreasingBy (λ c. (redone_of c).lsn) by_lsn → IsStableByKey (λ c. (redone_of c).lsn) nat_cmp cs by_lsn
    → AreByLsn ps (map found_of by_lsn)
sorted_changes cs by_lsn ps e same rises stable = subst (λ l. AreByLsn l (map found_of by_lsn)) e (record {
  same = IsPermutation-map found_of cs by_lsn same;
  rises = IsNonDecreasingBy-map found_of lsn_of by_lsn rises;
  turns = λ n.
      filter-map (λ p. eqb (lsn_of p) n) found_of by_lsn
      ∙ ap (map found_of) (with_lsn-stays (λ c. (redone_of c).lsn) n cs by_lsn stable)
      ∙ sym (filter-map (λ p. eqb (lsn_of p) n) found_of cs);
})

-- and one of records that are named by where they stand
told_alike : (n : ℕ) (ts : List Spot) → All IsSpot ts → filter (λ t. eqb t.lsn n) ts ≡ filter (λ t. eqb (lsn_of (found_at t)) n) ts
told_alike n ts told =
    filter_alike (λ t. eqb t.lsn n) (λ t. eqb (lsn_of (found_at t)) n) ts
    (All-weaker IsSpot (λ t. eqb t.lsn n ≡ eqb (lsn_of (found_at t)) n) (λ t is. ap (λ m. eqb m n) is.lsn_is) ts told)

told_rise : (ts : List Spot) → All IsSpot ts → IsNonDecreasingBy (λ t. t.lsn) ts → IsNonDecreasingBy (λ t. lsn_of (found_at t)) ts
told_rise ts told rises i j d le lt =
    let first = All-get_or IsSpot ts i d (omega arith) told in
    let second = All-get_or IsSpot ts j d lt told in
    omega (arith, rises i j d le lt, first.lsn_is, second.lsn_is)

pub sorted_spots : (ts by_lsn : List Spot) (ps : List Placed) → map found_at ts ≡ ps → All IsSpot ts → IsPermutation ts by_lsn
    → IsNonDecreasingBy (λ t. t.lsn) by_lsn → IsStableByKey (λ t. t.lsn) nat_cmp ts by_lsn → AreByLsn ps (map found_at by_lsn)
sorted_spots ts by_lsn ps e told same rises stable =
    let still : All IsSpot by_lsn = All-permutation IsSpot ts by_lsn same told in
    subst (λ l. AreByLsn l (map found_at by_lsn)) e (record {
      same = IsPermutation-map found_at ts by_lsn same;
      rises = IsNonDecreasingBy-map found_at lsn_of by_lsn (told_rise by_lsn still rises);
      turns = λ n.
          filter-map (λ p. eqb (lsn_of p) n) found_at by_lsn
          ∙ ap (map found_at) (sym (told_alike n by_lsn still) ∙ with_lsn-stays (λ (t : Spot). t.lsn) n ts by_lsn stable ∙ told_alike n ts told)
          ∙ sym (filter-map (λ p. eqb (lsn_of p) n) found_at ts);
    })

-- the forced ones of a page's, by LSN
pub forced_by_lsn : (page : ℕ) (ps by_lsn : List Placed) → AreByLsn (filter (is_of page) ps) by_lsn → AreByLsn (filter (is_forced_of page) ps) (filter (λ x. x.forced) by_lsn)
forced_by_lsn page ps by_lsn h =
    let own : filter is_forced (filter (is_of page) ps) ≡ filter (is_forced_of page) ps = filters_swap is_forced (is_of page) ps ∙ sym (filter_both is_forced (is_of page) ps) in
    subst (λ l. AreByLsn l (filter is_forced by_lsn)) own (record {
      same = IsPermutation-filter is_forced (filter (is_of page) ps) by_lsn h.same;
      rises = IsNonDecreasingBy-filter lsn_of is_forced by_lsn h.rises;
      turns = λ n.
          filters_swap (λ p. eqb (lsn_of p) n) is_forced by_lsn ∙ ap (filter is_forced) (h.turns n)
          ∙ filters_swap is_forced (λ p. eqb (lsn_of p) n) (filter (is_of page) ps);
    })
