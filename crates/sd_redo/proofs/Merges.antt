-- The changes of a page by LSN, and those of all pages. It serves the goals of change.rt.
use Rattle.std.proofs.Common.{◌≡◌, ◌≢◌, ⊎_elim, ℕ, zero, suc, ◌+◌, ◌-◌, ◌<◌, ◌≤◌, Bool, true, false, cond, eqb, List, [], ◌∷◌, ◌++◌, length, map, get_or, refl, sym, ap, ap₂, ◌∙◌, subst, arith, eq-eqb, ne_eqb}
use Rattle.std.specs.Prelude.{All, filter, IsPermutation, slice_get, ◌&&◌}
use Rattle.std.specs.List.Sorted.{IsNonDecreasingBy}
use Rattle.std.specs.Option.{option_map_or}
use Rattle.std.proofs.lemmas.Bool.{cases_lt, eqb-true}
use Rattle.std.proofs.lemmas.List.{append-nil, get_or-append-add, get_or_append_left, length-append, map-append}
use Rattle.std.proofs.lemmas.List.Elements.{All-append, All-cons, All-filter, All-get_or, All-head, All-map, All-nil, All-tail, All-weaker, filter-append, filter_passes}
use Rattle.std.proofs.lemmas.List.Sorted.{All-permutation, IsNonDecreasingBy-short, IsPermutation-append_comm, IsPermutation-append_left, IsPermutation-map, IsPermutation-refl, IsPermutation-trans, length_permutation}
use Rattle.sd_logrec.specs.declared.record.Record.{Record}
use Rattle.sd_logrec.specs.declared.record.Record.TheVariants as records
use Rattle.sd_logrec.specs.Spelling.{HasSpelling}
use Rattle.sd_logrec.specs.View.{Rec, flat}
use Rattle.sd_log.specs.declared.placed.Placed.{Placed}
use Rattle.sd_log.specs.Logs.{AreSpelled, LogState, flats, forced_in, log_in, scanned, without_tail}
use Rattle.sd_chain.specs.Storage.{all_of, sorted}
use Rattle.sd_chain.specs.Records.{changes, of_page}
use Rattle.sd_chain.proofs.Newest.{and_true}
use Rattle.sd_chain.proofs.Ties.{slow_of}
use Rattle.sd_redo.specs.declared.change.Change.{Change}
use Rattle.sd_redo.specs.Changes.{AllStand, AreByLsn, AreChanges, ChangesPage, IsChange, IsMerged, LsnsRise, Rises, StandsIn, chain_of, found_of, in_turn, is_forced_of, is_of, placed_in, redone_of}
use Rattle.sd_redo.proofs.Filters.{IsNonDecreasingBy-map, IsPermutation-filter, filter_all, filter_within}
use Rattle.sd_redo.proofs.Ordered.{at_lsn, ordered, recs_at}
use Rattle.sd_redo.proofs.Turns.{every_flat, flats-filter, flats-found, forced_flat}

-- the records of all logs, the last one first or the first one first
turned : (logs : ℕ → List Rec) (n : ℕ) → IsPermutation (all_of logs n) (in_turn logs n)
unfolding all_of
turned logs zero = IsPermutation-refl []
turned logs (suc n) =
    IsPermutation-trans (logs n ++ all_of logs n) (all_of logs n ++ logs n) (in_turn logs n ++ logs n)
    (IsPermutation-append_comm (logs n) (all_of logs n))
    (IsPermutation-append_left (logs n) (all_of logs n) (in_turn logs n) (turned logs n))

-- ---- records of the grammar

spelled_in : (logs : List LogState) (j : ℕ) → All (λ log. AreSpelled (scanned log)) logs → AreSpelled (placed_in logs j)
spelled_in logs zero all = All-nil (λ (x : Placed). HasSpelling x.rec)
spelled_in logs (suc j) all = go logs j all
  where
    go : (ls : List LogState) (i : ℕ) → All (λ log. AreSpelled (scanned log)) ls → AreSpelled (option_map_or scanned (slice_get ls i) [])
    go [] i h = All-nil (λ (x : Placed). HasSpelling x.rec)
    go (l ∷ ls) zero h = All-head (λ log. AreSpelled (scanned log)) l ls h
    go (l ∷ ls) (suc i) h = go ls i (All-tail (λ log. AreSpelled (scanned log)) l ls h)

spelled_turn : (logs : List LogState) (n : ℕ) → All (λ log. AreSpelled (scanned log)) logs → AreSpelled (in_turn (placed_in logs) n)
spelled_turn logs zero all = All-nil (λ (x : Placed). HasSpelling x.rec)
spelled_turn logs (suc n) all =
    All-append (λ (x : Placed). HasSpelling x.rec) (in_turn (placed_in logs) n) (placed_in logs n) (spelled_turn logs n all) (spelled_in logs n all)

-- ---- one page

-- what a list by LSN is of the records of all logs that pass a test, where these are all of one page
module _ (logs : List LogState) (n p : ℕ) (test : Placed → Bool) (narrow : (x : Placed) → test x ≡ true → is_of p x ≡ true)
    (ps : List Placed) (by : AreByLsn (filter test (in_turn (placed_in logs) n)) ps) where
  pub tested : All (λ x. test x ≡ true) ps
  tested =
      let all : List Placed = in_turn (placed_in logs) n in
      All-permutation (λ x. test x ≡ true) (filter test all) ps by.same (filter_passes test all)

  pub page_changes : All (λ x. ChangesPage x.rec p) ps
  page_changes = All-weaker (λ x. test x ≡ true) (λ x. ChangesPage x.rec p)
      (λ x e.
      let both = and_true (changes (flat x.rec).kind) (eqb (flat x.rec).page p) (narrow x e) in record {
        kind = both.0;
        here = eqb-true (flat x.rec).page p both.1;
      }) ps tested

  rises_flat : IsNonDecreasingBy (λ x. x.lsn) (flats ps)
  rises_flat = IsNonDecreasingBy-map (λ (x : Placed). flat x.rec) (λ x. x.lsn) ps by.rises

  -- where they are the page's records in other lists
  module _ (recs : ℕ → List Rec)
      (is : flats (filter test (in_turn (placed_in logs) n)) ≡ filter (of_page p) (in_turn recs n)) where
    same_flat : IsPermutation (filter (of_page p) (in_turn recs n)) (flats ps)
    same_flat = subst (λ l. IsPermutation l (flats ps)) is
        (IsPermutation-map (λ (x : Placed). flat x.rec) (filter test (in_turn (placed_in logs) n)) ps by.same)

    turns_flat : (m : ℕ) → recs_at m (flats ps) ≡ recs_at m (filter (of_page p) (in_turn recs n))
    turns_flat m =
        sym (flats-filter (at_lsn m) ps) ∙ ap flats (by.turns m)
        ∙ flats-filter (at_lsn m) (filter test (in_turn (placed_in logs) n)) ∙ ap (recs_at m) is

    pub merges : IsMerged p recs n (flats ps)
    merges = record {
      same = IsPermutation-trans (filter (of_page p) (all_of recs n)) (filter (of_page p) (in_turn recs n)) (flats ps)
          (IsPermutation-filter (of_page p) (all_of recs n) (in_turn recs n) (turned recs n)) same_flat;
      rises = rises_flat;
    }

    own : filter (of_page p) (flats ps) ≡ flats ps
    own = filter_all (of_page p) (flats ps) (All-map (λ x. of_page p x ≡ true) (λ (x : Placed). flat x.rec) ps
        (All-weaker (λ x. test x ≡ true) (λ x. is_of p x ≡ true) narrow ps tested))

    pub ordered_chain : ((j : ℕ) → Rises (recs j)) → flats ps ≡ sorted (filter (of_page p) (all_of recs n))
    ordered_chain rise =
        let all : List Rec = filter (of_page p) (in_turn recs n) in
        sym own ∙ ordered (of_page p) n recs (flats ps) all rise
        (filter_within (of_page p) (of_page p) (λ x e. e) (in_turn recs n))
        (slow_of (filter (of_page p) (flats ps)) (subst (IsNonDecreasingBy (λ x. x.lsn)) (sym own) rises_flat))
        turns_flat

-- the forced ones of a page
module _ (logs : List LogState) (n p : ℕ) (ps : List Placed)
    (by : AreByLsn (filter (is_forced_of p) (in_turn (placed_in logs) n)) ps) where
  of_it : (x : Placed) → is_forced_of p x ≡ true → is_of p x ≡ true
  of_it x e = (and_true x.forced (is_of p x) e).1

  pub forced_spelled : All (λ log. AreSpelled (scanned log)) logs → AreSpelled ps
  forced_spelled spelled =
      let all : List Placed = in_turn (placed_in logs) n in
      All-permutation (λ (x : Placed). HasSpelling x.rec) (filter (is_forced_of p) all) ps by.same
      (All-filter (is_forced_of p) (λ (x : Placed). HasSpelling x.rec) all (spelled_turn logs n spelled))

  pub forced_changes : All (λ x. ChangesPage x.rec p) ps
  forced_changes = page_changes logs n p (is_forced_of p) of_it ps by

  pub forced_ones : All (λ x. x.forced ≡ true) ps
  forced_ones = All-weaker (λ x. is_forced_of p x ≡ true) (λ x. x.forced ≡ true) (λ x e. (and_true x.forced (is_of p x) e).0) ps
      (tested logs n p (is_forced_of p) of_it ps by)

  pub forced_merged : IsMerged p (forced_in logs) n (flats ps)
  forced_merged = merges logs n p (is_forced_of p) of_it ps by (forced_in logs) (forced_flat p n logs)

  pub forced_chain : LsnsRise (map without_tail logs) → flats ps ≡ sorted (filter (of_page p) (all_of (forced_in logs) n))
  forced_chain rise = ordered_chain logs n p (is_forced_of p) of_it ps by (forced_in logs) (forced_flat p n logs) rise

-- ---- page by page

of_page_is : (p : ℕ) (c : Change) → IsChange c → of_page p (redone_of c) ≡ eqb c.page p
of_page_is p c is = ap₂ (λ k n. k && eqb n p) is.page.kind is.page.here

chain_of-append : (p : ℕ) (cs ds : List Change) → chain_of p (cs ++ ds) ≡ chain_of p cs ++ chain_of p ds
chain_of-append p cs ds = ap (filter (of_page p)) (map-append redone_of cs ds) ∙ filter-append (of_page p) (map redone_of cs) (map redone_of ds)

-- changes of other pages
chain_of-others : (p : ℕ) (cs : List Change) → AreChanges cs → All (λ c. c.page ≢ p) cs → chain_of p cs ≡ []
chain_of-others p [] are others = refl
chain_of-others p (c ∷ cs) are others =
    ap (λ b. cond b (redone_of c ∷ chain_of p cs) (chain_of p cs))
    (of_page_is p c (All-head IsChange c cs are) ∙ ne_eqb c.page p (All-head (λ d. d.page ≢ p) c cs others))
    ∙ chain_of-others p cs (All-tail IsChange c cs are) (All-tail (λ d. d.page ≢ p) c cs others)

-- changes of this page
chain_of-own : (p : ℕ) (cs : List Change) → AreChanges cs → All (λ c. c.page ≡ p) cs → chain_of p cs ≡ map redone_of cs
chain_of-own p [] are same = refl
chain_of-own p (c ∷ cs) are same =
    ap (λ b. cond b (redone_of c ∷ chain_of p cs) (chain_of p cs))
    (of_page_is p c (All-head IsChange c cs are) ∙ eq-eqb c.page p (All-head (λ d. d.page ≡ p) c cs same))
    ∙ ap (λ l. redone_of c ∷ l) (chain_of-own p cs (All-tail IsChange c cs are) (All-tail (λ d. d.page ≡ p) c cs same))

paged : (p : ℕ) (cs : List Change) → AreChanges cs → All (λ x. ChangesPage x.rec p) (map found_of cs) → All (λ c. c.page ≡ p) cs
paged p [] are change = All-nil (λ (c : Change). c.page ≡ p)
paged p (c ∷ cs) are change =
    All-cons (λ d. d.page ≡ p) c cs
    (sym (All-head IsChange c cs are).page.here ∙ (All-head (λ x. ChangesPage x.rec p) (found_of c) (map found_of cs) change).here)
    (paged p cs (All-tail IsChange c cs are) (All-tail (λ x. ChangesPage x.rec p) (found_of c) (map found_of cs) change))

-- the changes of the pages below p
pub record Pages (logs : List LogState) (n p : ℕ) (cs : List Change) : Type 0 where
  pub changes : AreChanges cs
  pub stand : AllStand logs cs
  pub below : All (λ c. c.page < p) cs
  pub rises : IsNonDecreasingBy (λ c. c.page) cs
  pub merged : (q : ℕ) → q < p → IsMerged q (log_in logs) n (chain_of q cs)
  pub chains : LsnsRise logs → (q : ℕ) → q < p → chain_of q cs ≡ sorted (filter (of_page q) (all_of (log_in logs) n))

pub no_pages : (logs : List LogState) (n : ℕ) → Pages logs n 0 []
no_pages logs n = record {
  changes = All-nil IsChange;
  stand = All-nil (λ c. StandsIn logs c.dev c.found.now);
  below = All-nil (λ (c : Change). c.page < 0);
  rises = IsNonDecreasingBy-short (λ (c : Change). c.page) [] (omega arith);
  merged = λ q lt. absurd (omega arith);
  chains = λ rise q lt. absurd (omega arith);
}

-- one page more
module _ (logs : List LogState) (n p : ℕ) (cs ds : List Change) (s : Pages logs n p cs) (are : AreChanges ds)
    (by : AreByLsn (filter (is_of p) (in_turn (placed_in logs) n)) (map found_of ds)) where
  own_page : All (λ c. c.page ≡ p) ds
  own_page = paged p ds are (page_changes logs n p (is_of p) (λ x e. e) (map found_of ds) by)

  low : All (λ c. c.page ≤ p) (cs ++ ds)
  low = All-append (λ c. c.page ≤ p) cs ds (All-weaker (λ c. c.page < p) (λ c. c.page ≤ p) (λ c lt. omega arith) cs s.below)
      (All-weaker (λ c. c.page ≡ p) (λ c. c.page ≤ p) (λ c e. omega (arith, e)) ds own_page)

  rises_more : IsNonDecreasingBy (λ c. c.page) (cs ++ ds)
  rises_more i j d le lt = ⊎_elim
      (λ (inside : j < length cs).
      let a : get_or (cs ++ ds) i d ≡ get_or cs i d = get_or_append_left cs ds d i (omega arith) in
      let b : get_or (cs ++ ds) j d ≡ get_or cs j d = get_or_append_left cs ds d j inside in
      let known = s.rises i j d le inside in
      omega (arith, ap (λ (c : Change). c.page) a, ap (λ (c : Change). c.page) b, known))
      (λ (past : length cs ≤ j).
      let at : length cs + (j - length cs) ≡ j = omega arith in
      let within : j - length cs < length ds = omega (arith, length-append cs ds) in
      let b : get_or (cs ++ ds) j d ≡ get_or ds (j - length cs) d =
      ap (λ k. get_or (cs ++ ds) k d) (sym at) ∙ get_or-append-add cs ds (j - length cs) d in
      let high = All-get_or (λ (c : Change). c.page ≡ p) ds (j - length cs) d within own_page in
      let first = All-get_or (λ (c : Change). c.page ≤ p) (cs ++ ds) i d (omega arith) low in
      omega (arith, ap (λ (c : Change). c.page) b, high, first))
      (cases_lt j (length cs))

  lower : (q : ℕ) → q < p → chain_of q (cs ++ ds) ≡ chain_of q cs
  lower q lt =
      chain_of-append q cs ds
      ∙ ap (λ l. chain_of q cs ++ l) (chain_of-others q ds are
      (All-weaker (λ c. c.page ≡ p) (λ c. c.page ≢ q) (λ c e f. absurd (omega (arith, e, f))) ds own_page))
      ∙ append-nil (chain_of q cs)

  here : chain_of p (cs ++ ds) ≡ map redone_of ds
  here =
      chain_of-append p cs ds
      ∙ ap (λ l. l ++ chain_of p ds) (chain_of-others p cs s.changes
      (All-weaker (λ c. c.page < p) (λ c. c.page ≢ p) (λ c lt e. absurd (omega (arith, e))) cs s.below))
      ∙ chain_of-own p ds are own_page

  -- a page up to this one
  up_to : (q : ℕ) (P : ℕ → List Rec → Type 0) → (q < p → P q (chain_of q cs)) → P p (map redone_of ds) → q < p + 1 → P q (chain_of q (cs ++ ds))
  up_to q P before this lt = ⊎_elim
      (λ (less : q < p). subst (P q) (sym (lower q less)) (before less))
      (λ (le : p ≤ q).
      let is : p ≡ q = omega arith in
      subst (λ (r : ℕ). P r (chain_of r (cs ++ ds))) is (subst (P p) (sym here) this))
      (cases_lt q p)

  pub one_page : (new : List Change) → AllStand logs ds → new ≡ cs ++ ds → Pages logs n (p + 1) new
  one_page new stand e = subst (Pages logs n (p + 1)) (sym e) (record {
    changes = All-append IsChange cs ds s.changes are;
    stand = All-append (λ c. StandsIn logs c.dev c.found.now) cs ds s.stand stand;
    below = All-weaker (λ c. c.page ≤ p) (λ c. c.page < p + 1) (λ c le. omega arith) (cs ++ ds) low;
    rises = rises_more;
    merged = λ q. up_to q (λ r xs. IsMerged r (log_in logs) n xs) (s.merged q)
        (subst (IsMerged p (log_in logs) n) (flats-found ds)
        (merges logs n p (is_of p) (λ x e. e) (map found_of ds) by (log_in logs) (every_flat p n logs)));
    chains = λ rise q. up_to q (λ r xs. xs ≡ sorted (filter (of_page r) (all_of (log_in logs) n))) (s.chains rise q)
        (sym (flats-found ds)
        ∙ ordered_chain logs n p (is_of p) (λ x e. e) (map found_of ds) by (log_in logs) (every_flat p n logs) rise);
  })

-- ---- no record changes a page behind the last

past_pages : (q : ℕ) → 1024 ≤ q → (x : Placed) → HasSpelling x.rec → of_page q (flat x.rec) ≡ false
past_pages q le x = go x.rec
  where
    go : (r : Record) → HasSpelling r → of_page q (flat r) ≡ false
    go (records.Start lsn epoch) h = refl
    go (records.Update lsn txn prev page slot capacity before after) (_, _, _, lt, _, _, _, _) =
        ne_eqb page q (λ e. absurd (omega (arith, e)))
    go (records.Clr lsn txn prev undo_next page slot after) (_, _, _, _, lt, _, _) =
        ne_eqb page q (λ e. absurd (omega (arith, e)))
    go (records.Commit lsn txn prev) h = refl
    go (records.End lsn txn prev) h = refl
    go (records.BeginCheck lsn) h = refl
    go (records.EndCheck lsn begin spans recs) h = refl

filter_none : (t : Placed → Bool) (xs : List Placed) → All (λ x. t x ≡ false) xs → filter t xs ≡ []
filter_none t [] none = refl
filter_none t (x ∷ xs) none =
    ap (λ b. cond b (x ∷ filter t xs) (filter t xs)) (All-head (λ y. t y ≡ false) x xs none)
    ∙ filter_none t xs (All-tail (λ y. t y ≡ false) x xs none)

no_change : (xs : List Rec) → IsPermutation xs [] → xs ≡ []
no_change [] same = refl
no_change (x ∷ xs) same = absurd (let len = length_permutation (x ∷ xs) [] same in omega arith)

-- the changes of all pages
module _ (logs : List LogState) (n : ℕ) (cs : List Change) (s : Pages logs n 1024 cs)
    (spelled : All (λ log. AreSpelled (scanned log)) logs) (q : ℕ) where
  none_past : 1024 ≤ q → IsPermutation (filter (of_page q) (all_of (log_in logs) n)) []
  none_past le =
      let all : List Placed = in_turn (placed_in logs) n in
      let none : filter (λ (x : Placed). of_page q (flat x.rec)) all ≡ [] = filter_none (λ (x : Placed). of_page q (flat x.rec)) all
      (All-weaker (λ (x : Placed). HasSpelling x.rec) (λ x. of_page q (flat x.rec) ≡ false) (past_pages q le) all (spelled_turn logs n spelled)) in
      subst (IsPermutation (filter (of_page q) (all_of (log_in logs) n))) (sym (every_flat q n logs) ∙ ap flats none)
      (IsPermutation-filter (of_page q) (all_of (log_in logs) n) (in_turn (log_in logs) n) (turned (log_in logs) n))

  no_chain : 1024 ≤ q → chain_of q cs ≡ []
  no_chain le = chain_of-others q cs s.changes (All-weaker (λ c. c.page < 1024) (λ c. c.page ≢ q) (λ c lt e. absurd (omega (arith, e))) cs s.below)

  pub all_merged : IsMerged q (log_in logs) n (chain_of q cs)
  all_merged = ⊎_elim (s.merged q)
      (λ (le : 1024 ≤ q). subst (IsMerged q (log_in logs) n) (sym (no_chain le)) (record {
        same = none_past le;
        rises = IsNonDecreasingBy-short (λ (x : Rec). x.lsn) [] (omega arith);
      }))
      (cases_lt q 1024)

  pub all_chains : LsnsRise logs → chain_of q cs ≡ sorted (filter (of_page q) (all_of (log_in logs) n))
  all_chains rise = ⊎_elim (s.chains rise q)
      (λ (le : 1024 ≤ q). no_chain le ∙ ap sorted (sym (no_change (filter (of_page q) (all_of (log_in logs) n)) (none_past le))))
      (cases_lt q 1024)
