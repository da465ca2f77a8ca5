-- The losers by what is kept of the whole log: for the goals of `losers_of`.
use Rattle.std.proofs.Common.{◌≡◌, ◌≢◌, ◌⊎◌, inl, inr, ⊎_elim, ℕ, zero, suc, ◌<◌, ◌≤◌, Bool, true, false, cond, List, [], ◌∷◌, ◌++◌, length, take, drop, map, slice_get, arith, Option, None, Some, refl, sym, ap, ◌∙◌, subst, append_assoc, append-nil}
use Rattle.std.specs.List.{list_any, AllByRecursion}
use Rattle.std.specs.List.Sorted.{IsStrictlySortedBy}
use Rattle.std.specs.Map.{keys_of, lookup}
use Rattle.std.specs.Option.{option_map_or}
use Rattle.std.specs.Ordering.{is_eq}
use Rattle.std.specs.declared.cmp.Ordering.TheVariants.{Less}
use Rattle.std.specs.Prelude.{is_some, IfSome, MatchOption}
use Rattle.std.proofs.lemmas.Bool.{cases_Bool, cases_lt}
use Rattle.std.proofs.lemmas.List.{length-map}
use Rattle.std.proofs.lemmas.Option.{slice_get_within}
use Rattle.sd_logrec.specs.View.{Rec, flat}
use Rattle.std.proofs.lemmas.Map.Keys.{sorted_head, sorted_tail}
use Rattle.sd_base.specs.declared.ids.TxnId.{TxnId}
use Rattle.sd_base.specs.Ids.{same_txn, IsBelow}
use Rattle.sd_log.specs.declared.placed.Placed.{Placed}
use Rattle.sd_log.specs.Logs.{flats}
use Rattle.sd_chain.specs.Records.{Each, IsOpen}
use Rattle.sd_chain.specs.Order.{after_all, first_prev, none_yet, of_txn, speaks, Tidy}
use Rattle.sd_chain.specs.Faults.{BeginsLate, IsFirstMisplaced, IsMisplaced, IsWrong}
use Rattle.sd_chain.proofs.Lists.{Each-append, Each-weaker}
use Rattle.sd_chain.specs.Undoing.{Member}
use Rattle.sd_recovered.specs.declared.losers.Loser.{Loser}
use Rattle.sd_recovered.specs.declared.seen.Seen.{Seen}
use Rattle.sd_recovered.specs.Misplaced.{Covers, IsLeast, IsOff, IsWrongYet}
use Rattle.sd_recovered.specs.Losers.{record_at, AreAt, AreLosers, AreTidy, IsLoser, Rise}
use Rattle.sd_recovered.specs.Faults.{IsFirst}
use Rattle.sd_recovered.specs.Seen.{EndsAt, Tells, TellsOf, TellsAll}
use Rattle.sd_recovered.proofs.Closers.{open_shuts}
use Rattle.sd_recovered.proofs.Indices.{at_within}
use Rattle.sd_recovered.proofs.Known.{found_at, rec_at}
use Rattle.sd_recovered.proofs.Misplaced.{any_at, any_before, parts_at, tidy_not}
use Rattle.sd_recovered.proofs.Orders.{none_tidy}
use Rattle.sd_recovered.proofs.Spans.{span-is}
use Rattle.sd_chain.proofs.Whose.{both, first_prev-behind, open_ones-is, own_is, own_of}
use Rattle.sd_recovered.proofs.MisplacedSteps.{if_some}
use Rattle.sd_base.proofs.SameIds.{cases_txn, eq-same, ne-same}
use Rattle.sd_base.proofs.Orders.{txn_cmp, txn_is_eq, below_from_cmp}

abbrev pub Row : Type 0
Row = TxnId × Seen

-- the LSN of the record of this index
abbrev pub lsn_at : List Placed → ℕ → ℕ
lsn_at log at = option_map_or (λ (x : Rec). x.lsn) (record_at log at) 0

abbrev pub loser_of : List Placed → Row → Loser
loser_of log row = record { txn = row.0; «open» = row.1.open.items; first = lsn_at log row.1.first; last = row.1.last }

-- the rows that aren't closed
abbrev pub losers_in : List Placed → List Row → List Loser
losers_in log [] = []
losers_in log (row ∷ rows) = cond {A = List Loser} (is_some row.1.closed) (losers_in log rows) (loser_of log row ∷ losers_in log rows)

-- where the transaction runs and its first record isn't the first that it wrote, that record or a lower one is told
abbrev pub IsCovered : Option ℕ → Row → Type 0
IsCovered worst row = row.1.closed ≡ None → row.1.first_prev ≢ 0 → Covers worst row.1.first

abbrev pub IsTold : List Placed → Row → Type 0
IsTold log row = Tells log (flats log) row.0 row.1

-- the rows that are left, and the losers and the least index so far
pub record Ending (log : List Placed) (rows left : List Row) (losers : List Loser) (worst : Option ℕ) : Type 0 where
  pub parts : losers ++ losers_in log left ≡ losers_in log rows
  pub told : Each (IsTold log) left
  pub hit : IfSome worst (IsMisplaced (flats log))
  pub off : (j : ℕ) → IsOff (flats log) j → Covers worst j
  pub past : List Row
  pub rows_are : rows ≡ past ++ left
  pub covered : Each (IsCovered worst) past

abbrev pub IsOrdered : List Row → Type 0
IsOrdered rows = IsStrictlySortedBy txn_cmp (keys_of rows)

-- ---- rows by their transactions

same-self : (t : TxnId) → same_txn t t ≡ true
same-self t = eq-same t t refl

none_above : (t : TxnId) (rows : List Row) → AllByRecursion (λ y. txn_cmp t y ≡ Less) (keys_of rows) → lookup (same_txn t) rows ≡ None
none_above t [] a = refl
none_above t (row ∷ rows) a =
    let apart : same_txn t row.0 ≡ false = sym (txn_is_eq t row.0) ∙ ap is_eq a.0 in
    rw apart (none_above t rows a.1)

each_found : (P : Row → Type 0) (rows : List Row) → IsOrdered rows
    → ((t : TxnId) (seen : Seen) → lookup (same_txn t) rows ≡ Some seen → P (t, seen))
    → Each P rows
each_found P [] ordered f = tt
each_found P (row ∷ rows) ordered f =
    let head = f row.0 row.1 (ap (λ (b : Bool). cond b (Some row.1) (lookup (same_txn row.0) rows)) (same-self row.0)) in
    (head, each_found P rows (sorted_tail txn_cmp row.0 (keys_of rows) ordered) (λ t seen found. f t seen (behind t seen found)))
  where
    behind : (t : TxnId) (seen : Seen) → lookup (same_txn t) rows ≡ Some seen → lookup (same_txn t) (row ∷ rows) ≡ Some seen
    behind t seen found = ⊎_elim
        (λ e. let none = none_above row.0 rows (sorted_head txn_cmp row.0 (keys_of rows) ordered) in
        let c = sym none ∙ ap (λ (u : TxnId). lookup (same_txn u) rows) (sym e) ∙ found in absurd (cc))
        (λ ne. rw (ne-same t row.0 ne) found) (cases_txn t row.0)

found_each : (P : Seen → Type 0) (rows : List Row) (t : TxnId) (seen : Seen) → Each (λ (row : Row). P row.1) rows
    → lookup (same_txn t) rows ≡ Some seen → P seen
found_each P [] t seen each found = absurd (cc)
found_each P (row ∷ rows) t seen each found = ⊎_elim
    (λ is. let e : row.1 ≡ seen = (let f = rw is at found in cc) in subst P e each.0)
    (λ off. found_each P rows t seen each.1 (rw off at found)) (cases_Bool (same_txn t row.0))

pub all_told : (log : List Placed) (closed : List (TxnId × ℕ)) (rows : List Row) → IsOrdered rows → TellsAll log (flats log) closed rows → Each (IsTold log) rows
all_told log closed rows ordered known = each_found (IsTold log) rows ordered (λ t seen found. go t seen (lookup (same_txn t) closed)
    (subst (TellsOf log (flats log) t (lookup (same_txn t) closed)) found (known t)))
  where
    go : (t : TxnId) (seen : Seen) (k : Option ℕ) → TellsOf log (flats log) t k (Some seen) → IsTold log (t, seen)
    go t seen None tells = tells
    go t seen (Some k) told = let c = told.1 in absurd (cc)

-- ---- misplaced records

runs_if : (o : Option ℕ) → is_some o ≡ false → o ≡ None
runs_if None e = refl
runs_if (Some k) e = absurd (cc)

get-flats : (log : List Placed) (at : ℕ) → record_at log at ≡ slice_get (flats log) at
get-flats [] zero = refl
get-flats [] (suc at) = refl
get-flats (p ∷ ps) zero = refl
get-flats (p ∷ ps) (suc at) = get-flats ps at

take-flats : (log : List Placed) (at : ℕ) → flats (take at log) ≡ take at (flats log)
take-flats [] zero = refl
take-flats [] (suc at) = refl
take-flats (p ∷ ps) zero = refl
take-flats (p ∷ ps) (suc at) = ap (λ (l : List Rec). flat p.rec ∷ l) (take-flats ps at)

-- one that begins late
late_misplaced : (log : List Placed) (t : TxnId) (seen : Seen) → Tells log (flats log) t seen → seen.closed ≡ None → seen.first_prev ≢ 0 → IsMisplaced (flats log) seen.first
late_misplaced log t seen tells runs late =
    let f = tells.first in
    let named : f.here.txn ≡ t = own_is t f.here f.own in
    record {
      here = f.here;
      there = sym (get-flats log seen.first) ∙ f.there;
      own = (both (speaks f.here.kind) (same_txn f.here.txn t) f.own).0;
      wrong = inr (inl (
        ap (λ (u : TxnId). list_any (of_txn u) (take seen.first (flats log))) named ∙ ap (list_any (of_txn t)) (sym (take-flats log seen.first)) ∙ f.none,
        (λ z. late (sym f.prev_is ∙ z)),
        subst (λ (u : TxnId). IsOpen u (flats log)) (sym named) (subst (EndsAt (flats log) t) runs tells.closed),
      ));
    }

off_misplaced : (xs : List Rec) (j : ℕ) → IsOff xs j → IsMisplaced xs j
off_misplaced xs j off = record { here = off.here; there = off.there; own = off.own; wrong = go off.wrong }
  where
    go : IsWrongYet xs j (after_all off.here.txn none_yet (take j xs)) off.here → IsWrong xs j (after_all off.here.txn none_yet (take j xs)) off.here
    go (inl g) = inl g
    go (inr w) = inr (inr w)

-- a row of a log that is noted, by the transaction of a record that begins late
row_covers : (log : List Placed) (closed : List (TxnId × ℕ)) (rows : List Row) (worst : Option ℕ) → TellsAll log (flats log) closed rows → Each (IsCovered worst) rows → (j : ℕ) (x : Rec) → slice_get (flats log) j ≡ Some x → speaks x.kind ≡ true → BeginsLate (flats log) j x → Covers worst j
row_covers log closed rows worst known covered j x there own late = go (lookup (same_txn x.txn) closed) (lookup (same_txn x.txn) rows) refl (known x.txn)
  where
    go : (k : Option ℕ) (row : Option Seen) → lookup (same_txn x.txn) rows ≡ row → TellsOf log (flats log) x.txn k row → Covers worst j
    go (Some k) row is told =
        let end = told.0 in absurd (open_shuts x.txn (flats log) k end.here late.2 end.there end.closes (own_is x.txn end.here end.own))
    go None None is none = let c = sym none ∙ any_at (of_txn x.txn) (flats log) j x there (own_of x own) in absurd (cc)
    go None (Some seen) is tells = lower worst seen.first j (covers seen.closed refl tells.closed) (⊎_elim
        (λ lt. let c = sym tells.first.none ∙ ap (list_any (of_txn x.txn)) (take-flats log seen.first) ∙ any_before (of_txn x.txn) (flats log) j seen.first x lt there (own_of x own) in absurd (cc))
        (λ le. le) (cases_lt j seen.first))
      where
        lower : (o : Option ℕ) (a b : ℕ) → Covers o a → a ≤ b → Covers o b
        lower None a b h le = h
        lower (Some k) a b h le = omega arith

        first : first_prev x.txn (flats log) ≡ x.prev
        first = ap (first_prev x.txn) (parts_at (flats log) j x there) ∙ first_prev-behind x.txn (take j (flats log)) (x ∷ drop (suc j) (flats log)) late.0 ∙ ap (λ b. cond b x.prev (first_prev x.txn (drop (suc j) (flats log)))) (own_of x own)

        covers : (o : Option ℕ) → seen.closed ≡ o → EndsAt (flats log) x.txn o → Covers worst seen.first
        covers None e runs = found_each (λ (s : Seen). s.closed ≡ None → s.first_prev ≢ 0 → Covers worst s.first) rows x.txn seen covered is e (λ z. late.1 (sym first ∙ sym tells.prev ∙ z))
        covers (Some k) e end = absurd (open_shuts x.txn (flats log) k end.here late.2 end.there end.closes (own_is x.txn end.here end.own))

-- each misplaced record, or one before it, is told
pub all_covered : (log : List Placed) (closed : List (TxnId × ℕ)) (rows : List Row) (worst : Option ℕ) → TellsAll log (flats log) closed rows → ((j : ℕ) → IsOff (flats log) j → Covers worst j) → Each (IsCovered worst) rows → (j : ℕ) → IsMisplaced (flats log) j → Covers worst j
all_covered log closed rows worst known off covered j m = go m.wrong
  where
    still : IsWrongYet (flats log) j (after_all m.here.txn none_yet (take j (flats log))) m.here → Covers worst j
    still w = off j record { here = m.here; there = m.there; own = m.own; wrong = w }

    go : IsWrong (flats log) j (after_all m.here.txn none_yet (take j (flats log))) m.here → Covers worst j
    go (inl g) = still (inl g)
    go (inr (inl late)) = row_covers log closed rows worst known covered j m.here m.there m.own late
    go (inr (inr w)) = still (inr w)

pub first_of_all : (xs : List Rec) (worst : Option ℕ) (at : ℕ) → worst ≡ Some at → IfSome worst (IsMisplaced xs) → ((j : ℕ) → IsMisplaced xs j → Covers worst j) → IsFirstMisplaced xs at
first_of_all xs worst at is hit covers = record {
  wrong = subst (λ (o : Option ℕ). IfSome o (IsMisplaced xs)) is hit;
  least = λ j lt m. let le : at ≤ j = subst (λ (o : Option ℕ). Covers o j) is (covers j m) in absurd (omega arith);
}

pub none_at_all : (xs : List Rec) (worst : Option ℕ) → worst ≡ None → ((j : ℕ) → IsMisplaced xs j → Covers worst j) → (t : TxnId) → Tidy t xs
none_at_all xs worst is covers t = none_tidy xs (λ k m. subst (λ (o : Option ℕ). Covers o k) is (covers k m)) t

pub first_disorders : (log : List Placed) (at : ℕ) → IsFirstMisplaced (flats log) at → AreTidy log → ⊥
first_disorders log at first tidy = tidy_not (flats log) at tidy first.wrong

pub first_within : (log : List Placed) (at : ℕ) → IsFirstMisplaced (flats log) at → at < length log
first_within log at first =
    let lt = slice_get_within (flats log) at first.wrong.here first.wrong.there in
    let size = length-map log (λ (p : Placed). flat p.rec) in
    omega arith

-- ---- the losers

loser_told : (log : List Placed) (row : Row) → IsTold log row → row.1.closed ≡ None → IsLoser log (loser_of log row)
loser_told log row tells runs = record {
  runs = subst (EndsAt (flats log) row.0) runs tells.closed;
  there = tells.there;
  stack_is = subst (AreAt log row.1.open.items) (open_ones-is row.0 none_yet (flats log)) tells.fits.open_is;
  span_is = span-is row.0 (flats log) row.1.first f.here (sym (get-flats log row.1.first) ∙ f.there) f.own
      (ap (list_any (of_txn row.0)) (sym (take-flats log row.1.first)) ∙ f.none)
      ∙ ap (λ (n : ℕ). Some (f.here.lsn, n)) (sym tells.fits.last_is)
      ∙ ap (λ (n : ℕ). Some (n, row.1.last)) (sym (ap (λ (o : Option Rec). option_map_or (λ (x : Rec). x.lsn) o 0) f.there));
}
  where
    f : IsFirst log row.0 row.1.first row.1.first_prev
    f = tells.first

each_loser : (log : List Placed) (rows : List Row) → Each (IsTold log) rows → Each (IsLoser log) (losers_in log rows)
each_loser log [] told = tt
each_loser log (row ∷ rows) told = ⊎_elim (λ shut. rw shut (each_loser log rows told.1))
    (λ runs. rw runs (loser_told log row told.0 (runs_if row.1.closed runs), each_loser log rows told.1)) (cases_Bool (is_some row.1.closed))

below_each : (log : List Placed) (t : TxnId) (rows : List Row) → AllByRecursion (λ y. txn_cmp t y ≡ Less) (keys_of rows)
    → Each (λ (other : Loser). IsBelow t other.txn) (losers_in log rows)
below_each log t [] a = tt
below_each log t (row ∷ rows) a = ⊎_elim (λ shut. rw shut (below_each log t rows a.1))
    (λ runs. rw runs (below_from_cmp t row.0 a.0, below_each log t rows a.1)) (cases_Bool (is_some row.1.closed))

rise_in : (log : List Placed) (rows : List Row) → IsOrdered rows → Rise (losers_in log rows)
rise_in log [] ordered = tt
rise_in log (row ∷ rows) ordered =
    let rest = rise_in log rows (sorted_tail txn_cmp row.0 (keys_of rows) ordered) in
    ⊎_elim (λ shut. rw shut rest)
    (λ runs. rw runs (below_each log row.0 rows (sorted_head txn_cmp row.0 (keys_of rows) ordered), rest)) (cases_Bool (is_some row.1.closed))

is_same : (t u : TxnId) → same_txn t u ≡ true → t ≡ u
is_same t u e = ⊎_elim (λ is. is) (λ ne. let f = ne-same t u ne in absurd (cc)) (cases_txn t u)

member_in : (log : List Placed) (t : TxnId) (seen : Seen) (rows : List Row) → lookup (same_txn t) rows ≡ Some seen → is_some seen.closed ≡ false
    → Member t (map (λ l. l.txn) (losers_in log rows))
member_in log t seen [] found runs = absurd (cc)
member_in log t seen (row ∷ rows) found runs = ⊎_elim
    (λ is. let e : row.1 ≡ seen = (let f = rw is at found in cc) in
    let unshut : is_some row.1.closed ≡ false = ap (λ (s : Seen). is_some s.closed) e ∙ runs in rw unshut (inl (is_same t row.0 is)))
    (λ off. let rest = member_in log t seen rows (rw off at found) runs in
    ⊎_elim (λ shut. rw shut rest) (λ unshut. rw unshut (inr rest)) (cases_Bool (is_some row.1.closed)))
    (cases_Bool (same_txn t row.0))

pub all_losers : (log : List Placed) (closed : List (TxnId × ℕ)) (rows : List Row) → IsOrdered rows → TellsAll log (flats log) closed rows
    → AreLosers log (losers_in log rows)
all_losers log closed rows ordered known = record {
  each = each_loser log rows (all_told log closed rows ordered known);
  rise = rise_in log rows ordered;
  all = λ t o there. go t o there (lookup (same_txn t) closed) (lookup (same_txn t) rows) refl (known t);
}
  where
    go : (t : TxnId) → IsOpen t (flats log) → list_any (of_txn t) (flats log) ≡ true → (k : Option ℕ) (row : Option Seen)
        → lookup (same_txn t) rows ≡ row → TellsOf log (flats log) t k row → Member t (map (λ l. l.txn) (losers_in log rows))
    go t o there (Some k) row is told =
        let end = told.0 in absurd (open_shuts t (flats log) k end.here o end.there end.closes (own_is t end.here end.own))
    go t o there None None is none = let c = sym there ∙ none in absurd (cc)
    go t o there None (Some seen) is tells = member_in log t seen rows is (runs seen.closed tells.closed)
      where
        runs : (c : Option ℕ) → EndsAt (flats log) t c → is_some c ≡ false
        runs None e = refl
        runs (Some k) e = absurd (open_shuts t (flats log) k e.here o e.there e.closes (own_is t e.here e.own))

-- ---- one row after another

-- a row's first record lies in the log
pub row_within : (log : List Placed) (rows left : List Row) (row : Row) (losers : List Loser) (worst : Option ℕ)
    → Ending log rows (row ∷ left) losers worst → row.1.first < length log
row_within log rows left row losers worst ending =
    let first = ending.told.0.first in at_within log row.1.first first.here first.there

-- the LSN that is read there
pub lsn-at : (log : List Placed) (at : ℕ) (p : Placed) (lsn : ℕ) → at < length log → lsn ≡ (rec_at log at p).lsn → lsn ≡ lsn_at log at
lsn-at log at p lsn lt is = is ∙ sym (ap (λ (o : Option Rec). option_map_or (λ (x : Rec). x.lsn) o 0) (found_at log at p lt))

pub ending_start : (log : List Placed) (closed : List (TxnId × ℕ)) (rows : List Row) (worst : Option ℕ) → IsOrdered rows
    → TellsAll log (flats log) closed rows → IsLeast (flats log) worst → Ending log rows rows [] worst
ending_start log closed rows worst ordered known least = record {
  parts = refl;
  told = all_told log closed rows ordered known;
  hit = if_some worst (IsOff (flats log)) (IsMisplaced (flats log)) (λ j off. off_misplaced (flats log) j off) least.hit;
  off = least.covers;
  past = [];
  rows_are = refl;
  covered = tt;
}

rows_more : (rows past left : List Row) (row : Row) → rows ≡ past ++ row ∷ left → rows ≡ (past ++ row ∷ []) ++ left
rows_more rows past left row e = e ∙ sym (append_assoc past (row ∷ []) left)

pub ending_shut : (log : List Placed) (rows left : List Row) (row : Row) (losers : List Loser) (worst : Option ℕ) → Ending log rows (row ∷ left) losers worst
    → is_some row.1.closed ≡ true → Ending log rows left losers worst
ending_shut log rows left row losers worst ending shut = record {
  parts = ap (λ (b : Bool). losers ++ cond {A = List Loser} b (losers_in log left) (loser_of log row ∷ losers_in log left)) (sym shut) ∙ ending.parts;
  told = ending.told.1;
  hit = ending.hit;
  off = ending.off;
  past = ending.past ++ row ∷ [];
  rows_are = rows_more rows ending.past left row ending.rows_are;
  covered = Each-append (IsCovered worst) ending.past (row ∷ []) ending.covered ((λ runs. let c = sym shut ∙ ap (λ (o : Option ℕ). is_some o) runs in absurd (cc)), tt);
}

-- what is told of a first record that isn't the first that was written
abbrev pub IsLate : Seen → Option ℕ → Type 0
IsLate seen found = MatchOption found (seen.first_prev ≡ 0) (λ k. (k ≡ seen.first) × (seen.first_prev ≢ 0))

late_covers : (seen : Seen) (found : Option ℕ) → IsLate seen found → seen.first_prev ≢ 0 → Covers found seen.first
late_covers seen None l late = absurd (late l)
late_covers seen (Some k) l late = let e = l.0 in omega arith

late_hits : (log : List Placed) (t : TxnId) (seen : Seen) (found : Option ℕ) → Tells log (flats log) t seen → seen.closed ≡ None → IsLate seen found → IfSome found (IsMisplaced (flats log))
late_hits log t seen None tells runs l = tt
late_hits log t seen (Some k) tells runs l = subst (IsMisplaced (flats log)) (sym l.0) (late_misplaced log t seen tells runs l.1)

pub ending_open : (log : List Placed) (rows left : List Row) (row : Row) (losers : List Loser) (worst late least : Option ℕ) → Ending log rows (row ∷ left) losers worst
    → is_some row.1.closed ≡ false → IsLate row.1 late → ((least ≡ worst) ⊎ (least ≡ late)) → ((j : ℕ) → Covers worst j ⊎ Covers late j → Covers least j) → Ending log rows left (losers ++ loser_of log row ∷ []) least
ending_open log rows left row losers worst late least ending runs is_late either covers = record {
  parts = append_assoc losers (loser_of log row ∷ []) (losers_in log left)
      ∙ ap (λ (b : Bool). losers ++ cond {A = List Loser} b (losers_in log left) (loser_of log row ∷ losers_in log left)) (sym runs) ∙ ending.parts;
  told = ending.told.1;
  hit = ⊎_elim (λ e. subst (λ (o : Option ℕ). IfSome o (IsMisplaced (flats log))) (sym e) ending.hit)
      (λ e. subst (λ (o : Option ℕ). IfSome o (IsMisplaced (flats log))) (sym e) (late_hits log row.0 row.1 late ending.told.0 (runs_if row.1.closed runs) is_late)) either;
  off = λ j off. covers j (inl (ending.off j off));
  past = ending.past ++ row ∷ [];
  rows_are = rows_more rows ending.past left row ending.rows_are;
  covered = Each-append (IsCovered least) ending.past (row ∷ [])
      (Each-weaker (IsCovered worst) (IsCovered least) (λ r f open_ some. covers r.1.first (inl (f open_ some))) ending.past ending.covered)
      ((λ open_ some. covers row.1.first (inr (late_covers row.1 late is_late some))), tt);
}

pub ending_all : (log : List Placed) (rows : List Row) (losers : List Loser) (worst : Option ℕ) → Ending log rows [] losers worst
    → (losers ≡ losers_in log rows) × Each (IsCovered worst) rows
ending_all log rows losers worst ending = (
  sym (append-nil losers) ∙ ending.parts,
  subst (Each (IsCovered worst)) (sym (ending.rows_are ∙ append-nil ending.past)) ending.covered,
)
