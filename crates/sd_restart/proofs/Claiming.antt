-- The locks so far, while records are claimed one after another: for the goals of claims.rt.
use Rattle.std.proofs.Common.{◌≡◌, ◌≢◌, ⊎_elim, ℕ, zero, suc, ◌+◌, ◌≤◌, Bool, true, false, cond, leb, ◌&&◌, ◌||◌, List, [], ◌∷◌, length, map, take, reverse, get_or, Option, None, Some, refl, sym, ap, ◌∙◌, subst, arith, eq-eqb}
use Rattle.std.specs.Prelude.{slice_get}
use Rattle.std.specs.List.{list_any}
use Rattle.std.specs.Option.{option_map_or}
use Rattle.std.proofs.Math.Seq.{take-length}
use Rattle.std.proofs.lemmas.Bool.{cases_Bool, cases_eq, cases_lt, le-leb, lt-leb, true≢false}
use Rattle.std.proofs.lemmas.List.{length-reverse, reverse-append}
use Rattle.std.proofs.lemmas.List.Folds.{list_any-append}
use Rattle.std.proofs.lemmas.Option.{get_or_from_slice_get, slice_get_past}
use Rattle.sd_base.specs.declared.ids.TxnId.{TxnId}
use Rattle.sd_base.specs.declared.ids.Rid.{Rid}
use Rattle.sd_base.specs.declared.place.Mode.{Mode}
use Rattle.sd_base.specs.declared.place.Mode.TheVariants as modes
use Rattle.sd_base.specs.Ids.{same_rid, same_txn}
use Rattle.sd_base.proofs.Lists.{take_next}
use Rattle.sd_base.proofs.SameIds.{cases_txn, eq-same, ne-same}
use Rattle.sd_logrec.specs.View.{Rec}
use Rattle.sd_log.specs.declared.placed.Placed.{Placed}
use Rattle.sd_log.specs.Logs.{LogState, flats, log_in, scanned}
use Rattle.sd_chain.specs.Fates.{fate}
use Rattle.sd_chain.specs.Order.{of_txn}
use Rattle.sd_chain.specs.Records.{Each, IsOpen, at, home, stack}
use Rattle.sd_chain.specs.Undoing.{Member}
use Rattle.sd_chain.proofs.Fates.{fate-open, open-fate}
use Rattle.sd_recovered.specs.declared.losers.Loser.{Loser}
use Rattle.sd_recovered.specs.Losers.{AreLosers, IsLoser}
use Rattle.sd_recovered.proofs.Misplaced.{any_at}
use Rattle.sd_recovered.proofs.LosersOwe.{counts-agree}
use Rattle.sd_reclock.specs.Answers.{IsFree}
use Rattle.sd_reclock.specs.Locks.{LockTable, held, held_in, raised, stands, wait_for}
use Rattle.sd_recovered.proofs.Stacked.{oldest}
use Rattle.sd_recovered.specs.UndoPass.{AreLosersFrom, AreLosersOf, IsLosersOf}
use Rattle.sd_moves.specs.Opening.{is_left}
use Rattle.sd_state.specs.Values.{rid_of}
use Rattle.sd_restart.proofs.Apart.{both, left-open}
use Rattle.sd_restart.specs.Claims.{AreApart, LosersAreApart, changed_in, claimed, has_in, is_listed, opens_in}

-- ---- tests

and_true : (a b : Bool) → a ≡ true → b ≡ true → (a && b) ≡ true
and_true true b e f = f
and_true false b e f = absurd (cc)

or_false : (a b : Bool) → (b || (a || false)) ≡ (a || b)
or_false true true = refl
or_false true false = refl
or_false false true = refl
or_false false false = refl

any-reverse : {X : Type 0} (p : X → Bool) (xs : List X) → list_any p (reverse xs) ≡ list_any p xs
any-reverse p [] = refl
any-reverse p (x ∷ xs) = ap (list_any p) (reverse-append (x ∷ []) xs) ∙ list_any-append p (reverse xs) (x ∷ [])
    ∙ or_false (p x) (list_any p (reverse xs)) ∙ ap (λ b. p x || b) (any-reverse p xs)

any-front : {X : Type 0} (p : X → Bool) (k : ℕ) (xs : List X) → list_any p (take k xs) ≡ true → list_any p xs ≡ true
any-front p zero xs e = absurd (cc)
any-front p (suc k) [] e = absurd (cc)
any-front p (suc k) (x ∷ xs) e = go (p x) (list_any p (take k xs)) (list_any p xs) e (any-front p k xs)
  where
    go : (a b c : Bool) → (a || b) ≡ true → (b ≡ true → c ≡ true) → (a || c) ≡ true
    go true b c e f = refl
    go false b c e f = f e

any-next : {X : Type 0} (p : X → Bool) (xs : List X) (k : ℕ) (x : X) → slice_get xs k ≡ Some x
    → list_any p (take (k + 1) xs) ≡ (list_any p (take k xs) || (p x || false))
any-next {X} p xs k x there = ap (list_any p) ((let e : k + 1 ≡ suc k = omega arith in ap (λ n. take n xs) e) ∙ take_next xs k x there)
    ∙ list_any-append p (take k xs) (x ∷ [])

-- ---- one record of one loser

at-own : (x : Rec) → at x.page x.slot x ≡ true
at-own x = rw (eq-eqb x.page x.page refl, eq-eqb x.slot x.slot refl) refl

at-same : (x : Rec) (q : Rid) → same_rid (rid_of x) q ≡ at q.page q.slot x
unfolding same_rid
at-same x q = refl

oldest-opens : (log : List Placed) (loser : Loser) (r : Rid) → changed_in (oldest log loser) r ≡ opens_in (flats log) loser.txn r
oldest-opens log loser r = any-reverse (at r.page r.slot) (stack loser.txn (flats log))

-- what is held once so many of its records are claimed
abbrev pub IsClaimed : List Placed → Loser → LockTable → LockTable → ℕ → Type 0
IsClaimed log loser old new k = (t : TxnId) (r : Rid)
    → held new t r ≡ claimed (same_txn loser.txn t && changed_in (take k (oldest log loser)) r) (held old t r)

pub claim_none : (log : List Placed) (loser : Loser) (locks : LockTable) → IsClaimed log loser locks locks 0
claim_none log loser locks t r = go (same_txn loser.txn t) (held locks t r)
  where
    go : (a : Bool) (had : Option Mode) → had ≡ claimed (a && false) had
    go true had = refl
    go false had = refl

pub claim_free : (log : List Placed) (loser : Loser) (old mid : LockTable) (k : ℕ) (x : Rec) (r : Rid)
    → ((u : TxnId) (q : Rid) → opens_in (flats log) loser.txn q ≡ true → u ≢ loser.txn → held old u q ≡ None)
    → IsClaimed log loser old mid k → slice_get (oldest log loser) k ≡ Some x → r ≡ rid_of x
    → IsFree (stands mid) loser.txn (wait_for r modes.Excl)
claim_free log loser old mid k x r free so_far there is u s =
    let there' : changed_in (oldest log loser) (rid_of x) ≡ true = any_at (at x.page x.slot) (oldest log loser) k x there (at-own x) in
    let open_one : opens_in (flats log) loser.txn r ≡ true =
    sym (oldest-opens log loser r) ∙ ap (changed_in (oldest log loser)) is ∙ there' in
    let none : held mid u r ≡ None =
    so_far u r
    ∙ ap (λ b. claimed (b && changed_in (take k (oldest log loser)) r) (held old u r)) (ne-same loser.txn u s.other)
    ∙ free u r open_one (λ e. s.other (sym e)) in
    let some : held mid u r ≡ Some s.mode = s.holds in
    let e = sym none ∙ some in absurd (cc)

raised-excl : (had : Option Mode) → raised had modes.Excl ≡ modes.Excl
raised-excl None = refl
raised-excl (Some modes.Excl) = refl
raised-excl (Some modes.Shared) = refl

more : (a b c : Bool) (had : Option Mode) → claimed (a && c) (claimed (a && b) had) ≡ claimed (a && (b || (c || false))) had
more true true true had = refl
more true true false had = refl
more true false true had = refl
more true false false had = refl
more false b c had = refl

pub claim_more : (log : List Placed) (loser : Loser) (old mid new : LockTable) (k : ℕ) (x : Rec) (r : Rid)
    → IsClaimed log loser old mid k → slice_get (oldest log loser) k ≡ Some x → r ≡ rid_of x
    → ((u : TxnId) (q : Rid) → held new u q
    ≡ cond (same_txn loser.txn u && same_rid r q) (Some (raised (held mid loser.txn r) modes.Excl)) (held mid u q))
    → IsClaimed log loser old new (k + 1)
claim_more log loser old mid new k x r so_far there is given t q =
    given t q
    ∙ ap (λ (m : Mode). cond {A = Option Mode} (same_txn loser.txn t && same_rid r q) (Some m) (held mid t q)) (raised-excl (held mid loser.txn r))
    ∙ ap (λ b. claimed (same_txn loser.txn t && b) (held mid t q)) (ap (λ (p : Rid). same_rid p q) is ∙ at-same x q)
    ∙ ap (claimed (same_txn loser.txn t && at q.page q.slot x)) (so_far t q)
    ∙ more (same_txn loser.txn t) (changed_in (take k (oldest log loser)) q) (at q.page q.slot x) (held old t q)
    ∙ ap (λ b. claimed (same_txn loser.txn t && b) (held old t q)) (sym (any-next (at q.page q.slot) (oldest log loser) k x there))

pub claim_all : (log : List Placed) (loser : Loser) (old new : LockTable) (items : List ℕ) (k : ℕ) → IsLoser log loser → items ≡ loser.open
    → IsClaimed log loser old new k → length items ≤ k → k ≤ length items → (t : TxnId) (r : Rid)
    → held new t r ≡ claimed (same_txn loser.txn t && opens_in (flats log) loser.txn r) (held old t r)
claim_all log loser old new items k is same so_far past within t r =
    let len : k ≡ length (oldest log loser) =
    (let n = counts-agree log loser is in
    let m = length-reverse (stack loser.txn (flats log)) in
    let i = ap length same in omega (arith, n, m, i, past, within)) in
    so_far t r
    ∙ ap (λ (xs : List Rec). claimed (same_txn loser.txn t && changed_in xs r) (held old t r))
    (ap (λ n. take n (oldest log loser)) len ∙ take-length (oldest log loser))
    ∙ ap (λ b. claimed (same_txn loser.txn t && b) (held old t r)) (oldest-opens log loser r)

-- ---- the losers of one log

listed-at : (losers : List Loser) (t : TxnId) (P : Loser → Type 0) → Each P losers → is_listed losers t ≡ true
    → (l : Loser) × (l.txn ≡ t) × P l
listed-at [] t P all is = absurd (cc)
listed-at (l ∷ ls) t P all is = ⊎_elim
    (λ e. (l, e, all.0))
    (λ ne. listed-at ls t P all.1 (off (same_txn l.txn t) (is_listed ls t) (ne-same l.txn t ne) is))
    (cases_txn l.txn t)
  where
    off : (a b : Bool) → a ≡ false → (a || b) ≡ true → b ≡ true
    off true b e f = absurd (cc)
    off false b e f = f

-- the locks once so many losers of a log have theirs
abbrev pub AreClaimed : List Placed → List Loser → LockTable → LockTable → Type 0
AreClaimed log losers old new = (t : TxnId) (r : Rid)
    → held new t r ≡ claimed (is_listed losers t && opens_in (flats log) t r) (held old t r)

-- nobody else holds what the next one has open
pub claims_free : (log : List Placed) (losers : List Loser) (old mid : LockTable) (k : ℕ) (l : Loser) → slice_get losers k ≡ Some l
    → LosersAreApart (flats log) losers
    → ((t u : TxnId) (r : Rid) → is_listed losers t ≡ true → opens_in (flats log) t r ≡ true → u ≢ t → held old u r ≡ None)
    → AreClaimed log (take k losers) old mid
    → (u : TxnId) (r : Rid) → opens_in (flats log) l.txn r ≡ true → u ≢ l.txn → held mid u r ≡ None
claims_free log losers old mid k l there apart free so_far u r open_one ne =
    let listed : is_listed losers l.txn ≡ true = any_at' (λ (x : Loser). same_txn x.txn l.txn) losers k l there (eq-same l.txn l.txn refl) in
    ⊎_elim
    (λ is.
    let b = both (is_listed (take k losers) u) (opens_in (flats log) u r) is in
    absurd (ne (apart u l.txn r (any-front (λ (x : Loser). same_txn x.txn u) k losers b.0) listed b.1 open_one)))
    (λ off. so_far u r ∙ ap (λ b. claimed b (held old u r)) off ∙ free l.txn u r listed open_one ne)
    (cases_Bool (is_listed (take k losers) u && opens_in (flats log) u r))
  where
    any_at' : {X : Type 0} (p : X → Bool) (xs : List X) (k : ℕ) (x : X) → slice_get xs k ≡ Some x → p x ≡ true → list_any p xs ≡ true
    any_at' p [] k x e is = absurd (cc)
    any_at' p (y ∷ ys) zero x e is = let same : y ≡ x = cc in let q : p y ≡ true = ap p same ∙ is in rw q refl
    any_at' p (y ∷ ys) (suc k) x e is = or_true (p y) (list_any p ys) (any_at' p ys k x e is)
      where
        or_true : (a b : Bool) → b ≡ true → (a || b) ≡ true
        or_true true b e = refl
        or_true false b e = e

pub claims_none : (log : List Placed) (losers : List Loser) (locks : LockTable) → AreClaimed log (take 0 losers) locks locks
claims_none log losers locks t r = refl

own-opens : (log : List Rec) (a t : TxnId) (r : Rid) → (same_txn a t && opens_in log a r) ≡ (same_txn a t && opens_in log t r)
own-opens log a t r = ⊎_elim
    (λ e. ap (λ (u : TxnId). same_txn a t && opens_in log u r) e)
    (λ ne. let off = ne-same a t ne in ap (λ b. b && opens_in log a r) off ∙ sym (ap (λ b. b && opens_in log t r) off))
    (cases_txn a t)

pub claims_more : (log : List Placed) (losers : List Loser) (old mid new : LockTable) (k : ℕ) (l : Loser) → slice_get losers k ≡ Some l
    → AreClaimed log (take k losers) old mid
    → ((t : TxnId) (r : Rid) → held new t r ≡ claimed (same_txn l.txn t && opens_in (flats log) l.txn r) (held mid t r))
    → AreClaimed log (take (k + 1) losers) old new
claims_more log losers old mid new k l there so_far given t r =
    given t r
    ∙ ap (λ b. claimed b (held mid t r)) (own-opens (flats log) l.txn t r)
    ∙ ap (claimed (same_txn l.txn t && opens_in (flats log) t r)) (so_far t r)
    ∙ go (is_listed (take k losers) t) (same_txn l.txn t) (opens_in (flats log) t r) (held old t r)
    ∙ ap (λ b. claimed (b && opens_in (flats log) t r) (held old t r)) (sym (any-next (λ (x : Loser). same_txn x.txn t) losers k l there))
  where
    go : (a b o : Bool) (had : Option Mode) → claimed (b && o) (claimed (a && o) had) ≡ claimed ((a || (b || false)) && o) had
    go true true true had = refl
    go true true false had = refl
    go true false true had = refl
    go true false false had = refl
    go false true true had = refl
    go false true false had = refl
    go false false o had = refl

pub claims_all : (log : List Placed) (losers items : List Loser) (old new : LockTable) (k : ℕ) → items ≡ losers
    → AreClaimed log (take k items) old new → length items ≤ k → k ≤ length items → AreClaimed log losers old new
claims_all log losers items old new k same so_far past within =
    let len : k ≡ length items = omega (arith, past, within) in
    subst (λ (ls : List Loser). AreClaimed log ls old new) (ap (λ n. take n items) len ∙ take-length items ∙ same) so_far

-- ---- all logs

-- one that the log leaves open is a loser, and no other
pub listed-left : (log : List Placed) (losers : List Loser) (t : TxnId) → AreLosers log losers → is_listed losers t ≡ is_left (fate t (flats log))
listed-left log losers t are = ⊎_elim
    (λ is.
    let l = listed-at losers t (IsLoser log) are.each is in
    let open_one = open-fate t (flats log) (subst (λ (u : TxnId). IsOpen u (flats log)) l.1 l.2.runs)
    (subst (λ (u : TxnId). list_any (of_txn u) (flats log) ≡ true) l.1 l.2.there) in
    is ∙ sym (ap is_left open_one))
    (λ off. off ∙ sym (not_left off))
    (cases_Bool (is_listed losers t))
  where
    member-listed : (ls : List Loser) → Member t (map (λ l. l.txn) ls) → is_listed ls t ≡ true
    member-listed [] m = absurd m
    member-listed (l ∷ ls) m = ⊎_elim
        (λ e. rw (eq-same l.txn t (sym e)) refl)
        (λ rest. or_true (same_txn l.txn t) (is_listed ls t) (member-listed ls rest)) m
      where
        or_true : (a b : Bool) → b ≡ true → (a || b) ≡ true
        or_true true b e = refl
        or_true false b e = e

    not_left : is_listed losers t ≡ false → is_left (fate t (flats log)) ≡ false
    not_left off = ⊎_elim
        (λ is.
        let o = fate-open t (flats log) (left-open (fate t (flats log)) is) in
        absurd (true≢false (sym (member-listed losers (are.all t o.0 o.1)) ∙ off)))
        (λ no. no)
        (cases_Bool (is_left (fate t (flats log))))

-- the losers of a log
pub record LosersAt (logs : List LogState) (losers : List (List Loser)) (k : ℕ) (log : LogState) : Type 0 where
  pub found : List Loser
  pub there : slice_get losers k ≡ Some found
  pub are : IsLosersOf (suc k) log found

losers_from : (j k : ℕ) (logs : List LogState) (losers : List (List Loser)) (log : LogState) → AreLosersFrom j logs losers
    → slice_get logs k ≡ Some log → (found : List Loser) × (slice_get losers k ≡ Some found) × IsLosersOf (j + k) log found
losers_from j k [] losers log are at = absurd (cc)
losers_from j k (x ∷ logs) [] log are at = absurd are
losers_from j zero (x ∷ logs) (ls ∷ losers) log are at =
    let same : x ≡ log = cc in
    let e : j ≡ j + 0 = omega arith in
    (ls, refl, subst (λ (n : ℕ). IsLosersOf n log ls) e (subst (λ (l : LogState). IsLosersOf j l ls) same are.0))
losers_from j (suc k) (x ∷ logs) (ls ∷ losers) log are at =
    let f = losers_from (suc j) k logs losers log are.1 at in
    let e : suc j + k ≡ j + suc k = omega arith in
    (f.0, f.1, subst (λ (n : ℕ). IsLosersOf n log f.0) e f.2)

pub losers_at : (logs : List LogState) (losers : List (List Loser)) (k : ℕ) (log : LogState) → AreLosersOf logs losers
    → slice_get logs k ≡ Some log → LosersAt logs losers k log
losers_at logs losers k log are at =
    let f = losers_from 1 k logs losers log are at in
    let e : 1 + k ≡ suc k = omega arith in
    record { found = f.0; there = f.1; are = subst (λ (n : ℕ). IsLosersOf n log f.0) e f.2 }

pub log-at : (logs : List LogState) (k : ℕ) (log : LogState) → slice_get logs k ≡ Some log → log_in logs (suc k) ≡ flats (scanned log)
log-at logs k log at = ap (λ (o : Option LogState). option_map_or (λ l. flats (scanned l)) o []) at

-- what is held once so many logs have theirs
abbrev pub LogsAreClaimed : List LogState → LockTable → ℕ → Type 0
LogsAreClaimed logs locks k = (t : TxnId) (r : Rid) → held locks t r ≡ claimed (leb (home t) k && has_in logs t r) None

pub logs_none : (logs : List LogState) (locks : LockTable) → locks.locks ≡ [] → LogsAreClaimed logs locks 0
logs_none logs locks none t r = ap (λ l. held_in l t r) none ∙ go (home t) refl
  where
    off : (h : ℕ) → home t ≡ h → h ≡ 0 → has_in logs t r ≡ false
    off h e z = ap (λ n. is_left (fate t (log_in logs n)) && opens_in (log_in logs n) t r) (e ∙ z)

    go : (h : ℕ) → home t ≡ h → None ≡ claimed (leb (home t) 0 && has_in logs t r) None
    go zero e = sym (ap (λ b. claimed (leb (home t) 0 && b) None) (off 0 e refl) ∙ nothing (leb (home t) 0))
      where
        nothing : (a : Bool) → claimed (a && false) None ≡ None
        nothing true = refl
        nothing false = refl
    go (suc h) e = sym (ap (λ b. claimed (b && has_in logs t r) None) (lt-leb (home t) 0 (omega (arith, e))))

module _ (logs : List LogState) (losers : List (List Loser)) (k : ℕ) (log : LogState) (found : List Loser)
    (at_k : slice_get logs k ≡ Some log) (are : IsLosersOf (suc k) log found) where
  own : (t : TxnId) → is_listed found t ≡ true → home t ≡ suc k
  own t is = let l = listed-at found t (λ l. home l.txn ≡ suc k) are.own is in ap home (sym l.1) ∙ l.2

  here : (t : TxnId) (r : Rid) → home t ≡ suc k → has_in logs t r ≡ (is_listed found t && opens_in (flats (scanned log)) t r)
  here t r e =
      ap (λ (xs : List Rec). is_left (fate t xs) && opens_in xs t r) (ap (log_in logs) e ∙ log-at logs k log at_k)
      ∙ ap (λ b. b && opens_in (flats (scanned log)) t r) (sym (listed-left (scanned log) found t are.losers_are))

  has : (t : TxnId) (r : Rid) → is_listed found t ≡ true → opens_in (flats (scanned log)) t r ≡ true → has_in logs t r ≡ true
  has t r is open_one = here t r (own t is) ∙ and_true (is_listed found t) (opens_in (flats (scanned log)) t r) is open_one

  pub losers_apart : AreApart logs → LosersAreApart (flats (scanned log)) found
  losers_apart apart t u r is is' open_one open_two = apart t u r (has t r is open_one) (has u r is' open_two)

  -- nobody holds what they have open
  pub logs_free : (locks : LockTable) → AreApart logs → LogsAreClaimed logs locks k → (t u : TxnId) (r : Rid) → is_listed found t ≡ true
      → opens_in (flats (scanned log)) t r ≡ true → u ≢ t → held locks u r ≡ None
  logs_free locks apart so_far t u r is open_one ne = so_far u r ∙ ⊎_elim
      (λ yes. absurd (ne (apart u t r (both (leb (home u) k) (has_in logs u r) yes).1 (has t r is open_one))))
      (λ no. ap (λ b. claimed b None) no)
      (cases_Bool (leb (home u) k && has_in logs u r))

  pub logs_more : (old new : LockTable) → LogsAreClaimed logs old k → AreClaimed (scanned log) found old new → LogsAreClaimed logs new (k + 1)
  logs_more old new so_far given t r = given t r ∙ ap (claimed (is_listed found t && opens_in (flats (scanned log)) t r)) (so_far t r) ∙ ⊎_elim
      (λ e.
      let low : leb (home t) k ≡ false = lt-leb (home t) k (omega (arith, e)) in
      let up : leb (home t) (k + 1) ≡ true = le-leb (home t) (k + 1) (omega (arith, e)) in
      ap (λ b. claimed (is_listed found t && opens_in (flats (scanned log)) t r) (claimed (b && has_in logs t r) None)) low
      ∙ ap (λ b. claimed b None) (sym (here t r e))
      ∙ sym (ap (λ b. claimed (b && has_in logs t r) None) up))
      (λ ne.
      let off : is_listed found t ≡ false = ⊎_elim (λ is. absurd (ne (own t is))) (λ no. no) (cases_Bool (is_listed found t)) in
      ap (λ b. claimed (b && opens_in (flats (scanned log)) t r) (claimed (leb (home t) k && has_in logs t r) None)) off
      ∙ ap (λ b. claimed (b && has_in logs t r) None) (same ne))
      (cases_eq (home t) (suc k))
    where
      same : {n : ℕ} → n ≢ suc k → leb n k ≡ leb n (k + 1)
      same {n} ne = ⊎_elim
          (λ lt. le-leb n k (omega (arith, lt)) ∙ sym (le-leb n (k + 1) (omega (arith, lt))))
          (λ ge. lt-leb n k (omega (arith, ge)) ∙ sym (lt-leb n (k + 1) (omega (arith, ge, ne))))
          (cases_lt n (suc k))

pub logs_all : (logs : List LogState) (locks : LockTable) (k : ℕ) → LogsAreClaimed logs locks k → length logs ≤ k
    → (t : TxnId) (r : Rid) → held locks t r ≡ claimed (has_in logs t r) None
logs_all logs locks k so_far past t r = so_far t r ∙ ⊎_elim
    (λ lt. ap (λ b. claimed (b && has_in logs t r) None) (le-leb (home t) k (omega (arith, lt))))
    (λ ge.
    let none : has_in logs t r ≡ false =
    ap (λ (xs : List Rec). is_left (fate t xs) && opens_in xs t r) (beyond (home t) ge) in
    ap (λ b. claimed (leb (home t) k && b) None) none ∙ nothing (leb (home t) k) ∙ sym (ap (λ b. claimed b None) none))
    (cases_lt (home t) (suc k))
  where
    nothing : (a : Bool) → claimed (a && false) None ≡ None
    nothing true = refl
    nothing false = refl

    beyond : (h : ℕ) → suc k ≤ h → log_in logs h ≡ []
    beyond zero ge = refl
    beyond (suc h) ge = ap (λ (o : Option LogState). option_map_or (λ l. flats (scanned l)) o []) (slice_get_past logs h (omega (arith, ge, past)))

-- what a turn of a loop over logs reads beside the log
pub turn : (logs : List LogState) (losers : List (List Loser)) (k : ℕ) (log : LogState) (found : List Loser) → AreLosersOf logs losers
    → slice_get logs k ≡ Some log → found ≡ get_or losers k found → IsLosersOf (suc k) log found
turn logs losers k log found are at_k is =
    let l = losers_at logs losers k log are at_k in
    subst (IsLosersOf (suc k) log) (sym (is ∙ get_or_from_slice_get losers k l.found found l.there)) l.are
