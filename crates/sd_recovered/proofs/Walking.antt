-- A walk over the losers of a log, beside transactions that rise: for the goals of `skip_below`, `reopen_at` and `relist`.
use Rattle.std.proofs.Common.{◌≡◌, ◌≢◌, ◌⊎◌, inl, inr, ⊎_elim, ℕ, zero, suc, ◌+◌, ◌<◌, ◌≤◌, Bool, true, false, cond, ◌||◌, List, [], ◌∷◌, length, map, get_or, Some, slice_get, refl, sym, ap, subst, ◌∙◌, arith}
use Rattle.std.specs.List.{list_any}
use Rattle.std.specs.Option.{option_map}
use Rattle.std.specs.Ordering.{is_lt}
use Rattle.std.specs.declared.cmp.Ordering.{Ordering}
use Rattle.std.specs.declared.cmp.Ordering.TheVariants.{Less, Equal, Greater}
use Rattle.std.proofs.lemmas.Bool.{cases_Bool, cases_eq, cases_lt, true≢false}
use Rattle.std.proofs.lemmas.Option.{slice_get-get_or, slice_get-map, slice_get_past, slice_get_within}
use Rattle.sd_base.specs.declared.ids.TxnId.{TxnId}
use Rattle.sd_base.specs.Ids.{same_txn, IsBelow}
use Rattle.sd_base.proofs.Orders.{txn_cmp, below_from_cmp, below_or_above, below_trans, cmp_from_below, not_below_itself, same-txn-is}
use Rattle.sd_base.proofs.SameIds.{eq-same}
use Rattle.sd_base.proofs.Lists.{stands_at}
use Rattle.sd_log.specs.declared.placed.Placed.{Placed}
use Rattle.sd_log.specs.Logs.{flats}
use Rattle.sd_chain.specs.Records.{Each}
use Rattle.sd_chain.specs.Undoing.{Member}
use Rattle.sd_chain.specs.Checks.{open_in}
use Rattle.sd_chain.proofs.Members.{is-open_in, open_in-is}
use Rattle.sd_recovered.specs.declared.losers.Loser.{Loser}
use Rattle.sd_recovered.specs.Losers.{AreLosers, IsLoser, Rise}
use Rattle.sd_txn.specs.declared.state.TxnState.{TxnState}
use Rattle.sd_recovered.specs.Kept.{as_transaction, is_left_open, left_open}
use Rattle.sd_txn.specs.Transactions.{started, txn_at, Transactions}
use Rattle.sd_recovered.specs.Walks.{AreBelow, AreRising, IsNext}

-- ---- the first loser that isn't below

less_is : (o : Ordering) → is_lt o ≡ true → o ≡ Less
less_is Less e = refl
less_is Equal e = absurd (cc)
less_is Greater e = absurd (cc)

pub at_end : (k n : ℕ) → k < n + 1 → (k < n) ⊎ (k ≡ n)
at_end k n lt = ⊎_elim (λ e. inr e) (λ ne. inl (omega arith)) (cases_eq k n)

-- one more is below
pub below_more : (losers : List Loser) (next : ℕ) (t : TxnId) (l : Loser) → AreBelow losers next t → next < length losers
    → is_lt (txn_cmp (get_or losers next l).txn t) ≡ true → AreBelow losers (next + 1) t
below_more losers next t l below inside less k loser lt there = ⊎_elim
    (λ low. below k loser low there)
    (λ e.
    let here : slice_get losers next ≡ Some (get_or losers next l) = slice_get-get_or losers next l inside in
    let same : get_or losers next l ≡ loser = (let f = sym here ∙ ap (slice_get losers) (sym e) ∙ there in cc) in
    let own = (get_or losers next l).txn in
    subst (λ (x : Loser). IsBelow x.txn t) same (below_from_cmp own t (less_is (txn_cmp own t) less)))
    (at_end k next lt)

-- this one isn't
pub next_here : (losers : List Loser) (next : ℕ) (t : TxnId) (l : Loser) → AreBelow losers next t → next < length losers
    → is_lt (txn_cmp (get_or losers next l).txn t) ≡ false → IsNext losers next t
next_here losers next t l below inside more = record {
  front = below;
  here = λ loser there low.
      let here : slice_get losers next ≡ Some (get_or losers next l) = slice_get-get_or losers next l inside in
      let same : loser ≡ get_or losers next l = (let f = sym there ∙ here in cc) in
      let less = cmp_from_below (get_or losers next l).txn t (subst (λ (x : Loser). IsBelow x.txn t) same low) in
      true≢false (sym (ap is_lt less) ∙ more);
}

-- all are
pub next_none : (losers : List Loser) (next : ℕ) (t : TxnId) → AreBelow losers next t → length losers ≤ next → IsNext losers next t
next_none losers next t below past = record {
  front = below;
  here = λ loser there low. let none = slice_get_past losers next past in let c = sym none ∙ there in absurd (cc);
}

-- ---- losers by their places

pub each_at : {X : Type 0} (P : X → Type 0) (xs : List X) (k : ℕ) (x : X) → Each P xs → slice_get xs k ≡ Some x → P x
each_at P [] k x a e = absurd (cc)
each_at P (y ∷ ys) zero x a e = let same : y ≡ x = cc in subst P same a.0
each_at P (y ∷ ys) (suc k) x a e = each_at P ys k x a.1 e

-- the front one of two is below
pub rises_at : {X : Type 0} (key : X → TxnId) (xs : List X) (j k : ℕ) (a b : X) → AreRising (map key xs) → j < k → slice_get xs j ≡ Some a
    → slice_get xs k ≡ Some b → IsBelow (key a) (key b)
rises_at key [] j k a b rising lt at_j at_k = absurd (cc)
rises_at key (x ∷ xs) j zero a b rising lt at_j at_k = absurd (omega arith)
rises_at {X} key (x ∷ xs) zero (suc k) a b rising lt at_j at_k =
    let same : x ≡ a = cc in
    subst (λ (y : X). IsBelow (key y) (key b)) same
    (each_at (IsBelow (key x)) (map key xs) k (key b) rising.0 (slice_get-map key xs k ∙ ap (option_map key) at_k))
rises_at key (x ∷ xs) (suc j) (suc k) a b rising lt at_j at_k = rises_at key xs j k a b rising.1 (omega arith) at_j at_k

pub rise-rising : (losers : List Loser) → Rise losers → AreRising (map (λ l. l.txn) losers)
rise-rising [] rise = tt
rise-rising (l ∷ ls) rise = (each-map ls rise.0, rise-rising ls rise.1)
  where
    each-map : (ls : List Loser) → Each (λ other. IsBelow l.txn other.txn) ls → Each (IsBelow l.txn) (map (λ m. m.txn) ls)
    each-map [] a = tt
    each-map (m ∷ ms) a = (a.0, each-map ms a.1)

-- a transaction among the losers
pub record Place (losers : List Loser) (t : TxnId) : Type 0 where
  pub index : ℕ
  pub loser : Loser
  pub there : slice_get losers index ≡ Some loser
  pub named : t ≡ loser.txn

pub place_of : (t : TxnId) (losers : List Loser) → Member t (map (λ l. l.txn) losers) → Place losers t
place_of t [] m = absurd m
place_of t (l ∷ ls) m = ⊎_elim
    (λ e. record { index = 0; loser = l; there = refl; named = e })
    (λ rest. let p = place_of t ls rest in record { index = suc p.index; loser = p.loser; there = p.there; named = p.named }) m

pub any-member : (t : TxnId) (ts : List TxnId) → list_any (same_txn t) ts ≡ true → Member t ts
any-member t [] e = absurd (cc)
any-member t (u ∷ us) e = ⊎_elim (λ is. inl (same-txn-is t u is)) (λ off. inr (any-member t us (rw off at e))) (cases_Bool (same_txn t u))

pub member-any : (t : TxnId) (ts : List TxnId) → Member t ts → list_any (same_txn t) ts ≡ true
member-any t [] m = absurd m
member-any t (u ∷ us) m = ⊎_elim
    (λ e. let is = eq-same t u e in rw is refl)
    (λ rest. or_true (same_txn t u) (list_any (same_txn t) us) (member-any t us rest)) m
  where
    or_true : (a b : Bool) → b ≡ true → (a || b) ≡ true
    or_true true b e = refl
    or_true false b e = e

-- the transaction is the loser at this index
pub left-by : (log : List Placed) (losers : List Loser) (next : ℕ) (t : TxnId) (l : Loser) → AreLosers log losers → slice_get losers next ≡ Some l
    → l.txn ≡ t → is_left_open (flats log) t ≡ true
left-by log losers next t l are there named =
    let is = each_at (IsLoser log) losers next l are.each there in
    subst (λ (u : TxnId). is_left_open (flats log) u ≡ true) named
    (member-any l.txn (open_in (flats log)) (is-open_in l.txn (flats log) is.runs is.there))

-- or it is none
none-by : (log : List Placed) (losers : List Loser) (next : ℕ) (t : TxnId) → AreLosers log losers → IsNext losers next t
    → ((l : Loser) → slice_get losers next ≡ Some l → l.txn ≢ t) → is_left_open (flats log) t ≡ false
none-by log losers next t are is_next other = ⊎_elim (λ is. absurd (go is)) (λ off. off) (cases_Bool (is_left_open (flats log) t))
  where
    apart : (p : Place losers t) → ⊥
    apart p = ⊎_elim
        (λ low. itself p (is_next.front p.index p.loser low p.there))
        (λ high. ⊎_elim
        (λ e. other p.loser (ap (slice_get losers) (sym e) ∙ p.there) (sym p.named))
        (λ ne.
        let a = stands_at losers next (let within = slice_get_within losers p.index p.loser p.there in omega arith) in
        let above : IsBelow t a.0.txn =
        ⊎_elim (λ low. absurd (is_next.here a.0 a.1 low)) (λ h. h) (below_or_above a.0.txn t (other a.0 a.1)) in
        itself' p (below_trans t a.0.txn p.loser.txn above
        (rises_at (λ (l : Loser). l.txn) losers next p.index a.0 p.loser (rise-rising losers are.rise) (omega arith) a.1 p.there)))
        (cases_eq p.index next)) (cases_lt p.index next)
      where
        itself : (p : Place losers t) → IsBelow p.loser.txn t → ⊥
        itself p h = not_below_itself t (subst (λ (u : TxnId). IsBelow u t) (sym p.named) h)

        itself' : (p : Place losers t) → IsBelow t p.loser.txn → ⊥
        itself' p h = not_below_itself t (subst (λ (u : TxnId). IsBelow t u) (sym p.named) h)

    go : is_left_open (flats log) t ≡ true → ⊥
    go is =
        let o = open_in-is t (flats log) (any-member t (open_in (flats log)) is) in
        apart (place_of t losers (are.all t o.0 o.1))

-- what the table keeps then
pub kept-by : (log : List Placed) (losers : List Loser) (next : ℕ) (t : TxnId) (l : Loser) (old new : Transactions) → AreLosers log losers
    → slice_get losers next ≡ Some l → l.txn ≡ t
    → ((state : TxnState) → txn_at old l.txn ≡ Some (started state) → txn_at new l.txn ≡ Some (left_open (flats log) l.txn state))
    → (state : TxnState) → txn_at old t ≡ Some (started state) → txn_at new t ≡ Some (as_transaction (flats log) t state)
kept-by log losers next t l old new are there named kept state e =
    subst (λ (u : TxnId). txn_at old u ≡ Some (started state) → txn_at new u ≡ Some (left_open (flats log) u state)) named (kept state) e
    ∙ ap (λ (b : Bool). Some (cond b (left_open (flats log) t state) (started state))) (sym (left-by log losers next t l are there named))

pub kept-none : (log : List Placed) (losers : List Loser) (next : ℕ) (t : TxnId) (table : Transactions) → AreLosers log losers
    → IsNext losers next t → ((l : Loser) → slice_get losers next ≡ Some l → l.txn ≢ t)
    → (state : TxnState) → txn_at table t ≡ Some (started state) → txn_at table t ≡ Some (as_transaction (flats log) t state)
kept-none log losers next t table are is_next other state e = e
    ∙ ap (λ (b : Bool). Some (cond b (left_open (flats log) t state) (started state))) (sym (none-by log losers next t are is_next other))
