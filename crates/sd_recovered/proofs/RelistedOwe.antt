-- What a table owes whose rows are as a log has them, with all that the log leaves open: for the goals of `relist`.
use Rattle.std.proofs.Common.{◌≡◌, ◌≢◌, inl, inr, ⊎_elim, ℕ, zero, suc, ◌+◌, Bool, true, false, cond, List, [], ◌∷◌, filter, length, map, reverse, Option, Some, is_some, slice_get, sum_by, refl, sym, ap, subst, ◌∙◌, arith}
use Rattle.std.specs.Map.{keys_of, lookup}
use Rattle.std.proofs.lemmas.Bool.{cases_Bool}
use Rattle.std.proofs.lemmas.List.{length-map, length-reverse}
use Rattle.std.proofs.lemmas.List.Sorted.{IsPermutation-reverse, sum_by-IsPermutation}
use Rattle.std.proofs.lemmas.List.Sums.{sum_by-cons}
use Rattle.sd_base.specs.declared.ids.TxnId.{TxnId}
use Rattle.sd_base.specs.Ids.{same_txn, IsBelow}
use Rattle.sd_base.specs.Values.{size}
use Rattle.sd_base.proofs.Orders.{same-txn-is}
use Rattle.sd_base.proofs.SameIds.{eq-same, ne-same}
use Rattle.sd_logrec.specs.View.{Rec}
use Rattle.sd_log.specs.declared.placed.Placed.{Placed}
use Rattle.sd_log.specs.Logs.{flats}
use Rattle.sd_chain.specs.Records.{Each, stack}
use Rattle.sd_chain.specs.Order.{span_of}
use Rattle.sd_chain.specs.Undoing.{Apart, Member}
use Rattle.sd_chain.specs.Checks.{open_in, owed, reserve, reserve_for}
use Rattle.sd_chain.proofs.Members.{apart-kept, apart-open_in, kept-member, member-each, member-kept, open_in-is, sums-agree}
use Rattle.sd_recovered.specs.declared.losers.Loser.{Loser}
use Rattle.sd_recovered.specs.Losers.{AreLosers, IsLoser}
use Rattle.sd_txn.specs.declared.state.OpenRec.{OpenRec}
use Rattle.sd_txn.specs.declared.state.TxnState.{TxnState}
use Rattle.sd_txn.specs.Owing.{bytes_owed, owed_of, records_owed, reserve_of, undo_len}
use Rattle.sd_txn.specs.Transactions.{ids, started, txn_at, Transaction, Transactions}
use Rattle.sd_recovered.specs.Kept.{as_transaction, is_left_open, left_open, open_rec, AreAmong}
use Rattle.sd_recovered.specs.Walks.{AreRising}
use Rattle.sd_recovered.proofs.Relisted.{apart, txns, Who}
use Rattle.sd_recovered.proofs.Walking.{any-member, each_at, member-any, place_of}

-- ---- rising ones are apart

rising-apart : (ts : List TxnId) → AreRising ts → Apart ts
rising-apart [] rising = tt
rising-apart (t ∷ ts) rising = (go ts rising.0, rising-apart ts rising.1)
  where
    go : (us : List TxnId) → Each (IsBelow t) us → Each (λ u. t ≢ u) us
    go [] below = tt
    go (u ∷ us) below = (apart t u below.0, go us below.1)

-- ---- a sum over rows is one over their transactions

key-there : {V : Type 0} (t : TxnId) (x : V) (rows : List (TxnId × V)) → lookup (same_txn t) rows ≡ Some x → Member t (keys_of rows)
key-there t x [] e = absurd (cc)
key-there t x (row ∷ rows) e = ⊎_elim (λ is. inl (same-txn-is t row.0 is)) (λ off. inr (key-there t x rows (rw off at e)))
    (cases_Bool (same_txn t row.0))

sum-rows : (f : Transaction → ℕ) (g : TxnId → ℕ) (rows : List (TxnId × Transaction)) → Apart (keys_of rows)
    → ((t : TxnId) (x : Transaction) → Member t (keys_of rows) → lookup (same_txn t) rows ≡ Some x → f x ≡ g t)
    → sum_by (λ e. f e.1) rows ≡ sum_by g (keys_of rows)
sum-rows f g [] apart same = refl
sum-rows f g (row ∷ rows) apart same =
    let own = eq-same row.0 row.0 refl in
    let first : f row.1 ≡ g row.0 = same row.0 row.1 (inl refl) (rw own refl) in
    sum_by-cons (λ (e : TxnId × Transaction). f e.1) row rows
    ∙ ap (λ (n : ℕ). n + sum_by (λ (e : TxnId × Transaction). f e.1) rows) first
    ∙ ap (λ (n : ℕ). g row.0 + n) (sum-rows f g rows apart.1
    (λ t x there e.
    let ne = ne-same t row.0 (λ is. member-each (λ u. row.0 ≢ u) t (keys_of rows) there apart.0 (sym is)) in
    same t x (inr there) (rw ne e)))
    ∙ sym (sum_by-cons g row.0 (keys_of rows))

-- what is 0 of the others is a sum over those of a test
sum-kept : (test : TxnId → Bool) (f : TxnId → ℕ) (ts : List TxnId)
    → sum_by (λ t. cond (test t) (f t) 0) ts ≡ sum_by f (filter test ts)
sum-kept test f [] = refl
sum-kept test f (t ∷ ts) = ⊎_elim
    (λ is. one is ∙ ap (λ (n : ℕ). f t + n) (sum-kept test f ts) ∙ sym (sum_by-cons f t (filter test ts)) ∙ ap kept (sym is))
    (λ off. none off ∙ sum-kept test f ts ∙ ap kept (sym off)) (cases_Bool (test t))
  where
    kept : Bool → ℕ
    kept b = sum_by f (cond {A = List TxnId} b (t ∷ filter test ts) (filter test ts))

    head : sum_by (λ t. cond (test t) (f t) 0) (t ∷ ts) ≡ cond (test t) (f t) 0 + sum_by (λ t. cond (test t) (f t) 0) ts
    head = sum_by-cons (λ t. cond (test t) (f t) 0) t ts

    one : test t ≡ true → sum_by (λ t. cond (test t) (f t) 0) (t ∷ ts) ≡ f t + sum_by (λ t. cond (test t) (f t) 0) ts
    one is = head ∙ ap (λ (b : Bool). cond b (f t) 0 + sum_by (λ t. cond (test t) (f t) 0) ts) is

    none : test t ≡ false → sum_by (λ t. cond (test t) (f t) 0) (t ∷ ts) ≡ sum_by (λ t. cond (test t) (f t) 0) ts
    none off = head ∙ ap (λ (b : Bool). cond b (f t) 0 + sum_by (λ t. cond (test t) (f t) 0) ts) off
        ∙ (let e : 0 + sum_by (λ t. cond (test t) (f t) 0) ts ≡ sum_by (λ t. cond (test t) (f t) 0) ts = omega arith in e)

-- ---- what a row owes

sum-map : {A B : Type 0} (f : B → ℕ) (g : A → B) (xs : List A) → sum_by f (map g xs) ≡ sum_by (λ a. f (g a)) xs
sum-map f g [] = refl
sum-map f g (x ∷ xs) = sum_by-cons f (g x) (map g xs) ∙ ap (λ (n : ℕ). f (g x) + n) (sum-map f g xs)
    ∙ sym (sum_by-cons (λ a. f (g a)) x xs)

undo-is : (xs : List Rec) → sum_by undo_len (map open_rec (reverse xs)) ≡ sum_by (λ x. 47 + size x.before) xs
undo-is xs = sum-map undo_len open_rec (reverse xs)
    ∙ sum_by-IsPermutation (λ (x : Rec). 47 + size x.before) xs (reverse xs) (IsPermutation-reverse xs)

count-is : (xs : List Rec) → length (map open_rec (reverse xs)) ≡ length xs
count-is xs = length-map (reverse xs) open_rec ∙ length-reverse xs

spans : (log : List Placed) (losers : List Loser) (t : TxnId) → AreLosers log losers → is_left_open (flats log) t ≡ true
    → is_some (span_of t (flats log)) ≡ true
spans log losers t are left =
    let o = open_in-is t (flats log) (any-member t (open_in (flats log)) left) in
    let p = place_of t losers (are.all t o.0 o.1) in
    let is = each_at (IsLoser log) losers p.index p.loser are.each p.there in
    ap (λ (u : TxnId). is_some (span_of u (flats log))) p.named ∙ ap (λ (s : Option (ℕ × ℕ)). is_some s) is.span_is

-- by whether the log leaves it open
row-owes : (log : List Placed) (losers : List Loser) (t : TxnId) (state : TxnState) → AreLosers log losers
    → records_owed (as_transaction (flats log) t state) ≡ cond (is_left_open (flats log) t) (1 + length (stack t (flats log))) 0
row-owes log losers t state are = ⊎_elim
    (λ is. rw is (ap (λ (b : Bool). cond b 1 0 + length (map open_rec (reverse (stack t (flats log))))) (spans log losers t are is)
    ∙ ap (λ (n : ℕ). 1 + n) (count-is (stack t (flats log)))))
    (λ off. rw off refl) (cases_Bool (is_left_open (flats log) t))

row-reserves : (log : List Placed) (losers : List Loser) (t : TxnId) (state : TxnState) → AreLosers log losers
    → bytes_owed (as_transaction (flats log) t state) ≡ cond (is_left_open (flats log) t) (reserve_for (flats log) t) 0
row-reserves log losers t state are = ⊎_elim
    (λ is. rw is (ap (λ (b : Bool). cond b 31 0 + sum_by undo_len (map open_rec (reverse (stack t (flats log))))) (spans log losers t are is)
    ∙ ap (λ (n : ℕ). 31 + n) (undo-is (stack t (flats log)))))
    (λ off. rw off refl) (cases_Bool (is_left_open (flats log) t))

-- ---- the whole table

-- a transaction of the list, and how it stands
record Found (who : List Who) (t : TxnId) : Type 0 where
  pub index : ℕ
  pub one : Who
  pub there : slice_get who index ≡ Some one
  pub named : one.0 ≡ t

found : (t : TxnId) (who : List Who) → Member t (txns who) → Found who t
found t [] m = absurd m
found t (w ∷ ws) m = ⊎_elim
    (λ e. record { index = 0; one = w; there = refl; named = sym e })
    (λ rest. let f = found t ws rest in record { index = suc f.index; one = f.one; there = f.there; named = f.named }) m

-- the sum over such a table, by what a row owes of whom the log leaves open
table-sum : (log : List Placed) (losers : List Loser) (who : List Who) (table : Transactions) (f : Transaction → ℕ) (g : TxnId → ℕ)
    → AreRising (txns who) → ids table ≡ txns who
    → ((k : ℕ) (w : Who) → slice_get who k ≡ Some w → txn_at table w.0 ≡ Some (as_transaction (flats log) w.0 w.1))
    → ((t : TxnId) (state : TxnState) → f (as_transaction (flats log) t state) ≡ cond (is_left_open (flats log) t) (g t) 0)
    → AreAmong (flats log) (txns who) → sum_by (λ e. f e.1) table.unresolved ≡ sum_by g (open_in (flats log))
table-sum log losers who table f g rising order rows each among =
    sum-rows f (λ t. cond (is_left t) (g t) 0) table.unresolved (subst Apart (sym order) (rising-apart (txns who) rising)) row-is
    ∙ ap (sum_by (λ t. cond (is_left t) (g t) 0)) order
    ∙ sum-kept is_left g (txns who)
    ∙ sums-agree g (filter is_left (txns who)) (open_in (flats log)) (apart-kept is_left (txns who) (rising-apart (txns who) rising))
    (apart-open_in (flats log)) (λ t m. any-member t (open_in (flats log)) (kept-member is_left t (txns who) m).1)
    (λ t m. member-kept is_left t (txns who) (among t m) (member-any t (open_in (flats log)) m))
  where
    is_left : TxnId → Bool
    is_left t = is_left_open (flats log) t

    row-is : (t : TxnId) (x : Transaction) → Member t (ids table) → txn_at table t ≡ Some x → f x ≡ cond (is_left t) (g t) 0
    row-is t x m e =
        let w = found t who (subst (Member t) order m) in
        let there = subst (λ (u : TxnId). txn_at table u ≡ Some (as_transaction (flats log) u w.one.1)) w.named (rows w.index w.one w.there) in
        let same : x ≡ as_transaction (flats log) t w.one.1 = (let c = sym e ∙ there in cc) in
        ap f same ∙ each t w.one.1

pub table-owes : (log : List Placed) (losers : List Loser) (who : List Who) (table : Transactions) → AreLosers log losers
    → AreRising (txns who) → ids table ≡ txns who
    → ((k : ℕ) (w : Who) → slice_get who k ≡ Some w → txn_at table w.0 ≡ Some (as_transaction (flats log) w.0 w.1))
    → AreAmong (flats log) (txns who) → owed_of table ≡ owed (flats log)
table-owes log losers who table are rising order rows among =
    table-sum log losers who table records_owed (λ t. 1 + length (stack t (flats log))) rising order rows
    (λ t state. row-owes log losers t state are) among

pub table-reserves : (log : List Placed) (losers : List Loser) (who : List Who) (table : Transactions) → AreLosers log losers
    → AreRising (txns who) → ids table ≡ txns who
    → ((k : ℕ) (w : Who) → slice_get who k ≡ Some w → txn_at table w.0 ≡ Some (as_transaction (flats log) w.0 w.1))
    → AreAmong (flats log) (txns who) → reserve_of table ≡ reserve (flats log)
table-reserves log losers who table are rising order rows among =
    table-sum log losers who table bytes_owed (reserve_for (flats log)) rising order rows
    (λ t state. row-reserves log losers t state are) among
