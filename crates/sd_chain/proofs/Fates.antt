-- What records make of a transaction's fate: for the goals of `fates` in laws.rt, and lent to the crates above.
use Rattle.std.proofs.Common.{◌≡◌, ◌⊎◌, inl, inr, ⊎_elim, ℕ, Bool, true, false, ◌&&◌, ◌||◌, List, [], ◌∷◌, ◌++◌, refl, sym, ap, ◌∙◌, subst}
use Rattle.std.specs.List.{list_any}
use Rattle.std.proofs.lemmas.Bool.{cases_Bool}
use Rattle.std.proofs.lemmas.List.Folds.{list_any-append}
use Rattle.sd_base.specs.declared.ids.TxnId.{TxnId}
use Rattle.sd_base.specs.Ids.{same_txn}
use Rattle.sd_logrec.specs.View.{Rec, Kind, ending, plain}
use Rattle.sd_logrec.specs.View.Kind.{Update, Clr, Commit, End, Plain}
use Rattle.sd_chain.specs.Records.{Each, IsOpen, ends}
use Rattle.sd_chain.specs.Order.{speaks, of_txn, MayFollow}
use Rattle.sd_chain.specs.Fates.{Fate, is_commit, is_end, commits, finishes, fate_by, fate, fate_after}
use Rattle.sd_chain.proofs.Whose.{both, ends-off, neither, none_of, of_none, own_is, own_of, silent_of}
use Rattle.sd_base.proofs.SameIds.{eq-same}

-- ---- tests

or_false : (a : Bool) → (a || false) ≡ a
or_false true = refl
or_false false = refl

or_true : (a : Bool) → (a || true) ≡ true
or_true true = refl
or_true false = refl

and_true : (a : Bool) → (a && true) ≡ a
and_true true = refl
and_true false = refl

-- a Commit or an End
closes : (k : Kind) (b : Bool) → (ends k && b) ≡ ((is_commit k && b) || (is_end k && b))
closes Update b = refl
closes Clr b = refl
closes Commit b = sym (or_false b)
closes End b = refl
closes Plain b = refl

-- behind others the last one alone tells
last : (p : Rec → Bool) (xs : List Rec) (y : Rec) → list_any p xs ≡ false → list_any p (xs ++ y ∷ []) ≡ p y
last p xs y none = list_any-append p xs (y ∷ []) ∙ ap (λ (b : Bool). b || (p y || false)) none ∙ or_false (p y)

-- none of these tells more
none_more : (p : Rec → Bool) (xs ys : List Rec) → Each (λ x. p x ≡ false) ys → list_any p (xs ++ ys) ≡ list_any p xs
none_more p xs ys a = list_any-append p xs ys ∙ ap (λ (b : Bool). list_any p xs || b) (none_of p ys a) ∙ or_false (list_any p xs)

-- ---- a transaction's end

-- an open one has no Commit and no End
pub open-endless : (t : TxnId) (log : List Rec) → IsOpen t log
    → (list_any (commits t) log ≡ false) × (list_any (finishes t) log ≡ false)
open-endless t [] o = (refl, refl)
open-endless t (x ∷ xs) o =
    let n = neither (commits t x) (finishes t x) (sym (closes x.kind (same_txn x.txn t)) ∙ o.0) in
    let ih = open-endless t xs o.1 in
    (rw n.0 ih.0, rw n.1 ih.1)

-- and one without them is open
pub endless-open : (t : TxnId) (log : List Rec) → list_any (commits t) log ≡ false → list_any (finishes t) log ≡ false
    → IsOpen t log
endless-open t [] a b = tt
endless-open t (x ∷ xs) a b =
    let n = neither (commits t x) (list_any (commits t) xs) a in
    let m = neither (finishes t x) (list_any (finishes t) xs) b in
    (closes x.kind (same_txn x.txn t) ∙ (rw (n.0, m.0) refl), endless-open t xs n.1 m.1)

-- the records of others are none of its ends
others_close : (t : TxnId) (x : Rec) → of_txn t x ≡ false → (commits t x ≡ false) × (finishes t x ≡ false)
others_close t x off = neither (commits t x) (finishes t x) (sym (closes x.kind (same_txn x.txn t)) ∙ ends-off t x off)

others_commit : (t : TxnId) (xs : List Rec) → Each (λ x. of_txn t x ≡ false) xs → Each (λ x. commits t x ≡ false) xs
others_commit t [] a = tt
others_commit t (x ∷ xs) a = ((others_close t x a.0).0, others_commit t xs a.1)

others_finish : (t : TxnId) (xs : List Rec) → Each (λ x. of_txn t x ≡ false) xs → Each (λ x. finishes t x ≡ false) xs
others_finish t [] a = tt
others_finish t (x ∷ xs) a = ((others_close t x a.0).1, others_finish t xs a.1)

-- ---- what a fate says of its tests, and they of it

by_same : (a b c a' b' c' : Bool) → a ≡ a' → b ≡ b' → c ≡ c' → fate_by a b c ≡ fate_by a' b' c'
by_same a b c a' b' c' e f g =
    ap (λ (o : Bool). fate_by o b c) e ∙ ap (λ (o : Bool). fate_by a' o c) f ∙ ap (λ (o : Bool). fate_by a' b' o) g

is_unknown : (a b c : Bool) → fate_by a b c ≡ Fate.Unknown → c ≡ false
is_unknown true b c e = absurd (cc)
is_unknown false true c e = absurd (cc)
is_unknown false false true e = absurd (cc)
is_unknown false false false e = refl

is_open : (a b c : Bool) → fate_by a b c ≡ Fate.Open → (a ≡ false) × (b ≡ false) × (c ≡ true)
is_open true b c e = absurd (cc)
is_open false true c e = absurd (cc)
is_open false false true e = (refl, refl, refl)
is_open false false false e = absurd (cc)

is_committed : (a b c : Bool) → fate_by a b c ≡ Fate.Committed → a ≡ true
is_committed true b c e = refl
is_committed false true c e = absurd (cc)
is_committed false false true e = absurd (cc)
is_committed false false false e = absurd (cc)

is_ended : (a b c : Bool) → fate_by a b c ≡ Fate.Ended → (b ≡ true) × (a ≡ false)
is_ended true b c e = absurd (cc)
is_ended false true c e = (refl, refl)
is_ended false false true e = absurd (cc)
is_ended false false false e = absurd (cc)

-- ---- the laws

-- unknown is one without a record
pub unknown-none : (t : TxnId) (log : List Rec) → fate t log ≡ Fate.Unknown → Each (λ x. of_txn t x ≡ false) log
unknown-none t log e =
    of_none (of_txn t) log (is_unknown (list_any (commits t) log) (list_any (finishes t) log) (list_any (of_txn t) log) e)

pub none-unknown : (t : TxnId) (log : List Rec) → Each (λ x. of_txn t x ≡ false) log → fate t log ≡ Fate.Unknown
none-unknown t log a = by_same (list_any (commits t) log) (list_any (finishes t) log) (list_any (of_txn t) log) false false false
    (none_of (commits t) log (others_commit t log a)) (none_of (finishes t) log (others_finish t log a)) (none_of (of_txn t) log a)

-- open is one with a record whose end isn't kept
pub fate-open : (t : TxnId) (log : List Rec) → fate t log ≡ Fate.Open → IsOpen t log × (list_any (of_txn t) log ≡ true)
fate-open t log e =
    let o = is_open (list_any (commits t) log) (list_any (finishes t) log) (list_any (of_txn t) log) e in
    (endless-open t log o.0 o.1, o.2)

pub open-fate : (t : TxnId) (log : List Rec) → IsOpen t log → list_any (of_txn t) log ≡ true → fate t log ≡ Fate.Open
open-fate t log o there = let n = open-endless t log o in
    by_same (list_any (commits t) log) (list_any (finishes t) log) (list_any (of_txn t) log) false false true n.0 n.1 there

-- committed is one with a Commit
pub fate-committed : (t : TxnId) (log : List Rec) → fate t log ≡ Fate.Committed → list_any (commits t) log ≡ true
fate-committed t log e = is_committed (list_any (commits t) log) (list_any (finishes t) log) (list_any (of_txn t) log) e

pub committed-fate : (t : TxnId) (log : List Rec) → list_any (commits t) log ≡ true → fate t log ≡ Fate.Committed
committed-fate t log e = by_same (list_any (commits t) log) (list_any (finishes t) log) (list_any (of_txn t) log) true
    (list_any (finishes t) log) (list_any (of_txn t) log) e refl refl

-- ended is one with an End and without a Commit
pub fate-ended : (t : TxnId) (log : List Rec) → fate t log ≡ Fate.Ended
    → (list_any (finishes t) log ≡ true) × (list_any (commits t) log ≡ false)
fate-ended t log e = is_ended (list_any (commits t) log) (list_any (finishes t) log) (list_any (of_txn t) log) e

pub ended-fate : (t : TxnId) (log : List Rec) → list_any (finishes t) log ≡ true → list_any (commits t) log ≡ false
    → fate t log ≡ Fate.Ended
ended-fate t log e n = by_same (list_any (commits t) log) (list_any (finishes t) log) (list_any (of_txn t) log) false true
    (list_any (of_txn t) log) n e refl

-- one that isn't open is committed or ended
pub closed-fate : (t : TxnId) (log : List Rec) → (IsOpen t log → ⊥) → (fate t log ≡ Fate.Committed) ⊎ (fate t log ≡ Fate.Ended)
closed-fate t log closed = ⊎_elim
    (λ c. inl (committed-fate t log c))
    (λ n. ⊎_elim
    (λ e. inr (ended-fate t log e n))
    (λ m. absurd (closed (endless-open t log n m)))
    (cases_Bool (list_any (finishes t) log)))
    (cases_Bool (list_any (commits t) log))

pub fate-closed : (t : TxnId) (log : List Rec) → (fate t log ≡ Fate.Committed) ⊎ (fate t log ≡ Fate.Ended) → IsOpen t log → ⊥
fate-closed t log (inl c) o = let n = (open-endless t log o).0 in let k = fate-committed t log c in absurd (cc)
fate-closed t log (inr e) o = let n = (open-endless t log o).1 in let k = (fate-ended t log e).0 in absurd (cc)

-- the records of others change nothing
pub fate-others : (t : TxnId) (log tail : List Rec) → Each (λ x. of_txn t x ≡ false) tail → fate t (log ++ tail) ≡ fate t log
fate-others t log tail a = by_same
    (list_any (commits t) (log ++ tail)) (list_any (finishes t) (log ++ tail)) (list_any (of_txn t) (log ++ tail))
    (list_any (commits t) log) (list_any (finishes t) log) (list_any (of_txn t) log)
    (none_more (commits t) log tail (others_commit t tail a)) (none_more (finishes t) log tail (others_finish t tail a))
    (none_more (of_txn t) log tail a)

-- a Commit stays, whatever comes behind it
pub committed-stays : (t : TxnId) (log tail : List Rec) → fate t log ≡ Fate.Committed → fate t (log ++ tail) ≡ Fate.Committed
committed-stays t log tail c = committed-fate t (log ++ tail) (list_any-append (commits t) log tail
    ∙ ap (λ (b : Bool). b || list_any (commits t) tail) (fate-committed t log c))

-- an End does, too, in a log in order
pub ended-stays : (t : TxnId) (log : List Rec) (y : Rec) → (speaks y.kind ≡ true → MayFollow log y) → fate t log ≡ Fate.Ended
    → fate t (log ++ y ∷ []) ≡ Fate.Ended
ended-stays t log y may e = ⊎_elim
    (λ own. absurd (fate-closed t log (inr e) (subst (λ (u : TxnId). IsOpen u log) (own_is t y own)
    (may (both (speaks y.kind) (same_txn y.txn t) own).0).alive)))
    (λ off. fate-others t log (y ∷ []) (off, tt) ∙ e)
    (cases_Bool (of_txn t y))

-- one more record of the transaction itself
pub fate-own : (log : List Rec) (y : Rec) → MayFollow log y → fate y.txn (log ++ y ∷ []) ≡ fate_after y.kind (fate y.txn log)
fate-own log y may = go y.kind refl
  where
    alive : (list_any (commits y.txn) log ≡ false) × (list_any (finishes y.txn) log ≡ false)
    alive = open-endless y.txn log may.alive

    itself : (b : Bool) → (b && same_txn y.txn y.txn) ≡ b
    itself b = ap (λ (o : Bool). b && o) (eq-same y.txn y.txn refl) ∙ and_true b

    there : of_txn y.txn y ≡ true → list_any (of_txn y.txn) (log ++ y ∷ []) ≡ true
    there own = list_any-append (of_txn y.txn) log (y ∷ [])
        ∙ ap (λ (o : Bool). list_any (of_txn y.txn) log || (o || false)) own ∙ or_true (list_any (of_txn y.txn) log)

    by_kind : (k : Kind) → y.kind ≡ k → speaks k ≡ true → fate y.txn (log ++ y ∷ []) ≡ fate_by (is_commit k) (is_end k) true
    by_kind k e s = by_same
        (list_any (commits y.txn) (log ++ y ∷ [])) (list_any (finishes y.txn) (log ++ y ∷ [])) (list_any (of_txn y.txn) (log ++ y ∷ []))
        (is_commit k) (is_end k) true
        (last (commits y.txn) log y alive.0 ∙ itself (is_commit y.kind) ∙ ap is_commit e)
        (last (finishes y.txn) log y alive.1 ∙ itself (is_end y.kind) ∙ ap is_end e)
        (there (own_of y (ap speaks e ∙ s)))

    go : (k : Kind) → y.kind ≡ k → fate y.txn (log ++ y ∷ []) ≡ fate_after k (fate y.txn log)
    go Update e = by_kind Update e refl
    go Clr e = by_kind Clr e refl
    go Commit e = by_kind Commit e refl
    go End e = by_kind End e refl
    go Plain e = fate-others y.txn log (y ∷ []) (silent_of y.txn y (ap speaks e), tt)

-- ---- a small log: the first transaction commits, the second is ended, the third stays open

numbered : ℕ → TxnId
numbered n = record { inst = 1; epoch = 1; seq = n }

small : List Rec
small = plain 1 ∷ change 2 1 ∷ change 3 2 ∷ ending Commit 4 (numbered 1) 2 ∷ change 5 3 ∷ ending End 6 (numbered 2) 3 ∷ []
  where
    change : ℕ → ℕ → Rec
    change lsn n = record (ending Update lsn (numbered n) 0) { cap = 1 }

told : (fate (numbered 1) small ≡ Fate.Committed) × (fate (numbered 2) small ≡ Fate.Ended) × (fate (numbered 3) small ≡ Fate.Open)
    × (fate (numbered 4) small ≡ Fate.Unknown)
unfolding same_txn small numbered
told = (refl, refl, refl, refl)
